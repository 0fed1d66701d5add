use Rattle.std.proofs.Common.{◌≡◌, ℕ, ◌<◌, true, false, ◌&&◌, ◌==◌, length, Option, Some, None, is_some, refl, sym, ap, ◌∙◌, arith}
use Rattle.std.specs.HashMap as hash
use Rattle.std.proofs.lemmas.List.{get_or_read, get_or-map, length-map, map_push}
use Rattle.map_defs.specs.MeshMap.{Side}
use Rattle.mesh_build.specs.Sides.{side_view, views}
use Rattle.mesh_laws.specs.Sides.{no_side, side_of, partner_of, kind_of}
use Rattle.mesh_build.specs.Books.{pair_eq}
use Rattle.mesh_build.proofs.BookFacts.{last_of, met_by, stands, at-edge, fault-none, fault-three, fault-turned, added-alone, added-sewn, now-of, apart-of, fails-none, on_ok}
use Rattle.mesh_build.proofs.book.Book.add.Goals as goal

pub index-requires : goal.index-requires
index-requires c =
    let s : Side = side_view c.args.side in
    let old : last_of c.args.self.now.last s ≡ Some c.in-Some.other = ap (hash.get pair_eq c.args.self.now.last) (sym c.points.ensures) ∙ (sym c.in_ok-insert.ensures.old ∙ c.in-Some.is) in
    omega (arith, c.requires.kept.long, stands _ _ _ _ c.requires.kept s c.in-Some.other old)

pub returns-then-is_some-clause-fault : goal.returns-then-is_some-clause-fault
returns-then-is_some-clause-fault c =
    let s : Side = side_view c.args.side in
    let old : last_of c.args.self.now.last s ≡ Some c.in-Some.other = ap (hash.get pair_eq c.args.self.now.last) (sym c.points.ensures) ∙ (sym c.in_ok-insert.ensures.old ∙ c.in-Some.is) in
    let within : c.in-Some.other < length c.args.self.now.partners.items = omega (arith, c.requires.kept.long, stands _ _ _ _ c.requires.kept s c.in-Some.other old) in
    let item : partner_of c.args.self.now.partners.items c.in-Some.other ≡ c.index.result.now = sym (get_or_read _ _ _ within c.index.ensures None) in
    fault-three c.args.oriented (kind_of c.args.oriented) c.args.face s c.args.self.now.partners.items c.in-Some.other (met_by s (views c.args.self.now.sides.items)) (at-edge _ _ _ _ c.requires.kept s _ old)
    (ap (λ (o : Option ℕ). is_some o) item ∙ (sym c.is_some.ensures ∙ c.if-is_some.true))

pub index-requires-in-Some : goal.index-requires-in-Some
index-requires-in-Some c =
    let s : Side = side_view c.args.side in
    let old : last_of c.args.self.now.last s ≡ Some c.in-Some.other = ap (hash.get pair_eq c.args.self.now.last) (sym c.points.ensures) ∙ (sym c.in_ok-insert.ensures.old ∙ c.in-Some.is) in
    omega (arith, length-map c.args.self.now.sides.items side_view, stands _ _ _ _ c.requires.kept s c.in-Some.other old)

pub returns-then-turns-clause-fault : goal.returns-then-turns-clause-fault
returns-then-turns-clause-fault c =
    let s : Side = side_view c.args.side in
    let old : last_of c.args.self.now.last s ≡ Some c.in-Some.other = ap (hash.get pair_eq c.args.self.now.last) (sym c.points.ensures) ∙ (sym c.in_ok-insert.ensures.old ∙ c.in-Some.is) in
    let within : c.in-Some.other < length c.args.self.now.partners.items = omega (arith, c.requires.kept.long, stands _ _ _ _ c.requires.kept s c.in-Some.other old) in
    let item : partner_of c.args.self.now.partners.items c.in-Some.other ≡ c.index.result.now = sym (get_or_read _ _ _ within c.index.ensures None) in
    let none : is_some (partner_of c.args.self.now.partners.items c.in-Some.other) ≡ false = ap (λ (o : Option ℕ). is_some o) item ∙ (sym c.is_some.ensures ∙ c.if-is_some.false) in
    let inside : c.in-Some.other < length c.args.self.now.sides.items = omega (arith, length-map c.args.self.now.sides.items side_view, stands _ _ _ _ c.requires.kept s c.in-Some.other old) in
    let its : side_of (views c.args.self.now.sides.items) c.in-Some.other ≡ side_view c.index-in-Some.result.now =
    get_or-map side_view c.args.self.now.sides.items c.in-Some.other c.index-in-Some.result.now no_side inside ∙ ap side_view (sym c.index-in-Some.ensures) in
    let test : c.args.oriented && ((side_of (views c.args.self.now.sides.items) c.in-Some.other).from == s.from) ≡ true =
    ap (λ (x : Side). c.args.oriented && (x.from == s.from)) its ∙ (sym c.turns.ensures ∙ c.if-turns.true) in
    fault-turned _ _ _ _ c.requires.kept s c.args.face c.in-Some.other true old none test

pub index_mut-requires : goal.index_mut-requires
index_mut-requires c =
    let s : Side = side_view c.args.side in
    let old : last_of c.args.self.now.last s ≡ Some c.in-Some.other = ap (hash.get pair_eq c.args.self.now.last) (sym c.points.ensures) ∙ (sym c.in_ok-insert.ensures.old ∙ c.in-Some.is) in
    omega (arith, c.requires.kept.long, stands _ _ _ _ c.requires.kept s c.in-Some.other old)

pub returns-in-None-clause-ok : goal.returns-in-None-clause-ok
returns-in-None-clause-ok c =
    let s : Side = side_view c.args.side in
    let old : last_of c.args.self.now.last s ≡ None = ap (hash.get pair_eq c.args.self.now.last) (sym c.points.ensures) ∙ (sym c.in_ok-insert.ensures.old ∙ c.in-None.is) in
    let now : last_of c.insert.new.self s ≡ Some s.number = now-of c.insert.new.self c.points.result _ s.number c.points.ensures c.in_ok-insert.ensures.updates.1 in
    let apart = apart-of c.args.self.now.last c.insert.new.self c.points.result _ c.points.ensures c.in_ok-insert.ensures.updates.2 in
    let number : s.number ≡ length (views c.args.self.now.sides.items) = omega (arith, c.requires.number, length-map c.args.self.now.sides.items side_view) in
    let kept = added-alone _ _ _ _ c.requires.kept s c.insert.new.self number old now apart in
    on_ok c.put.result c.put.ensures.sides c.put.ensures.partners (λ sides partners. rw (c.put.ensures.last, partners, sides, map_push side_view c.args.self.now.sides.items c.args.side) kept)

pub returns-in-None-clause-fault : goal.returns-in-None-clause-fault
returns-in-None-clause-fault c =
    let s : Side = side_view c.args.side in
    let old : last_of c.args.self.now.last s ≡ None = ap (hash.get pair_eq c.args.self.now.last) (sym c.points.ensures) ∙ (sym c.in_ok-insert.ensures.old ∙ c.in-None.is) in
    fails-none c.put.result _ c.put.ensures.err
    (fault-none c.args.oriented (kind_of c.args.oriented) c.args.face s c.args.self.now.partners.items None (met_by s (views c.args.self.now.sides.items)) (at-edge _ _ _ _ c.requires.kept s None old) refl)

pub returns-else-turns-clause-ok : goal.returns-else-turns-clause-ok
returns-else-turns-clause-ok c =
    let s : Side = side_view c.args.side in
    let old : last_of c.args.self.now.last s ≡ Some c.in-Some.other = ap (hash.get pair_eq c.args.self.now.last) (sym c.points.ensures) ∙ (sym c.in_ok-insert.ensures.old ∙ c.in-Some.is) in
    let within : c.in-Some.other < length c.args.self.now.partners.items = omega (arith, c.requires.kept.long, stands _ _ _ _ c.requires.kept s c.in-Some.other old) in
    let item : partner_of c.args.self.now.partners.items c.in-Some.other ≡ c.index.result.now = sym (get_or_read _ _ _ within c.index.ensures None) in
    let none : is_some (partner_of c.args.self.now.partners.items c.in-Some.other) ≡ false = ap (λ (o : Option ℕ). is_some o) item ∙ (sym c.is_some.ensures ∙ c.if-is_some.false) in
    let inside : c.in-Some.other < length c.args.self.now.sides.items = omega (arith, length-map c.args.self.now.sides.items side_view, stands _ _ _ _ c.requires.kept s c.in-Some.other old) in
    let its : side_of (views c.args.self.now.sides.items) c.in-Some.other ≡ side_view c.index-in-Some.result.now =
    get_or-map side_view c.args.self.now.sides.items c.in-Some.other c.index-in-Some.result.now no_side inside ∙ ap side_view (sym c.index-in-Some.ensures) in
    let test : c.args.oriented && ((side_of (views c.args.self.now.sides.items) c.in-Some.other).from == s.from) ≡ false =
    ap (λ (x : Side). c.args.oriented && (x.from == s.from)) its ∙ (sym c.turns.ensures ∙ c.if-turns.false) in
    let now : last_of c.insert.new.self s ≡ Some s.number = now-of c.insert.new.self c.points.result _ s.number c.points.ensures c.in_ok-insert.ensures.updates.1 in
    let apart = apart-of c.args.self.now.last c.insert.new.self c.points.result _ c.points.ensures c.in_ok-insert.ensures.updates.2 in
    let number : s.number ≡ length (views c.args.self.now.sides.items) = omega (arith, c.requires.number, length-map c.args.self.now.sides.items side_view) in
    let kept = added-sewn _ _ _ _ c.requires.kept s c.insert.new.self c.in-Some.other number old none test now apart in
    on_ok c.put-in-Some.result c.put-in-Some.ensures.sides c.put-in-Some.ensures.partners
    (λ sides partners. rw (c.put-in-Some.ensures.last, partners, sides, map_push side_view c.args.self.now.sides.items c.args.side) kept)

pub returns-else-turns-clause-fault : goal.returns-else-turns-clause-fault
returns-else-turns-clause-fault c =
    let s : Side = side_view c.args.side in
    let old : last_of c.args.self.now.last s ≡ Some c.in-Some.other = ap (hash.get pair_eq c.args.self.now.last) (sym c.points.ensures) ∙ (sym c.in_ok-insert.ensures.old ∙ c.in-Some.is) in
    let within : c.in-Some.other < length c.args.self.now.partners.items = omega (arith, c.requires.kept.long, stands _ _ _ _ c.requires.kept s c.in-Some.other old) in
    let item : partner_of c.args.self.now.partners.items c.in-Some.other ≡ c.index.result.now = sym (get_or_read _ _ _ within c.index.ensures None) in
    let none : is_some (partner_of c.args.self.now.partners.items c.in-Some.other) ≡ false = ap (λ (o : Option ℕ). is_some o) item ∙ (sym c.is_some.ensures ∙ c.if-is_some.false) in
    let inside : c.in-Some.other < length c.args.self.now.sides.items = omega (arith, length-map c.args.self.now.sides.items side_view, stands _ _ _ _ c.requires.kept s c.in-Some.other old) in
    let its : side_of (views c.args.self.now.sides.items) c.in-Some.other ≡ side_view c.index-in-Some.result.now =
    get_or-map side_view c.args.self.now.sides.items c.in-Some.other c.index-in-Some.result.now no_side inside ∙ ap side_view (sym c.index-in-Some.ensures) in
    let test : c.args.oriented && ((side_of (views c.args.self.now.sides.items) c.in-Some.other).from == s.from) ≡ false =
    ap (λ (x : Side). c.args.oriented && (x.from == s.from)) its ∙ (sym c.turns.ensures ∙ c.if-turns.false) in
    fails-none c.put-in-Some.result _ c.put-in-Some.ensures.err (fault-turned _ _ _ _ c.requires.kept s c.args.face c.in-Some.other false old none test)
