use Rattle.std.proofs.Common.{◌≡◌, ◌≢◌, ℕ, true, false, refl, sym, ap, ◌∙◌}
use Rattle.std.proofs.lemmas.Bool.{false≢true}
use Rattle.std.proofs.lemmas.Result.{on_ok_weaker}
use Rattle.map_defs.specs.Rows.{links_of}
use Rattle.sewing.specs.Triples.{Triple}
use Rattle.sewing.proofs.PairWalks.{stepped-linked, linked-bad, stepped-free, uneven-bad}
use Rattle.sewing.proofs.pairing.cross.Goals as goal

-- a link that is not free leads to a dart
there : (x l : ℕ) → x ≡ l → (l ≡ 0 → true ≡ false) → x ≢ 0
there x l is some none = false≢true (sym (some (sym is ∙ none)))

pub returns-in-Some-Some-clause-stepped : goal.returns-in-Some-Some-clause-stepped
returns-in-Some-Some-clause-stepped g c =
    let at_x = rw (ap (λ (q : Triple). q.x) c.triple.view_is) at c.in-Some-Some.ensures.linked in
    let at_y = rw (c.inverse.ensures, ap (λ (q : Triple). q.y) c.triple.view_is) at c.in-Some-Some.ensures'.linked in
    let at_t = rw (ap (λ (q : Triple). q.t) c.triple.view_is) at c.inverse-in-Some-Some.ensures in
    on_ok_weaker c.add.result
    (stepped-linked g.K.Kind.kind (links_of c.args.links.now.rows) c.args.link c.args.triple (record { x = c.in-Some-Some.x; y = c.in-Some-Some.y; t = c.inverse-in-Some-Some.result })
    c.args.book.now c.add.new.self at_x at_y at_t
    (there c.in-Some-Some.x (links_of c.args.links.now.rows c.args.link c.triple.inside.x) c.in-Some-Some.ensures.linked c.in-Some-Some.ensures.free.1)
    (there c.in-Some-Some.y (links_of c.args.links.now.rows c.inverse.result c.triple.inside.y) c.in-Some-Some.ensures'.linked c.in-Some-Some.ensures'.free.1)
    c.requires.found c.requires.twofold)
    c.add.ensures.added

pub returns-in-Some-Some-clause-unpaired : goal.returns-in-Some-Some-clause-unpaired
returns-in-Some-Some-clause-unpaired g c = λ is.
    let at_x = rw (ap (λ (q : Triple). q.x) c.triple.view_is) at c.in-Some-Some.ensures.linked in
    let at_y = rw (c.inverse.ensures, ap (λ (q : Triple). q.y) c.triple.view_is) at c.in-Some-Some.ensures'.linked in
    let at_t = rw (ap (λ (q : Triple). q.t) c.triple.view_is) at c.inverse-in-Some-Some.ensures in
    linked-bad g.K.Kind.kind (links_of c.args.links.now.rows) c.args.link c.args.triple (record { x = c.in-Some-Some.x; y = c.in-Some-Some.y; t = c.inverse-in-Some-Some.result })
    c.args.book.now at_x at_y at_t
    (there c.in-Some-Some.x (links_of c.args.links.now.rows c.args.link c.triple.inside.x) c.in-Some-Some.ensures.linked c.in-Some-Some.ensures.free.1)
    (there c.in-Some-Some.y (links_of c.args.links.now.rows c.inverse.result c.triple.inside.y) c.in-Some-Some.ensures'.linked c.in-Some-Some.ensures'.free.1)
    c.requires.found c.requires.twofold (c.add.ensures.unpaired is)

pub returns-in-None-None-clause-stepped : goal.returns-in-None-None-clause-stepped
returns-in-None-None-clause-stepped g c =
    let at_x = rw (ap (λ (q : Triple). q.x) c.triple.view_is) at (c.link.ensures.free.0 (rw c.in-None-None.is-0 refl)) in
    let at_y = rw (c.inverse.ensures, ap (λ (q : Triple). q.y) c.triple.view_is) at (c.in-None-None.ensures.free.0 refl) in
    stepped-free g.K.Kind.kind (links_of c.args.links.now.rows) c.args.link c.args.triple c.args.book.now at_x at_y c.requires.twofold

pub returns-in_default-clause-unpaired : goal.returns-in_default-clause-unpaired
returns-in_default-clause-unpaired g c = λ _.
    let some_x = rw (ap (λ (q : Triple). q.x) c.triple.view_is) at c.in_default.ensures.free.1 in
    let at_y = rw (c.inverse.ensures, ap (λ (q : Triple). q.y) c.triple.view_is) at (c.in_default.ensures'.free.0 refl) in
    uneven-bad g.K.Kind.kind (links_of c.args.links.now.rows) c.args.link c.args.triple c.args.book.now c.requires.found (λ even. false≢true (sym (some_x (even.1 at_y))))

pub returns-in_default-2-clause-unpaired : goal.returns-in_default-2-clause-unpaired
returns-in_default-2-clause-unpaired g c = λ _.
    let at_x = rw (ap (λ (q : Triple). q.x) c.triple.view_is) at (c.link.ensures.free.0 (rw c.in_default.is-0 refl)) in
    let some_y = rw (c.inverse.ensures, ap (λ (q : Triple). q.y) c.triple.view_is) at c.in_default.ensures.free.1 in
    uneven-bad g.K.Kind.kind (links_of c.args.links.now.rows) c.args.link c.args.triple c.args.book.now c.requires.found (λ even. false≢true (sym (some_y (even.0 at_x))))
