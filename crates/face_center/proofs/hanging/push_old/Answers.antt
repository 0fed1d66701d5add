use Rattle.std.proofs.Common.{ℕ, ◌≡◌, ◌≢◌, ◌++◌, ◌∷◌, [], List, sym, ◌∙◌, arith}
use Rattle.std.proofs.lemmas.Bool.{false≢true}
use Rattle.map_defs.specs.Edits.{Change}
use Rattle.map_defs.specs.Rows.{links_of}
use Rattle.cell_edit.specs.Writing.{Appends, IsLinkEntry}
use Rattle.cell_edit.proofs.Appending.{link-pushed}
use Rattle.face_center.specs.Hanging.{before}
use Rattle.face_center.proofs.HungEntries.{old-alone, old-both}
use Rattle.face_center.proofs.KindFacts.{other-kind}
use Rattle.face_center.proofs.hanging.push_old.Goals as goal

pub returns-then-is_generalized-clause-entries : goal.returns-then-is_generalized-clause-entries
returns-then-is_generalized-clause-entries g c = λ star tip begin end.
    let rows = c.args.links.now.rows in
    let start : List Change = c.args.changes.now.items in
    let ahead : ℕ = before g.K.Kind.kind c.args.hanging (links_of rows) c.args.dart in
    let some : star c.args.dart ≢ 0 = λ none. omega (arith, c.number.ensures.some, c.number.ensures.same) in
    let old : c.led_before.result ≡ links_of rows 1 ahead = c.led_before.ensures in
    let led : c.push_reserved.new.self.items ≡ start ++ record { dart = ahead; link = 1; old = links_of rows 1 ahead; new = star c.args.dart } ∷ [] =
    rw (c.new.ensures, old, c.before-2.ensures, c.number.ensures.same, begin) at c.push_reserved.ensures.items in
    old-alone g.K.Kind.kind c.args.hanging (links_of rows) star tip c.args.dart start c.push_reserved.new.self.items
    (c.is_generalized.ensures.0 c.if-is_generalized.true) (rw led (link-pushed (links_of rows) ahead 1 (star c.args.dart) start some))

pub returns-clause-entries : goal.returns-clause-entries
returns-clause-entries g c = λ star tip begin end.
    let rows = c.args.links.now.rows in
    let start : List Change = c.args.changes.now.items in
    let ahead : ℕ = before g.K.Kind.kind c.args.hanging (links_of rows) c.args.dart in
    let some : star c.args.dart ≢ 0 = λ none. omega (arith, c.number.ensures.some, c.number.ensures.same) in
    let old : c.led_before.result ≡ links_of rows 1 ahead = c.led_before.ensures in
    let led : c.push_reserved.new.self.items ≡ start ++ record { dart = ahead; link = 1; old = links_of rows 1 ahead; new = star c.args.dart } ∷ [] =
    rw (c.new.ensures, old, c.before-2.ensures, c.number.ensures.same, begin) at c.push_reserved.ensures.items in
    let first : Appends (links_of rows) (IsLinkEntry ahead 1 (star c.args.dart)) start c.push_reserved.new.self.items = rw led (link-pushed (links_of rows) ahead 1 (star c.args.dart) start some) in
    let there : tip c.args.dart ≢ 0 = λ none. omega (arith, c.number-2.ensures.some, c.number-2.ensures.same) in
    let back : c.entry.result ≡ links_of rows 0 c.args.dart = c.entry.ensures ∙ c.requires.row 0 in
    let then : Appends (links_of rows) (IsLinkEntry c.args.dart 0 (tip c.args.dart)) c.push_reserved.new.self.items c.push_reserved-2.new.self.items =
    rw (c.push_reserved-2.ensures.items, c.new-2.ensures, back, c.number-2.ensures.same, end) (link-pushed (links_of rows) c.args.dart 0 (tip c.args.dart) c.push_reserved.new.self.items there) in
    old-both g.K.Kind.kind c.args.hanging (links_of rows) star tip c.args.dart start c.push_reserved.new.self.items c.push_reserved-2.new.self.items
    (other-kind g.K.Kind.kind (λ is. false≢true (sym c.if-is_generalized.false ∙ c.is_generalized.ensures.1 is))) first then
