use Rattle.std.proofs.Common.{ℕ, ◌≡◌, ◌≢◌, sym, ◌∙◌}
use Rattle.std.proofs.lemmas.Bool.{false≢true}
use Rattle.map_defs.specs.Edits.{Change}
use Rattle.map_defs.specs.Rows.{links_of}
use Rattle.cell_edit.proofs.Beyond.{none-unless}
use Rattle.beta_edit.proofs.OldEntries.{one-pushed}
use Rattle.beta_edit.proofs.SplitEntries.{behind-alone, behind-both}
use Rattle.beta_edit.proofs.vertex.push_behind.Goals as goal

pub returns-in_default-clause-entries : goal.returns-in_default-clause-entries
returns-in_default-clause-entries g c =
    let L = links_of c.args.links.now.rows in
    let x : ℕ = c.args.dart in
    let is : c.entry-led.result ≡ L 1 x = c.entry-led.ensures ∙ c.requires.row 1 in
    let first : Change = record { dart = x; link = 1; old = c.entry-led.result; new = c.args.new } in
    behind-alone L x c.args.new c.args.changes.now.items c.push_reserved.new.self.items
    (sym is ∙ c.new-2.ensures.zero.0 (none-unless c.new-2.result c.in_default.not-Some))
    (one-pushed L first c.args.changes.now.items c.push_reserved.new.self.items is (rw (c.new.ensures, c.number.ensures.same) at c.push_reserved.ensures.items))

pub returns-clause-entries : goal.returns-clause-entries
returns-clause-entries g c =
    let L = links_of c.args.links.now.rows in
    let x : ℕ = c.args.dart in
    let is : c.entry-led.result ≡ L 1 x = c.entry-led.ensures ∙ c.requires.row 1 in
    let some : L 1 x ≢ 0 = λ none. false≢true (sym (c.in-Some.ensures.zero.1 (is ∙ none))) in
    let first : Change = record { dart = x; link = 1; old = c.entry-led.result; new = c.args.new } in
    let then : Change = record { dart = L 1 x; link = 0; old = x; new = c.args.new } in
    behind-both L x c.args.new c.args.changes.now.items c.push_reserved.new.self.items c.push_reserved-2.new.self.items some
    (one-pushed L first c.args.changes.now.items c.push_reserved.new.self.items is (rw (c.new.ensures, c.number.ensures.same) at c.push_reserved.ensures.items))
    (one-pushed L then c.push_reserved.new.self.items c.push_reserved-2.new.self.items (sym (c.requires.laws.back 1 x some))
    (rw (c.new-3.ensures, c.number-2.ensures.same, c.number-3.ensures.same, c.in-Some.ensures.same, is) at c.push_reserved-2.ensures.items))
