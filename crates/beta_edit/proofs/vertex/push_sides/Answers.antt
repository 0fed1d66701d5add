use Rattle.std.proofs.Common.{ℕ, ◌≡◌, ◌≢◌, ◌+◌, refl, sym, ◌∙◌, arith}
use Rattle.std.proofs.lemmas.Bool.{false≢true}
use Rattle.map_defs.specs.Edits.{Change}
use Rattle.map_defs.specs.Rows.{links_of}
use Rattle.cell_edit.specs.Stars.{star_of}
use Rattle.cell_edit.proofs.Beyond.{none-unless}
use Rattle.beta_edit.proofs.OldEntries.{one-pushed}
use Rattle.beta_edit.proofs.SplitEntries.{sides-skip, sides-push, sides-all}
use Rattle.beta_edit.proofs.vertex.push_sides.Goals as goal

pub loop-link-preserved-in_default : goal.loop-link-preserved-in_default
loop-link-preserved-in_default g c =
    let is : c.entry.result ≡ links_of c.args.links.now.rows c.loop-link.link c.args.dart = c.entry.ensures ∙ c.requires.row c.loop-link.link in (
      sides-skip (links_of c.args.links.now.rows) c.args.dart (star_of c.args.stars.now) c.loop-link.link c.args.changes.now.items c.loop-link.changes.items
          (sym is ∙ c.new.ensures.zero.0 (none-unless c.new.result c.in_default.not-Some)) c.loop-link.invariant.0,
      c.loop-link.invariant.1,
      omega (arith, c.loop-link.invariant.2),
    )

pub loop-link-preserved : goal.loop-link-preserved
loop-link-preserved g c =
    let L = links_of c.args.links.now.rows in
    let star = star_of c.args.stars.now in
    let at : ℕ = c.loop-link.link in
    let is : c.entry.result ≡ L at c.args.dart = c.entry.ensures ∙ c.requires.row at in
    let other : c.in-Some.other ≡ L at c.args.dart = c.in-Some.ensures.same ∙ is in
    let some : L at c.args.dart ≢ 0 = λ none. false≢true (sym (c.in-Some.ensures.zero.1 (is ∙ none))) in
    let change : Change = record { dart = c.args.dart; link = at; old = L at c.args.dart; new = star (L at c.args.dart) } in (
      sides-push L c.args.dart star at c.args.changes.now.items c.loop-link.changes.items c.push_reserved.new.self.items c.loop-link.auto.link some c.loop-link.invariant.0
          (one-pushed L change c.loop-link.changes.items c.push_reserved.new.self.items refl
          (rw (c.new-in-loop-link.ensures, c.number.ensures.same, c.number-in-loop-link.ensures.same, c.star-new.ensures.star, other) at c.push_reserved.ensures.items)),
      c.push_reserved.ensures.capacity ∙ c.loop-link.invariant.1,
      omega (arith, c.push_reserved.ensures.len, c.loop-link.invariant.2),
    )

pub returns-clause-entries : goal.returns-clause-entries
returns-clause-entries g c =
    sides-all (links_of c.args.links.now.rows) c.args.dart (star_of c.args.stars.now) c.loop-link.link (g.row.DIM + 1) c.args.changes.now.items c.loop-link.changes.items
    (omega (arith, c.dimension-link-end.ensures.dimension, c.dimension-link-end.ensures.low)) c.loop-link.invariant.0
