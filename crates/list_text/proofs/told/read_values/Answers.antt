use Rattle.std.proofs.Common.{[], refl, sym, ◌∙◌, codes, arith}
use Rattle.row_laws.proofs.LinesRead.{section-counted, value-adds}
use Rattle.machine_defs.specs.ListingForm.{value_taken}
use Rattle.list_text.specs.Views.{cursor_view}
use Rattle.list_text.proofs.Sections.{section-on, section-done}
use Rattle.list_text.proofs.told.read_values.Goals as goal

pub loop-values-preserved : goal.loop-values-preserved
loop-values-preserved c =
    section-on value_taken (codes "val ") refl c.loop-values.values.items c.push_value.new.values.items c.loop-values.left.line c.loop-values.left.rest.now (cursor_view c.in_ok-left.left) _
    (sym c.starts_with.ensures.value ∙ c.loop-values-test.true) c.in_ok-left.ensures.taken c.loop-values.invariant

pub returns-clause-counted : goal.returns-clause-counted
returns-clause-counted c =
    let read = section-done value_taken (codes "val ") refl c.loop-values.values.items c.loop-values.left.line c.loop-values.left.rest.now _ (sym c.starts_with.ensures.value ∙ c.loop-values-test.false) c.loop-values.invariant in
    let all = section-counted (codes "val ") value_taken [] c.args.cursor.line (cursor_view c.args.cursor).pieces (c.loop-values.values.items, cursor_view c.loop-values.left) value-adds read in
    omega (arith, all)
