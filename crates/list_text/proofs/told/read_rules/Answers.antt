use Rattle.std.proofs.Common.{[], refl, sym, ◌∙◌, codes, arith}
use Rattle.row_laws.proofs.LinesRead.{section-counted, rule-adds}
use Rattle.machine_defs.specs.ListingForm.{rule_taken}
use Rattle.list_text.specs.Views.{cursor_view}
use Rattle.list_text.proofs.Sections.{section-on, section-done}
use Rattle.list_text.proofs.told.read_rules.Goals as goal

pub loop-rules-preserved : goal.loop-rules-preserved
loop-rules-preserved c =
    section-on rule_taken (codes "rule ") refl c.loop-rules.rules.items c.push_rule.new.rules.items c.loop-rules.left.line c.loop-rules.left.rest.now (cursor_view c.in_ok-left.left) _
    (sym c.starts_with.ensures.value ∙ c.loop-rules-test.true) c.in_ok-left.ensures.taken c.loop-rules.invariant

pub returns-clause-counted : goal.returns-clause-counted
returns-clause-counted c =
    let read = section-done rule_taken (codes "rule ") refl c.loop-rules.rules.items c.loop-rules.left.line c.loop-rules.left.rest.now _ (sym c.starts_with.ensures.value ∙ c.loop-rules-test.false) c.loop-rules.invariant in
    let all = section-counted (codes "rule ") rule_taken [] c.args.cursor.line (cursor_view c.args.cursor).pieces (c.loop-rules.rules.items, cursor_view c.loop-rules.left) rule-adds read in
    omega (arith, all)
