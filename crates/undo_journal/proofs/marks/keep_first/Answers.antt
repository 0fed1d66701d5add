use Rattle.std.proofs.Common.{◌∙◌, refl, arith}
use Rattle.std.specs.BTreeMap.{get_by_text}
use Rattle.undo_journal.proofs.MarkFacts.{cut-none, cut-more, cut-all}
use Rattle.undo_journal.proofs.marks.keep_first.Goals as goal

pub loop-entries-init : goal.loop-entries-init
loop-entries-init c = (cut-none c.args.spared c.args.kept c.args.entries.now.items (get_by_text c.args.numbers.now) c.requires.numbered, refl)

pub loop-entries-preserved : goal.loop-entries-preserved
loop-entries-preserved c = (
  cut-more c.args.spared c.args.kept c.args.entries.now.items c.loop-entries.entries.items c.drop_last.new.entries.items
      (get_by_text c.args.numbers.now) (get_by_text c.loop-entries.numbers) (get_by_text c.drop_last.new.numbers)
      c.loop-entries.invariant.0 (omega (arith, c.loop-entries.entries.ok.0)) c.drop_last.ensures.entries c.drop_last.ensures.numbered c.drop_last.ensures.spared,
  c.drop_last.ensures.capacity ∙ c.loop-entries.invariant.1,
)

pub returns-clause-entries : goal.returns-clause-entries
returns-clause-entries c =
    cut-all c.args.spared c.args.kept c.args.entries.now.items c.loop-entries.entries.items (get_by_text c.args.numbers.now) (get_by_text c.loop-entries.numbers)
    c.loop-entries.invariant.0 (omega (arith, c.loop-entries.entries.ok.0))

pub returns-clause-numbered : goal.returns-clause-numbered
returns-clause-numbered c = c.loop-entries.invariant.0.numbered

pub returns-clause-spared : goal.returns-clause-spared
returns-clause-spared c = c.loop-entries.invariant.0.stays

pub returns-clause-capacity : goal.returns-clause-capacity
returns-clause-capacity c = c.loop-entries.invariant.1
