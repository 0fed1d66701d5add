use Rattle.std.proofs.Common.{sym}
use Rattle.list_text.specs.Views.{words_left}
use Rattle.list_text.proofs.Entries.{entries-on, entries-none}
use Rattle.list_text.proofs.form.read_entries.Goals as goal

pub returns-in-None : goal.returns-in-None
returns-in-None c = entries-none c.args.made c.args.count c.loop.counter c.loop.links.items (words_left c.loop.left) _ c.loop-test.true (sym c.in-None.ensures) c.loop.invariant

pub loop-preserved : goal.loop-preserved
loop-preserved c =
    rw c.in_ok-push-in-Some.ensures.items
    (entries-on c.args.made c.args.count c.loop.counter c.in-Some.entry c.loop.links.items (words_left c.loop.left) (words_left c.in-Some.after) _ c.loop-test.true (sym c.in-Some.ensures) c.loop.invariant)
