use Rattle.std.proofs.Common.{◌≤◌, take, Ok}
use Rattle.machine_defs.specs.LogText.{steps_text}
use Rattle.text_lines.specs.Writing.{WritesText}
use Rattle.script_text.proofs.log.put_steps.Given as goal

abbrev pub invariant-loop-index : goal.invariant-loop-index
invariant-loop-index g l =
    WritesText (g.S.Sink.written l.fn.out) (g.S.Sink.written l.out) (Ok tt) (steps_text 1 (take l.index l.steps))
    × (g.S.Sink.faults l.fn.out ≤ g.S.Sink.faults l.out)
