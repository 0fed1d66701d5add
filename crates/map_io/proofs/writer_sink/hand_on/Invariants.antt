-- Each turn hands on some bytes, and what was handed on is in the writer.
use Rattle.std.proofs.Common.{◌-◌, ◌≤◌, length, take}
use Rattle.std.specs.Io.KnownBytes.{Appends}
use Rattle.map_io.proofs.writer_sink.hand_on.Given as goal

abbrev pub invariant-loop-taken : goal.invariant-loop-taken
invariant-loop-taken g l = (l.taken ≤ length l.text) × Appends (g.W.Target.contents l.initial.writer) (g.W.Target.contents l.writer) (take l.taken l.text)

abbrev pub decreases-loop-taken : goal.decreases-loop-taken
decreases-loop-taken g l = length l.text - l.taken
