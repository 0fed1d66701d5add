-- A flush appends nothing, also one that was interrupted.
use Rattle.std.specs.Io.KnownBytes.{Keeps}
use Rattle.map_io.proofs.device.AnyTarget.hand_over.Given as goal

abbrev pub invariant-loop : goal.invariant-loop
invariant-loop g l = Keeps (g.W.Write.contents l.initial.self) (g.W.Write.contents l.self)
