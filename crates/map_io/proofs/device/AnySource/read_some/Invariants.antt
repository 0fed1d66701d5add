-- A read that was interrupted gave nothing.
use Rattle.std.proofs.Common.{◌≡◌, length}
use Rattle.std.specs.Io.KnownBytes.{Keeps}
use Rattle.map_io.proofs.device.AnySource.read_some.Given as goal

abbrev pub invariant-loop : goal.invariant-loop
invariant-loop g l = (length l.chunk ≡ length l.initial.chunk) × Keeps (g.F.Read.remaining l.initial.self) (g.F.Read.remaining l.self)
