-- What is left of the calls that fail tells what all of them tell.
use Rattle.std.proofs.Common.{◌≡◌, drop}
use Rattle.map_io.specs.Failing.{taken_at}
use Rattle.map_io.proofs.memory.taken.Given as goal

abbrev pub invariant-loop-told : goal.invariant-loop-told
invariant-loop-told l = taken_at (drop l.told-index l.fail) l.call ≡ taken_at l.fail l.call
