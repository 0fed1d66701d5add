-- The bytes so far are those that the file gave, and no more than the limit. Each turn takes one more.
use Rattle.std.proofs.Common.{◌+◌, ◌-◌, ◌≤◌, length}
use Rattle.std.specs.Io.KnownBytes.{Consumes}
use Rattle.map_io.proofs.file_shelf.read_whole.Given as goal

abbrev pub invariant-loop-bytes : goal.invariant-loop-bytes
invariant-loop-bytes g l = record {
  most : length l.bytes.items ≤ l.limit;
  read : Consumes (g.F.Source.left l.initial.file) (g.F.Source.left l.file) l.bytes.items;
  well : g.F.Source.went_well l.initial.file → g.F.Source.went_well l.file;
}

abbrev pub decreases-loop-bytes : goal.decreases-loop-bytes
decreases-loop-bytes g l = l.limit + 1 - length l.bytes.items
