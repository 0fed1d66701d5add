use Rattle.std.proofs.Common.{◌≡◌, ℕ, ◌<◌, ◌≤◌, ◌==◌, List, [], length, get_or, drop}
use Rattle.std.specs.Prelude.{All}
use Rattle.std.specs.List.{list_any}
use Rattle.map_defs.specs.MeshMap.{repeats}
use Rattle.mesh_build.proofs.repeat.has_repeat.Given as goal

abbrev pub invariant-loop-point : goal.invariant-loop-point
invariant-loop-point l = record {
  seen : List ℕ;
  rest : repeats seen (drop l.point-index l.corners) ≡ repeats [] l.corners;
  marked : (v : ℕ) → v < length l.marks.items → (get_or l.marks.items v 0 == l.stamp) ≡ list_any (λ u. u == v) seen;
  stamped : All (λ m. m ≤ l.stamp) l.marks.items;
  long : length l.marks.items ≡ length l.fn.marks.items;
}
