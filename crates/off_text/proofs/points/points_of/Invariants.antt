use Rattle.std.specs.Prelude.{◌≡◌, Some, take}
use Rattle.std.specs.List.{AllZip}
use Rattle.off_text.specs.MapViews.{placed}
use Rattle.off_text.proofs.points.points_of.Given as goal

abbrev pub invariant-loop-vertex : goal.invariant-loop-vertex
invariant-loop-vertex l = AllZip (λ d point. placed l.places d ≡ Some point) (take l.vertex-index l.vertices) l.points.items
