use Rattle.off_text.proofs.Putting.{ArePlaced}
use Rattle.off_text.proofs.faces.place_cells.Given as goal

abbrev pub invariant-loop-place : goal.invariant-loop-place
invariant-loop-place l = ArePlaced l.made l.cells l.place l.places.items
