use Rattle.std.proofs.Common.{ℕ, ◌↔◌}
use Rattle.map_defs.specs.Rows.{links_of}
use Rattle.sewing.specs.Triples.{Lists}
use Rattle.cell_edit.proofs.PathSides.{IsSeedBelow}
use Rattle.cell_edit.proofs.path.face_seeds.Given as goal

abbrev pub invariant-loop-place : goal.invariant-loop-place
invariant-loop-place g l = (x y t : ℕ) → Lists l.seeds.items x y t ↔ IsSeedBelow g.K.Kind.kind (links_of l.links.rows) l.path l.place x y t
