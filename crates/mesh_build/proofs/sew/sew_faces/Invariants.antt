use Rattle.std.proofs.Common.{◌≡◌, ◌≤◌, ◌++◌, [], length, drop}
use Rattle.std.specs.Prelude.{All}
use Rattle.map_defs.specs.MeshMap.{sides_from, sides_of, faces_fault}
use Rattle.mesh_build.specs.Sides.{sides_view}
use Rattle.mesh_laws.specs.Sides.{kind_of}
use Rattle.mesh_build.specs.Books.{KeepsBook}
use Rattle.mesh_build.proofs.sew.sew_faces.Given as goal

abbrev pub invariant-loop-face : goal.invariant-loop-face
invariant-loop-face l = record {
  kept : KeepsBook l.oriented l.book;
  sides : sides_view l.book.sides ++ sides_from (length l.book.sides.items) (drop l.face l.mesh.faces) ≡ sides_of l.mesh.faces;
  fault : faces_fault (kind_of l.oriented) l.face (sides_view l.book.sides) (drop l.face l.mesh.faces)
      ≡ faces_fault (kind_of l.oriented) 0 [] l.mesh.faces;
  long : length l.marks.items ≡ length l.mesh.points.items;
  fresh : All (λ m. m ≤ l.face) l.marks.items;
}
