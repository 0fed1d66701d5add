use Rattle.std.proofs.Common.{◌≡◌, ◌+◌, ◌-◌, ◌++◌, length, map}
use Rattle.std.specs.List.{range_with_len}
use Rattle.map_defs.specs.MeshMap.{side_at, face_sides, sides_fault}
use Rattle.mesh_build.specs.Sides.{sides_view}
use Rattle.mesh_laws.specs.Sides.{kind_of}
use Rattle.mesh_build.specs.Books.{KeepsBook}
use Rattle.mesh_build.proofs.sew.add_face.Given as goal

abbrev pub invariant-loop-place : goal.invariant-loop-place
invariant-loop-place l = record {
  kept : KeepsBook l.oriented l.book;
  number : length l.book.sides.items ≡ length l.fn.book.sides.items + l.place;
  sides : sides_view l.book.sides ≡ sides_view l.fn.book.sides ++ map (side_at (length l.fn.book.sides.items) l.corners) (range_with_len 0 l.place);
  fault : sides_fault (kind_of l.oriented) l.face (sides_view l.book.sides) (map (side_at (length l.fn.book.sides.items) l.corners) (range_with_len l.place (length l.corners - l.place)))
      ≡ sides_fault (kind_of l.oriented) l.face (sides_view l.fn.book.sides) (face_sides (length l.fn.book.sides.items) l.corners);
}
