-- Sides lead between points of the mesh.
use Rattle.std.proofs.Common.{◌≡◌, ℕ, suc, ◌+◌, ◌-◌, ◌/◌, ◌%◌, ◌<◌, ◌≤◌, ◌==◌, Bool, true, false, cond, List, [], ◌∷◌, length, get_or, sym, subst, arith}
use Rattle.std.specs.Prelude.{All}
use Rattle.std.proofs.lemmas.Bool.Decides.{nat_tests}
use Rattle.std.proofs.lemmas.List.FromFn.{get_or-map-range_with_len}
use Rattle.std.proofs.lemmas.List.Elements.{All-nil, All-append}
use Rattle.map_defs.specs.Polygon.{next_side}
use Rattle.map_defs.specs.MeshMap.{Side, side_at, face_sides, sides_from}
use Rattle.mesh_laws.specs.Sides.{no_side, side_of, kind_of}
use Rattle.mesh_laws.specs.SideLinks.{dart_count, point_of}
use Rattle.mesh_laws.proofs.FaceSides.{length-face_sides}

pub record IsBetween (m : ℕ) (s : Side) : Type 0 where
  pub from : s.from < m
  pub to : s.to < m

next-within : (n s : ℕ) → s < n → next_side n s < n
next-within n s h = grind (arith, nat_tests)

face-between : (m base : ℕ) (corners : List ℕ) → All (λ (v : ℕ). v < m) corners → All (IsBetween m) (face_sides base corners)
face-between m base corners all j z h =
    let n : ℕ = length corners in
    let lt : j < n = omega (arith, length-face_sides base corners) in
    let at : get_or (face_sides base corners) j z ≡ side_at base corners j = get_or-map-range_with_len (side_at base corners) 0 n j j z lt (omega arith) in
    subst (IsBetween m) (sym at) (record { from = all j 0 lt; to = all (next_side n j) 0 (next-within n j lt) })

pub sides-between : (m base : ℕ) (faces : List (List ℕ)) → All (λ (corners : List ℕ). All (λ (v : ℕ). v < m) corners) faces → All (IsBetween m) (sides_from base faces)
sides-between m base [] all = All-nil (IsBetween m)
sides-between m base (corners ∷ faces) all =
    All-append (IsBetween m) (face_sides base corners) (sides_from (base + length corners) faces) (face-between m base corners (all 0 [] (omega arith)))
    (sides-between m (base + length corners) faces (λ k z h. all (suc k) z (omega arith)))

-- each dart lies at a point of the mesh
pub point-within : (o : Bool) (m : ℕ) (sides : List Side) → All (IsBetween m) sides → (d : ℕ) → 1 ≤ d → d ≤ dart_count (kind_of o) sides → point_of (kind_of o) sides d < m
point-within true m sides all d low high = (all (d - 1) no_side (omega arith)).from
point-within false m sides all d low high = at (d % 2 == 1)
  where
    at : (b : Bool) → cond b (side_of sides ((d - 1) / 2)).from (side_of sides ((d - 1) / 2)).to < m
    at true = (all ((d - 1) / 2) no_side (omega arith)).from
    at false = (all ((d - 1) / 2) no_side (omega arith)).to
