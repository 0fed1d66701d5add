-- The darts of a mesh's sides, and the points at which they lie.
use Rattle.std.proofs.Common.{◌≡◌, ◌⊎◌, ℕ, zero, suc, ◌+◌, ◌-◌, ◌*◌, ◌<◌, ◌≤◌, List, length, get_or, Contains, refl, ap, inl, inr, arith}
use Rattle.std.proofs.lemmas.List.{get_or_default}
use Rattle.map_defs.specs.Kind.{Kind, alpha, beta}
use Rattle.map_defs.specs.Polygon.{per_side}
use Rattle.map_defs.specs.MeshMap.{Side, sides_of, start, finish, LiesAt, first, second}
use Rattle.mesh_laws.specs.Sides.{no_side, side_of}
use Rattle.mesh_laws.proofs.Rings.{is_ring}

-- the side at a place
abbrev pub side_in : List (List ℕ) → ℕ → Side
side_in faces i = side_of (sides_of faces) i

pub side-there : (faces : List (List ℕ)) (i : ℕ) → i < length (sides_of faces) → Contains (sides_of faces) (side_in faces i)
side-there faces i h = (i, h, get_or_default (sides_of faces) i (side_in faces i) no_side h)

pub side-is : (faces : List (List ℕ)) (i : ℕ) (z : Side) → i < length (sides_of faces) → get_or (sides_of faces) i z ≡ side_in faces i
side-is faces i z h = get_or_default (sides_of faces) i z no_side h

number-of : (faces : List (List ℕ)) (i : ℕ) → i < length (sides_of faces) → (side_in faces i).number ≡ i
number-of faces i h = (is_ring faces i h).number

-- a dart of the side at place i
pub data HasSide (k : Kind) (faces : List (List ℕ)) (d i : ℕ) : Type 0 where
  at_start : i < length (sides_of faces) → d ≡ start k (side_in faces i).number → HasSide k faces d i
  at_finish : k ≡ alpha → i < length (sides_of faces) → d ≡ finish (side_in faces i).number → HasSide k faces d i

half : (n : ℕ) → (m : ℕ) × ((n ≡ 2 * m) ⊎ (n ≡ 2 * m + 1))
half zero = (0, inl refl)
half (suc n) = elim (half n).1 [
  | inl e ↦ ((half n).0, inr (omega (arith, e)))
  | inr e ↦ ((half n).0 + 1, inl (omega (arith, e)))
]

-- each dart is one of a side
pub has-side : (k : Kind) (faces : List (List ℕ)) (d : ℕ) → 1 ≤ d → d ≤ per_side k * length (sides_of faces) → (i : ℕ) × HasSide k faces d i
has-side beta faces d low high =
    let h : d - 1 < length (sides_of faces) = omega (arith, low, high) in
    (d - 1, at_start h (omega (arith, low, number-of faces (d - 1) h)))
has-side alpha faces d low high = elim (half (d - 1)).1 [
  | inl e ↦
      let h : (half (d - 1)).0 < length (sides_of faces) = omega (arith, e, low, high) in
      ((half (d - 1)).0, at_start h (omega (arith, e, low, number-of faces (half (d - 1)).0 h)))
  | inr e ↦
      let h : (half (d - 1)).0 < length (sides_of faces) = omega (arith, e, low, high) in
      ((half (d - 1)).0, at_finish refl h (omega (arith, e, low, number-of faces (half (d - 1)).0 h)))
]

-- and lies at a point
pub lies-there : (k : Kind) (faces : List (List ℕ)) (d i : ℕ) → HasSide k faces d i → (v : ℕ) × LiesAt k (sides_of faces) d v
lies-there k faces d i (at_start h e) = ((side_in faces i).from, first (side_in faces i) (side-there faces i h) e refl)
lies-there k faces d i (at_finish kind h e) = ((side_in faces i).to, second (side_in faces i) kind (side-there faces i h) e refl)

-- a dart that lies at a point is one of these
pub lies-within : (k : Kind) (faces : List (List ℕ)) (d v : ℕ) → LiesAt k (sides_of faces) d v → (1 ≤ d) × (d ≤ per_side k * length (sides_of faces))
lies-within k faces d v lies = go k lies
  where
    number : (s : Side) → Contains (sides_of faces) s → s.number < length (sides_of faces)
    number s is =
        let same = ap (λ (t : Side). t.number) is.2 in
        let there = ap (λ (t : Side). t.number) (side-is faces is.0 s is.1) in
        omega (arith, same, there, number-of faces is.0 is.1, is.1)

    go : (k : Kind) → LiesAt k (sides_of faces) d v → (1 ≤ d) × (d ≤ per_side k * length (sides_of faces))
    go alpha (first s there is at) = let n = number s there in (omega (arith, is), omega (arith, is, n))
    go alpha (second s kind there is at) = let n = number s there in (omega (arith, is), omega (arith, is, n))
    go beta (first s there is at) = let n = number s there in (omega (arith, is), omega (arith, is, n))
    go beta (second s kind there is at) = absurd (cc (kind))
