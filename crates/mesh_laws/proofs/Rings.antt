-- The sides of faces stand in circles.
use Rattle.std.proofs.Common.{◌≡◌, ℕ, ◌+◌, ◌-◌, ◌<◌, ◌≤◌, List, [], ◌∷◌, ◌++◌, length, sym, ap, subst, ◌∙◌, ◌⊎◌, inl, inr, arith}
use Rattle.std.proofs.lemmas.Bool.{cases_lt}
use Rattle.std.proofs.lemmas.Bool.Decides.{nat_tests}
use Rattle.std.proofs.lemmas.List.{get_or_append_left, get_or-append-add, length-append}
use Rattle.std.proofs.lemmas.List.FromFn.{get_or-map-range_with_len}
use Rattle.map_defs.specs.Polygon.{next_side, previous_side}
use Rattle.map_defs.specs.MeshMap.{Side, side_at, face_sides, sides_from, sides_of}
use Rattle.mesh_laws.specs.Sides.{no_side, side_of, IsRing}
use Rattle.mesh_laws.proofs.FaceSides.{length-face_sides}

next-within : (n s : ℕ) → s < n → next_side n s < n
next-within n s h = grind (arith, nat_tests)

previous-within : (n s : ℕ) → s < n → previous_side n s < n
previous-within n s h = grind (arith, nat_tests)

next-previous : (n s : ℕ) → s < n → next_side n (previous_side n s) ≡ s
next-previous n s h = grind (arith, nat_tests)

previous-next : (n s : ℕ) → s < n → previous_side n (next_side n s) ≡ s
previous-next n s h = grind (arith, nat_tests)

-- Side j of these, which are numbered on from base, stands between two of them.
record RingAt (base : ℕ) (xs : List Side) (j : ℕ) : Type 0 where
  number : (side_of xs j).number ≡ base + j
  after : ℕ
  within : after < length xs
  next : (side_of xs j).next ≡ base + after
  on : (side_of xs after).previous ≡ base + j
  meets : (side_of xs after).from ≡ (side_of xs j).to
  before : ℕ
  inside : before < length xs
  previous : (side_of xs j).previous ≡ base + before
  back : (side_of xs before).next ≡ base + j

face-ring : (base : ℕ) (corners : List ℕ) (j : ℕ) → j < length (face_sides base corners) → RingAt base (face_sides base corners) j
face-ring base corners j h =
    let n : ℕ = length corners in
    let lt : j < n = omega (arith, length-face_sides base corners) in
    let at : (i : ℕ) → i < n → side_of (face_sides base corners) i ≡ side_at base corners i = λ i low. get_or-map-range_with_len (side_at base corners) 0 n i i no_side low (omega arith) in
    let later = next-within n j lt in
    let earlier = previous-within n j lt in
    record {
      number = ap (λ (s : Side). s.number) (at j lt);
      after = next_side n j;
      within = omega (arith, length-face_sides base corners, later);
      next = ap (λ (s : Side). s.next) (at j lt);
      on = ap (λ (s : Side). s.previous) (at (next_side n j) later) ∙ ap (λ (i : ℕ). base + i) (previous-next n j lt);
      meets = ap (λ (s : Side). s.from) (at (next_side n j) later) ∙ sym (ap (λ (s : Side). s.to) (at j lt));
      before = previous_side n j;
      inside = omega (arith, length-face_sides base corners, earlier);
      previous = ap (λ (s : Side). s.previous) (at j lt);
      back = ap (λ (s : Side). s.next) (at (previous_side n j) earlier) ∙ ap (λ (i : ℕ). base + i) (next-previous n j lt);
    }

ring-left : (base : ℕ) (xs ys : List Side) (j : ℕ) → j < length xs → RingAt base xs j → RingAt base (xs ++ ys) j
ring-left base xs ys j h r =
    let at : (i : ℕ) → i < length xs → side_of (xs ++ ys) i ≡ side_of xs i = λ i low. get_or_append_left xs ys no_side i low in
    record {
      number = ap (λ (s : Side). s.number) (at j h) ∙ r.number;
      after = r.after;
      within = omega (arith, r.within, length-append xs ys);
      next = ap (λ (s : Side). s.next) (at j h) ∙ r.next;
      on = ap (λ (s : Side). s.previous) (at r.after r.within) ∙ r.on;
      meets = ap (λ (s : Side). s.from) (at r.after r.within) ∙ (r.meets ∙ sym (ap (λ (s : Side). s.to) (at j h)));
      before = r.before;
      inside = omega (arith, r.inside, length-append xs ys);
      previous = ap (λ (s : Side). s.previous) (at j h) ∙ r.previous;
      back = ap (λ (s : Side). s.next) (at r.before r.inside) ∙ r.back;
    }

ring-right : (base : ℕ) (xs ys : List Side) (j : ℕ) → RingAt (base + length xs) ys j → RingAt base (xs ++ ys) (length xs + j)
ring-right base xs ys j r =
    let at : (i : ℕ) → side_of (xs ++ ys) (length xs + i) ≡ side_of ys i = λ i. get_or-append-add xs ys i no_side in
    record {
      number = ap (λ (s : Side). s.number) (at j) ∙ (r.number ∙ omega arith);
      after = length xs + r.after;
      within = omega (arith, r.within, length-append xs ys);
      next = ap (λ (s : Side). s.next) (at j) ∙ (r.next ∙ omega arith);
      on = ap (λ (s : Side). s.previous) (at r.after) ∙ (r.on ∙ omega arith);
      meets = ap (λ (s : Side). s.from) (at r.after) ∙ (r.meets ∙ sym (ap (λ (s : Side). s.to) (at j)));
      before = length xs + r.before;
      inside = omega (arith, r.inside, length-append xs ys);
      previous = ap (λ (s : Side). s.previous) (at j) ∙ (r.previous ∙ omega arith);
      back = ap (λ (s : Side). s.next) (at r.before) ∙ (r.back ∙ omega arith);
    }

sides-ring : (base : ℕ) (faces : List (List ℕ)) (j : ℕ) → j < length (sides_from base faces) → RingAt base (sides_from base faces) j
sides-ring base [] j h = absurd (omega arith)
sides-ring base (corners ∷ faces) j h = at (cases_lt j (length xs)) (sides-ring (base + length corners) faces)
  where
    xs : List Side
    xs = face_sides base corners

    ys : List Side
    ys = sides_from (base + length corners) faces

    at : (j < length xs) ⊎ (length xs ≤ j) → ((i : ℕ) → i < length ys → RingAt (base + length corners) ys i) → RingAt base (xs ++ ys) j
    at (inl lt) more = ring-left base xs ys j lt (face-ring base corners j lt)
    at (inr le) more =
        let rest : RingAt (base + length corners) ys (j - length xs) = more (j - length xs) (omega (arith, length-append xs ys)) in
        let moved : RingAt (base + length xs) ys (j - length xs) = subst (λ (n : ℕ). RingAt (base + n) ys (j - length xs)) (sym (length-face_sides base corners)) rest in
        subst (RingAt base (xs ++ ys)) (omega arith) (ring-right base xs ys (j - length xs) moved)

-- each side of a mesh stands between two sides
pub is_ring : (faces : List (List ℕ)) (s : ℕ) → s < length (sides_of faces) → IsRing (sides_of faces) s
is_ring faces s h =
    let r = sides-ring 0 faces s h in
    let sides : List Side = sides_of faces in
    let next : (side_of sides s).next ≡ r.after = r.next ∙ omega arith in
    let previous : (side_of sides s).previous ≡ r.before = r.previous ∙ omega arith in
    record {
      number = r.number ∙ omega arith;
      next = omega (arith, r.within);
      previous = omega (arith, r.inside);
      on = ap (λ (i : ℕ). (side_of sides i).previous) next ∙ (r.on ∙ omega arith);
      back = ap (λ (i : ℕ). (side_of sides i).next) previous ∙ (r.back ∙ omega arith);
      meets = ap (λ (i : ℕ). (side_of sides i).from) next ∙ r.meets;
    }
