-- The changes around the new dart of one corner, its links and its row, and the corners one after another.
use Rattle.std.proofs.Common.{ℕ, zero, suc, ◌≡◌, ◌≢◌, ◌+◌, ◌<◌, ◌≤◌, ◌↔◌, List, [], ◌∷◌, ◌++◌, length, take, slice_index, slice_set, get_or, replicate, Contains, refl, sym, ap, ◌∙◌, subst, inl, inr, arith}
use Rattle.std.specs.List.Sorted.{IsStrictlyIncreasing}
use Rattle.std.proofs.lemmas.Bool.{cases_lt}
use Rattle.std.proofs.lemmas.List.{take_more, get_or_default, get_or_past, get_or-replicate, get_or-take, get_or-set_same, get_or-set_other, length-set, length-take, length-replicate}
use Rattle.map_defs.specs.Links.{Links}
use Rattle.map_defs.specs.Edits.{Change}
use Rattle.sewing.specs.Triples.{Triple, Lists, IsAscending, ComesBefore}
use Rattle.cell_edit.specs.Writing.{Appends, IsCornerOf}
use Rattle.cell_edit.proofs.Appending.{appends-then}
use Rattle.cell_edit.proofs.CornerList.{AreCorners, before-place, corners-push}
use Rattle.cell_edit.proofs.Listed.{listed-apart}
use Rattle.cell_edit.proofs.StarNumbers.{rises}
use Rattle.beta_edit.specs.Entries.{IsOneEntry}
use Rattle.beta_edit.specs.Cutting.{cut_link, IsAroundEntry}
use Rattle.beta_edit.proofs.OldEntries.{IsWayPlace, before, after}

module _ (L : Links) (x z : ℕ) where
  -- ---- both changes of one corner, and where they stand
  pub around-pushed : (s : ℕ) (a b c : List Change) → Appends L (IsOneEntry (L 0 x) 1 s) a b → Appends L (IsOneEntry (L 1 z) 0 s) b c → Appends L (IsAroundEntry L s x z) a c
  around-pushed s a b c first then = appends-then L (IsOneEntry (L 0 x) 1 s) (IsOneEntry (L 1 z) 0 s) a b c (λ d t y v e f. omega (arith, e.1, f.1)) first then

  pub around-place : (s d t y : ℕ) → L 1 z ≢ 0 → IsAroundEntry L s x z d t y → IsWayPlace (L 0 x) (L 1 z) d t
  around-place s d t y some (inl e) = before e.0 (omega (arith, e.1))
  around-place s d t y some (inr e) = after e.0 some e.1

  -- ---- the links of the new dart
  module _ (star : ℕ → ℕ) where
    pub cut-along : (t : ℕ) → 3 ≤ t → cut_link L star x z t ≡ star (L t z)
    cut-along zero l = absurd (omega arith)
    cut-along (suc zero) l = absurd (omega arith)
    cut-along (suc (suc zero)) l = absurd (omega arith)
    cut-along (suc (suc (suc t))) l = refl

    -- what is asked of the first three of them, and what of the others
    pub cut-told : (link : ℕ → ℕ) → link 0 ≡ L 0 x → link 1 ≡ L 1 z → link 2 ≡ star (L 1 z) → ((t : ℕ) → 3 ≤ t → link t ≡ star (L t z)) → (t : ℕ) → link t ≡ cut_link L star x z t
    cut-told link back on across along zero = back
    cut-told link back on across along (suc zero) = on
    cut-told link back on across along (suc (suc zero)) = across
    cut-told link back on across along (suc (suc (suc t))) = along (suc (suc (suc t))) (omega arith)

-- ---- the row of a new dart
-- its first three links, where all others are free
pub three-set : (n a b c : ℕ) (row : List ℕ) → 3 ≤ n → row ≡ slice_set (slice_set (slice_set (replicate n 0) 0 a) 1 b) 2 c
    → (slice_index row 0 ≡ a) × (slice_index row 1 ≡ b) × (slice_index row 2 ≡ c) × ((t : ℕ) → 3 ≤ t → slice_index row t ≡ 0)
three-set n a b c row wide is = (
  ap (λ r. slice_index r 0) is ∙ get_or-set_other two 2 0 c 0 (λ e. omega arith) ∙ get_or-set_other one 1 0 b 0 (λ e. omega arith)
      ∙ get_or-set_same (replicate n 0) 0 a 0 (omega (arith, length-replicate {A = ℕ} n 0)),
  ap (λ r. slice_index r 1) is ∙ get_or-set_other two 2 1 c 0 (λ e. omega arith) ∙ get_or-set_same one 1 b 0 (omega (arith, long_one)),
  ap (λ r. slice_index r 2) is ∙ get_or-set_same two 2 c 0 (omega (arith, length-set one 1 b, long_one)),
  λ t high. ap (λ r. slice_index r t) is ∙ get_or-set_other two 2 t c 0 (λ e. omega arith) ∙ get_or-set_other one 1 t b 0 (λ e. omega arith)
      ∙ get_or-set_other (replicate n 0) 0 t a 0 (λ e. omega arith) ∙ zero_at t,
)
  where
    one : List ℕ
    one = slice_set (replicate n 0) 0 a

    two : List ℕ
    two = slice_set one 1 b

    long_one : length one ≡ n
    long_one = length-set (replicate n 0) 0 a ∙ length-replicate {A = ℕ} n 0

    zero_at : (t : ℕ) → slice_index (replicate n 0) t ≡ 0
    zero_at t = elim (cases_lt t n) [
      | inl low ↦ get_or-replicate n t 0 0 low
      | inr past ↦ get_or_past (replicate n 0) t 0 (omega (arith, length-replicate {A = ℕ} n 0))
    ]

-- ---- the links from 3 upwards of the row of a new dart, one after another
-- up to link i they are the new darts of those at the links of another row, and the others are free
pub record IsSetTo (star : ℕ → ℕ) (from old row : List ℕ) (n i : ℕ) : Type 0 where
  pub low : (t : ℕ) → t < 3 → slice_index row t ≡ slice_index old t
  pub done : (t : ℕ) → 3 ≤ t → t < i → slice_index row t ≡ star (slice_index from t)
  pub rest : (t : ℕ) → 3 ≤ t → i ≤ t → slice_index row t ≡ 0
  pub long : length row ≡ n

-- ---- the corners in the order of the pairs are the keys in their order
module _ (keys : List ℕ) (pairs : List Triple) (rising : IsStrictlyIncreasing keys) (up : IsAscending pairs) (corners : (x : ℕ) → Contains keys x ↔ IsCornerOf pairs x)
    (place i : ℕ) (q : Triple) (low : i < length pairs) (at : q ≡ get_or pairs i q) (corner : q.t ≡ 0) (done : AreCorners (take i pairs) (take place keys)) where
  listed : Lists pairs q.x q.y 0
  listed = subst (λ s. Lists pairs q.x q.y s) corner (i, low, sym at)

  key : Contains keys q.x
  key = (corners q.x).1 (q.y, listed)

  -- q tells of no corner of the pairs before it
  new : IsCornerOf (take i pairs) q.x → ⊥
  new (z, has) = apart (before-place pairs up i q (record { x = q.x; y = z; t = 0 }) low at has)
    where
      apart : ComesBefore (record { x = q.x; y = z; t = 0 }) q → ⊥
      apart (inl less) = omega arith
      apart (inr (same, less)) = omega (arith, corner)

  -- so its place is not before this
  not_done : key.0 < place → ⊥
  not_done less = new ((done.members q.x).0 (key.0, omega (arith, key.1, length-take place keys), get_or-take place keys key.0 q.x less ∙ key.2))

  pub corner-low : place < length keys
  corner-low = elim (cases_lt key.0 place) [
    | inl less ↦ absurd (not_done less)
    | inr past ↦ omega (arith, key.1)
  ]

  abbrev next : ℕ
  next = slice_index keys place

  next_at : next ≡ get_or keys place next
  next_at = sym (get_or_default keys place next 0 corner-low)

  next_key : Contains keys next
  next_key = (place, corner-low, sym next_at)

  next_corner : IsCornerOf pairs next
  next_corner = (corners next).0 next_key

  -- the pair that tells of the next key does not come before q, and q not before it
  pub corner-next : slice_index keys place ≡ q.x
  corner-next = told next_corner
    where
      not_after : q.x < next → ⊥
      not_after less = elim (cases_lt place key.0) [
        | inl over ↦ (
            let h : next < slice_index keys key.0 = rises keys rising place key.0 over key.1 in
            let there : slice_index keys key.0 ≡ q.x = get_or_default keys key.0 0 q.x key.1 ∙ key.2 in
            omega arith)
        | inr under ↦ elim (cases_lt key.0 place) [
          | inl under_place ↦ not_done under_place
          | inr same ↦ (
              let e : place ≡ key.0 = omega arith in
              let there : slice_index keys key.0 ≡ q.x = get_or_default keys key.0 0 q.x key.1 ∙ key.2 in
              let h : next ≡ q.x = ap (slice_index keys) e ∙ there in
              omega arith)
        ]
      ]

      told : IsCornerOf pairs next → next ≡ q.x
      told (z, (j, j_low, is)) = elim (cases_lt j i) [
        | inl less ↦ absurd (listed-apart keys place next next rising corner-low next_at ((done.members next).1 (z, (j, omega (arith, length-take i pairs), get_or-take i pairs j v less ∙ is))) refl)
        | inr past ↦ elim (cases_lt i j) [
          | inl more ↦ absurd (not_before (subst (λ u. ComesBefore u v) first (subst (λ u. ComesBefore (get_or pairs i v) u) is (up i j v more j_low))))
          | inr same ↦ (
              let e : j ≡ i = omega arith in
              sym (ap (λ (u : Triple). u.x) (sym first ∙ ap (λ p. get_or pairs p v) (sym e) ∙ is)))
        ]
      ]
        where
          v : Triple
          v = record { x = next; y = z; t = 0 }

          first : get_or pairs i v ≡ q
          first = get_or_default pairs i v q low ∙ sym at

          not_before : ComesBefore q v → ⊥
          not_before (inl less) = not_after less
          not_before (inr less) = omega (arith, less.1)

  pub corner-done : AreCorners (take (i + 1) pairs) (take (place + 1) keys)
  corner-done = subst (AreCorners (take (i + 1) pairs)) (sym grown) (corners-push pairs up i q (take place keys) low at done corner)
    where
      grown : take (place + 1) keys ≡ take place keys ++ q.x ∷ []
      grown = take_more keys place next corner-low ∙ ap (λ u. take place keys ++ u ∷ []) (sym next_at ∙ corner-next)
