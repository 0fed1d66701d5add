-- The corners of a list of pairs, collected one after another.
use Rattle.std.proofs.Common.{ℕ, ◌≡◌, ◌≢◌, ◌+◌, ◌-◌, ◌<◌, ◌≤◌, ◌⊎◌, ◌↔◌, List, [], ◌∷◌, ◌++◌, length, take, slice_index, get_or, Contains, refl, sym, ap, ◌∙◌, subst, inl, inr, arith}
use Rattle.std.proofs.lemmas.Bool.{cases_lt}
use Rattle.std.proofs.lemmas.List.{take_all, take_more, length-append, length-take, get_or-take, get_or_default, get_or_append_left, get_or-append_right}
use Rattle.std.proofs.lemmas.List.Elements.{Contains-get_or, Contains-append_left, Contains-push, Contains-push_cases}
use Rattle.std.specs.List.Sorted.{IsStrictlyIncreasing}
use Rattle.sewing.specs.Triples.{Triple, Lists, IsAscending, ComesBefore}
use Rattle.cell_edit.specs.Writing.{IsCornerOf}

-- a triple before a place of an ascending list comes before the triple there
pub before-place : (qs : List Triple) → IsAscending qs → (p : ℕ) (q u : Triple) → p < length qs → q ≡ get_or qs p q → Contains (take p qs) u → ComesBefore u q
before-place qs up p q u low at has =
    let i : ℕ = has.0 in
    let i_low : i < p = omega (arith, has.1, length-take p qs) in
    let first : get_or qs i u ≡ u = sym (get_or-take p qs i u i_low) ∙ has.2 in
    let second : get_or qs p u ≡ q = get_or_default qs p u q low ∙ sym at in
    subst (λ (v : Triple). ComesBefore v q) first (subst (λ (v : Triple). ComesBefore (get_or qs i u) v) second (up i p u i_low low))

-- these are the corners of the pairs, ascending
pub record AreCorners (pairs : List Triple) (xs : List ℕ) : Type 0 where
  pub members : (x : ℕ) → Contains xs x ↔ IsCornerOf pairs x
  pub rising : IsStrictlyIncreasing xs

pub rising-push : (xs : List ℕ) (x : ℕ) → IsStrictlyIncreasing xs → ((u : ℕ) → Contains xs u → u < x) → IsStrictlyIncreasing (xs ++ x ∷ [])
rising-push xs x up above k h = cases (cases_lt (k + 1) (length xs))
  where
    long : length (xs ++ x ∷ []) ≡ length xs + 1
    long = length-append xs (x ∷ [])

    cases : (k + 1 < length xs) ⊎ (length xs ≤ k + 1) → slice_index (xs ++ x ∷ []) k < slice_index (xs ++ x ∷ []) (k + 1)
    cases (inl low) =
        let first : slice_index (xs ++ x ∷ []) k ≡ slice_index xs k = get_or_append_left xs (x ∷ []) 0 k (omega arith) in
        let second : slice_index (xs ++ x ∷ []) (k + 1) ≡ slice_index xs (k + 1) = get_or_append_left xs (x ∷ []) 0 (k + 1) low in
        let less = up k low in
        omega (arith, less)
    cases (inr high) =
        let first : slice_index (xs ++ x ∷ []) k ≡ slice_index xs k = get_or_append_left xs (x ∷ []) 0 k (omega (arith, long)) in
        let zero_at : k + 1 - length xs ≡ 0 = omega (arith, long) in
        let second : slice_index (xs ++ x ∷ []) (k + 1) ≡ x = get_or-append_right xs (x ∷ []) (length xs) (k + 1) 0 refl high ∙ ap (slice_index (x ∷ [])) zero_at in
        let less : slice_index xs k < x = above (slice_index xs k) (Contains-get_or xs k 0 (omega (arith, long))) in
        omega (arith, less)

pub corners-none : (qs : List Triple) → AreCorners (take 0 qs) []
corners-none qs = record { members = λ x. ((λ has. absurd (omega (arith, has.1))), λ c. absurd (omega (arith, c.1.1))); rising = λ k h. absurd (omega arith) }

module _ (qs : List Triple) (up : IsAscending qs) (p : ℕ) (q : Triple) (xs : List ℕ) (low : p < length qs) (at : q ≡ get_or qs p q) (has : AreCorners (take p qs) xs) where
  more : take (p + 1) qs ≡ take p qs ++ q ∷ []
  more = take_more qs p q low ∙ ap (λ (e : Triple). take p qs ++ e ∷ []) (sym at)

  -- a corner of the pairs before stays one, and the last pair adds at most its own
  stays : (x : ℕ) → IsCornerOf (take p qs) x → IsCornerOf (take (p + 1) qs) x
  stays x (z, old) = (z, subst (λ (us : List Triple). Lists us x z 0) (sym more) (Contains-append_left (take p qs) (q ∷ []) _ old))

  added : (x : ℕ) → IsCornerOf (take (p + 1) qs) x → IsCornerOf (take p qs) x ⊎ ((q.t ≡ 0) × (q.x ≡ x))
  added x (z, new) = which (Contains-push_cases (take p qs) q (record { x = x; y = z; t = 0 }) (subst (λ (us : List Triple). Lists us x z 0) more new))
    where
      which : Contains (take p qs) (record { x = x; y = z; t = 0 }) ⊎ (q ≡ record { x = x; y = z; t = 0 }) → IsCornerOf (take p qs) x ⊎ ((q.t ≡ 0) × (q.x ≡ x))
      which (inl old) = inl (z, old)
      which (inr e) = inr (ap (λ (r : Triple). r.t) e, ap (λ (r : Triple). r.x) e)

  pub corners-skip : q.t ≢ 0 → AreCorners (take (p + 1) qs) xs
  corners-skip other = record {
    members = λ x. ((λ h. stays x ((has.members x).0 h)), λ c. (has.members x).1 (old x (added x c)));
    rising = has.rising;
  }
    where
      old : (x : ℕ) → IsCornerOf (take p qs) x ⊎ ((q.t ≡ 0) × (q.x ≡ x)) → IsCornerOf (take p qs) x
      old x (inl c) = c
      old x (inr e) = absurd (other e.0)

  pub corners-push : q.t ≡ 0 → AreCorners (take (p + 1) qs) (xs ++ q.x ∷ [])
  corners-push zero_at = record {
    members = λ x. ((λ h. to x (Contains-push_cases xs q.x x h)), λ c. from x (added x c));
    rising = rising-push xs q.x has.rising (λ u h. below u ((has.members u).0 h));
  }
    where
      own : Lists (take (p + 1) qs) q.x q.y 0
      own = subst (λ s. Lists (take (p + 1) qs) q.x q.y s) zero_at (subst (λ (us : List Triple). Contains us q) (sym more) (Contains-push (take p qs) q))

      to : (x : ℕ) → Contains xs x ⊎ (q.x ≡ x) → IsCornerOf (take (p + 1) qs) x
      to x (inl h) = stays x ((has.members x).0 h)
      to x (inr e) = subst (IsCornerOf (take (p + 1) qs)) e (q.y, own)

      from : (x : ℕ) → IsCornerOf (take p qs) x ⊎ ((q.t ≡ 0) × (q.x ≡ x)) → Contains (xs ++ q.x ∷ []) x
      from x (inl c) = Contains-append_left xs (q.x ∷ []) x ((has.members x).1 c)
      from x (inr e) = subst (Contains (xs ++ q.x ∷ [])) e.1 (Contains-push xs q.x)

      below : (u : ℕ) → IsCornerOf (take p qs) u → u < q.x
      below u (z, h) = less (before-place qs up p q (record { x = u; y = z; t = 0 }) low at h)
        where
          less : ComesBefore (record { x = u; y = z; t = 0 }) q → u < q.x
          less (inl l) = l
          less (inr l) = omega (arith, l.1)

pub corners-all : (qs : List Triple) (p : ℕ) (xs : List ℕ) → length qs ≤ p → AreCorners (take p qs) xs → AreCorners qs xs
corners-all qs p xs past has = subst (λ (us : List Triple). AreCorners us xs) (take_all p qs past) has
