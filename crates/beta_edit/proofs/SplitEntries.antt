-- The changes of one dart of an edge that gets a vertex, and the links of its new dart.
use Rattle.std.proofs.Common.{ℕ, zero, suc, ◌≡◌, ◌≢◌, ◌+◌, ◌<◌, ◌≤◌, ◌⊎◌, List, [], ◌∷◌, length, refl, sym, ap, ◌∙◌, subst, inl, inr, arith}
use Rattle.std.specs.Prelude.{slice_index, slice_set}
use Rattle.std.proofs.lemmas.Bool.{cases_lt}
use Rattle.map_defs.specs.Links.{Links}
use Rattle.map_defs.specs.Edits.{Change}
use Rattle.cell_edit.specs.Writing.{Appends}
use Rattle.beta_edit.specs.Entries.{IsOneEntry}
use Rattle.beta_edit.specs.Splitting.{split_link, IsBehindEntry, IsSideEntry, IsOldSplitEntry}
use Rattle.cell_edit.proofs.Appending.{appends-then, appends-same}
use Rattle.beta_edit.proofs.OldEntries.{IsWayPlace, before, after}

module _ (L : Links) (x : ℕ) where
  -- ---- the links of the new dart
  -- those from 1 upwards lead where they led
  pub split-on : (t : ℕ) → 1 ≤ t → split_link L x t ≡ L t x
  split-on zero l = absurd (omega arith)
  split-on (suc t) l = refl

  -- they stand in the row of the dart, but for link 0
  pub split-row : (row : List ℕ) → 0 < length row → ((t : ℕ) → slice_index row t ≡ L t x) → (t : ℕ) → slice_index (slice_set row 0 x) t ≡ split_link L x t
  split-row [] some same t = absurd (omega arith)
  split-row (n ∷ ns) some same zero = refl
  split-row (n ∷ ns) some same (suc t) = same (suc t)

  -- ---- the way to the new dart, which ends there or leads on
  pub behind-alone : (s : ℕ) (a b : List Change) → L 1 x ≡ 0 → Appends L (IsOneEntry x 1 s) a b → Appends L (IsBehindEntry L x s) a b
  behind-alone s a b free has = appends-same L (IsOneEntry x 1 s) (IsBehindEntry L x s) a b (λ d t y. (λ e. inl e, λ e. alone d t y e)) has
    where
      alone : (d t y : ℕ) → IsBehindEntry L x s d t y → IsOneEntry x 1 s d t y
      alone d t y (inl e) = e
      alone d t y (inr e) = absurd (e.0 free)

  pub behind-both : (s : ℕ) (a b c : List Change) → L 1 x ≢ 0 → Appends L (IsOneEntry x 1 s) a b → Appends L (IsOneEntry (L 1 x) 0 s) b c → Appends L (IsBehindEntry L x s) a c
  behind-both s a b c some first then =
      appends-same L (λ d t y. IsOneEntry x 1 s d t y ⊎ IsOneEntry (L 1 x) 0 s d t y) (IsBehindEntry L x s) a c (λ d t y. (to d t y, from d t y))
      (appends-then L (IsOneEntry x 1 s) (IsOneEntry (L 1 x) 0 s) a b c (λ d t y z e f. omega (arith, e.1, f.1)) first then)
    where
      to : (d t y : ℕ) → IsOneEntry x 1 s d t y ⊎ IsOneEntry (L 1 x) 0 s d t y → IsBehindEntry L x s d t y
      to d t y (inl e) = inl e
      to d t y (inr e) = inr (some, e)

      from : (d t y : ℕ) → IsBehindEntry L x s d t y → IsOneEntry x 1 s d t y ⊎ IsOneEntry (L 1 x) 0 s d t y
      from d t y (inl e) = inl e
      from d t y (inr e) = inr e.1

  module _ (star : ℕ → ℕ) where
    -- ---- the sides, one after another
    -- there is no such side
    pub sides-skip : (m : ℕ) (a b : List Change) → L m x ≡ 0 → Appends L (IsSideEntry L star m x) a b → Appends L (IsSideEntry L star (m + 1) x) a b
    sides-skip m a b free has =
        appends-same L (IsSideEntry L star m x) (IsSideEntry L star (m + 1) x) a b
        (λ d t y. (λ e. (e.0, omega (arith, e.1), e.2, e.3, e.4), λ e. (e.0, low t (cases_lt t m) e.1 e.2, e.2, e.3, e.4))) has
      where
        low : (t : ℕ) → (t < m) ⊎ (m ≤ t) → t < m + 1 → L t x ≢ 0 → t < m
        low t (inl below) h some = below
        low t (inr above) h some = let e : t ≡ m = omega arith in absurd (some (ap (λ j. L j x) e ∙ free))

    pub sides-push : (m : ℕ) (a b c : List Change) → 2 ≤ m → L m x ≢ 0 → Appends L (IsSideEntry L star m x) a b → Appends L (IsOneEntry x m (star (L m x))) b c
        → Appends L (IsSideEntry L star (m + 1) x) a c
    sides-push m a b c high some has then =
        appends-same L (λ d t y. IsSideEntry L star m x d t y ⊎ IsOneEntry x m (star (L m x)) d t y) (IsSideEntry L star (m + 1) x) a c
        (λ d t y. (to d t y, λ h. from d t y h (cases_lt t m)))
        (appends-then L (IsSideEntry L star m x) (IsOneEntry x m (star (L m x))) a b c (λ d t y z h f. omega (arith, h.1, f.1)) has then)
      where
        to : (d t y : ℕ) → IsSideEntry L star m x d t y ⊎ IsOneEntry x m (star (L m x)) d t y → IsSideEntry L star (m + 1) x d t y
        to d t y (inl h) = (h.0, omega (arith, h.1), h.2, h.3, h.4)
        to d t y (inr f) = (omega (arith, f.1), omega (arith, f.1), (λ o. some (ap (λ j. L j x) (sym f.1) ∙ o)), f.0, f.2 ∙ ap (λ j. star (L j x)) (sym f.1))

        from : (d t y : ℕ) → IsSideEntry L star (m + 1) x d t y → (t < m) ⊎ (m ≤ t) → IsSideEntry L star m x d t y ⊎ IsOneEntry x m (star (L m x)) d t y
        from d t y h (inl below) = inl (h.0, below, h.2, h.3, h.4)
        from d t y h (inr above) = let e : t ≡ m = omega (arith, h.1) in inr (h.3, e, h.4 ∙ ap (λ j. star (L j x)) e)

    pub sides-all : (m n : ℕ) (a b : List Change) → m ≡ n → Appends L (IsSideEntry L star m x) a b → Appends L (IsSideEntry L star n x) a b
    sides-all m n a b e has = subst (λ p. Appends L (IsSideEntry L star p x) a b) e has

    -- ---- both together, and where they stand
    pub old-pushed : (m : ℕ) (a b c : List Change) → Appends L (IsBehindEntry L x (star x)) a b → Appends L (IsSideEntry L star m x) b c → Appends L (IsOldSplitEntry L star m x) a c
    old-pushed m a b c first then = appends-then L (IsBehindEntry L x (star x)) (IsSideEntry L star m x) a b c (λ d t y z e f. apart d t y e f.0) first then
      where
        apart : (d t y : ℕ) → IsBehindEntry L x (star x) d t y → 2 ≤ t → ⊥
        apart d t y (inl e) l = omega (arith, e.1)
        apart d t y (inr (some, e)) l = omega (arith, e.1)

    pub old-place : (m d t y : ℕ) → IsOldSplitEntry L star m x d t y → IsWayPlace x (L 1 x) d t
    old-place m d t y (inl (inl e)) = before e.0 (omega (arith, e.1))
    old-place m d t y (inl (inr (some, e))) = after e.0 some e.1
    old-place m d t y (inr (high, low, some, is, new)) = before is (omega arith)
