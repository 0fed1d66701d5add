-- The changes of the links of a new dart: its own, the next, and those distant from the link of the insertion.
use Rattle.std.proofs.Common.{ℕ, ◌≡◌, ◌≢◌, ◌+◌, ◌<◌, ◌≤◌, ◌⊎◌, List, [], ◌∷◌, ◌++◌, slice_index, refl, sym, ap, ◌∙◌, subst, inl, inr, ⊎_elim, arith}
use Rattle.std.proofs.lemmas.Bool.{cases_lt}
use Rattle.map_defs.specs.Kind.{Kind, inverse, place, IsDistant}
use Rattle.map_defs.specs.Links.{Links}
use Rattle.map_defs.specs.Edits.{Change}
use Rattle.insert_laws.proofs.Places.{IsBeside, same, next, below, far, link_cases}
use Rattle.cell_edit.specs.Writing.{Appends, beyond, IsNewEntry, IsCopy, IsDistantCopy}
use Rattle.cell_edit.proofs.Appending.{appends-none, appends-then, appends-same}
use Rattle.cell_edit.proofs.Beyond.{beyond-own, beyond-before, beyond-else, copied-next, copied-far, far-off, far-below, next-above}
use Rattle.cell_edit.proofs.Writings.{writes-one}

-- a distant link is not the link itself
far-own : (k : Kind) (i t : ℕ) → IsDistant k i t → t ≢ i
unfolding IsDistant
far-own k i t away e =
    let at : place k t ≡ place k i = ap (place k) e in
    ⊎_elim (λ (p : place k i + 2 ≤ place k t). omega arith) (λ (p : place k t + 2 ≤ place k i). omega arith) away

-- ---- one link of a new dart
module _ (L : Links) (star : ℕ → ℕ) (new m n : ℕ) where
  pub copy-none : (cs : List Change) → n ≡ 0 → star 0 ≡ 0 → Appends L (IsCopy star new m n) cs cs
  copy-none cs none nothing = appends-none L (IsCopy star new m n) cs (λ d t y e. e.3 (e.2 ∙ ap star none ∙ nothing))

  pub copy-one : (cs : List Change) → star n ≢ 0 → L m new ≡ 0 → Appends L (IsCopy star new m n) cs (cs ++ record { dart = new; link = m; old = 0; new = star n } ∷ [])
  copy-one cs some free =
      let c : Change = record { dart = new; link = m; old = 0; new = star n } in
      appends-same L (λ d t y. (d ≡ new) × (t ≡ m) × (y ≡ star n)) (IsCopy star new m n) cs (cs ++ c ∷ [])
      (λ d t y. (λ o. (o.0, o.1, o.2, λ none. some (sym o.2 ∙ none)), λ e. (e.0, e.1, e.2)))
      (c ∷ [], refl, writes-one L c (sym free))

-- ---- the distant links of a new dart, one after another
module _ (k : Kind) (L : Links) (i : ℕ) (row : List ℕ) (star : ℕ → ℕ) (a new : ℕ) where
  pub distant-none : (cs : List Change) → Appends L (IsDistantCopy k i row star a a new) cs cs
  distant-none cs = appends-none L (IsDistantCopy k i row star a a new) cs (λ d t y e. omega (arith, e.1, e.2))

  pub distant-skip : (m : ℕ) (b c : List Change) → (IsDistant k i m → ⊥) → Appends L (IsDistantCopy k i row star a m new) b c → Appends L (IsDistantCopy k i row star a (m + 1) new) b c
  distant-skip m b c near = appends-same L (IsDistantCopy k i row star a m new) (IsDistantCopy k i row star a (m + 1) new) b c
      (λ d t y. (λ e. (e.0, e.1, omega (arith, e.2), e.3, e.4, e.5), λ e. (e.0, e.1, low t (cases_lt t m) e.2 e.3, e.3, e.4, e.5)))
    where
      low : (t : ℕ) → (t < m) ⊎ (m ≤ t) → t < m + 1 → IsDistant k i t → t < m
      low t (inl before) h away = before
      low t (inr after) h away = let e : t ≡ m = omega arith in absurd (near (subst (IsDistant k i) e away))

  pub distant-more : (m : ℕ) (b c e : List Change) → IsDistant k i m → a ≤ m → Appends L (IsDistantCopy k i row star a m new) b c
      → Appends L (IsCopy star new m (slice_index row (inverse k m))) c e → Appends L (IsDistantCopy k i row star a (m + 1) new) b e
  distant-more m b c e away above before then =
      appends-same L (λ d t y. IsDistantCopy k i row star a m new d t y ⊎ IsCopy star new m (slice_index row (inverse k m)) d t y) (IsDistantCopy k i row star a (m + 1) new) b e
      (λ d t y. (to d t y, λ w. from d t y w (cases_lt t m)))
      (appends-then L (IsDistantCopy k i row star a m new) (IsCopy star new m (slice_index row (inverse k m))) b c e (λ d t y z u v. omega (arith, u.2, v.1)) before then)
    where
      to : (d t y : ℕ) → IsDistantCopy k i row star a m new d t y ⊎ IsCopy star new m (slice_index row (inverse k m)) d t y → IsDistantCopy k i row star a (m + 1) new d t y
      to d t y (inl w) = (w.0, w.1, omega (arith, w.2), w.3, w.4, w.5)
      to d t y (inr v) = (
        v.0,
        omega (arith, v.1),
        omega (arith, v.1),
        subst (IsDistant k i) (sym v.1) away,
        v.2 ∙ ap (λ s. star (slice_index row (inverse k s))) (sym v.1),
        v.3,
      )

      from : (d t y : ℕ) → IsDistantCopy k i row star a (m + 1) new d t y → (t < m) ⊎ (m ≤ t) → IsDistantCopy k i row star a m new d t y ⊎ IsCopy star new m (slice_index row (inverse k m)) d t y
      from d t y w (inl under) = inl (w.0, w.1, under, w.3, w.4, w.5)
      from d t y w (inr over) =
          let e : t ≡ m = omega (arith, w.2) in
          inr (w.0, e, w.4 ∙ ap (λ s. star (slice_index row (inverse k s))) e, w.5)

-- ---- all links of a new dart: those below the link, the link itself, the next, and those above
module _ (k : Kind) (L : Links) (i : ℕ) (row : List ℕ) (star : ℕ → ℕ) (x m : ℕ) where
  abbrev Own : ℕ → ℕ → ℕ → Type 0
  Own d t y = (d ≡ star x) × (t ≡ i) × (y ≡ x)

  own-one : (cs : List Change) → L i (star x) ≡ 0 → Appends L Own cs (cs ++ record { dart = star x; link = i; old = 0; new = x } ∷ [])
  own-one cs free = let c : Change = record { dart = star x; link = i; old = 0; new = x } in (c ∷ [], refl, writes-one L c (sym free))

  abbrev Parts : ℕ → ℕ → ℕ → Type 0
  Parts d t y =
      ((IsDistantCopy k i row star 0 i (star x) d t y ⊎ Own d t y) ⊎ IsCopy star (star x) (i + 1) (L i x) d t y)
      ⊎ IsDistantCopy k i row star (i + 2) m (star x) d t y

  module _ (own : inverse k i ≡ i) (within : i + 2 ≤ m) (some : x ≢ 0) (same_row : (t : ℕ) → slice_index row t ≡ L t x) where
    -- a distant link is copied from its inverse
    copies : (t : ℕ) → IsDistant k i t → star (slice_index row (inverse k t)) ≡ beyond k L i star x t
    copies t away =
        ap star (same_row (inverse k t) ∙ ap (λ s. L s x) (sym (copied-far k i t (far-off k i t own away))))
        ∙ sym (beyond-else k L i star x t (far-own k i t away) (far-below k i t away))

    after_own : beyond k L i star x (i + 1) ≡ star (L i x)
    after_own = beyond-else k L i star x (i + 1) (λ e. omega arith) (λ b. next-above k i (i + 1) own refl b) ∙ ap (λ s. star (L s x)) (copied-next k i)

    to : (d t y : ℕ) → Parts d t y → IsNewEntry k L i star m x d t y
    to d t y (inl (inl (inl e))) = (e.0, omega (arith, e.2), e.4 ∙ copies t e.3, e.5)
    to d t y (inl (inl (inr e))) = (e.0, omega (arith, e.1), e.2 ∙ sym (beyond-own k L i star x) ∙ ap (beyond k L i star x) (sym e.1), λ none. some (sym e.2 ∙ none))
    to d t y (inl (inr e)) = (e.0, omega (arith, e.1), e.2 ∙ sym after_own ∙ ap (beyond k L i star x) (sym e.1), e.3)
    to d t y (inr e) = (e.0, e.2, e.4 ∙ copies t e.3, e.5)

    from : (d t y : ℕ) → IsNewEntry k L i star m x d t y → IsBeside k i t → Parts d t y
    from d t y e (same at) = inl (inl (inr (e.0, at, e.2 ∙ ap (beyond k L i star x) at ∙ beyond-own k L i star x)))
    from d t y e (next at) =
        let is : t ≡ i + 1 = omega arith in
        inl (inr (e.0, is, e.2 ∙ ap (beyond k L i star x) is ∙ after_own, e.3))
    from d t y e (below b) = absurd (e.3 (e.2 ∙ beyond-before k L i star x t b))
    from d t y e (far f) = side (cases_lt t i)
      where
        off : t ≢ i + 1
        off = far-off k i t own f

        above : t ≢ i → t ≢ i + 1 → i ≤ t → i + 2 ≤ t
        above not_own not_next over = omega arith

        side : (t < i) ⊎ (i ≤ t) → Parts d t y
        side (inl under) = inl (inl (inl (e.0, omega arith, under, f, e.2 ∙ sym (copies t f), e.3)))
        side (inr over) = inr (e.0, above (far-own k i t f) off over, e.1, f, e.2 ∙ sym (copies t f), e.3)

    pub new-links : (a b c e : List Change) → L i (star x) ≡ 0 → Appends L (IsDistantCopy k i row star 0 i (star x)) a b
        → Appends L (IsCopy star (star x) (i + 1) (L i x)) (b ++ record { dart = star x; link = i; old = 0; new = x } ∷ []) c
        → Appends L (IsDistantCopy k i row star (i + 2) m (star x)) c e → Appends L (IsNewEntry k L i star m x) a e
    new-links a b c e free first second third =
        let b2 : List Change = b ++ record { dart = star x; link = i; old = 0; new = x } ∷ [] in
        let E0 : ℕ → ℕ → ℕ → Type 0 = IsDistantCopy k i row star 0 i (star x) in
        let E2 : ℕ → ℕ → ℕ → Type 0 = IsCopy star (star x) (i + 1) (L i x) in
        let E3 : ℕ → ℕ → ℕ → Type 0 = IsDistantCopy k i row star (i + 2) m (star x) in
        appends-same L Parts (IsNewEntry k L i star m x) a e (λ d t y. (to d t y, λ w. from d t y w (link_cases k i t own)))
        (appends-then L (λ d t y. (E0 d t y ⊎ Own d t y) ⊎ E2 d t y) E3 a c e apart3
        (appends-then L (λ d t y. E0 d t y ⊎ Own d t y) E2 a b2 c apart2
        (appends-then L E0 Own a b b2 (λ d t y z u v. omega (arith, u.2, v.1)) first (own-one b free)) second) third)
      where
        apart2 : (d t y z : ℕ) → IsDistantCopy k i row star 0 i (star x) d t y ⊎ Own d t y → IsCopy star (star x) (i + 1) (L i x) d t z → ⊥
        apart2 d t y z (inl u) v = omega (arith, u.2, v.1)
        apart2 d t y z (inr u) v = omega (arith, u.1, v.1)

        apart3 : (d t y z : ℕ) → (IsDistantCopy k i row star 0 i (star x) d t y ⊎ Own d t y) ⊎ IsCopy star (star x) (i + 1) (L i x) d t y → IsDistantCopy k i row star (i + 2) m (star x) d t z → ⊥
        apart3 d t y z (inl (inl u)) v = omega (arith, u.2, v.1)
        apart3 d t y z (inl (inr u)) v = omega (arith, u.1, v.1)
        apart3 d t y z (inr u) v = omega (arith, u.1, v.1)
