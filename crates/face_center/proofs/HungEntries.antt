-- The changes of one dart on which an edge is hung.
use Rattle.std.proofs.Common.{ℕ, ◌≡◌, ◌≢◌, ◌+◌, ◌<◌, ◌≤◌, ◌⊎◌, List, refl, sym, ap, ◌∙◌, inl, inr, arith}
use Rattle.std.proofs.lemmas.Bool.{cases_lt}
use Rattle.map_defs.specs.Kind.{Kind, alpha, beta}
use Rattle.map_defs.specs.Links.{Links}
use Rattle.map_defs.specs.Edits.{Change}
use Rattle.cell_edit.specs.Writing.{Appends, IsLinkEntry}
use Rattle.face_center.specs.declared.hanging.Hanging.{Hanging}
use Rattle.face_center.specs.Hanging.{before, star_link, tip_link, IsNewEntry, IsOldEntry, IsHungEntry}
use Rattle.cell_edit.proofs.Appending.{appends-none, appends-then, appends-same}

module _ (k : Kind) (h : Hanging) (L : Links) (star tip : ℕ → ℕ) (x : ℕ) where
  -- ---- the links of the new darts, one after another
  pub new-none : (a : List Change) → Appends L (IsNewEntry k h L star tip 0 x) a a
  new-none a = appends-none L (IsNewEntry k h L star tip 0 x) a (λ d t y e. omega (arith, e.0))

  pub new-push : (m : ℕ) (a b c e : List Change) → star x ≢ tip x → Appends L (IsNewEntry k h L star tip m x) a b
      → Appends L (IsLinkEntry (star x) m (star_link k h L star tip x m)) b c → Appends L (IsLinkEntry (tip x) m (tip_link k h L star tip x m)) c e
      → Appends L (IsNewEntry k h L star tip (m + 1) x) a e
  new-push m a b c e apart has first then =
      appends-same L (λ d t y. IsNewEntry k h L star tip m x d t y ⊎ Two d t y) (IsNewEntry k h L star tip (m + 1) x) a e
      (λ d t y. (to d t y, λ f. from d t y f (cases_lt t m)))
      (appends-then L (IsNewEntry k h L star tip m x) Two a b e (λ d t y z f two. omega (arith, f.0, link d t z two)) has
      (appends-then L Begin End b c e (λ d t y z f g. apart (sym f.0 ∙ g.0)) first then))
    where
      Begin : ℕ → ℕ → ℕ → Type 0
      Begin = IsLinkEntry (star x) m (star_link k h L star tip x m)

      End : ℕ → ℕ → ℕ → Type 0
      End = IsLinkEntry (tip x) m (tip_link k h L star tip x m)

      Two : ℕ → ℕ → ℕ → Type 0
      Two d t y = Begin d t y ⊎ End d t y

      link : (d t y : ℕ) → Two d t y → t ≡ m
      link d t y (inl f) = f.1
      link d t y (inr f) = f.1

      to : (d t y : ℕ) → IsNewEntry k h L star tip m x d t y ⊎ Two d t y → IsNewEntry k h L star tip (m + 1) x d t y
      to d t y (inl f) = (omega (arith, f.0), f.1)
      to d t y (inr (inl f)) = (omega (arith, f.1), inl (f.0, refl, f.2 ∙ ap (star_link k h L star tip x) (sym f.1), f.3))
      to d t y (inr (inr f)) = (omega (arith, f.1), inr (f.0, refl, f.2 ∙ ap (tip_link k h L star tip x) (sym f.1), f.3))

      at : (d t y : ℕ) → t ≡ m → IsLinkEntry (star x) t (star_link k h L star tip x t) d t y ⊎ IsLinkEntry (tip x) t (tip_link k h L star tip x t) d t y → Two d t y
      at d t y is (inl f) = inl (f.0, is, f.2 ∙ ap (star_link k h L star tip x) is, f.3)
      at d t y is (inr f) = inr (f.0, is, f.2 ∙ ap (tip_link k h L star tip x) is, f.3)

      from : (d t y : ℕ) → IsNewEntry k h L star tip (m + 1) x d t y → (t < m) ⊎ (m ≤ t) → IsNewEntry k h L star tip m x d t y ⊎ Two d t y
      from d t y f (inl below) = inl (below, f.1)
      from d t y f (inr above) = inr (at d t y (omega (arith, f.0)) f.1)

  -- ---- the links of old darts
  pub old-alone : (a b : List Change) → k ≡ alpha → Appends L (IsLinkEntry (before k h L x) 1 (star x)) a b → Appends L (IsOldEntry k h L star tip x) a b
  old-alone a b is has =
      appends-same L (IsLinkEntry (before k h L x) 1 (star x)) (IsOldEntry k h L star tip x) a b (λ d t y. (λ e. inl e, λ e. alone d t y e)) has
    where
      alone : (d t y : ℕ) → IsOldEntry k h L star tip x d t y → IsLinkEntry (before k h L x) 1 (star x) d t y
      alone d t y (inl e) = e
      alone d t y (inr e) = absurd (cc (is, e.0))

  pub old-both : (a b c : List Change) → k ≡ beta → Appends L (IsLinkEntry (before k h L x) 1 (star x)) a b → Appends L (IsLinkEntry x 0 (tip x)) b c
      → Appends L (IsOldEntry k h L star tip x) a c
  old-both a b c is first then =
      appends-same L (λ d t y. IsLinkEntry (before k h L x) 1 (star x) d t y ⊎ IsLinkEntry x 0 (tip x) d t y) (IsOldEntry k h L star tip x) a c
      (λ d t y. (to d t y, from d t y))
      (appends-then L (IsLinkEntry (before k h L x) 1 (star x)) (IsLinkEntry x 0 (tip x)) a b c (λ d t y z e f. omega (arith, e.1, f.1)) first then)
    where
      to : (d t y : ℕ) → IsLinkEntry (before k h L x) 1 (star x) d t y ⊎ IsLinkEntry x 0 (tip x) d t y → IsOldEntry k h L star tip x d t y
      to d t y (inl e) = inl e
      to d t y (inr e) = inr (is, e)

      from : (d t y : ℕ) → IsOldEntry k h L star tip x d t y → IsLinkEntry (before k h L x) 1 (star x) d t y ⊎ IsLinkEntry x 0 (tip x) d t y
      from d t y (inl e) = inl e
      from d t y (inr e) = inr e.1

  -- ---- all of them
  pub hung-pushed : (m : ℕ) (a b c : List Change) → ((d t y z : ℕ) → IsOldEntry k h L star tip x d t y → IsNewEntry k h L star tip m x d t z → ⊥)
      → Appends L (IsOldEntry k h L star tip x) a b → Appends L (IsNewEntry k h L star tip m x) b c → Appends L (IsHungEntry k h L star tip m x) a c
  hung-pushed m a b c apart first then = appends-then L (IsOldEntry k h L star tip x) (IsNewEntry k h L star tip m x) a b c apart first then
