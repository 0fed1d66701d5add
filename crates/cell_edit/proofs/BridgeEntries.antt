-- The changes of one dart that ends, and those of one dart after another.
use Rattle.std.proofs.Common.{ℕ, ◌≡◌, ◌≢◌, ◌+◌, ◌<◌, ◌≤◌, ◌⊎◌, List, [], ◌∷◌, ◌++◌, length, take, get_or, Contains, refl, sym, ap, ◌∙◌, subst, inl, inr, arith}
use Rattle.std.specs.List.Sorted.{IsStrictlyIncreasing}
use Rattle.std.proofs.lemmas.Bool.{cases_lt}
use Rattle.map_defs.specs.Kind.{Kind, alpha, beta, inverse}
use Rattle.map_defs.specs.Links.{Links}
use Rattle.map_defs.specs.Laws.{Laws}
use Rattle.map_defs.specs.Edits.{Change}
use Rattle.map_defs.specs.Removal.{Lands}
use Rattle.link_laws.proofs.Basics.{same_or_not}
use Rattle.link_laws.proofs.Walking.{walk_one}
use Rattle.cell_edit.specs.Writing.{WritesEntries, Appends}
use Rattle.cell_edit.specs.Bridging.{LeadsAcross, IsEndingEntry, IsBridgeEntry, IsDartEntry, IsCellEntry}
use Rattle.cell_edit.proofs.Writings.{writes-one}
use Rattle.cell_edit.proofs.Appending.{appends-none, appends-then, appends-same, each-more}
use Rattle.cell_edit.proofs.Listed.{listed-apart, taken}

-- a link that is its own inverse, and leads to d, leads back
pub beyond-back : (k : Kind) (L : Links) → Laws k L → (i x d : ℕ) → inverse k i ≡ i → d ≡ L i x → d ≢ 0 → L i d ≡ x
beyond-back k L w i x d own is some =
    let back : L (inverse k i) (L i x) ≡ x = w.back i x (λ none. some (is ∙ none)) in
    ap (L i) is ∙ subst (λ j. L j (L i x) ≡ x) own back

-- a walk lands in one way
lands-one : (k : Kind) (d y z v : ℕ) → Lands k d v y → Lands k d v z → y ≡ z
lands-one alpha d y z v p q = elim (same_or_not v d) [ inl e ↦ p.1 e ∙ sym (q.1 e) | inr n ↦ p.0 n ∙ sym (q.0 n) ]
lands-one beta d y z v p q = p ∙ sym q

-- one change
pub appends-one : (L : Links) (a b : List Change) (c : Change) → c.old ≡ L c.link c.dart → b ≡ a ++ c ∷ [] → Appends L (λ d t y. (d ≡ c.dart) × (t ≡ c.link) × (y ≡ c.new)) a b
appends-one L a b c old grown = (c ∷ [], grown, writes-one L c old)

module _ (L : Links) (x : ℕ) where
  -- ---- the links of a dart that ends, one after another
  pub ends-none : (cs : List Change) → Appends L (IsEndingEntry L 0 x) cs cs
  ends-none cs = appends-none L (IsEndingEntry L 0 x) cs (λ d t y e. omega (arith, e.1))

  -- a link that is free already
  pub ends-skip : (m : ℕ) (a b : List Change) → L m x ≡ 0 → Appends L (IsEndingEntry L m x) a b → Appends L (IsEndingEntry L (m + 1) x) a b
  ends-skip m a b free = appends-same L (IsEndingEntry L m x) (IsEndingEntry L (m + 1) x) a b
      (λ d t y. (λ e. (e.0, omega (arith, e.1), e.2, e.3), λ e. (e.0, low t (cases_lt t m) e.1 e.2, e.2, e.3)))
    where
      low : (t : ℕ) → (t < m) ⊎ (m ≤ t) → t < m + 1 → L t x ≢ 0 → t < m
      low t (inl below) h some = below
      low t (inr above) h some = let e : t ≡ m = omega arith in absurd (some (ap (λ s. L s x) e ∙ free))

  -- a link that becomes free
  pub ends-push : (m : ℕ) (a b c : List Change) → L m x ≢ 0 → Appends L (IsEndingEntry L m x) a b → c ≡ b ++ record { dart = x; link = m; old = L m x; new = 0 } ∷ []
      → Appends L (IsEndingEntry L (m + 1) x) a c
  ends-push m a b c some before grown =
      appends-same L (λ d t y. IsEndingEntry L m x d t y ⊎ One d t y) (IsEndingEntry L (m + 1) x) a c (λ d t y. (to d t y, λ e. from d t y e (cases_lt t m)))
      (appends-then L (IsEndingEntry L m x) One a b c (λ d t y z e o. omega (arith, e.1, o.1)) before
      (appends-one L b c (record { dart = x; link = m; old = L m x; new = 0 }) refl grown))
    where
      One : ℕ → ℕ → ℕ → Type 0
      One d t y = (d ≡ x) × (t ≡ m) × (y ≡ 0)

      to : (d t y : ℕ) → IsEndingEntry L m x d t y ⊎ One d t y → IsEndingEntry L (m + 1) x d t y
      to d t y (inl e) = (e.0, omega (arith, e.1), e.2, e.3)
      to d t y (inr o) = (o.0, omega (arith, o.1), λ free. some (ap (λ s. L s x) (sym o.1) ∙ free), o.2)

      from : (d t y : ℕ) → IsEndingEntry L (m + 1) x d t y → (t < m) ⊎ (m ≤ t) → IsEndingEntry L m x d t y ⊎ One d t y
      from d t y e (inl below) = inl (e.0, below, e.2, e.3)
      from d t y e (inr above) = inr (e.0, omega (arith, e.1), e.3)

module _ (k : Kind) (L : Links) (i a : ℕ) (keys : List ℕ) (x : ℕ) where
  -- ---- the link of the remaining dart beyond
  -- there is none
  pub bridge-free : (cs : List Change) → L i x ≡ 0 → Appends L (IsBridgeEntry k L i a keys x) cs cs
  bridge-free cs free = appends-none L (IsBridgeEntry k L i a keys x) cs (λ d t y e. e.1 (e.0 ∙ free))

  -- it ends too
  pub bridge-inner : (cs : List Change) → Contains keys (L i x) → Appends L (IsBridgeEntry k L i a keys x) cs cs
  bridge-inner cs has = appends-none L (IsBridgeEntry k L i a keys x) cs (λ d t y e. e.2 (subst (Contains keys) (sym e.0) has))

  landing-one : (d y z u v : ℕ) → u ≡ v → Lands k d u y → Lands k d v z → y ≡ z
  landing-one d y z u v same p q = lands-one k d y z v (subst (λ w. Lands k d w y) same p) q

  -- the walk leads to z
  pub bridge-push : (r z y : ℕ) (b c : List Change) → r ≡ L i x → r ≢ 0 → (Contains keys r → ⊥) → L i r ≡ x → LeadsAcross k L i a keys x z → Lands k r z y
      → c ≡ b ++ record { dart = r; link = i; old = x; new = y } ∷ [] → Appends L (IsBridgeEntry k L i a keys x) b c
  bridge-push r z y b c is some out back walk lands grown =
      appends-same L (λ d t u. (d ≡ r) × (t ≡ i) × (u ≡ y)) (IsBridgeEntry k L i a keys x) b c
      (λ d t u. (λ o. to d t u o.0 o.1 o.2, λ e. (e.0 ∙ sym is, e.3, new d u e.0 e.4)))
      (appends-one L b c (record { dart = r; link = i; old = x; new = y }) (sym back) grown)
    where
      to : (d t u : ℕ) → d ≡ r → t ≡ i → u ≡ y → IsBridgeEntry k L i a keys x d t u
      to d t u dart link new = rw (dart, new) (is, some, out, link, (z, walk, lands))

      new : (d u : ℕ) → d ≡ L i x → (v : ℕ) × LeadsAcross k L i a keys x v × Lands k d v u → u ≡ y
      new d u dart e = landing-one r u y e.0 z (walk_one e.1 walk) (subst (λ w. Lands k w e.0 u) (dart ∙ sym is) e.2) lands

-- ---- one dart after another
module _ (k : Kind) (L : Links) (w : Laws k L) (i a m : ℕ) (own : inverse k i ≡ i) (keys : List ℕ) where
  -- the link of the dart beyond is no link of a dart that ends
  pub dart-apart : (x d t y z : ℕ) → Contains keys x → IsEndingEntry L m x d t y → IsBridgeEntry k L i a keys x d t z → ⊥
  dart-apart x d t y z has e f = f.2 (subst (Contains keys) (sym e.0) has)

  entries-apart : (u x d t y z : ℕ) → u ≢ x → Contains keys u → Contains keys x → IsDartEntry k L i a m keys u d t y → IsDartEntry k L i a m keys x d t z → ⊥
  entries-apart u x d t y z other hu hx (inl e) (inl f) = other (sym e.0 ∙ f.0)
  entries-apart u x d t y z other hu hx (inl e) (inr f) = f.2 (subst (Contains keys) (sym e.0) hu)
  entries-apart u x d t y z other hu hx (inr e) (inl f) = e.2 (subst (Contains keys) (sym f.0) hx)
  entries-apart u x d t y z other hu hx (inr e) (inr f) = other (sym (beyond-back k L w i u d own e.0 e.1) ∙ beyond-back k L w i x d own f.0 f.1)

  pub cell-more : (q x : ℕ) (b c : List Change) → IsStrictlyIncreasing keys → q < length keys → x ≡ get_or keys q x → Contains keys x
      → WritesEntries L (IsCellEntry k L i a m keys (take q keys)) b → Appends L (IsDartEntry k L i a m keys x) b c → WritesEntries L (IsCellEntry k L i a m keys (take (q + 1) keys)) c
  cell-more q x b c up low at has =
      each-more L (IsDartEntry k L i a m keys) keys q x b c low at
      (λ u had d t y z e f. entries-apart u x d t y z (listed-apart keys q x u up low at had) (taken keys q u had) has e f)
