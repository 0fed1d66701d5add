-- Cells lead back where links do. All that is used of the laws is that 0 has no links and that inverse links lead back,
-- which the rows of every map keep.
use Rattle.std.proofs.Common.{◌≡◌, ◌≢◌, ◌⊎◌, ℕ, inl, inr, refl, sym, ap, ap₂, subst, ◌∙◌, Option, Some, None}
use Rattle.map_defs.specs.Kind.{Kind, inverse}
use Rattle.map_defs.specs.Links.{Links}
use Rattle.map_defs.specs.LinkWords.{LinkWord, one_link, two_links, through, inverse_word, IsCellWord}
use Rattle.map_defs.specs.Cells.{InOrbit, here, onward, Leads, InCell}
use Rattle.link_laws.proofs.Basics.{same_or_not, inverse_twice}
use Rattle.link_laws.proofs.Orbits.{orbit_back}

pub inverse_word_twice : (k : Kind) (v : LinkWord) → inverse_word k (inverse_word k v) ≡ v
inverse_word_twice k v = go v.first v.second
  where
    go : (f : ℕ) (s : Option ℕ) → inverse_word k (inverse_word k (record { first = f; second = s })) ≡ record { first = f; second = s }
    go f None = ap one_link (inverse_twice k f)
    go f (Some j) = ap₂ two_links (inverse_twice k f) (inverse_twice k j)

module _ (k : Kind) (L : Links) (nil : (i : ℕ) → L i 0 ≡ 0) (back : (i x : ℕ) → L i x ≢ 0 → L (inverse k i) (L i x) ≡ x) where
  link_turns : (i x y : ℕ) → y ≢ 0 → L i x ≡ y → L (inverse k i) y ≡ x
  link_turns i x y h e = ap (L (inverse k i)) (sym e) ∙ back i x (λ z. h (sym e ∙ z))

  -- the word that leads back leads back
  pub word_turns : (v : LinkWord) (x y : ℕ) → through L v x ≡ y → y ≢ 0 → through L (inverse_word k v) y ≡ x
  word_turns v x y e n = go v.first v.second e
    where
      go : (f : ℕ) (s : Option ℕ) → through L (record { first = f; second = s }) x ≡ y → through L (inverse_word k (record { first = f; second = s })) y ≡ x
      go f None h = link_turns f x y n h
      go f (Some j) h =
          let a : L (inverse k j) y ≡ L f x = link_turns j (L f x) y n h in
          let b : L f x ≢ 0 = λ z. n (sym h ∙ (ap (L j) z ∙ nil j)) in
          ap (L (inverse k f)) a ∙ back f x b

  -- each step along a cell can be taken back
  pub step_turns : (i x y : ℕ) → x ≢ 0 → Leads L (IsCellWord k i) x y → Leads L (IsCellWord k i) y x
  step_turns i x y m s = go s.1
    where
      go : IsCellWord k i s.0 → Leads L (IsCellWord k i) y x
      go (inl r) = (inverse_word k s.0, inr (s.0, r, refl), word_turns s.0 x y s.2 s.3, m)
      go (inr r) = (r.0, inl r.1, subst (λ v. through L v y ≡ x) (ap (inverse_word k) r.2 ∙ inverse_word_twice k r.0) (word_turns s.0 x y s.2 s.3), m)

  word_nowhere : (v : LinkWord) → through L v 0 ≡ 0
  word_nowhere v = go v.first v.second
    where
      go : (f : ℕ) (s : Option ℕ) → through L (record { first = f; second = s }) 0 ≡ 0
      go f None = nil f
      go f (Some j) = ap (L j) (nil f) ∙ nil j

  pub cell_of_nothing : (i : ℕ) {d x : ℕ} → InOrbit (Leads L (IsCellWord k i)) d x → d ≡ 0 → x ≡ 0
  cell_of_nothing i here e = e
  cell_of_nothing i (onward {x = u} {y = y} o s) e = absurd (s.3 (sym s.2 ∙ (ap (through L s.0) (cell_of_nothing i o e) ∙ word_nowhere s.0)))

  pub cell_turns : (i d x : ℕ) → InCell k L i d x → InCell k L i x d
  cell_turns i d x h = go (same_or_not d 0)
    where
      go : (d ≡ 0) ⊎ (d ≢ 0) → InCell k L i x d
      go (inl e) = subst (λ z. InCell k L i z d) (e ∙ sym (cell_of_nothing i h e)) here
      go (inr m) = orbit_back (Leads L (IsCellWord k i)) (λ u v s. s.3) (λ u v n s. step_turns i u v n s) d x m h
