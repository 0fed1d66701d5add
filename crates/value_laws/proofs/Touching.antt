-- A cell without a touched dart is an old cell. Of the laws only this is used: a link leads back.
use Rattle.std.proofs.Common.{ℕ, ◌≡◌, ◌≢◌, ◌⊎◌, inl, inr, refl, sym, ap, subst, ◌∙◌, Option, Some, None}
use Rattle.map_defs.specs.Kind.{Kind, alpha, beta, inverse}
use Rattle.map_defs.specs.Links.{Links, LeadsToLive}
use Rattle.map_defs.specs.Laws.{Laws}
use Rattle.map_defs.specs.LinkWords.{LinkWord, through, through_second, inverse_word, IsCellWord}
use Rattle.map_defs.specs.Cells.{InOrbit, here, onward, Leads, InCell}
use Rattle.map_defs.specs.Touched.{IsReached, IsTouched, Touches}
use Rattle.value_laws.specs.Rerouted.{IsRerouted, IsTouchedIn}
use Rattle.link_laws.proofs.Basics.{stable}
use Rattle.link_laws.proofs.LawFacts.{back_to}

-- what a dart that is not touched has: it lived before, its links are as before, and in a combinatorial map so are those
-- of the darts that a link leads to
record IsStill (k : Kind) (Live : ℕ → Type 0) (L N : Links) (x : ℕ) : Type 0 where
  lived : Live x
  same : (t : ℕ) → N t x ≡ L t x
  around : k ≡ beta → (y t u : ℕ) → (L t y ≡ x) ⊎ (N t y ≡ x) → N u y ≡ L u y

still : (k : Kind) (Live : ℕ → Type 0) (L N : Links) (x : ℕ) → Live x ⊎ (Live x → ⊥) → (IsReached k Live L N x → ⊥) → IsStill k Live L N x
still k Live L N x decided n = record {
  lived = lived decided;
  same = λ t. stable _ _ (λ m. n (inr (inl (t, m))));
  around = λ b y t u e. stable _ _ (λ m. n (inr (inr (b, (y, t, (u, m), e)))));
}
  where
    lived : Live x ⊎ (Live x → ⊥) → Live x
    lived (inl l) = l
    lived (inr m) = absurd (n (inl m))

-- in a generalized map the words are single links
alpha_second : (i : ℕ) (v : LinkWord) → IsCellWord alpha i v → v.second ≡ None
alpha_second i v (inl r) = ap (λ u. u.second) r.2
alpha_second i v (inr r) = ap (λ u. u.second) (r.2 ∙ ap (inverse_word alpha) r.1.2)

kind_case : (k : Kind) → (k ≡ alpha) ⊎ (k ≡ beta)
kind_case alpha = inl refl
kind_case beta = inr refl

module _ (k : Kind) (Live : ℕ → Type 0) (L N : Links) (w : Laws k L) (wn : Laws k N) where
  second_on : (x y f j : ℕ) → IsStill k Live L N x → k ≡ beta → y ≢ 0 → N j (N f x) ≡ y → L j (L f x) ≡ y
  second_on x y f j s b m e =
      let there : N f x ≢ 0 = λ z. m (sym e ∙ (ap (N j) z ∙ wn.nil j)) in
      let back : N (inverse k f) (N f x) ≡ x = back_to k N wn f x (N f x) there refl in
      cc (s.around b (N f x) (inverse k f) j (inr back), s.same f, e)

  second_off : (x y f j : ℕ) → IsStill k Live L N x → k ≡ beta → y ≢ 0 → L j (L f x) ≡ y → N j (N f x) ≡ y
  second_off x y f j s b m e =
      let there : L f x ≢ 0 = λ z. m (sym e ∙ (ap (L j) z ∙ w.nil j)) in
      let back : L (inverse k f) (L f x) ≡ x = back_to k L w f x (L f x) there refl in
      cc (s.around b (L f x) (inverse k f) j (inl back), s.same f, e)

  -- along a word from a still dart the old and the new links lead alike
  word_on : (v : LinkWord) → (k ≡ alpha → v.second ≡ None) → (x y : ℕ) → IsStill k Live L N x → y ≢ 0 → through N v x ≡ y → through L v x ≡ y
  word_on v one x y s m = go v.first v.second one
    where
      go : (f : ℕ) (j : Option ℕ) → (k ≡ alpha → j ≡ None) → through_second N j (N f x) ≡ y → through_second L j (L f x) ≡ y
      go f None o e = sym (s.same f) ∙ e
      go f (Some j) o e = elim (kind_case k) [ inl a ↦ cc (o a) | inr b ↦ second_on x y f j s b m e ]

  word_off : (v : LinkWord) → (k ≡ alpha → v.second ≡ None) → (x y : ℕ) → IsStill k Live L N x → y ≢ 0 → through L v x ≡ y → through N v x ≡ y
  word_off v one x y s m = go v.first v.second one
    where
      go : (f : ℕ) (j : Option ℕ) → (k ≡ alpha → j ≡ None) → through_second L j (L f x) ≡ y → through_second N j (N f x) ≡ y
      go f None o e = s.same f ∙ e
      go f (Some j) o e = elim (kind_case k) [ inl a ↦ cc (o a) | inr b ↦ second_off x y f j s b m e ]

  one_word : (i : ℕ) (v : LinkWord) → IsCellWord k i v → k ≡ alpha → v.second ≡ None
  one_word i v c a = alpha_second i v (subst (λ q. IsCellWord q i v) a c)

  module _ (i d : ℕ) (all : (x : ℕ) → InCell k N i d x → IsStill k Live L N x) where
    to_old : {x : ℕ} → InOrbit (Leads N (IsCellWord k i)) d x → InCell k L i d x
    to_old here = here
    to_old (onward {x = x} {y = y} o s) = onward (to_old o) (s.0, s.1, word_on s.0 (one_word i s.0 s.1) x y (all x o) s.3 s.2, s.3)

    to_new : {x : ℕ} → InOrbit (Leads L (IsCellWord k i)) d x → InCell k N i d x
    to_new here = here
    to_new (onward {x = x} {y = y} o s) = onward (to_new o) (s.0, s.1, word_off s.0 (one_word i s.0 s.1) x y (all x (to_new o)) s.3 s.2, s.3)

  -- the darts of a new cell of a live dart live
  pub cell_live : (LiveAfter : ℕ → Type 0) → LeadsToLive LiveAfter N → (i d : ℕ) → LiveAfter d → {x : ℕ} → InOrbit (Leads N (IsCellWord k i)) d x → LiveAfter x
  cell_live LiveAfter leads i d l here = l
  cell_live LiveAfter leads i d l (onward {x = x} {y = y} o s) = go s.0.first s.0.second s.2
    where
      go : (f : ℕ) (j : Option ℕ) → through_second N j (N f x) ≡ y → LiveAfter y
      go f None e = subst LiveAfter e (leads f x (λ z. s.3 (sym e ∙ z)))
      go f (Some j) e = subst LiveAfter e (leads j (N f x) (λ z. s.3 (sym e ∙ z)))

  -- a set that holds the touched darts touches each dimension
  pub touched_touch : (LiveAfter : ℕ → Type 0) (T : ℕ → Type 0) → ((x : ℕ) → Live x ⊎ (Live x → ⊥)) → LeadsToLive LiveAfter N → ((x : ℕ) → IsTouched k L Live N LiveAfter x → T x) → (i : ℕ) → Touches k i L Live N LiveAfter T
  touched_touch LiveAfter T decide leads holds i d l none = record { lived = λ x h. (all x h).lived; same = λ x. (to_old i d all, to_new i d all) }
    where
      all : (x : ℕ) → InCell k N i d x → IsStill k Live L N x
      all x h = still k Live L N x (decide x) (λ r. none x h (holds x (cell_live LiveAfter leads i d l h, r)))

  -- a dart that is not rerouted: each word of the i-cells leads where it led
  record IsUnmoved (i x : ℕ) : Type 0 where
    lived : Live x
    same : (v : LinkWord) → IsCellWord k i v → through N v x ≡ through L v x

  unmoved : (i x : ℕ) → Live x ⊎ (Live x → ⊥) → ((Live x → ⊥) ⊎ IsRerouted k i L N x → ⊥) → IsUnmoved i x
  unmoved i x decided n = record { lived = lived decided; same = λ v c. stable _ _ (λ m. n (inr (v, c, m))) }
    where
      lived : Live x ⊎ (Live x → ⊥) → Live x
      lived (inl l) = l
      lived (inr m) = absurd (n (inl m))

  module _ (i d : ℕ) (all : (x : ℕ) → InCell k N i d x → IsUnmoved i x) where
    into_old : {x : ℕ} → InOrbit (Leads N (IsCellWord k i)) d x → InCell k L i d x
    into_old here = here
    into_old (onward {x = x} o s) = onward (into_old o) (s.0, s.1, sym ((all x o).same s.0 s.1) ∙ s.2, s.3)

    into_new : {x : ℕ} → InOrbit (Leads L (IsCellWord k i)) d x → InCell k N i d x
    into_new here = here
    into_new (onward {x = x} o s) = onward (into_new o) (s.0, s.1, (all x (into_new o)).same s.0 s.1 ∙ s.2, s.3)

  -- a set that holds the darts touched in a dimension touches it
  pub rerouted_touch : (LiveAfter : ℕ → Type 0) (T : ℕ → Type 0) → ((x : ℕ) → Live x ⊎ (Live x → ⊥)) → LeadsToLive LiveAfter N → (i : ℕ)
      → ((x : ℕ) → IsTouchedIn k i L Live N LiveAfter x → T x) → Touches k i L Live N LiveAfter T
  rerouted_touch LiveAfter T decide leads i holds d l none = record { lived = λ x h. (all x h).lived; same = λ x. (into_old i d all, into_new i d all) }
    where
      all : (x : ℕ) → InCell k N i d x → IsUnmoved i x
      all x h = unmoved i x (decide x) (λ r. none x h (holds x (cell_live LiveAfter leads i d l h, r)))
