-- Cells of a generalized map that new darts beyond a link join: which old darts lie in one cell stays as it was.
use Rattle.std.proofs.Common.{ℕ, suc, ◌≡◌, ◌≢◌, ◌<◌, ◌≤◌, ◌⊎◌, refl, sym, ap, subst, inl, inr, ◌∙◌, arith, List}
use Rattle.map_defs.specs.Kind.{alpha, IsDistant}
use Rattle.map_defs.specs.Links.{Links, LeadsToLive}
use Rattle.map_defs.specs.Cells.{here, InCell}
use Rattle.map_defs.specs.Births.{IsNumbered, IsCounted}
use Rattle.map_defs.specs.Insertion.{IsJustBelow, IsCarrying}
use Rattle.link_laws.proofs.Basics.{same_or_not}
use Rattle.link_laws.proofs.CellOf.{all_alpha}
use Rattle.insert_laws.proofs.Numbers.{numbered_above}
use Rattle.insert_laws.proofs.Places.{IsBeside, same, next, below, far, link_cases}
use Rattle.kept_laws.specs.Keeping.{KeepsCells}
use Rattle.kept_laws.proofs.Numbered.{gets-or-not}
use Rattle.kept_laws.proofs.LiveDarts.{link-low}
use Rattle.kept_laws.proofs.CellSteps.{cell-step}
use Rattle.kept_laws.proofs.Frames.{Reaches, StandsLow, reaches-old, reaches-new, keeps-by-links}

-- New darts star x beyond link i of the darts x of K, as far as the j-cells of old darts need it.
pub record IsGrown (made : ℕ) (i j : ℕ) (K : ℕ → Type 0) (star : ℕ → ℕ) (L N : Links) : Type 0 where
  pub new : (x : ℕ) → K x → N i x ≡ star x
  pub old : (x : ℕ) → K x → N i (star x) ≡ x
  pub beyond : (x : ℕ) → K x → N (suc i) (star x) ≡ star (L i x)
  -- the link before, if the cells run along it, joins new darts whose old darts lie in one old cell
  pub before : (x t : ℕ) → K x → IsJustBelow alpha i t → t ≢ j → N t (star x) ≢ 0
      → (y : ℕ) × K y × InCell alpha L j x y × (N t (star x) ≡ star y)
  pub along : (x t : ℕ) → K x → IsDistant alpha i t → N t (star x) ≡ star (L t x)
  pub kept : (x t : ℕ) → x ≤ made → (K x → t ≢ i) → N t x ≡ L t x

module _ (Live : ℕ → Type 0) (made : ℕ) (counted : IsCounted made Live) (L N : Links) (live : LeadsToLive Live L) (i j : ℕ)
    (K : ℕ → Type 0) (keys : List ℕ) (star : ℕ → ℕ) (numbers : IsNumbered K keys made star)
    (lives : (x : ℕ) → K x → Live x) (carried : (x t : ℕ) → K x → IsCarrying alpha i t → L t x ≢ 0 → K (L t x))
    (grown : IsGrown made i j K star L N) (other : i ≢ j) (next-other : suc i ≢ j) where
  -- a new dart is a dart
  star-dart : (x : ℕ) → K x → star x ≢ 0
  star-dart x h z = let above : made < star x = numbered_above K keys made star numbers x h in omega arith

  -- the new dart of none is none
  old-dart : (u y : ℕ) → y ≢ 0 → y ≡ star u → u ≢ 0
  old-dart u y some e o = some (e ∙ (ap star o ∙ numbers.nothing))

  -- y stands for a dart of the old cell of u: a new dart for its old one
  abbrev Stood : ℕ → ℕ → Type 0
  Stood = Reaches alpha j L (StandsLow made K star)

  to-old : (u y v : ℕ) → y ≡ v → v ≤ made → InCell alpha L j u v → Stood u y
  to-old = reaches-old alpha j L (λ z. z ≤ made) K star (λ c u. c ≡ u)

  to-new : (u y c : ℕ) → y ≡ star c → K c → InCell alpha L j u c → Stood u y
  to-new u y c e h o = reaches-new alpha j L (λ z. z ≤ made) K star (λ c u. c ≡ u) u y c c e h refl o

  -- one old link leads on in the old cell, and one new link in the new one
  step-in : (M : Links) (t d x y : ℕ) → t ≢ j → InCell alpha M j d x → M t x ≡ y → y ≢ 0 → InCell alpha M j d y
  step-in = cell-step alpha j all_alpha

  -- a new step from an old dart
  from-old : (u y t : ℕ) → u ≤ made → t ≢ j → N t u ≡ y → y ≢ 0 → Stood u y
  from-old u y t o n e some = from (gets-or-not K keys made star numbers u) (same_or_not t i)
    where
      plain : (K u → t ≢ i) → Stood u y
      plain m =
          let a : y ≡ L t u = sym e ∙ grown.kept u t o m in
          to-old u y (L t u) a (link-low Live L live made counted t u) (step-in L t u u (L t u) n here refl (λ z. some (a ∙ z)))

      from : K u ⊎ (K u → ⊥) → (t ≡ i) ⊎ (t ≢ i) → Stood u y
      from (inl h) (inl q) = to-new u y u (sym e ∙ (ap (λ s. N s u) q ∙ grown.new u h)) h here
      from (inl h) (inr m) = plain (λ _. m)
      from (inr none) q = plain (λ h. absurd (none h))

  -- a new step from a new dart
  from-new : (c y t : ℕ) → K c → t ≢ j → N t (star c) ≡ y → y ≢ 0 → Stood c y
  from-new c y t h n e some = from (link_cases alpha i t refl)
    where
      from : IsBeside alpha i t → Stood c y
      from (same q) = to-old c y c (sym e ∙ (ap (λ s. N s (star c)) q ∙ grown.old c h)) (counted c (lives c h)).1 here
      from (next q) =
          let a : y ≡ star (L i c) = sym e ∙ (ap (λ s. N s (star c)) q ∙ grown.beyond c h) in
          let b : L i c ≢ 0 = old-dart (L i c) y some a in
          to-new c y (L i c) a (carried c i h (inl refl) b) (step-in L i c c (L i c) other here refl b)
      from (below b) =
          let q : (v : ℕ) × K v × InCell alpha L j c v × (N t (star c) ≡ star v) = grown.before c t h b n (λ z. some (sym e ∙ z)) in
          to-new c y q.0 (sym e ∙ q.3) q.1 q.2
      from (far f) =
          let a : y ≡ star (L t c) = sym e ∙ grown.along c t h f in
          let b : L t c ≢ 0 = old-dart (L t c) y some a in
          to-new c y (L t c) a (carried c t h (inr f) b) (step-in L t c c (L t c) n here refl b)

  -- three new links lead over two new darts to where link i led
  bridged : (x y : ℕ) → K x → L i x ≡ y → y ≢ 0 → InCell alpha N j x y
  bridged x y h e some =
      let g : K y = subst K e (carried x i h (inl refl) (λ z. some (sym e ∙ z))) in
      let one : InCell alpha N j x (star x) = step-in N i x x (star x) other here (grown.new x h) (star-dart x h) in
      let across : N (suc i) (star x) ≡ star y = grown.beyond x h ∙ ap star e in
      let two : InCell alpha N j x (star y) = step-in N (suc i) x (star x) (star y) next-other one across (star-dart y g) in
      step-in N i x (star y) y other two (grown.old y g) some

  -- an old step leads on, over new darts where it ran along link i
  up : (x y t : ℕ) → Live x → t ≢ j → L t x ≡ y → y ≢ 0 → InCell alpha N j x y
  up x y t l n e some = from (gets-or-not K keys made star numbers x) (same_or_not t i)
    where
      plain : (K x → t ≢ i) → InCell alpha N j x y
      plain m = step-in N t x x y n here (grown.kept x t (counted x l).1 m ∙ e) some

      from : K x ⊎ (K x → ⊥) → (t ≡ i) ⊎ (t ≢ i) → InCell alpha N j x y
      from (inl h) (inl q) = bridged x y h (ap (λ s. L s x) (sym q) ∙ e) some
      from (inl h) (inr m) = plain (λ _. m)
      from (inr none) q = plain (λ h. absurd (none h))

  -- so the j-cells are kept
  pub grown-keeps : KeepsCells alpha j Live L N
  grown-keeps = keeps-by-links alpha j all_alpha Live made counted L N live K keys star numbers from-old from-new up
