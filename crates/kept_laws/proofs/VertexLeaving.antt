-- Where other darts keep their links from 2 upwards, and link 1 leads as before or over a new dart, vertices of a combinatorial map
-- are kept if the steps from new darts tell so.
use Rattle.std.proofs.Common.{ℕ, ◌≡◌, ◌≢◌, ◌<◌, ◌≤◌, ◌⊎◌, refl, ap, inl, inr, ◌∙◌, arith, List}
use Rattle.map_defs.specs.Kind.{beta}
use Rattle.map_defs.specs.Links.{Links, LeadsToLive}
use Rattle.map_defs.specs.Laws.{Laws}
use Rattle.map_defs.specs.Walks.{IsTold}
use Rattle.map_defs.specs.Cells.{InCell}
use Rattle.map_defs.specs.Births.{IsNumbered, IsCounted}
use Rattle.link_laws.proofs.Basics.{same_or_not}
use Rattle.link_laws.proofs.LawFacts.{dart_of_link}
use Rattle.insert_laws.proofs.Numbers.{numbered_above}
use Rattle.insert_laws.proofs.ClosedFree.{live_bound}
use Rattle.kept_laws.specs.Keeping.{KeepsCells, LieAside}
use Rattle.kept_laws.proofs.LiveDarts.{link-low}
use Rattle.kept_laws.proofs.Frames.{StandsFor, Reaches, reaches-old, reaches-new}
use Rattle.kept_laws.proofs.VertexSteps.{vertex-trans, around-in, leave-in}
use Rattle.kept_laws.proofs.VertexFrame.{IsOther, low-other, keeps-by-words}

-- Link 1 of x leads to a new dart that stands for the dart to which it led, and from there links 2 and 1 lead to that dart.
pub record LeadsOver (L N : Links) (K : ℕ → Type 0) (star : ℕ → ℕ) (Beside : ℕ → ℕ → Type 0) (x : ℕ) : Type 0 where
  pub over : ℕ
  pub gets : K over
  pub into : N 1 x ≡ star over
  pub stands : Beside over (L 1 x)
  pub led : L 1 x ≢ 0
  pub out : N 1 (N 2 (star over)) ≡ L 1 x

module _ (Live : ℕ → Type 0) (made : ℕ) (counted : IsCounted made Live) (L N : Links) (to : LeadsToLive Live L)
    (w : Laws beta L) (v : Laws beta N) (K : ℕ → Type 0) (keys : List ℕ) (star : ℕ → ℕ)
    (numbers : IsNumbered K keys made star) (Aside : ℕ → Type 0) (Beside : ℕ → ℕ → Type 0)
    (low-aside : (x : ℕ) → x ≤ made → Aside x → ⊥) (high : (j x : ℕ) → 2 ≤ j → IsOther K star Aside x → N j x ≡ L j x)
    (one : (x : ℕ) → IsOther K star Aside x → (N 1 x ≡ L 1 x) ⊎ LeadsOver L N K star Beside x) where
  -- y stands for a dart of the old vertex of u
  abbrev Stood : ℕ → ℕ → Type 0
  Stood = Reaches beta 0 L (StandsFor (IsOther K star Aside) K star Beside)

  -- no link of an old dart leads to a new one
  still : (t x : ℕ) → IsOther K star Aside (L t x)
  still t x = low-other K keys made star numbers Aside low-aside (L t x) (link-low Live L to made counted t x)

  -- a dart that an old link leads from is not new
  linked : (t x : ℕ) → L t x ≢ 0 → IsOther K star Aside x
  linked t x n = low-other K keys made star numbers Aside low-aside x (live_bound beta L w Live to made counted t x n)

  -- a new step over link 1
  leave : (z j : ℕ) → IsOther K star Aside z → 2 ≤ j → N 1 (N j z) ≢ 0 → Stood z (N 1 (N j z))
  leave z j o l n = from (one (L j z) (still j z))
    where
      first : N 1 (N j z) ≡ N 1 (L j z)
      first = ap (N 1) (high j z l o)

      from : (N 1 (L j z) ≡ L 1 (L j z)) ⊎ LeadsOver L N K star Beside (L j z) → Stood z (N 1 (N j z))
      from (inl e) = reaches-old beta 0 L (IsOther K star Aside) K star Beside z _ (L 1 (L j z)) (first ∙ e) (still 1 (L j z))
          (leave-in L z j (L 1 (L j z)) l refl (λ q. n (first ∙ (e ∙ q))))
      from (inr r) = reaches-new beta 0 L (IsOther K star Aside) K star Beside z _ r.over (L 1 (L j z)) (first ∙ r.into) r.gets r.stands
          (leave-in L z j (L 1 (L j z)) l refl r.led)

  -- each new step from a dart that is not new
  from-old : (z i j : ℕ) → IsOther K star Aside z → 1 ≤ i → i < j → N i (N j z) ≢ 0 → Stood z (N i (N j z))
  from-old z i j o a b n = from (same_or_not i 1)
    where
      from : (i ≡ 1) ⊎ (i ≢ 1) → Stood z (N i (N j z))
      from (inl e) = rw e (leave z j o (omega arith) (λ q. n (ap (λ t. N t (N j z)) e ∙ q)))
      from (inr m) =
          let e : N i (N j z) ≡ L i (L j z) = ap (N i) (high j z (omega arith) o) ∙ high i (L j z) (omega arith) (still j z) in
          reaches-old beta 0 L (IsOther K star Aside) K star Beside z _ (L i (L j z)) e (still i (L j z))
          (around-in L z i j (L i (L j z)) a b refl (λ q. n (e ∙ q)))

  -- each old step has a way
  old-step : (x i j : ℕ) → 1 ≤ i → i < j → L i (L j x) ≢ 0 → InCell beta N 0 x (L i (L j x))
  old-step x i j a b n = from (same_or_not i 1) (one (L j x) (still j x))
    where
      first : N j x ≡ L j x
      first = high j x (omega arith) (linked j x (dart_of_link beta L w i (L j x) n))

      plain : N i (L j x) ≡ L i (L j x) → InCell beta N 0 x (L i (L j x))
      plain e = around-in N x i j (L i (L j x)) a b (ap (N i) first ∙ e) n

      from : (i ≡ 1) ⊎ (i ≢ 1) → (N 1 (L j x) ≡ L 1 (L j x)) ⊎ LeadsOver L N K star Beside (L j x) → InCell beta N 0 x (L i (L j x))
      from (inl i1) (inl e) = plain (rw i1 e)
      from (inl i1) (inr r) =
          let above : made < star r.over = numbered_above K keys made star numbers r.over r.gets in
          let new : star r.over ≢ 0 = λ q. omega arith in
          rw i1 (vertex-trans N x (star r.over) (L 1 (L j x))
          (leave-in N x j (star r.over) (omega arith) (ap (N 1) first ∙ r.into) new)
          (leave-in N (star r.over) 2 (L 1 (L j x)) (omega arith) r.out r.led))
      from (inr m) r = plain (high i (L j x) (omega arith) (still j x))

  -- so the vertices are kept, and the darts aside lie at vertices of their own
  pub keeps-by-leaving : IsTold Aside → ((c : ℕ) → K c → Aside (star c) → ⊥)
      → ((c a b : ℕ) → K c → Beside c a → Beside c b → InCell beta L 0 a b)
      → ((c i j : ℕ) → K c → 1 ≤ i → i < j → N i (N j (star c)) ≢ 0 → (u : ℕ) × Beside c u × Stood u (N i (N j (star c))))
      → ((z i j : ℕ) → Aside z → 1 ≤ i → i < j → N i (N j z) ≢ 0 → Aside (N i (N j z)))
      → KeepsCells beta 0 Live L N × LieAside beta 0 Aside (λ x. x ≤ made) N
  keeps-by-leaving aside-or-not new-aside beside-one from-new from-aside =
      keeps-by-words Live made counted L N to w v K keys star numbers Aside Beside aside-or-not low-aside new-aside beside-one
      from-old from-new from-aside old-step
