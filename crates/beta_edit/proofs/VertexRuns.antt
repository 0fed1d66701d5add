-- Runs into a vertex whose edges are flat, as walks: along link 1, and beyond a link from 2 upwards along link 0.
use Rattle.std.proofs.Common.{ℕ, ◌≡◌, ◌≢◌, ◌+◌, ◌<◌, ◌≤◌, inl, inr, refl, sym, ap, ◌∙◌, subst, arith}
use Rattle.map_defs.specs.Kind.{beta}
use Rattle.map_defs.specs.Links.{Links, IsMadeUpTo, HasDimension}
use Rattle.map_defs.specs.Laws.{Laws}
use Rattle.map_defs.specs.LinkWords.{two_links}
use Rattle.map_defs.specs.Cells.{InCell}
use Rattle.map_defs.specs.Walks.{Walk, stop, go, IsTold}
use Rattle.map_defs.specs.Removal.{RunsTo, IsFlatAt, JoinsNoDart, StaysApartWithout}
use Rattle.link_laws.proofs.Basics.{same_or_not, inverse_own}
use Rattle.link_laws.proofs.CellFacts.{orbit_nonzero, orbit_bounded, by_two_links}
use Rattle.link_laws.proofs.LawFacts.{link_one}
use Rattle.link_laws.proofs.Walking.{walk_one, found}
use Rattle.remove_laws.proofs.Smoothed.{CanBeSmoothed, turned, free_on, beyond_out, run_found}

-- a vertex at which all edges are flat
pub flat-smoothed : (L : Links) → Laws beta L → (made d : ℕ) → d ≢ 0 → IsMadeUpTo made L → ((b : ℕ) → InCell beta L 0 d b → IsFlatAt L b) → CanBeSmoothed (made + d) (InCell beta L 0 d) L
flat-smoothed L w made d live bound flat = record {
  laws = w;
  nowhere = λ h. orbit_nonzero L _ live h refl;
  bounded = λ x h. orbit_bounded beta L w made bound _ h;
  linked = λ x h. (let g = bound 1 x h in omega arith);
  around = λ j c h k m. by_two_links beta L 0 j 1 d c (inl (1, j, omega arith, omega arith, refl)) k m;
  around_back = λ j c h k m. by_two_links beta L 0 0 j d c (inr (two_links j 1, (1, j, omega arith, omega arith, refl), ap (two_links 0) (sym (inverse_own beta j h)))) k m;
  flat = flat;
}

module _ (made : ℕ) (C : ℕ → Type 0) (L : Links) (c : CanBeSmoothed made C L) where
  pub run-one : {x y : ℕ} → RunsTo L C x y → Walk C (L 1) (L 1 x) (L 1 y)
  run-one (stop n) = stop n
  run-one (go k r) = go k (run-one r)

  ends-out : (j x : ℕ) → 2 ≤ j → (C (L 1 x) → ⊥) → C (L j x) → ⊥
  ends-out j x h n has = elim (same_or_not (L j x) 0) [
    | inl free ↦ c.nowhere (subst C free has)
    | inr some ↦ beyond_out made C L c j x x h (stop n) some has
  ]

  pub run-high : (j : ℕ) → 2 ≤ j → {x y : ℕ} → RunsTo L C x y → Walk C (L 0) (L j x) (L j y)
  run-high j h {x = x} (stop n) = stop (ends-out j x h n)
  run-high j h {x = x} {y = y} (go k r) = elim (same_or_not (L j x) 0) [
    | inl free ↦ (
        let there : L j y ≡ 0 = free_on made C L c j h (go k r) free in
        subst (λ z. Walk C (L 0) z (L j y)) (sym free) (subst (Walk C (L 0) 0) (sym there) (stop c.nowhere)))
    | inr some ↦ go (inside some) (subst (λ z. Walk C (L 0) z (L j y)) (sym (step some)) (run-high j h r))
  ]
    where
      before : L 0 (L 1 x) ≡ x
      before = c.laws.back 1 x (λ none. c.nowhere (subst C none k))

      around : L 1 (L j (L 1 x)) ≡ L j x
      around = turned made C L c j (L 1 x) h k ∙ ap (L j) before

      inside : L j x ≢ 0 → C (L j x)
      inside some = subst (λ z. C (L j z)) before (c.around_back j (L 1 x) h k (λ none. some (sym (ap (L j) before) ∙ none)))

      step : L j x ≢ 0 → L 0 (L j x) ≡ L j (L 1 x)
      step some = sym (ap (L 0) around) ∙ c.laws.back 1 (L j (L 1 x)) (λ none. some (sym around ∙ none))

  -- the way back along link 0 ends too
  pub back-found : IsTold C → (z : ℕ) → (C z → ⊥) → (y : ℕ) × Walk C (L 0) (L 0 z) y
  back-found told z out =
      found C (L 0) made (L 0 z) c.bounded (λ x y p q r e. link_one beta L c.laws 0 x y (c.flat x p).0 e)
      (λ b h e. out (subst C (link_one beta L c.laws 0 b z (c.flat b h).0 e) h)) told

  -- no remaining dart is joined to itself
  pub smooth-apart : ((j : ℕ) → 2 ≤ j → JoinsNoDart L j C (L 0)) → StaysApartWithout beta L 0 C
  smooth-apart joins j x y h dart out r e = joins j h x dart out (subst (Walk C (L 0) (L j x)) e (run-high j h r))

  pub apart-joins : IsTold C → StaysApartWithout beta L 0 C → (j : ℕ) → 2 ≤ j → JoinsNoDart L j C (L 0)
  apart-joins told stays j h x dart out walk =
      let run = run_found made C L c told x out in
      stays j x run.0 h dart out run.1 (walk_one (run-high j h run.1) walk)

  -- a link above the dimension joins none
  pub joins-above : (n : ℕ) → HasDimension n L → (st : ℕ → ℕ) (j : ℕ) → n < j → JoinsNoDart L j C st
  joins-above n dim st j above x dart out walk = dart (walk_one walk (subst (λ z. Walk C st z 0) (sym (dim j x above)) (stop c.nowhere)))
