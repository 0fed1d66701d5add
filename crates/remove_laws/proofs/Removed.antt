-- Removal and contraction keep the laws, for each kind and every dimension of cell.
use Rattle.std.proofs.Common.{◌≢◌, ◌+◌, ℕ, zero, suc, inl, inr, refl, sym, ap, arith}
use Rattle.map_defs.specs.Kind.{Kind, alpha, beta}
use Rattle.map_defs.specs.Links.{Links, IsMadeUpTo}
use Rattle.map_defs.specs.Laws.{Laws}
use Rattle.map_defs.specs.LinkWords.{two_links}
use Rattle.map_defs.specs.Cells.{InCell}
use Rattle.map_defs.specs.Removal.{IsRemovable, IsRemoved}
use Rattle.map_defs.specs.Contraction.{IsContractible, IsContracted}
use Rattle.link_laws.proofs.Basics.{inverse_own}
use Rattle.link_laws.proofs.CellFacts.{orbit_nonzero, orbit_bounded, by_two_links}
use Rattle.remove_laws.proofs.AlphaRemoval.{alpha_removed, alpha_contracted}
use Rattle.remove_laws.proofs.BetaRemoval.{beta_removed, beta_contracted}
use Rattle.remove_laws.proofs.Smoothed.{CanBeSmoothed}
use Rattle.remove_laws.proofs.SmoothedLaws.{smoothed_laws}

module _ (L : Links) (w : Laws beta L) (made d : ℕ) (live : d ≢ 0) (bound : IsMadeUpTo made L) (r : IsRemovable beta L 0 d) where
  pub vertex_smoothed : CanBeSmoothed (made + d) (InCell beta L 0 d) L
  vertex_smoothed = record {
    laws = w;
    nowhere = λ h. orbit_nonzero L _ live h refl;
    bounded = λ x h. orbit_bounded beta L w made bound _ h;
    linked = λ x h. (let g = bound 1 x h in omega arith);
    around = λ j c h k m. by_two_links beta L 0 j 1 d c (inl (1, j, omega arith, omega arith, refl)) k m;
    around_back = λ j c h k m. by_two_links beta L 0 0 j d c (inr (two_links j 1, (1, j, omega arith, omega arith, refl), ap (two_links 0) (sym (inverse_own beta j h)))) k m;
    flat = r.each;
  }

  pub vertex_removed : (N : Links) → IsRemoved beta 0 d L N → Laws beta N
  vertex_removed N b = smoothed_laws (made + d) (InCell beta L 0 d) L N vertex_smoothed b r.apart

pub removed_laws : (k : Kind) (made i d : ℕ) (L N : Links) → Laws k L → IsMadeUpTo made L → d ≢ 0 → IsRemovable k L i d → IsRemoved k i d L N → Laws k N
removed_laws alpha made i d L N w bound live r b = alpha_removed L N w made i d bound live r b
removed_laws beta made zero d L N w bound live r b = vertex_removed L w made d live bound r N b
removed_laws beta made (suc i) d L N w bound live r b = beta_removed L w made d live bound N i r b

pub contracted_laws : (k : Kind) (made i d : ℕ) (L N : Links) → Laws k L → IsMadeUpTo made L → d ≢ 0 → IsContractible k L i d → IsContracted k i d L N → Laws k N
contracted_laws alpha made i d L N w bound live r b = alpha_contracted L N w made i d bound live r b
contracted_laws beta made i d L N w bound live r b = beta_contracted L w made d live bound N i r b
