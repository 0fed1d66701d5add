-- The darts of a cell that can be removed or contracted can end.
use Rattle.std.proofs.Common.{ℕ, suc, ◌≡◌, ◌≢◌, ◌+◌, ◌⊎◌, ◌↔◌, List, Contains, refl, subst, inl, inr, arith}
use Rattle.std.specs.Prelude.{All}
use Rattle.std.specs.List.Sorted.{IsStrictlyIncreasing}
use Rattle.map_defs.specs.Kind.{alpha, beta}
use Rattle.map_defs.specs.Links.{Links}
use Rattle.map_defs.specs.Laws.{Laws}
use Rattle.map_defs.specs.Rows.{Rows, links_of, made, IsLive, IsSound}
use Rattle.map_defs.specs.LinkWords.{IsCellWord}
use Rattle.map_defs.specs.Cells.{InCell, Leads}
use Rattle.map_defs.specs.Edits.{Edit}
use Rattle.map_defs.specs.Removal.{IsBridged, IsRemovable}
use Rattle.map_defs.specs.Contraction.{IsContractible}
use Rattle.link_laws.proofs.CellFacts.{alpha_closed}
use Rattle.link_laws.proofs.RowFacts.{rows_made}
use Rattle.remove_laws.proofs.Ends.{removal_found, contraction_found}
use Rattle.remove_laws.proofs.Removed.{removed_laws, contracted_laws}
use Rattle.cell_edit.specs.Bridging.{across, CanEnd}
use Rattle.cell_edit.specs.Removing.{PlansEnding}
use Rattle.cell_edit.proofs.Premises.{orbit-live, leads-live, live-dart, all-live}
use Rattle.cell_edit.proofs.WalkTurns.{listed-told, walk-same}

-- ---- other words for the same set
pub bridged-of : (i : ℕ) (C D : ℕ → Type 0) (Step : ℕ → ℕ) (L N : Links) → ((x : ℕ) → C x ↔ D x) → IsBridged alpha i C Step L N → IsBridged alpha i D Step L N
bridged-of i C D Step L N same b = record {
  gone = λ x t h. b.gone x t ((same x).1 h);
  nothing = b.nothing;
  kept = λ x t n. b.kept x t (λ h. n ((same x).0 h));
  lands = λ x y n w. b.lands x y (λ h. n ((same x).0 h)) (walk-same D C Step (λ z. ((same z).1, (same z).0)) w);
  turned = b.turned;
}

pub ends-of : (n : ℕ) (rows : Rows) (i : ℕ) (C D : ℕ → Type 0) (Step : ℕ → ℕ) (e : Edit) → ((x : ℕ) → C x ↔ D x)
    → PlansEnding alpha n rows C (λ N. IsBridged alpha i C Step (links_of rows) N) e → PlansEnding alpha n rows D (λ N. IsBridged alpha i D Step (links_of rows) N) e
ends-of n rows i C D Step e same done = record {
  births = done.births;
  members = λ x. ((λ h. (same x).0 ((done.members x).0 h)), λ h. (done.members x).1 ((same x).1 h));
  ascending = done.ascending;
  fits = done.fits;
  becomes = bridged-of i C D Step (links_of rows) _ same done.becomes;
  laws = done.laws;
}

module _ (n : ℕ) (rows : Rows) (sound : IsSound alpha n rows) (w : Laws alpha (links_of rows)) (i d : ℕ) (live : IsLive rows d) (keys : List ℕ)
    (members : (x : ℕ) → Contains keys x ↔ InCell alpha (links_of rows) i d x) (up : IsStrictlyIncreasing keys) where
  back : (x : ℕ) → InCell alpha (links_of rows) i d x ↔ Contains keys x
  back x = ((members x).1, (members x).0)

  told : (x : ℕ) → InCell alpha (links_of rows) i d x ⊎ (InCell alpha (links_of rows) i d x → ⊥)
  told x = elim (listed-told keys x) [ inl has ↦ inl ((members x).0 has) | inr out ↦ inr (λ h. out ((members x).1 h)) ]

  cell_live : (x : ℕ) → InCell alpha (links_of rows) i d x → IsLive rows x
  cell_live x h = orbit-live (Leads (links_of rows) (IsCellWord alpha i)) rows (leads-live alpha n rows sound (IsCellWord alpha i)) d x live h

  lives : All (λ (x : ℕ). IsLive rows x) keys
  lives = all-live rows (InCell alpha (links_of rows) i d) keys members cell_live

  dart : d ≢ 0
  dart = live-dart alpha n rows sound d live

  pub removal-ends : IsRemovable alpha (links_of rows) i d → CanEnd alpha rows i (i + 1) keys
  removal-ends r = subst (λ a. CanEnd alpha rows i a keys) (let e : suc i ≡ i + 1 = omega arith in e) (record {
    own = refl;
    ascending = up;
    live = lives;
    closed = λ x j has other some. (members _).1 (alpha_closed (links_of rows) i j d x other ((members x).0 has) some);
    ends = λ x out.
        let e = removal_found (made rows) d (links_of rows) (rows_made rows) dart alpha i w (λ k. absurd (alpha-not k)) r told x (λ h. out ((members x).1 h)) in
        (e.0, walk-same (InCell alpha (links_of rows) i d) (Contains keys) (across alpha (links_of rows) i (suc i)) back e.1);
    keeps = λ N b. removed_laws alpha (made rows) i d (links_of rows) N w (rows_made rows) dart r
        (bridged-of i (Contains keys) (InCell alpha (links_of rows) i d) (across alpha (links_of rows) i (suc i)) (links_of rows) N members b);
  })
    where
      alpha-not : alpha ≡ beta → ⊥
      alpha-not e = cc (e)

-- a contraction is of an edge at least
module _ (n : ℕ) (rows : Rows) (sound : IsSound alpha n rows) (w : Laws alpha (links_of rows)) (i d : ℕ) (live : IsLive rows d) (keys : List ℕ)
    (members : (x : ℕ) → Contains keys x ↔ InCell alpha (links_of rows) (suc i) d x) (up : IsStrictlyIncreasing keys) where
  pub contraction-ends : IsContractible alpha (links_of rows) (suc i) d → CanEnd alpha rows (suc i) i keys
  contraction-ends r = record {
    own = refl;
    ascending = up;
    live = lives n rows sound w (suc i) d live keys members up;
    closed = λ x j has other some. (members _).1 (alpha_closed (links_of rows) (suc i) j d x other ((members x).0 has) some);
    ends = λ x out.
        let e = contraction_found (made rows) d (links_of rows) (rows_made rows) (dart n rows sound w (suc i) d live keys members up) alpha (suc i) w r (told n rows sound w (suc i) d live keys members up) x (λ h. out ((members x).1 h)) in
        (e.0, walk-same (InCell alpha (links_of rows) (suc i) d) (Contains keys) (across alpha (links_of rows) (suc i) i) (back n rows sound w (suc i) d live keys members up) e.1);
    keeps = λ N b. contracted_laws alpha (made rows) (suc i) d (links_of rows) N w (rows_made rows) (dart n rows sound w (suc i) d live keys members up) r
        (bridged-of (suc i) (Contains keys) (InCell alpha (links_of rows) (suc i) d) (across alpha (links_of rows) (suc i) i) (links_of rows) N members b);
  }
