-- The darts of a cell, told by a list of them: the same set in other words.
use Rattle.std.proofs.Common.{ℕ, ◌↔◌, inl, inr, List, Contains, refl}
use Rattle.map_defs.specs.Kind.{Kind, beta}
use Rattle.map_defs.specs.Links.{Links}
use Rattle.map_defs.specs.Rows.{Rows}
use Rattle.map_defs.specs.Edits.{Edit}
use Rattle.map_defs.specs.Cells.{InCell}
use Rattle.map_defs.specs.Walks.{IsTold}
use Rattle.map_defs.specs.Removal.{IsBridged, JoinsNoDart}
use Rattle.link_laws.proofs.CellFacts.{orbit_nonzero}
use Rattle.cell_edit.specs.Removing.{PlansEnding}
use Rattle.cell_edit.proofs.WalkTurns.{listed-told, walk-same}
use Rattle.beta_edit.specs.Crossing.{IsCellOf}

pub turn-same : (C D : ℕ → Type 0) → ((x : ℕ) → C x ↔ D x) → (x : ℕ) → D x ↔ C x
turn-same C D same x = ((same x).1, (same x).0)

pub joins-same : (C D : ℕ → Type 0) (L : Links) (i : ℕ) (st : ℕ → ℕ) → ((x : ℕ) → C x ↔ D x) → JoinsNoDart L i C st → JoinsNoDart L i D st
joins-same C D L i st same joins x dart out walk = joins x dart (λ h. out ((same x).0 h)) (walk-same D C st (turn-same C D same) walk)

pub told-same : (C D : ℕ → Type 0) → ((x : ℕ) → C x ↔ D x) → IsTold C → IsTold D
told-same C D same told x = elim (told x) [ inl h ↦ inl ((same x).0 h) | inr out ↦ inr (λ h. out ((same x).1 h)) ]

pub cell-told : (L : Links) (i d : ℕ) (keys : List ℕ) → ((x : ℕ) → Contains keys x ↔ InCell beta L i d x) → IsTold (InCell beta L i d)
cell-told L i d keys members = told-same (Contains keys) (InCell beta L i d) members (listed-told keys)

-- 0 is not among them
pub cell-nothing : (L : Links) (i d : ℕ) (keys : List ℕ) → IsCellOf L i keys d → Contains keys 0 → ⊥
cell-nothing L i d keys cell has = orbit_nonzero L _ cell.0 ((cell.1 0).0 has) refl

pub bridged-of : (k : Kind) (i : ℕ) (C D : ℕ → Type 0) (Step : ℕ → ℕ) (L N : Links) → ((x : ℕ) → C x ↔ D x) → IsBridged k i C Step L N → IsBridged k i D Step L N
bridged-of k i C D Step L N same b = record {
  gone = λ x t h. b.gone x t ((same x).1 h);
  nothing = b.nothing;
  kept = λ x t n. b.kept x t (λ h. n ((same x).0 h));
  lands = λ x y n w. b.lands x y (λ h. n ((same x).0 h)) (walk-same D C Step (turn-same C D same) w);
  turned = b.turned;
}

-- an edit that ends the darts of C ends those of D, and makes of the links what follows from what it makes of them
pub ends-of : (k : Kind) (n : ℕ) (rows : Rows) (C D : ℕ → Type 0) (P Q : Links → Type 0) (e : Edit) → ((x : ℕ) → C x ↔ D x) → ((N : Links) → P N → Q N)
    → PlansEnding k n rows C P e → PlansEnding k n rows D Q e
ends-of k n rows C D P Q e same then done = record {
  births = done.births;
  members = λ x. ((λ h. (same x).0 ((done.members x).0 h)), λ h. (done.members x).1 ((same x).1 h));
  ascending = done.ascending;
  fits = done.fits;
  becomes = then _ done.becomes;
  laws = done.laws;
}
