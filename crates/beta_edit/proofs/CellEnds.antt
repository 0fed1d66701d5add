-- The darts of a cell: they live, and it is told which they are.
use Rattle.std.proofs.Common.{ℕ, ◌≢◌, ◌↔◌, List, Option, Contains}
use Rattle.std.specs.Prelude.{All}
use Rattle.std.specs.List.Sorted.{IsStrictlyIncreasing}
use Rattle.map_defs.specs.Kind.{beta}
use Rattle.map_defs.specs.Links.{Links}
use Rattle.map_defs.specs.Laws.{Laws}
use Rattle.map_defs.specs.Rows.{Rows, links_of, IsLive, IsSound}
use Rattle.map_defs.specs.LinkWords.{IsCellWord}
use Rattle.map_defs.specs.Cells.{InCell, Leads}
use Rattle.map_defs.specs.Walks.{Walk}
use Rattle.cell_edit.proofs.Premises.{orbit-live, leads-live, live-dart, all-live}
use Rattle.cell_edit.proofs.WalkTurns.{walk-same}
use Rattle.beta_edit.specs.Crossing.{drawn_step}
use Rattle.beta_edit.specs.Drawing.{IsDrawn, CanBeDrawn}
use Rattle.beta_edit.proofs.SameCells.{turn-same}

pub drawn-of : (C D : ℕ → Type 0) (Step : ℕ → ℕ → ℕ) (L N : Links) → ((x : ℕ) → C x ↔ D x) → IsDrawn C Step L N → IsDrawn D Step L N
drawn-of C D Step L N same b = record {
  gone = λ x t h. b.gone x t ((same x).1 h);
  nothing = b.nothing;
  lands = λ x y t n w. b.lands x y t (λ h. n ((same x).0 h)) (walk-same D C (Step t) (turn-same C D same) w);
}

module _ (n : ℕ) (rows : Rows) (sound : IsSound beta n rows) (i d : ℕ) (live : IsLive rows d) (keys : List ℕ) (members : (x : ℕ) → Contains keys x ↔ InCell beta (links_of rows) i d x) where
  cell_live : (x : ℕ) → InCell beta (links_of rows) i d x → IsLive rows x
  cell_live x h = orbit-live (Leads (links_of rows) (IsCellWord beta i)) rows (leads-live beta n rows sound (IsCellWord beta i)) d x live h

  pub lives : All (λ (x : ℕ). IsLive rows x) keys
  lives = all-live rows (InCell beta (links_of rows) i d) keys members cell_live

  pub dart : d ≢ 0
  dart = live-dart beta n rows sound d live

  pub out-of : (x : ℕ) → (Contains keys x → ⊥) → InCell beta (links_of rows) i d x → ⊥
  out-of x out h = out ((members x).1 h)

  -- darts that can end, where this is known of the cell
  pub can-draw : (beside : Option ℕ) → IsStrictlyIncreasing keys
      → ((x t : ℕ) → (InCell beta (links_of rows) i d x → ⊥) → (y : ℕ) × Walk (InCell beta (links_of rows) i d) (drawn_step (links_of rows) beside t) (links_of rows t x) y)
      → ((N : Links) → IsDrawn (InCell beta (links_of rows) i d) (drawn_step (links_of rows) beside) (links_of rows) N → Laws beta N) → CanBeDrawn rows beside keys
  can-draw beside up ends keeps = record {
    ascending = up;
    live = lives;
    ends = λ x t out.
        let e = ends x t (out-of x out) in
        (e.0, walk-same (InCell beta (links_of rows) i d) (Contains keys) (drawn_step (links_of rows) beside t) (turn-same (Contains keys) (InCell beta (links_of rows) i d) members) e.1);
    keeps = λ N b. keeps N (drawn-of (Contains keys) (InCell beta (links_of rows) i d) (drawn_step (links_of rows) beside) (links_of rows) N members b);
  }
