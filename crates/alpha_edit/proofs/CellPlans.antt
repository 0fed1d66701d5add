-- A cell told by the list of its darts: whether it can be removed or contracted, and the edits that do so.
use Rattle.std.proofs.Common.{ℕ, zero, suc, ◌≡◌, ◌≢◌, ◌+◌, ◌-◌, ◌≤◌, ◌↔◌, Bool, true, false, List, length, Contains, refl, sym, ◌∙◌, subst, arith}
use Rattle.std.proofs.lemmas.Bool.{false≢true}
use Rattle.std.proofs.lemmas.List.Elements.{Contains-get_or}
use Rattle.map_defs.specs.Kind.{alpha}
use Rattle.map_defs.specs.Links.{Links}
use Rattle.map_defs.specs.Laws.{Laws}
use Rattle.map_defs.specs.Rows.{Rows, links_of, IsLive, IsSound}
use Rattle.map_defs.specs.Cells.{InCell, here}
use Rattle.map_defs.specs.Edits.{Edit}
use Rattle.map_defs.specs.Removal.{CommutesAt, IsBridged, IsRemovable, IsRemoved}
use Rattle.map_defs.specs.Contraction.{IsContractibleAt, IsContractible, IsContracted}
use Rattle.std.specs.List.Sorted.{IsStrictlyIncreasing}
use Rattle.cell_edit.specs.Bridging.{across, CanEnd}
use Rattle.cell_edit.specs.Removing.{PlansEnding}
use Rattle.cell_edit.proofs.Commuting.{commutes-at}
use Rattle.alpha_edit.proofs.CellEnds.{ends-of, contraction-ends}

-- a cell has a dart
pub some-listed : (keys : List ℕ) (x : ℕ) → Contains keys x → 1 ≤ length keys
some-listed keys x has = omega (arith, has.1)

module _ (L : Links) (d : ℕ) (keys : List ℕ) where
  pub removable-tells : (i : ℕ) (r : Bool) → ((x : ℕ) → Contains keys x ↔ InCell alpha L i d x) → ((r ≡ true) ↔ ((b : ℕ) → Contains keys b → CommutesAt L (i + 1) (i + 2) b))
      → (r ≡ true) ↔ IsRemovable alpha L i d
  removable-tells i r members tells = (
    λ e. record {
      each = λ b h. commutes-at L (i + 1) (i + 2) (suc i) (suc (suc i)) b (omega arith) (omega arith) (tells.0 e b ((members b).1 h));
      apart = tt;
    },
    λ can. tells.1 (λ b has. commutes-at L (suc i) (suc (suc i)) (i + 1) (i + 2) b (omega arith) (omega arith) (can.each b ((members b).0 has))),
  )

  pub contractible-tells : (i : ℕ) (r : Bool) → ((x : ℕ) → Contains keys x ↔ InCell alpha L i d x) → ((r ≡ true) ↔ ((b : ℕ) → Contains keys b → IsContractibleAt alpha L i b))
      → (r ≡ true) ↔ IsContractible alpha L i d
  contractible-tells i r members tells = (
    λ e. record { each = λ b h. tells.0 e b ((members b).1 h); apart = tt },
    λ can. tells.1 (λ b has. can.each b ((members b).0 has)),
  )

-- whether listed darts meet the condition of contraction
module _ (L : Links) (keys : List ℕ) where
  pub vertex-never : 1 ≤ length keys → (r : Bool) → r ≡ false → (r ≡ true) ↔ ((b : ℕ) → Contains keys b → IsContractibleAt alpha L 0 b)
  vertex-never some r is = ((λ e. absurd (false≢true (sym is ∙ e))), λ all. absurd (all _ (Contains-get_or keys 0 0 (omega arith))))

  pub above-tells : (i : ℕ) (r : Bool) → i ≢ 0 → i ≢ 1 → ((r ≡ true) ↔ ((b : ℕ) → Contains keys b → CommutesAt L (i - 1) (i - 2) b))
      → (r ≡ true) ↔ ((b : ℕ) → Contains keys b → IsContractibleAt alpha L i b)
  above-tells zero r some more tells = absurd (some refl)
  above-tells (suc zero) r some more tells = absurd (more refl)
  above-tells (suc (suc i)) r some more tells = (
    λ e b has. commutes-at L (suc (suc i) - 1) (suc (suc i) - 2) (suc i) i b (omega arith) (omega arith) (tells.0 e b has),
    λ all. tells.1 (λ b has. commutes-at L (suc i) i (suc (suc i) - 1) (suc (suc i) - 2) b (omega arith) (omega arith) (all b has)),
  )

-- the edit that ends the darts of a cell removes it, or contracts it
module _ (n : ℕ) (rows : Rows) (d : ℕ) (keys : List ℕ) (e : Edit) where
  pub removed-ends : (i : ℕ) → ((x : ℕ) → Contains keys x ↔ InCell alpha (links_of rows) i d x)
      → PlansEnding alpha n rows (Contains keys) (λ N. IsBridged alpha i (Contains keys) (across alpha (links_of rows) i (i + 1)) (links_of rows) N) e
      → PlansEnding alpha n rows (InCell alpha (links_of rows) i d) (λ N. IsRemoved alpha i d (links_of rows) N) e
  removed-ends i members done =
      ends-of n rows i (Contains keys) (InCell alpha (links_of rows) i d) (across alpha (links_of rows) i (suc i)) e members
      (subst (λ a. PlansEnding alpha n rows (Contains keys) (λ N. IsBridged alpha i (Contains keys) (across alpha (links_of rows) i a) (links_of rows) N) e) (let f : i + 1 ≡ suc i = omega arith in f) done)

  pub contracted-ends : (i : ℕ) → i ≢ 0 → ((x : ℕ) → Contains keys x ↔ InCell alpha (links_of rows) i d x)
      → PlansEnding alpha n rows (Contains keys) (λ N. IsBridged alpha i (Contains keys) (across alpha (links_of rows) i (i - 1)) (links_of rows) N) e
      → PlansEnding alpha n rows (InCell alpha (links_of rows) i d) (λ N. IsContracted alpha i d (links_of rows) N) e
  contracted-ends zero some members done = absurd (some refl)
  contracted-ends (suc i) some members done =
      ends-of n rows (suc i) (Contains keys) (InCell alpha (links_of rows) (suc i) d) (across alpha (links_of rows) (suc i) i) e members
      (subst (λ a. PlansEnding alpha n rows (Contains keys) (λ N. IsBridged alpha (suc i) (Contains keys) (across alpha (links_of rows) (suc i) a) (links_of rows) N) e) (let f : suc i - 1 ≡ i = omega arith in f) done)

-- a vertex is never contracted
pub above-vertex : (L : Links) (i d : ℕ) → IsContractible alpha L i d → i ≢ 0
above-vertex L zero d can is = can.each d here
above-vertex L (suc i) d can is = omega arith

pub contraction-can : (n : ℕ) (rows : Rows) → IsSound alpha n rows → Laws alpha (links_of rows) → (i d : ℕ) → IsLive rows d → (keys : List ℕ) → ((x : ℕ) → Contains keys x ↔ InCell alpha (links_of rows) i d x)
    → IsStrictlyIncreasing keys → IsContractible alpha (links_of rows) i d → CanEnd alpha rows i (i - 1) keys
contraction-can n rows sound w zero d live keys members up can = absurd (can.each d here)
contraction-can n rows sound w (suc i) d live keys members up can =
    subst (λ a. CanEnd alpha rows (suc i) a keys) (let f : i ≡ suc i - 1 = omega arith in f) (contraction-ends n rows sound w i d live keys members up can)
