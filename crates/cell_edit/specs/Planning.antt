-- What the plans of edits answer, in one form for both kinds of map: the edit where it is possible, and why it is not.
-- Besides, memory may lack. In this order the causes of a refusal are looked for.
use Rattle.std.specs.Prelude.{ℕ, ◌≡◌, ◌⊎◌, ◌↔◌, List, Bool, Result, Ok, Err, IsTrue}
use Rattle.map_kind.specs.declared.refusal.Refusal.TheVariants as told
use Rattle.map_kind.specs.declared.refusal.Refused.{Refused}
use Rattle.map_kind.specs.declared.refusal.Refused.TheVariants as why
use Rattle.map_defs.specs.Kind.{Kind}
use Rattle.map_defs.specs.Rows.{Rows, links_of}
use Rattle.map_defs.specs.Edits.{Edit}
use Rattle.map_defs.specs.Cells.{InCell}
use Rattle.map_defs.specs.Insertion.{AreOnOneSide, FaceDarts, IsOnOneVolume, IsClosedPath, IsFacePaired, IsFace}
use Rattle.map_defs.specs.Inserting.{VertexDarts, IsVertex, InCorner, EdgeDarts, AreEdgePaired, IsEdge}
use Rattle.map_defs.specs.Removal.{IsRemovable, IsRemoved}
use Rattle.map_defs.specs.Contraction.{IsContractible, IsContracted}
use Rattle.cell_edit.specs.Inserting.{PlansInsertion}
use Rattle.cell_edit.specs.Removing.{PlansEnding}

-- a vertex on the edge of dart d: only memory may lack
abbrev pub PlansVertex : Kind → ℕ → Rows → ℕ → Edit → Type 0
PlansVertex k n rows d = PlansInsertion k n rows (VertexDarts k (links_of rows) d) (λ star. IsVertex k d star (links_of rows))

-- an edge from the corner of dart d to that of dart e
abbrev pub PlansEdge : Kind → ℕ → Rows → ℕ → ℕ → Result Edit Refused → Type 0
PlansEdge k n rows d e (Ok edit) =
    AreOnOneSide (links_of rows) d e × (InCorner k (links_of rows) d e → ⊥) × AreEdgePaired k (links_of rows) d e
    × PlansInsertion k n rows (EdgeDarts k (links_of rows) d e) (λ star. IsEdge k d e star (links_of rows)) edit
PlansEdge k n rows d e (Err (why.Line refusal)) =
    ((refusal ≡ told.OtherCell) × (AreOnOneSide (links_of rows) d e → ⊥))
    ⊎ ((refusal ≡ told.SameCorner) × AreOnOneSide (links_of rows) d e × InCorner k (links_of rows) d e)
    ⊎ ((refusal ≡ told.Unpaired) × AreOnOneSide (links_of rows) d e × (InCorner k (links_of rows) d e → ⊥)
    × (AreEdgePaired k (links_of rows) d e → ⊥))
PlansEdge k n rows d e (Err why.NoMemory) = Unit {0}

-- a face along a path
abbrev pub PlansFace : Kind → ℕ → Rows → List ℕ → Result Edit Refused → Type 0
PlansFace k n rows path (Ok edit) =
    IsOnOneVolume (links_of rows) path × IsClosedPath k (links_of rows) path × IsFacePaired k (links_of rows) path
    × PlansInsertion k n rows (FaceDarts k (links_of rows) path) (λ star. IsFace k path star (links_of rows)) edit
PlansFace k n rows path (Err (why.Line refusal)) =
    ((refusal ≡ told.OtherCell) × (IsOnOneVolume (links_of rows) path → ⊥))
    ⊎ ((refusal ≡ told.NotClosed) × IsOnOneVolume (links_of rows) path × (IsClosedPath k (links_of rows) path → ⊥))
    ⊎ ((refusal ≡ told.Unpaired) × IsOnOneVolume (links_of rows) path × IsClosedPath k (links_of rows) path
    × (IsFacePaired k (links_of rows) path → ⊥))
PlansFace k n rows path (Err why.NoMemory) = Unit {0}

-- the removal of the i-cell of dart d
abbrev pub PlansRemoval : Kind → ℕ → Rows → ℕ → ℕ → Result Edit Refused → Type 0
PlansRemoval k n rows i d (Ok edit) =
    IsRemovable k (links_of rows) i d
    × PlansEnding k n rows (InCell k (links_of rows) i d) (λ N. IsRemoved k i d (links_of rows) N) edit
PlansRemoval k n rows i d (Err (why.Line refusal)) = (refusal ≡ told.NotRemovable) × (IsRemovable k (links_of rows) i d → ⊥)
PlansRemoval k n rows i d (Err why.NoMemory) = Unit {0}

-- the contraction of the i-cell of dart d
abbrev pub PlansContraction : Kind → ℕ → Rows → ℕ → ℕ → Result Edit Refused → Type 0
PlansContraction k n rows i d (Ok edit) =
    IsContractible k (links_of rows) i d
    × PlansEnding k n rows (InCell k (links_of rows) i d) (λ N. IsContracted k i d (links_of rows) N) edit
PlansContraction k n rows i d (Err (why.Line refusal)) =
    (refusal ≡ told.NotContractible) × (IsContractible k (links_of rows) i d → ⊥)
PlansContraction k n rows i d (Err why.NoMemory) = Unit {0}

-- whether the i-cell of dart d can be removed, and whether it can be contracted
abbrev pub TellsRemovable : Kind → Rows → ℕ → ℕ → Bool → Type 0
TellsRemovable k rows i d told_so = IsTrue told_so ↔ IsRemovable k (links_of rows) i d

abbrev pub TellsContractible : Kind → Rows → ℕ → ℕ → Bool → Type 0
TellsContractible k rows i d told_so = IsTrue told_so ↔ IsContractible k (links_of rows) i d
