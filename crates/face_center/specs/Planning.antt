-- What the plans of a dangling edge and of a centre answer, in one form for both kinds of map: the edit where it is possible,
-- and why it is not. Besides, memory may lack.
use Rattle.std.specs.Prelude.{ℕ, ◌≡◌, ◌+◌, List, [], length, Result, Ok, Err}
use Rattle.map_kind.specs.declared.refusal.Refusal.TheVariants as told
use Rattle.map_kind.specs.declared.refusal.Refused.{Refused}
use Rattle.map_kind.specs.declared.refusal.Refused.TheVariants as why
use Rattle.map_defs.specs.Kind.{Kind}
use Rattle.map_defs.specs.Links.{Links}
use Rattle.map_defs.specs.Laws.{Laws}
use Rattle.map_defs.specs.Rows.{Rows, links_of, made}
use Rattle.map_defs.specs.Births.{IsNumbered}
use Rattle.map_defs.specs.Edits.{Edit, Fits, after_edit}
use Rattle.map_defs.specs.Cells.{InCell}
use Rattle.map_defs.specs.Inserting.{InCorner}
use Rattle.map_defs.specs.Closing.{IsDangled, CanDangle, IsCentred, IsClosedFace}

-- The edit fits the rows of a map of kind k and dimension n. It makes two new darts for each dart of K, and ends none: first
-- all those where the new edges begin, in the order of the darts of K, and after these, in the same order, those where they
-- end. The links after it are what Becomes asks of the new darts and the links, and they obey the laws.
pub record PlansHanging (k : Kind) (n : ℕ) (rows : Rows) (K : ℕ → Type 0) (Becomes : (ℕ → ℕ) → (ℕ → ℕ) → Links → Type 0) (edit : Edit) : Type 0 where
  pub deaths : edit.deaths ≡ []
  pub fits : Fits k n rows edit
  pub keys : List ℕ
  pub star : ℕ → ℕ
  pub tip : ℕ → ℕ
  pub begins : IsNumbered K keys (made rows) star
  pub ends : IsNumbered K keys (made rows + length keys) tip
  pub births : edit.births ≡ length keys + length keys
  pub becomes : Becomes star tip (links_of (after_edit n edit rows))
  pub laws : Laws k (links_of (after_edit n edit rows))

-- a dangling edge at the corner of dart d
abbrev pub PlansDangling : Kind → ℕ → Rows → ℕ → Result Edit Refused → Type 0
PlansDangling k n rows d (Ok edit) =
    CanDangle k (links_of rows) d
    × PlansHanging k n rows (InCorner k (links_of rows) d) (λ star tip. IsDangled k d star tip (links_of rows)) edit
PlansDangling k n rows d (Err (why.Line refusal)) = (refusal ≡ told.Unpaired) × (CanDangle k (links_of rows) d → ⊥)
PlansDangling k n rows d (Err why.NoMemory) = Unit {0}

-- a vertex in the middle of the face of dart d
abbrev pub PlansCentre : Kind → ℕ → Rows → ℕ → Result Edit Refused → Type 0
PlansCentre k n rows d (Ok edit) =
    IsClosedFace k (links_of rows) d
    × PlansHanging k n rows (InCell k (links_of rows) 2 d) (λ star tip. IsCentred k d star tip (links_of rows)) edit
PlansCentre k n rows d (Err (why.Line refusal)) = (refusal ≡ told.NotClosed) × (IsClosedFace k (links_of rows) d → ⊥)
PlansCentre k n rows d (Err why.NoMemory) = Unit {0}
