-- What a line needs of the state that it meets, so that it leads to one state and has one reply.
use Rattle.std.specs.Prelude.{ℕ, ◌≡◌, ◌≢◌}
use Rattle.map_defs.specs.Kind.{alpha, beta}
use Rattle.map_defs.specs.Rows.{IsLive}
use Rattle.map_defs.specs.Laws.{Laws}
use Rattle.machine_defs.specs.State.{Content, State}
use Rattle.machine_defs.specs.Kept.{AreNamedApart}
use Rattle.machine_defs.specs.Script.{Line, Edge, Face, Remove, Contract, Close, Undo, Log, Off}
use Rattle.machine_defs.specs.Machine.{links_in}

-- the links obey the laws
abbrev pub HasLaws : Content → Type 0
HasLaws c = Laws c.kind (links_in c)

-- d is not 0, unless it is dead: 0 is no dart
abbrev pub IsDartIfLive : Content → ℕ → Type 0
IsDartIfLive c d = IsLive c.rows d → d ≢ 0

-- In a map that breaks the laws an edge or a face may leave a link of a new dart open, and a walk across a cell that is
-- removed or contracted, or around a boundary that is closed, may go on for ever, and so tell no link. Nor does a walk ever
-- leave the cell of 0. Where two marks have one name, undo may go back to either.
abbrev pub LineNeeds : Line → State → Type 0
LineNeeds (Edge d e) s = s.present.kind ≡ beta → HasLaws s.present
LineNeeds (Face path) s = s.present.kind ≡ alpha → HasLaws s.present
LineNeeds (Remove i d) s = IsDartIfLive s.present d × HasLaws s.present
LineNeeds (Contract i d) s = IsDartIfLive s.present d × HasLaws s.present
LineNeeds (Close i) s = (IsLive s.present.rows 0 → ⊥) × HasLaws s.present
LineNeeds (Undo name) s = AreNamedApart s.marks
LineNeeds line s = Unit {0}

-- Where two marks have one name, a log may be told since either. In a map that breaks the laws a dart may lie in two cells, and
-- so be a corner at two points. No other line needs anything for its reply.
abbrev pub ReplyNeeds : Line → State → Type 0
ReplyNeeds (Log name) s = AreNamedApart s.marks
ReplyNeeds Off s = HasLaws s.present
ReplyNeeds line s = Unit {0}
