-- What an edit that inserts leaves, and which numbers name live darts.
use Rattle.std.specs.Prelude.{ℕ, ◌≡◌, ◌+◌, ◌<◌, ◌≤◌, List, All, Vec, Result, Ok, Err}
use Rattle.std.specs.declared.alloc.Global.{Global}
use Rattle.map_kind.specs.declared.refusal.Refusal.TheVariants as told
use Rattle.map_kind.specs.declared.refusal.Refused.{Refused}
use Rattle.map_kind.specs.declared.refusal.Refused.TheVariants as why
use Rattle.map_kind.specs.declared.done.Done.{Done}
use Rattle.map_defs.specs.Rows.{Rows, made, made_max, IsLive}
use Rattle.map_defs.specs.Edits.{Edit, after_edit}
use Rattle.map_defs.specs.Values.{Hook}
use Rattle.machine_defs.specs.State.{State, Content, steps_to}
use Rattle.machine_defs.specs.Machine.{first_born}
use Rattle.label_laws.specs.Contents.{IsCarriedOn}

-- An edit that inserts was made, and the values were carried; or too many darts would have been made, or memory was wanting.
abbrev pub Grows : Hook → State → Edit → Result Done Refused → State → Type 0
Grows hook s edit (Ok done) new =
    (made s.present.rows + edit.births ≤ made_max) × (done.first ≡ first_born s.present edit.births) × (done.count ≡ edit.births)
    × ((next : Content) × IsCarriedOn hook s.present (after_edit s.present.dim edit s.present.rows) next × (new ≡ steps_to s next))
Grows hook s edit (Err (why.Line refusal)) new = (refusal ≡ told.Full) × (made_max < made s.present.rows + edit.births) × (new ≡ s)
Grows hook s edit (Err why.NoMemory) new = new ≡ s

-- the darts of these numbers, which all live; or not all do
abbrev pub AreLiveDarts : Rows → List ℕ → Result (Vec ℕ Global) Refused → Type 0
AreLiveDarts rows numbers (Ok darts) = (darts.items ≡ numbers) × All (IsLive rows) numbers
AreLiveDarts rows numbers (Err (why.Line refusal)) = (refusal ≡ told.NoDart) × (All (IsLive rows) numbers → ⊥)
AreLiveDarts rows numbers (Err why.NoMemory) = Unit {0}
