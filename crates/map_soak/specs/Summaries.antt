-- The summary of a soak.
use Rattle.std.specs.Prelude.{ℕ, ◌≡◌, List, length}
use Rattle.map_defs.specs.Kind.{Kind}
use Rattle.map_defs.specs.Counts.{AreCounts}
use Rattle.map_defs.specs.Values.{Hook}
use Rattle.machine_defs.specs.State.{State}
use Rattle.machine_defs.specs.Text.{Reply}
use Rattle.machine_defs.specs.Listing.{ListValue, ListsValuesIn, listed_total}
use Rattle.machine_defs.specs.Soaking.{Soaks, accepted}
use Rattle.map_soak.specs.declared.squares.Summary.{Summary}

-- The machine takes the lines of so many squares that are drawn from the seed, and this is the summary of its replies and of the
-- map that it leaves.
abbrev pub IsSummary : Hook → Kind → ℕ → ℕ → Summary → Type 0
IsSummary hook kind seed count summary =
    (replies : List Reply) × (new : State) × (values : List ListValue)
    × Soaks hook kind seed count replies new × ListsValuesIn new.present 2 values
    × AreCounts new.present.kind new.present.dim new.present.rows summary.counts.items
    × (summary.lines ≡ length replies) × (summary.accepted ≡ accepted replies) × (summary.total ≡ (listed_total 2 values).a)
