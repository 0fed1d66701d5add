-- What is told of ids, and counts of ids.
use Rattle.std.specs.Prelude.{ℕ, nat_eq, cond, List, [], ◌∷◌, Option, Some, unwrap_or, slice_index_or}
use Rattle.std.specs.Ordering.{nat_cmp}
use Rattle.std.specs.BTreeMap.{get}
use Rattle.transport.specs.declared.by_id.Entry.{Entry}
use Rattle.transport.specs.declared.by_id.ById.{ById}
use Rattle.transport.specs.declared.tally.Tally.{Tally}

-- what a list tells of an id, or else what is told elsewhere
abbrev pub told_in : {V : Type 0} → List (Entry V) → Option V → ℕ → Option V
told_in [] other id = other
told_in (e ∷ entries) other id = cond (nat_eq e.id id) (Some e.told) (told_in entries other id)

abbrev pub told_of : {V : Type 0} → ById V → ℕ → Option V
told_of table id = told_in table.first.items (get nat_cmp table.more id) id

-- how often an id was counted: by the table, or past its end by what is told beside it
abbrev pub count_of : Tally → ℕ → ℕ
count_of tally id = slice_index_or tally.table.items id (unwrap_or (told_of tally.counts id) 0)
