use Rattle.std.proofs.Common.{◌≢◌, ℕ, ◌<◌, length, refl, inl}
use Rattle.std.specs.Prelude.{slice_index}
use Rattle.std.proofs.lemmas.Bool.{false≢true}
use Rattle.row_laws.specs.Rows.{darts_of}
use Rattle.row_laws.proofs.RowsAt.{row-missing}
use Rattle.list_text.proofs.cells.rank.Goals as goal

pub returns-in-None : goal.returns-in-None
returns-in-None c =
    let none : (k : ℕ) → k < length c.args.table.now → slice_index (darts_of c.args.table.now) k ≢ c.args.dart = rw (← c.from.ensures) c.in-None.ensures.none in
    let missing = row-missing c.args.table.now c.args.dart none in
    inl (refl, λ has. false≢true (rw missing at has))
