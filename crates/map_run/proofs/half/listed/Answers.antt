use Rattle.std.proofs.Common.{ℕ, [], ap}
use Rattle.map_defs.specs.Kind.{Kind}
use Rattle.map_defs.specs.Rows.{Rows, made}
use Rattle.machine_defs.specs.Listing.{Listing, live_rows_from}
use Rattle.list_text.proofs.KindNames.{letter-names}
use Rattle.map_run.proofs.half.listed.Goals as goal

pub returns-clause-listing : goal.returns-clause-listing
returns-clause-listing g c =
    let rows : Rows = c.args.links.now.rows in
    let n : ℕ = g.row.DIM in
    rw (c.letter.ensures, c.dimension.ensures.dimension, c.made.ensures.made, c.in_ok-list_rows.ensures, c.new.ensures.items, c.new-2.ensures.items, c.new-3.ensures.items)
    (ap (λ (k : Kind). let l : Listing = record { kind = k; dim = n; made = made rows; rows = live_rows_from 0 rows; rules = []; values = []; marks = [] } in l) (letter-names g.K.Kind.kind))
