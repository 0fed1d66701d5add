use Rattle.std.proofs.Common.{◌≡◌, ◌+◌, ◌<◌, ℕ, length, arith}
use Rattle.map_defs.specs.Rows.{Rows}
use Rattle.list_text.proofs.LiveRows.{live_rows-more}
use Rattle.list_text.proofs.rows.list_rows.Goals as goal

pub loop-number-preserved : goal.loop-number-preserved
loop-number-preserved g c =
    let rows : Rows = c.args.links.now.rows in
    let k : ℕ = c.loop-number.number + 1 in
    let within : k < length rows = omega (arith, c.made-number-end.ensures.made) in
    let dart : c.unwrap.result ≡ k = rw c.unwrap.ensures at c.new.ensures.same in
    let here = rw (c.in_ok-list_row.was, dart, c.loop-number.invariant) at c.list_row.ensures in
    rw (live_rows-more rows k within) here
