use Rattle.std.proofs.Common.{◌≡◌, ℕ, List, length, arith, lit<}
use Rattle.map_defs.specs.Rows.{live_count}
use Rattle.row_laws.proofs.LiveRowCount.{live_count-rows}
use Rattle.map_run.proofs.HalfFacts.{tells-double}
use Rattle.map_run.proofs.half.double_of.Goals as goal

pub double-requires : goal.double-requires
double-requires g c =
    let count : live_count c.in_ok-links.links.rows ≡ length c.args.listing.now.rows =
    live_count-rows c.args.listing.now.rows c.in_ok-links.links.rows c.requires.sound.rows.ascending c.in_ok-links.ensures.live in
    (lit< tt, (lit< tt, (c.in_ok-links.ensures.laws, omega (arith, count, c.requires.few))))

pub returns : goal.returns
returns g c =
    let n : ℕ = g.row.DIM in
    let origins : List ℕ = c.in_ok-double.origin.items in
    rw (c.in_ok-listed.ensures.origins, c.in_ok-double.origin-is)
    (tells-double c.args.listing.now n c.requires.dim c.in_ok-links.links.rows c.in_ok-links.ensures.live c.in_ok-links.ensures.links origins c.in_ok-double.double.rows c.in_ok-listed.field-0.listing
    c.requires.kind (rw c.in_ok-double.origin-is at c.in_ok-double.ensures.live) (rw (c.in_ok-double.origin-is, c.in_ok-double.double-is) at c.in_ok-double.ensures.darts)
    (rw (c.in_ok-double.origin-is, c.in_ok-double.double-is) at c.in_ok-double.ensures.double) (rw c.in_ok-double.double-is at c.in_ok-listed.ensures.listing))
