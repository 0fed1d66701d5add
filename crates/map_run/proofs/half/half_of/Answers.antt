use Rattle.std.proofs.Common.{ℕ, List}
use Rattle.std.proofs.lemmas.Result.{err_from_is_err_and}
use Rattle.orient_half.specs.Told.{told}
use Rattle.map_run.proofs.HalfFacts.{tells-told, tells-half}
use Rattle.map_run.proofs.half.half_of.Goals as goal

pub returns-in_err-signs : goal.returns-in_err-signs
returns-in_err-signs g c =
    let n : ℕ = g.row.DIM in
    let p = err_from_is_err_and c.from_residual-in_err-signs.result c.from_residual-in_err-signs.ensures.1 in
    rw (p.1, p.2)
    (tells-told c.args.listing.now n c.requires.dim c.in_ok-links.links.rows c.in_ok-links.ensures.live c.in_ok-links.ensures.links (told c.in_err-signs.field-0.0) c.requires.kind c.in_err-signs.ensures.fault)

pub returns : goal.returns
returns g c =
    let n : ℕ = g.row.DIM in
    let origins : List ℕ = c.in_ok-half.origin.items in
    rw (c.in_ok-listed.ensures.origins, c.in_ok-half.origin-is)
    (tells-half c.args.listing.now n c.requires.dim c.in_ok-links.links.rows c.in_ok-links.ensures.live c.in_ok-links.ensures.links c.in_ok-signs.signs.items origins c.in_ok-half.half.rows c.in_ok-listed.field-0.listing
    c.requires.kind c.in_ok-signs.ensures.signs (rw (c.as_slice.ensures.value, c.in_ok-half.origin-is) at c.in_ok-half.ensures.positive)
    (rw (c.in_ok-half.origin-is, c.in_ok-half.half-is) at c.in_ok-half.ensures.darts) (rw (c.in_ok-half.origin-is, c.in_ok-half.half-is) at c.in_ok-half.ensures.half) (rw c.in_ok-half.half-is at c.in_ok-listed.ensures.listing))
