use Rattle.std.proofs.Common.{◌≡◌, length, arith}
use Rattle.map_defs.specs.Rows.{links_of}
use Rattle.orient_half.specs.Entries.{IsHalfEntry}
use Rattle.orient_half.proofs.SetEntries.{set-more, set-dart}
use Rattle.orient_half.proofs.ReadNumbers.{number-is}
use Rattle.orient_half.proofs.halving.set_links.Goals as goal

pub loop-link-preserved : goal.loop-link-preserved
loop-link-preserved g c =
    let number : c.unwrap-dart.result ≡ c.args.rank = number-is c.new.result c.unwrap-dart.result c.args.rank c.unwrap-dart.ensures c.new.ensures.same in
    rw (c.set.ensures, number)
    (set-more g.row.DIM (length c.args.ranks.now) (IsHalfEntry (links_of c.args.links.now.rows) c.args.ranks.now)
    c.args.rank c.loop-link.link c.half_link.result c.loop-link.builder.rows
    c.requires.low c.requires.high (omega (arith, c.loop-link-test.true, c.dimension-link-end.ensures.dimension)) c.half_link.ensures c.loop-link.invariant)

pub returns : goal.returns
returns g c =
    set-dart g.row.DIM (length c.args.ranks.now) (IsHalfEntry (links_of c.args.links.now.rows) c.args.ranks.now)
    c.args.rank c.loop-link.link c.loop-link.builder.rows (omega (arith, c.loop-link-test.false, c.dimension-link-end.ensures.dimension)) c.loop-link.invariant
