use Rattle.std.proofs.Common.{◌≡◌, ℕ, ◌+◌, ◌∙◌, length, subst, arith}
use Rattle.map_defs.specs.Rows.{links_of}
use Rattle.half_defs.specs.Halves.{odd_dart, even_dart}
use Rattle.orient_half.specs.Entries.{IsDoubleEntry, AreSetUpTo}
use Rattle.orient_half.proofs.SetEntries.{set-more, set-dart}
use Rattle.orient_half.proofs.DoubleLinks.{odd-entry, odd-is}
use Rattle.orient_half.proofs.ReadNumbers.{number-is}
use Rattle.orient_half.proofs.doubling.set_odd.Goals as goal

pub loop-link-preserved : goal.loop-link-preserved
loop-link-preserved g c =
    let number : c.unwrap-dart.result ≡ odd_dart c.args.rank = number-is c.new.result c.unwrap-dart.result c.odd_dart.result c.unwrap-dart.ensures c.new.ensures.same ∙ c.odd_dart.ensures.number in
    let next : odd_dart c.args.rank + 1 ≡ c.args.rank + c.args.rank = odd-is c.args.rank c.requires.low in
    rw (c.set.ensures, number, c.even_dart.ensures)
    (set-more g.row.DIM (length c.args.ranks.now + length c.args.ranks.now) (IsDoubleEntry (links_of c.args.links.now.rows) c.args.ranks.now)
    (odd_dart c.args.rank) c.loop-link.link (even_dart c.rank_behind-behind.result) c.loop-link.builder.rows
    (omega (arith, next, c.requires.low)) (omega (arith, next, c.requires.high)) (omega (arith, c.loop-link-test.true, c.dimension-link-end.ensures.dimension))
    (odd-entry (links_of c.args.links.now.rows) c.args.ranks.now c.loop-link.link c.args.rank c.rank_behind-behind.result c.requires.low c.rank_behind-behind.ensures.behind)
    c.loop-link.invariant)

pub returns : goal.returns
returns g c =
    let next : odd_dart c.args.rank + 1 ≡ even_dart c.args.rank = odd-is c.args.rank c.requires.low in
    subst (λ (d : ℕ). AreSetUpTo g.row.DIM (length c.args.ranks.now + length c.args.ranks.now) (IsDoubleEntry (links_of c.args.links.now.rows) c.args.ranks.now) d 0 c.loop-link.builder.rows) next
    (set-dart g.row.DIM (length c.args.ranks.now + length c.args.ranks.now) (IsDoubleEntry (links_of c.args.links.now.rows) c.args.ranks.now)
    (odd_dart c.args.rank) c.loop-link.link c.loop-link.builder.rows (omega (arith, c.loop-link-test.false, c.dimension-link-end.ensures.dimension)) c.loop-link.invariant)
