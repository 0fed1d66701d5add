use Rattle.std.proofs.Common.{◌≡◌, ℕ, ◌+◌, ◌∙◌, length, sym, subst, arith}
use Rattle.map_defs.specs.Rows.{links_of}
use Rattle.half_defs.specs.Halves.{odd_dart, even_dart}
use Rattle.orient_half.specs.Entries.{IsDoubleEntry, AreSetUpTo}
use Rattle.orient_half.proofs.SetEntries.{set-more, set-dart}
use Rattle.orient_half.proofs.DoubleLinks.{even-entry, odd-next}
use Rattle.orient_half.proofs.ReadNumbers.{number-is}
use Rattle.orient_half.proofs.doubling.set_even.Goals as goal

pub loop-link-preserved : goal.loop-link-preserved
loop-link-preserved g c =
    let number : c.unwrap-dart.result ≡ even_dart c.args.rank = number-is c.new.result c.unwrap-dart.result c.even_dart.result c.unwrap-dart.ensures c.new.ensures.same ∙ c.even_dart.ensures in
    rw (c.set.ensures, number, c.odd_dart.ensures.number)
    (set-more g.row.DIM (length c.args.ranks.now + length c.args.ranks.now) (IsDoubleEntry (links_of c.args.links.now.rows) c.args.ranks.now)
    (even_dart c.args.rank) c.loop-link.link (odd_dart c.rank_ahead-ahead.result) c.loop-link.builder.rows
    (omega (arith, c.requires.low)) (omega (arith, c.requires.high)) (omega (arith, c.loop-link-test.true, c.dimension-link-end.ensures.dimension))
    (even-entry (links_of c.args.links.now.rows) c.args.ranks.now c.loop-link.link c.args.rank c.rank_ahead-ahead.result c.requires.low c.rank_ahead-ahead.ensures.ahead)
    c.loop-link.invariant)

pub returns : goal.returns
returns g c =
    subst (λ (d : ℕ). AreSetUpTo g.row.DIM (length c.args.ranks.now + length c.args.ranks.now) (IsDoubleEntry (links_of c.args.links.now.rows) c.args.ranks.now) d 0 c.loop-link.builder.rows) (sym (odd-next c.args.rank))
    (set-dart g.row.DIM (length c.args.ranks.now + length c.args.ranks.now) (IsDoubleEntry (links_of c.args.links.now.rows) c.args.ranks.now)
    (even_dart c.args.rank) c.loop-link.link c.loop-link.builder.rows (omega (arith, c.loop-link-test.false, c.dimension-link-end.ensures.dimension)) c.loop-link.invariant)
