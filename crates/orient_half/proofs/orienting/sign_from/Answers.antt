use Rattle.std.proofs.Common.{ℕ, sym, subst}
use Rattle.map_defs.specs.Rows.{links_of, IsLive}
use Rattle.half_defs.specs.Orientation.{IsFirstOddWalk}
use Rattle.orient_half.proofs.Surveyed.{first-odd}
use Rattle.orient_half.proofs.orienting.sign_from.Goals as goal

pub returns-in_ok-odd_walk-in-Some-clause-fault : goal.returns-in_ok-odd_walk-in-Some-clause-fault
returns-in_ok-odd_walk-in-Some-clause-fault g c =
    subst (λ (start : ℕ). IsFirstOddWalk g.row.DIM (IsLive c.args.links.now.rows) (links_of c.args.links.now.rows) start c.in_ok-odd_walk-in-Some.field-0.links.items)
    (sym c.in_ok-odd_walk-in-Some.ensures.start)
    (first-odd g.row.DIM (IsLive c.args.links.now.rows) (links_of c.args.links.now.rows) c.args.dart c.args.search.now.marks.items c.in_ok-odd_walk-in-Some.field-0.links.items
    (c.is_live.ensures.live.0 c.if-not-is_live.false) c.requires.before c.in_ok-odd_walk-in-Some.ensures.odd)
