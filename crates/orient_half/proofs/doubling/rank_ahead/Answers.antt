use Rattle.std.proofs.Common.{ℕ, ap, ◌∙◌, subst}
use Rattle.map_defs.specs.Rows.{links_of}
use Rattle.orient_half.specs.Ranks.{IsRank}
use Rattle.orient_half.proofs.ReadNumbers.{reached-is, ahead-from}
use Rattle.orient_half.proofs.doubling.rank_ahead.Goals as goal

pub returns-else-link-eq0-clause-ahead : goal.returns-else-link-eq0-clause-ahead
returns-else-link-eq0-clause-ahead g c =
    ahead-from (links_of c.args.links.now.rows) c.args.ranks.now c.args.link c.args.rank c.rank.result c.if-link-eq0.false
    (subst (λ (d : ℕ). IsRank c.args.ranks.now d c.rank.result)
    (reached-is c.link.result (links_of c.args.links.now.rows c.args.link c.dart.result) c.link.ensures.free c.link.ensures.linked
    ∙ ap (links_of c.args.links.now.rows c.args.link) c.dart.ensures)
    c.rank.ensures)
