use Rattle.std.proofs.Common.{ℕ, ap₂, ◌∙◌, subst}
use Rattle.map_defs.specs.Rows.{links_of}
use Rattle.orient_half.specs.Ranks.{IsRank}
use Rattle.orient_half.proofs.ReadNumbers.{reached-is, behind-from}
use Rattle.orient_half.proofs.doubling.rank_behind.Goals as goal

pub returns-else-link-eq0-clause-behind : goal.returns-else-link-eq0-clause-behind
returns-else-link-eq0-clause-behind g c =
    behind-from (links_of c.args.links.now.rows) c.args.ranks.now c.args.link c.args.rank c.rank.result c.if-link-eq0.false
    (subst (λ (d : ℕ). IsRank c.args.ranks.now d c.rank.result)
    (reached-is c.link.result (links_of c.args.links.now.rows c.inverse.result c.dart.result) c.link.ensures.free c.link.ensures.linked
    ∙ ap₂ (λ (i d : ℕ). links_of c.args.links.now.rows i d) c.inverse.ensures c.dart.ensures)
    c.rank.ensures)
