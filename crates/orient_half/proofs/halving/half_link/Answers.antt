use Rattle.std.proofs.Common.{ℕ, ap₂, ◌∙◌, subst}
use Rattle.map_defs.specs.Rows.{links_of}
use Rattle.map_defs.specs.LinkWords.{LinkWord, through}
use Rattle.orient_half.specs.Ranks.{IsRank}
use Rattle.orient_half.proofs.ReadNumbers.{reached-is}
use Rattle.orient_half.proofs.halving.half_link.Goals as goal

pub returns : goal.returns
returns g c =
    subst (λ (d : ℕ). IsRank c.args.ranks.now d c.rank.result)
    (reached-is c.follow.result (through (links_of c.args.links.now.rows) c.half_word.result c.dart.result) c.follow.ensures.free c.follow.ensures.leads
    ∙ ap₂ (λ (word : LinkWord) (d : ℕ). through (links_of c.args.links.now.rows) word d) c.half_word.ensures c.dart.ensures)
    c.rank.ensures
