use Rattle.std.proofs.Common.{◌≡◌, ℕ, List, subst, arith}
use Rattle.std.specs.Prelude.{slice_index}
use Rattle.std.proofs.lemmas.List.{get_or_past}
use Rattle.orient_half.specs.Ranks.{IsRank}
use Rattle.orient_half.proofs.ranks.Ranks.rank_at.Goals as goal

pub returns-else-place-len : goal.returns-else-place-len
returns-else-place-len c =
    let table : List ℕ = c.self.inside.table.items in
    let past : slice_index table c.args.place ≡ 0 = get_or_past table c.args.place 0 (omega (arith, c.len.ensures, c.if-place-len.false, c.self.inside.table.ok.0)) in
    rw (← c.self.view_is) (subst (IsRank c.self.inside.darts.items c.args.place) past (c.self.invariant.1 c.args.place))
