use Rattle.std.proofs.Common.{ℕ, ◌≡◌, ◌+◌, subst, arith}
use Rattle.map_defs.specs.Rows.{made}
use Rattle.orient_half.specs.SignLists.{IsListed}
use Rattle.orient_half.proofs.orienting.signs_of.Goals as goal

pub returns : goal.returns
returns g c =
    let end : c.loop-number.number + 1 ≡ made c.args.links.now.rows + 1 = omega (arith, c.made-number-end.ensures.made) in
    subst (λ (next : ℕ). IsListed c.args.search.now.marks.items next c.loop-number.signs.items) end c.loop-number.invariant
