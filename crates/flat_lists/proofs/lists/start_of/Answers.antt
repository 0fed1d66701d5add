use Rattle.std.proofs.Common.{◌≡◌, suc, ◌-◌, ap, ◌∙◌, arith}
use Rattle.flat_lists.specs.Cutting.{start_from}
use Rattle.flat_lists.proofs.CutLists.{start-behind}
use Rattle.flat_lists.proofs.lists.start_of.Goals as goal

pub returns-else-place-eq0 : goal.returns-else-place-eq0
returns-else-place-eq0 c =
    let before : suc (c.args.place - 1) ≡ c.args.place = omega (arith, c.if-place-eq0.false) in
    start-behind 0 c.args.ends.now (c.args.place - 1) 0 (omega (arith, before, c.requires)) ∙ ap (start_from 0 c.args.ends.now) before
