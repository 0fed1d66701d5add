use Rattle.std.proofs.Common.{◌≡◌, suc, ◌+◌, ◌-◌, ◌∷◌, [], arith, append_assoc}
use Rattle.std.specs.List.{range_with_len}
use Rattle.list_text.proofs.RankSteps.{number-is}
use Rattle.list_text.proofs.ValuesMeant.{range-suc}
use Rattle.list_text.proofs.links.push_darts.Goals as goal

pub loop-number-preserved : goal.loop-number-preserved
loop-number-preserved c =
    let number : c.unwrap.result ≡ c.loop-number.number = number-is c.new.result c.unwrap.result c.loop-number.number c.unwrap.ensures c.new.ensures.same in
    let on : c.loop-number.number + 1 - c.args.first ≡ suc (c.loop-number.number - c.args.first) = omega arith in
    rw (c.in_ok-push.ensures.items, number, c.loop-number.invariant, on, range-suc c.args.first (c.loop-number.number - c.args.first) c.loop-number.number (omega arith))
    (append_assoc c.args.darts.now.items (range_with_len c.args.first (c.loop-number.number - c.args.first)) (c.loop-number.number ∷ []))
