use Rattle.std.proofs.Common.{◌≡◌, ℕ, sym, subst, arith, lit<}
use Rattle.orient_half.specs.LiveDarts.{AreLiveBelow}
use Rattle.orient_half.proofs.LiveDartSteps.{live-none, live-all}
use Rattle.orient_half.proofs.ReadNumbers.{number-is}
use Rattle.orient_half.proofs.doubling.live_darts.Goals as goal

pub loop-number-init : goal.loop-number-init
loop-number-init g c =
    rw c.in_ok-darts.ensures.items
    (live-none c.args.links.now.rows c.made-number-end.ensures.begun c.made-number-end.ensures.sound.nothing)

pub push_live-requires : goal.push_live-requires
push_live-requires g c =
    let number : c.unwrap.result ≡ c.loop-number.number = number-is c.new.result c.unwrap.result c.loop-number.number c.unwrap.ensures c.new.ensures.same in (
      lit< tt,
      (
        omega (arith, number, c.loop-number-test.true, c.made-number-end.ensures.made, c.made-number-end.ensures.begun),
        subst (λ (n : ℕ). AreLiveBelow c.args.links.now.rows n c.loop-number.darts.items) (sym number) c.loop-number.invariant,
      ),
    )

pub returns : goal.returns
returns g c =
    let all = live-all c.args.links.now.rows c.loop-number.number c.loop-number.darts.items
    (omega (arith, c.loop-number-test.false, c.made-number-end.ensures.made)) c.loop-number.invariant in
    record { live = all.0; count = all.1 }
