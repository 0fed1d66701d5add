use Rattle.valued_map.proofs.LiveDarts.{live-more}
use Rattle.map_core.proofs.map.Map.live_darts.Goals as goal

pub loop-number-preserved : goal.loop-number-preserved
loop-number-preserved g c =
    let more = live-more c.args.self.now.state.present.rows c.args.numbers.now c.loop-number.number-index c.loop-number.darts.items c.push.new.self.items c.in_ok-dart.dart
    c.loop-number-test.true c.in_ok-dart.ensures.0 c.in_ok-dart.ensures.1 c.in_ok-push.ensures.items c.loop-number.invariant.items c.loop-number.invariant.live in
    record { items = more.0; live = more.1 }
