use Rattle.std.proofs.Common.{lit<, sym}
use Rattle.valued_map.proofs.settled.is_near_behind.Goals as goal

pub turns_to-requires : goal.turns_to-requires
turns_to-requires g c =
    let second = (c.requires.words c.second-item.result).0 (c.loop-second.second-index, c.loop-second-test.true, sym c.second-item.is) in
    let first = (c.requires.words c.args.first).0 c.requires.first in
    (lit< tt, (second.0, (second.1, (first.0, first.1))))
