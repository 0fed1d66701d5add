use Rattle.std.proofs.Common.{lit<, sym, arith}
use Rattle.valued_map.proofs.changed.older_along.Goals as goal

pub number_along-number-requires : goal.number_along-number-requires
number_along-number-requires g c =
    (lit< tt, (omega (arith, c.see_sound.ensures.high), (c.requires.row, c.requires.words c.word-item.result (c.loop-word.word-index, c.loop-word-test.true, sym c.word-item.is))))
