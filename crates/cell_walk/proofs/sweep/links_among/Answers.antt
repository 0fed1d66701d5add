use Rattle.std.proofs.Common.{◌≡◌, ◌<◌, List, length, length-set, true, sym, ap, ◌∙◌, subst, arith}
use Rattle.std.proofs.lemmas.List.{take_all}
use Rattle.map_defs.specs.LinkWords.{LinkWord, IsWithin}
use Rattle.cell_walk.specs.Ways.{IsLink}
use Rattle.cell_walk.specs.Marks.{IsMarked}
use Rattle.cell_walk.specs.Sweeps.{AreWanted}
use Rattle.cell_walk.proofs.QueuedDarts.{wanted-more}
use Rattle.cell_walk.proofs.sweep.links_among.Goals as goal

pub loop-word-preserved : goal.loop-word-preserved
loop-word-preserved c =
    let first : c.word.inside.first ≡ c.word-item.result.first = ap (λ (w : LinkWord). w.first) c.word.view_is in
    let within : IsWithin 8 c.word-item.result = subst (IsWithin 8) (sym c.word-item.is) (c.requires.within c.loop-word.word-index c.word-item.result c.loop-word-test.true) in
    let low : c.word-item.result.first < length c.loop-word.among = omega (arith, within.0, c.loop-word.invariant.0) in
    rw first (
      length-set c.loop-word.among c.word-item.result.first true ∙ c.loop-word.invariant.0,
      wanted-more c.args.words.now c.loop-word.word-index c.word-item.result c.loop-word.among c.loop-word-test.true c.word-item.is
          (subst IsLink (sym c.word-item.is) (c.requires.single c.loop-word.word-index c.word-item.result c.loop-word-test.true)) low c.loop-word.invariant.1,
    )

pub returns : goal.returns
returns c =
    subst (λ (ws : List LinkWord). AreWanted ws (IsMarked c.loop-word.among)) (take_all c.loop-word.word-index c.args.words.now (omega (arith, c.loop-word-test.false))) c.loop-word.invariant.1
