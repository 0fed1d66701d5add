use Rattle.std.proofs.Common.{ℕ, List, Result, ap}
use Rattle.map_defs.specs.Off.{What, corners, on_line}
use Rattle.off_text.specs.Meanings.{meaning}
use Rattle.text_words.specs.Taking.{words_in}
use Rattle.off_text.proofs.Corners.{goes_on, ends, is_done}
use Rattle.off_text.proofs.read.read_corners.Goals as goal

pub loop-place-preserved : goal.loop-place-preserved
loop-place-preserved c =
    rw c.in_ok-push-in-Ok.ensures.items
    (goes_on c.loop-place.corners.items c.args.points c.args.count c.loop-place.place _ (words_in c.loop-place.rest.now) _ (corners c.args.points c.args.count (words_in c.args.row.others.now))
    c.loop-place-test.true c.in-Ok.ensures c.loop-place.invariant)

pub returns-in-Err : goal.returns-in-Err
returns-in-Err c =
    ap (λ (r : Result (List ℕ) What). on_line c.args.row.line r)
    (ends c.loop-place.corners.items c.args.points c.args.count c.loop-place.place (meaning c.in-Err.what) (words_in c.loop-place.rest.now) (corners c.args.points c.args.count (words_in c.args.row.others.now))
    c.loop-place-test.true c.in-Err.ensures c.loop-place.invariant)

pub returns : goal.returns
returns c =
    ap (λ (r : Result (List ℕ) What). on_line c.args.row.line r)
    (is_done c.loop-place.corners.items c.args.points c.args.count c.loop-place.place (words_in c.loop-place.rest.now) (corners c.args.points c.args.count (words_in c.args.row.others.now))
    c.loop-place-test.false c.loop-place.invariant)
