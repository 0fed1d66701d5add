use Rattle.std.proofs.Common.{cond, eqb, arith}
use Rattle.std.proofs.lemmas.Simd.{zip2_splat, length-chunk}
use lib.Lanes.{chunk}
use Rattle.map_run.proofs.FeedMarks.{marked}
use Rattle.map_run.proofs.script.line_feeds.Goals as goal

pub returns : goal.returns
returns c =
    let v = chunk c.args.start 16 c.args.text.now in
    let long = length-chunk c.args.start 16 c.args.text.now c.requires in
    marked v _ (omega arith) (zip2_splat (λ a b. cond (eqb a b) 255 0) v 16 10 long)
