use Rattle.std.proofs.Common.{◌-◌, ◌++◌, length, take, drop, sym, ap, subst, ◌∙◌, arith, length-take}
use lib.Seq.{take-add, take-take}
use Rattle.std.specs.Io.KnownBytes.{Appends}
use Rattle.std.proofs.KnownBytes.{Appends-trans}
use Rattle.map_io.proofs.writer_sink.hand_on.Goals as goal

pub loop-taken-preserved : goal.loop-taken-preserved
loop-taken-preserved g c =
    let done = c.loop-taken.taken in
    let count = c.in-Some.count in
    let text = c.args.text.now in
    let before = c.loop-taken.invariant in
    let some = c.in-Some.ensures.written in
    let most = length-take (length text - done) (drop done text) in
    let joined = ap (λ l. take done text ++ l) (take-take count (length text - done) (drop done text) (omega arith)) ∙ sym (take-add done count text) in
    (omega arith, subst (Appends _ _) joined (Appends-trans _ _ _ _ _ before.1 some.2))
