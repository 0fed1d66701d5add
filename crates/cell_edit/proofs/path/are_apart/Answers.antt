use Rattle.std.proofs.Common.{Contains, refl, arith}
use Rattle.std.proofs.lemmas.Bool.{false≢true}
use Rattle.cell_walk.proofs.SeenDarts.{seen-grown, seen-added}
use Rattle.cell_edit.proofs.Apart.{seen-more, seen-twice, seen-all}
use Rattle.cell_edit.proofs.path.are_apart.Goals as goal

pub returns-then-not-branch : goal.returns-then-not-branch
returns-then-not-branch c =
    let known : Contains c.loop-dart.seen.keys c.dart-item.result = rw c.if-not-branch.true at (seen-added c.loop-dart.seen c.dart-item.result c.in_ok-insert.field-0 c.in_ok-insert.ensures.added) in
    (λ true. absurd (false≢true true), λ apart. absurd (seen-twice c.args.darts.now c.loop-dart.dart-index c.dart-item.result c.loop-dart.seen.keys c.loop-dart-test.true c.dart-item.is known c.loop-dart.invariant apart))

pub loop-dart-preserved : goal.loop-dart-preserved
loop-dart-preserved c =
    let fresh : Contains c.loop-dart.seen.keys c.dart-item.result → ⊥ = rw c.if-not-branch.false at (seen-added c.loop-dart.seen c.dart-item.result c.in_ok-insert.field-0 c.in_ok-insert.ensures.added) in
    seen-more c.args.darts.now c.loop-dart.dart-index c.dart-item.result c.loop-dart.seen.keys c.insert.new.self.keys c.loop-dart-test.true c.dart-item.is fresh
    (seen-grown c.loop-dart.seen c.insert.new.self c.dart-item.result c.in_ok-insert.ensures.updates) c.loop-dart.invariant

pub returns : goal.returns
returns c = (λ _. seen-all c.args.darts.now c.loop-dart.dart-index c.loop-dart.seen.keys (omega arith) c.loop-dart.invariant, λ _. refl)
