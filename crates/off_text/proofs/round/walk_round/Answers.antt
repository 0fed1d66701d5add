use Rattle.std.proofs.Common.{rules, ◌≡◌, ◌≢◌, ◌<◌, [], ◌∷◌, ◌++◌, ap, ◌∙◌, arith}
use Rattle.map_defs.specs.Rows.{links_of}
use Rattle.map_defs.specs.Refusal as machine
use Rattle.map_defs.specs.OffOfMap.{IsOpen}
use Rattle.map_defs.specs.Cells.{here}
use Rattle.map_kind.specs.Refusals.{meaning}
use Rattle.off_text.proofs.Refusing.{refused-line}
use Rattle.off_text.proofs.Rounds.{way-begun, way-more, way-round}
use Rattle.off_text.proofs.round.walk_round.Goals as goal

pub returns-in_err-dart-clause-refused : goal.returns-in_err-dart-clause-refused
returns-in_err-dart-clause-refused g c =
    refused-line c.from_residual-in_err-dart.result c.in_err-dart.field-0.0 (λ why. (why ≡ machine.NotClosed) × IsOpen g.K.Kind.kind (links_of c.args.links.now.rows) c.args.first)
    c.from_residual-in_err-dart.ensures.1
    (ap meaning c.in_err-dart.ensures.free.0, (c.args.first, here, c.in_err-dart.ensures.free.1))

pub loop-first-init : goal.loop-first-init
loop-first-init g c =
    let some : 0 < c.in_ok-dart.dart = search rules in
    way-begun g.K.Kind.kind (links_of c.args.links.now.rows) c.args.first c.in_ok-dart.dart c.push.new.self.items
    (c.in_ok-push.ensures.items ∙ ap (λ front. front ++ c.args.first ∷ []) c.clear.ensures.items)
    c.in_ok-dart.ensures.next (λ none. omega (arith, some, none))

pub loop-first-preserved : goal.loop-first-preserved
loop-first-preserved g c =
    let some : 0 < c.in_ok-dart-2.dart = search rules in
    let apart : c.loop-first.dart ≢ c.args.first = search rules in
    way-more g.K.Kind.kind (links_of c.args.links.now.rows) c.args.first c.loop-first.dart c.in_ok-dart-2.dart c.loop-first.round.items c.push-in-loop-first.new.self.items
    c.in_ok-push-2.ensures.items apart
    c.in_ok-dart-2.ensures.next (λ none. omega (arith, some, none)) c.loop-first.invariant

pub returns-clause-round : goal.returns-clause-round
returns-clause-round g c =
    let back : c.loop-first.dart ≡ c.args.first = search rules in
    way-round g.K.Kind.kind (links_of c.args.links.now.rows) c.args.first c.loop-first.dart c.loop-first.round.items back c.loop-first.invariant
