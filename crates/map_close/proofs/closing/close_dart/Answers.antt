use Rattle.std.proofs.Common.{◌≡◌, ◌≢◌, ◌+◌, ◌*◌, ◌<◌, sym, ◌∙◌, lit<, arith}
use prog.Memory.{up}
use Rattle.cell_edit.specs.Stars.{star_of}
use Rattle.map_close.proofs.ClosingRows.{closed-skip, closed-push, few-rows}
use Rattle.map_close.proofs.OpenFacts.{keys-few}
use Rattle.map_close.proofs.StarNumbers.{star-key}
use Rattle.map_close.proofs.closing.close_dart.Goals as goal

pub returns-then-number-eq0 : goal.returns-then-number-eq0
returns-then-number-eq0 g c =
    let is : c.number-2.result ≡ star_of c.args.stars.now c.args.dart = rw c.number.ensures.same at c.number-2.ensures in
    closed-skip g.K.Kind.kind g.row.DIM c.args.links.now.rows c.see_sound.ensures.sound c.args.link c.args.stars.now c.requires.can c.args.dart c.args.born.now
    c.requires.before (sym is ∙ c.if-number-eq0.true)

pub new_row-row-requires : goal.new_row-row-requires
new_row-row-requires g c =
    let fits : up 4 (4 + g.row.DIM * 4) < 9223372036854775808 = let high = c.see_sound.ensures.high in omega (arith, high) in
    let is : c.number-2.result ≡ star_of c.args.stars.now c.args.dart = rw c.number.ensures.same at c.number-2.ensures in
    let some : star_of c.args.stars.now c.args.dart ≢ 0 = λ none. c.if-number-eq0.false (is ∙ none) in
    (lit< tt, (fits, (c.requires.link, (c.requires.can, star-key c.args.stars.now c.args.dart some))))

pub push-requires : goal.push-requires
push-requires g c =
    let fits : up 4 (4 + g.row.DIM * 4) < 9223372036854775808 = let high = c.see_sound.ensures.high in omega (arith, high) in
    let sound = c.see_sound.ensures.sound in
    let is : c.number-2.result ≡ star_of c.args.stars.now c.args.dart = rw c.number.ensures.same at c.number-2.ensures in
    let some : star_of c.args.stars.now c.args.dart ≢ 0 = λ none. c.if-number-eq0.false (is ∙ none) in
    let less = few-rows g.K.Kind.kind g.row.DIM c.args.links.now.rows sound c.args.link c.args.stars.now c.requires.can c.args.dart c.args.born.now c.requires.before some in
    let few = keys-few g.K.Kind.kind g.row.DIM c.args.links.now.rows sound c.args.link c.args.stars.now c.requires.can in
    (fits, (c.requires.before.width, omega (arith, less, few, c.requires.before.first, c.requires.can.made, sound.few)))

pub returns : goal.returns
returns g c =
    let is : c.number-2.result ≡ star_of c.args.stars.now c.args.dart = rw c.number.ensures.same at c.number-2.ensures in
    let some : star_of c.args.stars.now c.args.dart ≢ 0 = λ none. c.if-number-eq0.false (is ∙ none) in
    rw c.in_ok-push.ensures
    (closed-push g.K.Kind.kind g.row.DIM c.args.links.now.rows c.see_sound.ensures.sound c.args.link c.args.stars.now c.requires.can c.args.dart c.args.born.now c.requires.before
    c.new_row-row.result some c.new_row-row.ensures)
