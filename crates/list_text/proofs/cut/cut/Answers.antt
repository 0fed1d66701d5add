use Rattle.std.proofs.Common.{◌+◌, ◌<◌, ◌≤◌, ◌==◌, length, refl, sym, arith}
use Rattle.std.proofs.lemmas.Bool.Decides.{nat_tests}
use Rattle.std.proofs.lemmas.List.{take_rest, drop_all, length-drop}
use Rattle.list_text.proofs.Cuts.{split-at, split-none}
use Rattle.list_text.proofs.cut.cut.Goals as goal

pub returns-then-place-text : goal.returns-then-place-text
returns-then-place-text c =
    let place = c.place_of-place.ensures.place in
    let past : length c.args.text.now ≤ c.place_of-place.result = grind (arith, nat_tests) in
    let beyond : length c.args.text.now ≤ c.place_of-place.result + 1 = omega arith in
    (split-none (λ b. b == c.args.byte) c.args.text.now (rw place at past), rw (sym place) (drop_all (c.place_of-place.result + 1) c.args.text.now beyond))

pub returns : goal.returns
returns c =
    let text = c.args.text.now in
    let n = c.place_of-place.result in
    let place = c.place_of-place.ensures.place in
    let within : n < length text = grind (arith, nat_tests) in
    rw (take_rest text (n + 1)) (rw place (split-at (λ b. b == c.args.byte) text (rw place at within), refl, refl, rw (sym place) (omega (arith, length-drop (n + 1) text))))
