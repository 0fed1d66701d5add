use Rattle.std.proofs.Common.{◌≤◌, length, map, sym, ◌∙◌, arith}
use Rattle.std.proofs.lemmas.List.{take_all, length-map}
use Rattle.hook_book.proofs.Places.{same-name, name-at, within, not-among}
use Rattle.hook_book.proofs.book.place_among.Goals as goal

pub returns-then-eq : goal.returns-then-eq
returns-then-eq g c =
    let called = g.R.Kept.called in
    let hooks = c.args.hooks.now in (
      within called hooks c.loop-place.place c.loop-place-test.true,
      c.loop-place.invariant,
      name-at called hooks c.loop-place.place c.index-hooks-place.result c.loop-place-test.true c.index-hooks-place.is ∙ sym c.name.ensures
          ∙ same-name c.name.result.now c.args.name.now (sym c.eq.ensures ∙ c.if-eq.true),
    )

pub loop-place-preserved : goal.loop-place-preserved
loop-place-preserved g c =
    not-among g.R.Kept.called c.args.hooks.now c.loop-place.place c.index-hooks-place.result c.args.name.now c.loop-place-test.true c.index-hooks-place.is c.loop-place.invariant
    (rw (← c.name.ensures) (sym c.eq.ensures ∙ c.if-eq.false))

pub returns : goal.returns
returns g c =
    let names = map g.R.Kept.called c.args.hooks.now in
    let past : length names ≤ c.loop-place.place = omega (arith, length-map c.args.hooks.now g.R.Kept.called, c.loop-place-test.false) in
    rw (take_all c.loop-place.place names past) at c.loop-place.invariant
