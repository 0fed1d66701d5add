use Rattle.std.proofs.Common.{[], ◌≤◌, All, sym, subst, arith}
use Rattle.off_text.proofs.Putting.{placed-more}
use Rattle.off_text.proofs.faces.place_cells.Goals as goal

pub put_place-requires : goal.put_place-requires
put_place-requires c =
    let own = subst (All (λ e. e ≤ c.args.made)) (sym c.list.ensures) (c.requires.made c.loop-place.place [] (omega (arith, c.len-place-end.ensures, c.loop-place-test.true))) in
    λ k d low. let below = own k d low in omega (arith, below, c.loop-place.invariant.long)

pub loop-place-preserved : goal.loop-place-preserved
loop-place-preserved c =
    placed-more c.args.made c.args.cells.now c.loop-place.place c.list.result.now c.loop-place.places.items c.put_place.new.places.items
    (omega (arith, c.len-place-end.ensures, c.loop-place-test.true)) (sym c.list.ensures) c.put_place.ensures.long c.put_place.ensures.put c.put_place.ensures.kept c.loop-place.invariant

pub returns-clause-placed : goal.returns-clause-placed
returns-clause-placed c x p is = c.loop-place.invariant.placed x p (omega (arith, is.0, c.len-place-end.ensures, c.loop-place-test.false)) is.1
