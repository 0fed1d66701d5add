use Rattle.std.proofs.Common.{ℕ, List, map, take, subst, Some}
use Rattle.hook_book.specs.Faults.{IsFaultOf}
use Rattle.hook_book.proofs.Places.{within, fault-at, more-fine}
use Rattle.hook_book.proofs.book.first_fault.Goals as goal

pub returns-in-Some : goal.returns-in-Some
returns-in-Some g c =
    let called = g.R.Kept.called in
    let hooks = c.args.hooks.now in record {
      within = within called hooks c.loop-place.place c.loop-place-test.true;
      fine = c.loop-place.invariant;
      here = fault-at called hooks c.loop-place.place c.index-hooks-place.result c.loop-place-test.true c.index-hooks-place.is (Some c.in-Some.what)
          (subst (λ (name : List ℕ). IsFaultOf (map called (take c.loop-place.place hooks)) name (Some c.in-Some.what)) c.name.ensures c.in-Some.ensures);
    }

pub loop-place-preserved : goal.loop-place-preserved
loop-place-preserved g c =
    let fault = rw c.name.ensures at c.in_default.ensures in
    more-fine g.R.Kept.called c.args.hooks.now c.loop-place.place c.index-hooks-place.result c.loop-place-test.true c.index-hooks-place.is c.loop-place.invariant fault.0 fault.1
