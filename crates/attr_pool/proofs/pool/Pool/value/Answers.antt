use Rattle.std.proofs.Common.{true, false, Some, ◌∙◌, ap, sym, arith}
use Rattle.attr_pool.specs.Pools.{no_value}
use Rattle.attr_pool.proofs.PoolSteps.{told_value}
use Rattle.attr_pool.proofs.pool.Pool.value.Goals as goal

pub returns-in_err-get : goal.returns-in_err-get
returns-in_err-get c =
    let pool = c.self.inside in
    let bare = rw c.deref.ensures.value at c.in_err-get.ensures.lookup.4 (omega arith) false in
    let told = told_value pool.values.items pool.lives.items c.args.id c.place-place.result false no_value c.self.invariant.kept.paired c.place-place.ensures bare in
    rw (← c.self.view_is) (c.from_residual.ensures ∙ told)

pub returns-then-branch : goal.returns-then-branch
returns-then-branch c =
    let pool = c.self.inside in
    let live = rw c.deref.ensures.value at c.in_ok-get.ensures.lookup.4 (omega arith) false in
    let told = told_value pool.values.items pool.lives.items c.args.id c.place-place.result true c.index.result.now c.self.invariant.kept.paired c.place-place.ensures (sym c.if-branch.true ∙ live) in
    rw (← c.self.view_is) (ap Some c.index.ensures ∙ told)

pub returns : goal.returns
returns c =
    let pool = c.self.inside in
    let bare = rw c.deref.ensures.value at c.in_ok-get.ensures.lookup.4 (omega arith) false in
    let told = told_value pool.values.items pool.lives.items c.args.id c.place-place.result false no_value c.self.invariant.kept.paired c.place-place.ensures (sym c.if-branch.false ∙ bare) in
    rw (← c.self.view_is) told
