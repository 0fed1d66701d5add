use Rattle.std.proofs.Common.{◌≢◌, rules, arith, ◌∙◌}
use Rattle.machine_defs.specs.Difference.{ValueChange, IsValueBefore}
use Rattle.label_laws.specs.Stored.{stored_value}
use Rattle.valued_map.proofs.Retained.{retained-are, retained-ordered}
use Rattle.valued_map.proofs.ListedValues.{renewed-none, renewed-put, renewed-new}
use Rattle.valued_map.proofs.told.new_values.Goals as goal

pub loop-place-init : goal.loop-place-init
loop-place-init g c = renewed-none (stored_value c.args.pool.now c.args.labels.now) c.args.olds.items

pub loop-place-preserved : goal.loop-place-preserved
loop-place-preserved g c =
    let x : ValueChange = record { dim = c.behind-values.inside.dim; dart = c.behind-values.inside.dart; old = c.behind-values.inside.old; new = c.behind-values.inside.new } in
    let y : ValueChange = record { dim = c.change.inside.dim; dart = c.change.inside.dart; old = c.change.inside.old; new = c.change.inside.new } in
    renewed-put (stored_value c.args.pool.now c.args.labels.now) c.args.olds.items c.loop-place.place c.loop-place.values.items x y c.index_mut.result.now c.index-change.result.now c.stored_value.result
    (omega (arith, c.loop-place-test.true, c.len-place-end.ensures, c.loop-place.invariant.long))
    (c.behind-values.view_is ∙ c.index_mut.ensures.value) (c.change.view_is ∙ c.index-change.ensures) c.stored_value.ensures c.loop-place.invariant

pub returns : goal.returns
returns g c =
    renewed-new c.args.labels.now c.args.pool.now c.args.olds.items c.loop-place.place c.loop-place.values.items c.retain.new.self.items (omega (arith, c.loop-place-test.false, c.len-place-end.ensures, c.loop-place.invariant.long)) c.loop-place.invariant
    (retained-are _ (λ (x : ValueChange). x.old ≢ x.new) _ (λ x b h k. search rules) _ _ c.retain.ensures.filtered)
    (retained-ordered _ IsValueBefore _ _ _ c.retain.ensures.filtered)
