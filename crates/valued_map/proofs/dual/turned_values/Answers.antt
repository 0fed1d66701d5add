use Rattle.std.proofs.Common.{◌≡◌, ℕ, ◌+◌, ◌<◌, subst, arith}
use Rattle.label_laws.specs.Stored.{stored_value}
use Rattle.valued_map.specs.Told.{AreDiffering, IsPlaceBelow, turned_value}
use Rattle.valued_map.proofs.ListedValues.{no-differing}
use Rattle.valued_map.proofs.dual.turned_values.Goals as goal

pub loop-dim-init : goal.loop-dim-init
loop-dim-init g c =
    rw c.new-values.ensures.items
    (no-differing (IsPlaceBelow 0 c.args.made) (stored_value c.args.pool.now c.args.labels.now) (turned_value g.row.DIM c.args.labels.now c.args.pool.now) (λ i d place. absurd (let low : i < 0 = place.0 in omega arith)))

pub returns : goal.returns
returns g c = λ some.
    let whole : c.loop-dim.dim ≡ g.row.DIM + 1 = omega (arith, c.loop-dim-test.false) in
    subst (λ (m : ℕ). AreDiffering (IsPlaceBelow m c.args.made) (stored_value c.args.pool.now c.args.labels.now) (turned_value g.row.DIM c.args.labels.now c.args.pool.now) c.loop-dim.values.items) whole c.loop-dim.invariant
