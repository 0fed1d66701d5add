use Rattle.std.proofs.Common.{◌≡◌, ◌+◌, ◌<◌, List, length, Option, IsSome, inl, inr, refl, ap, lit<, arith, rules}
use Rattle.map_defs.specs.Rows.{Rows}
use Rattle.map_defs.specs.Values.{Rule}
use Rattle.store_defs.specs.Groups.{rule_at}
use Rattle.label_laws.specs.Stored.{stored_value}
use Rattle.label_laws.proofs.Same.{stored_value-alike}
use Rattle.valued_map.specs.Ways.{in_turn, value_along, IsStepped}
use Rattle.valued_map.proofs.RestoredGroups.{restored-as}
use Rattle.valued_map.proofs.restored_cells.cells_along.Goals as goal

pub open_places-requires : goal.open_places-requires
open_places-requires g c =
    let some : 0 < length c.args.rules.now = c.has_places.ensures.0 (search rules) in
    let long : length c.args.rules.now ≡ g.row.DIM + 1 = elim c.requires.long [ inl e ↦ absurd (omega (arith, some, ap (λ (rs : List (Option Rule)). length rs) e)) | inr e ↦ e ] in
    (lit< tt, (c.requires.high, omega (arith, long)))

pub returns-clause-cells : goal.returns-clause-cells
returns-clause-cells g c =
    let rows : Rows = c.args.links.now.rows in
    restored-as g.K.Kind.kind rows (λ j. IsSome (rule_at c.args.rules.now j)) (λ j. IsSome (rule_at c.args.rules.now j))
    (IsStepped c.args.way g.K.Kind.kind g.row.DIM rows c.args.steps.now) (IsStepped c.args.way g.K.Kind.kind g.row.DIM rows c.args.steps.now)
    (λ j d. value_along c.args.way (in_turn c.args.way c.args.steps.now) j d (stored_value c.args.pool.now c.open_places.new.labels j d)) (λ j d. value_along c.args.way (in_turn c.args.way c.args.steps.now) j d (stored_value c.args.pool.now c.args.labels.now j d))
    c.in_ok-groups.groups.items
    (λ j. (λ h. h, λ h. h))
    (λ j d w live. w)
    (λ j d. ap (value_along c.args.way (in_turn c.args.way c.args.steps.now) j d) (stored_value-alike c.args.labels.now c.open_places.new.labels c.args.pool.now c.args.pool.now c.in_ok-open_places.ensures.ids refl j d))
    c.in_ok-groups.ensures
