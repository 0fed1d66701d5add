use Rattle.std.proofs.Common.{ℕ, ◌+◌, ◌<◌, List, IsSome, refl, sym, subst, arith}
use Rattle.map_defs.specs.Rows.{Rows, IsLive, links_of}
use Rattle.store_defs.specs.Groups.{Group, rule_at}
use Rattle.label_laws.specs.Stored.{stored_value}
use Rattle.label_laws.specs.Restoring.{AreRestored}
use Rattle.valued_map.specs.Ways.{in_turn, value_along, IsStepped}
use Rattle.valued_map.proofs.RestoredGroups.{restored-as, restored-append, rule-low}
use Rattle.valued_map.proofs.restored_cells.all_cells.Goals as goal

pub loop-dim-preserved : goal.loop-dim-preserved
loop-dim-preserved g c =
    let rows : Rows = c.args.links.now.rows in
    let m : ℕ = c.loop-dim.dim in
    subst (λ (gs : List Group). AreRestored g.K.Kind.kind (links_of rows) (IsLive rows) (λ j. (j < m + 1) × IsSome (rule_at c.args.rules.now j)) (IsStepped c.args.way g.K.Kind.kind g.row.DIM rows c.args.steps.now)
    (λ j d. value_along c.args.way (in_turn c.args.way c.args.steps.now) j d (stored_value c.args.pool.now c.args.labels.now j d)) gs) (sym c.in_ok-append.ensures.items)
    (restored-append g.K.Kind.kind rows m (λ j. IsSome (rule_at c.args.rules.now j)) (IsStepped c.args.way g.K.Kind.kind g.row.DIM rows c.args.steps.now)
    (λ j d. value_along c.args.way (in_turn c.args.way c.args.steps.now) j d (stored_value c.args.pool.now c.args.labels.now j d)) c.loop-dim.groups.items c.in_ok-cells.cells.items c.loop-dim.invariant c.in_ok-cells.ensures)

pub returns : goal.returns
returns g c =
    let rows : Rows = c.args.links.now.rows in
    restored-as g.K.Kind.kind rows (λ j. (j < c.loop-dim.dim) × IsSome (rule_at c.args.rules.now j)) (λ j. IsSome (rule_at c.args.rules.now j))
    (IsStepped c.args.way g.K.Kind.kind g.row.DIM rows c.args.steps.now) (IsStepped c.args.way g.K.Kind.kind g.row.DIM rows c.args.steps.now)
    (λ j d. value_along c.args.way (in_turn c.args.way c.args.steps.now) j d (stored_value c.args.pool.now c.args.labels.now j d)) (λ j d. value_along c.args.way (in_turn c.args.way c.args.steps.now) j d (stored_value c.args.pool.now c.args.labels.now j d))
    c.loop-dim.groups.items
    (λ j. (λ h. h.1, λ h. (let low = rule-low c.args.rules.now j h in omega (arith, c.requires.long, c.dimension-dim-end.ensures.dimension), h)))
    (λ j d w live. w) (λ j d. refl) c.loop-dim.invariant
