use Rattle.std.proofs.Common.{◌<◌, ◌+◌, List, IsSome, refl, sym, subst, arith}
use Rattle.map_defs.specs.Rows.{IsLive, links_of}
use Rattle.store_defs.specs.Labelings.{id_of}
use Rattle.store_defs.specs.Groups.{Group, darts_in}
use Rattle.transport.specs.Joined.{IsCarriedCell, IsWanted, AreAllOf}
use Rattle.transport.proofs.JoinFacts.{all_joined, all_touched, all_carried}
use Rattle.map_defs.specs.Values.{meaning_of}
use Rattle.value_laws.proofs.Rules.{keeps_whole}
use Rattle.transport.proofs.OtherCells.{other_cells}
use Rattle.transport.proofs.carrying.carry.Goals as goal

pub loop-dim-preserved : goal.loop-dim-preserved
loop-dim-preserved g c =
    subst (λ (groups : List Group). AreAllOf
    (IsCarriedCell g.K.Kind.kind (links_of c.args.links.now.rows) (IsLive c.args.links.now.rows) (id_of c.args.labels.now) c.args.pool.now (g.H.Hook.hook c.args.hook.now) c.args.rules.now (darts_in c.args.touched.now))
    (IsWanted c.args.rules.now (darts_in c.args.touched.now)) (λ i. i < c.loop-dim.dim + 1) groups)
    (sym c.in_ok-put_behind.ensures)
    (all_joined _ _ c.loop-dim.dim c.loop-dim.groups.items c.in_ok-cells.cells.items c.loop-dim.invariant c.in_ok-cells.ensures)

pub returns-clause-cells : goal.returns-clause-cells
returns-clause-cells g c =
    let end = c.loop-dim-test.false in
    let dimension = c.dimension-dim-end.ensures.dimension in
    let rows = c.requires.rules in
    all_touched _ _ _ _ _ _ _ _ c.loop-dim.dim c.loop-dim.groups.items (omega arith) c.loop-dim.invariant

pub returns-clause-values : goal.returns-clause-values
returns-clause-values g c = all_carried _ _ _ _ _ _ _ _ c.loop-dim.dim c.loop-dim.groups.items c.loop-dim.invariant

pub returns-clause-others : goal.returns-clause-others
returns-clause-others g c i d rule ruled live untouched =
    other_cells g.K.Kind.kind g.row.DIM c.args.links.now.rows c.dimension-dim-end.ensures.sound i (id_of c.args.labels.now i) c.args.pool.now (darts_in c.args.touched.now i) (meaning_of (g.H.Hook.hook c.args.hook.now) rule) (keeps_whole (g.H.Hook.hook c.args.hook.now) rule ((g.met.H.Hook.lawful c.args.hook.now c.requires.ready).whole)) c.see_values.ensures (c.requires.held i)
    (c.requires.covered i (subst IsSome (sym ruled) refl)) d live untouched
