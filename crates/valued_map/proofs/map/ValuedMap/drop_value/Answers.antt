use Rattle.std.proofs.Common.{ℕ, sym, ◌∙◌, lit<}
use Rattle.map_defs.specs.Rows.{Rows}
use Rattle.label_laws.proofs.Valued.{none-valued, take-stored, take-valued, darts-within}
use Rattle.valued_map.proofs.CellIds.{none-of}
use Rattle.valued_map.proofs.map.ValuedMap.drop_value.Goals as goal

pub returns-then-is_none-clause-valued : goal.returns-then-is_none-clause-valued
returns-then-is_none-clause-valued g c =
    let k = g.K.Kind.kind in
    let n : ℕ = g.row.DIM in
    let rows : Rows = c.self.inside.links.rows in
    let none = sym c.id.ensures.id ∙ none-of c.id.result c.is_none.result c.is_none.ensures c.if-is_none.true in
    rw (← c.self.view_is) (none-valued k n rows c.self.inside.labels c.self.inside.pool c.self.inside.rules c.self.invariant c.args.dim c.args.dart none)

pub take_ids-requires : goal.take_ids-requires
take_ids-requires g c =
    let k = g.K.Kind.kind in
    let n : ℕ = g.row.DIM in
    let rows : Rows = c.self.inside.links.rows in
    let live = rw (← c.self.view_is) at c.requires.live in
    rw (c.deref.ensures.value) (
      lit< tt,
      (
        c.requires.dim,
        darts-within k n rows c.self.inside.labels c.self.inside.pool c.self.inside.rules c.self.invariant c.args.dim c.args.dart live c.in_ok-darts.darts.items c.in_ok-darts.ensures.members,
      ),
    )

pub invariant_of-self : goal.invariant_of-self
invariant_of-self g c =
    let k = g.K.Kind.kind in
    let n : ℕ = g.row.DIM in
    let rows : Rows = c.self.inside.links.rows in
    let live = rw (← c.self.view_is) at c.requires.live in
    let taken = rw (c.deref.ensures.value) at c.take_ids.ensures in
    take-stored k n rows c.self.inside.labels c.self.inside.pool c.self.inside.rules c.self.invariant c.args.dim c.args.dart live
    c.in_ok-darts.darts.items c.in_ok-darts.ensures.members c.take_ids.new.labels c.take_ids.new.pool taken

pub returns-clause-valued : goal.returns-clause-valued
returns-clause-valued g c =
    let k = g.K.Kind.kind in
    let n : ℕ = g.row.DIM in
    let rows : Rows = c.self.inside.links.rows in
    let live = rw (← c.self.view_is) at c.requires.live in
    let taken = rw (c.deref.ensures.value) at c.take_ids.ensures in
    rw (← c.self.view_is)
    (take-valued k n rows c.self.inside.labels c.self.inside.pool c.self.inside.rules c.self.invariant c.args.dim c.args.dart live
    c.in_ok-darts.darts.items c.in_ok-darts.ensures.members c.take_ids.new.labels c.take_ids.new.pool taken)
