use Rattle.std.proofs.Common.{ℕ, refl, sym, lit<}
use Rattle.std.proofs.lemmas.Result.{err_from_is_err_and}
use Rattle.map_defs.specs.Rows.{Rows}
use Rattle.label_laws.proofs.Same.{content-alike}
use Rattle.label_laws.proofs.Valued.{rule-there, replace-stored, replace-valued, darts-within, give-stored, give-valued}
use Rattle.valued_map.proofs.map.ValuedMap.give_value.Goals as goal

pub returns-in-Some-clause-valued : goal.returns-in-Some-clause-valued
returns-in-Some-clause-valued g c =
    let k = g.K.Kind.kind in
    let n : ℕ = g.row.DIM in
    let rows : Rows = c.self.inside.links.rows in
    rw (← c.self.view_is)
    (replace-valued k n rows c.self.inside.labels c.self.inside.pool c.self.inside.rules c.self.invariant c.args.dim c.args.dart c.args.value c.in-Some.id (sym c.in-Some.ensures.id)
    c.replace.new.self c.replace.ensures.replaced)

pub invariant_of-self : goal.invariant_of-self
invariant_of-self g c =
    replace-stored g.K.Kind.kind g.row.DIM c.self.inside.links.rows c.self.inside.labels c.self.inside.pool c.self.inside.rules c.self.invariant c.args.dim c.args.dart c.args.value c.in-Some.id (sym c.in-Some.ensures.id)
    c.replace.new.self c.replace.ensures.replaced

pub returns-in_err-make_room-clause-err : goal.returns-in_err-make_room-clause-err
returns-in_err-make_room-clause-err g c =
    let k = g.K.Kind.kind in
    let n : ℕ = g.row.DIM in
    let rows : Rows = c.self.inside.links.rows in
    let error = err_from_is_err_and c.from_residual-in_err-make_room.result c.from_residual-in_err-make_room.ensures.1 in
    rw (error.1, ← c.self.view_is) (content-alike k n rows c.self.inside.labels c.self.inside.labels c.self.inside.pool c.make_room.new.pool c.self.inside.rules (λ _ _. refl) c.make_room.ensures.slots)

pub give_id-requires : goal.give_id-requires
give_id-requires g c =
    let k = g.K.Kind.kind in
    let n : ℕ = g.row.DIM in
    let rows : Rows = c.self.inside.links.rows in
    let live = rw (← c.self.view_is) at c.requires.live in
    let ruled = rule-there k n rows c.self.inside.labels c.self.inside.pool c.self.inside.rules c.self.invariant c.args.dim c.args.dart (rw (← c.self.view_is) at c.requires.ruled) in
    rw (c.deref.ensures.value) (
      lit< tt,
      (
        c.requires.dim,
        (
          darts-within k n rows c.self.inside.labels c.self.inside.pool c.self.inside.rules c.self.invariant c.args.dim c.args.dart live c.in_ok-darts.darts.items c.in_ok-darts.ensures.members,
          (c.self.invariant.placed c.args.dim ruled, c.in_ok-make_room.ensures.room),
        ),
      ),
    )

pub invariant_of-self-2 : goal.invariant_of-self-2
invariant_of-self-2 g c =
    let k = g.K.Kind.kind in
    let n : ℕ = g.row.DIM in
    let rows : Rows = c.self.inside.links.rows in
    let live = rw (← c.self.view_is) at c.requires.live in
    let ruled = rule-there k n rows c.self.inside.labels c.self.inside.pool c.self.inside.rules c.self.invariant c.args.dim c.args.dart (rw (← c.self.view_is) at c.requires.ruled) in
    let given = rw (c.deref.ensures.value) at c.give_id.ensures.given in
    give-stored k n rows c.self.inside.labels c.self.inside.pool c.self.inside.rules c.self.invariant c.args.dim c.args.dart live
    c.in_ok-darts.darts.items c.in_ok-darts.ensures.members c.args.value c.make_room.new.pool c.in_ok-make_room.ensures.slots ruled (sym c.in_default.ensures.id)
    c.give_id.new.labels c.give_id.new.pool given

pub returns-clause-valued : goal.returns-clause-valued
returns-clause-valued g c =
    let k = g.K.Kind.kind in
    let n : ℕ = g.row.DIM in
    let rows : Rows = c.self.inside.links.rows in
    let live = rw (← c.self.view_is) at c.requires.live in
    let ruled = rule-there k n rows c.self.inside.labels c.self.inside.pool c.self.inside.rules c.self.invariant c.args.dim c.args.dart (rw (← c.self.view_is) at c.requires.ruled) in
    let given = rw (c.deref.ensures.value) at c.give_id.ensures.given in
    rw (← c.self.view_is)
    (give-valued k n rows c.self.inside.labels c.self.inside.pool c.self.inside.rules c.self.invariant c.args.dim c.args.dart live
    c.in_ok-darts.darts.items c.in_ok-darts.ensures.members c.args.value c.make_room.new.pool c.in_ok-make_room.ensures.slots ruled (sym c.in_default.ensures.id)
    c.give_id.new.labels c.give_id.new.pool given)
