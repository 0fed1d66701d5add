use Rattle.std.proofs.Common.{Some, sym, ap, ◌∙◌, arith, length-set, rules}
use Rattle.std.proofs.lemmas.List.Elements.{All-set}
use Rattle.map_defs.specs.Values.{IsRepresentable}
use Rattle.dart_arena.proofs.RowLemmas.{count-replaced}
use Rattle.attr_pool.specs.Pools.{slots_of}
use Rattle.attr_pool.proofs.PairedLists.{set-slots_value}
use Rattle.attr_pool.proofs.PoolSteps.{held, is_put_at, kept_replaced}
use Rattle.attr_pool.proofs.pool.Pool.replace.Goals as goal

pub index-before-requires : goal.index-before-requires
index-before-requires c =
    let pool = c.self.inside in
    let live = rw (← c.self.view_is) at c.requires in
    let h = held pool.values.items pool.lives.items c.args.id c.place-place.result c.self.invariant.kept.paired c.place-place.ensures live in
    omega (arith, h.within, pool.values.ok.0)

pub index_mut-requires : goal.index_mut-requires
index_mut-requires c =
    let pool = c.self.inside in
    let live = rw (← c.self.view_is) at c.requires in
    let h = held pool.values.items pool.lives.items c.args.id c.place-place.result c.self.invariant.kept.paired c.place-place.ensures live in
    omega (arith, h.within, pool.values.ok.0)

pub invariant_of-self : goal.invariant_of-self
invariant_of-self c =
    let pool = c.self.inside in
    let live = rw (← c.self.view_is) at c.requires in
    let k = c.self.invariant in
    let h = held pool.values.items pool.lives.items c.args.id c.place-place.result k.kept.paired c.place-place.ensures live in
    record {
      places = k.places;
      kept = kept_replaced pool.values.items pool.lives.items pool.free pool.live c.args.id c.place-place.result k.places c.args.value k.kept h;
      held = All-set IsRepresentable pool.values.items c.place-place.result c.args.value (search rules) k.held;
      placed = rw length-set k.placed;
      values_room = k.values_room;
      lives_room = k.lives_room;
      few = k.few;
    }

pub returns-clause-before : goal.returns-clause-before
returns-clause-before c =
    let pool = c.self.inside in
    let live = rw (← c.self.view_is) at c.requires in
    let h = held pool.values.items pool.lives.items c.args.id c.place-place.result c.self.invariant.kept.paired c.place-place.ensures live in
    rw (← c.self.view_is) (h.read c.index-before.result.now ∙ ap Some (sym c.index-before.ensures))

pub returns-clause-replaced : goal.returns-clause-replaced
returns-clause-replaced c =
    let pool = c.self.inside in
    let live = rw (← c.self.view_is) at c.requires in
    let k = c.self.invariant in
    let h = held pool.values.items pool.lives.items c.args.id c.place-place.result k.kept.paired c.place-place.ensures live in
    let e = set-slots_value pool.values.items pool.lives.items c.place-place.result c.args.value h.live in
    rw (← c.self.view_is) (is_put_at pool.values.items pool.lives.items _ _ _ c.args.id c.place-place.result (Some c.args.value) k.kept.paired h e c.place-place.ensures)

pub returns-clause-count : goal.returns-clause-count
returns-clause-count c =
    let pool = c.self.inside in
    let live = rw (← c.self.view_is) at c.requires in
    let h = held pool.values.items pool.lives.items c.args.id c.place-place.result c.self.invariant.kept.paired c.place-place.ensures live in
    let e = set-slots_value pool.values.items pool.lives.items c.place-place.result c.args.value h.live in
    rw (← c.self.view_is, e) (count-replaced (slots_of pool.values.items pool.lives.items) c.place-place.result c.args.value h.found)
