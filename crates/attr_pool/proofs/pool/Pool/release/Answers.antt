use Rattle.std.proofs.Common.{◌∷◌, None, Some, false, sym, ap, ◌∙◌, arith, length-set}
use Rattle.std.proofs.lemmas.List.Elements.{All-set}
use Rattle.map_defs.specs.Values.{IsRepresentable}
use Rattle.dart_arena.proofs.RowLemmas.{count-buried}
use Rattle.attr_pool.specs.Pools.{slots_of}
use Rattle.attr_pool.proofs.PairedLists.{set-slots}
use Rattle.attr_pool.proofs.PoolSteps.{held, is_put_at, kept_released}
use Rattle.attr_pool.proofs.pool.Pool.release.Goals as goal

pub index-value-requires : goal.index-value-requires
index-value-requires c =
    let pool = c.self.inside in
    let live = rw (← c.self.view_is) at c.requires in
    let h = held pool.values.items pool.lives.items c.args.id c.place-place.result c.self.invariant.kept.paired c.place-place.ensures live in
    omega (arith, h.within, pool.values.ok.0)

pub index_mut-requires : goal.index_mut-requires
index_mut-requires c =
    let pool = c.self.inside in
    let live = rw (← c.self.view_is) at c.requires in
    let h = held pool.values.items pool.lives.items c.args.id c.place-place.result c.self.invariant.kept.paired c.place-place.ensures live in
    omega (arith, h.within, pool.values.ok.0)

pub index_mut-requires-2 : goal.index_mut-requires-2
index_mut-requires-2 c =
    let pool = c.self.inside in
    let live = rw (← c.self.view_is) at c.requires in
    let same = c.self.invariant.kept.paired in
    let h = held pool.values.items pool.lives.items c.args.id c.place-place.result same c.place-place.ensures live in
    omega (arith, h.within, same, pool.lives.ok.0)

pub overflow_sub-self : goal.overflow_sub-self
overflow_sub-self c =
    let pool = c.self.inside in
    let live = rw (← c.self.view_is) at c.requires in
    let k = c.self.invariant.kept in
    let h = held pool.values.items pool.lives.items c.args.id c.place-place.result k.paired c.place-place.ensures live in
    omega (arith, count-buried (slots_of pool.values.items pool.lives.items) c.place-place.result h.found, k.count)

pub invariant_of-self : goal.invariant_of-self
invariant_of-self c =
    let pool = c.self.inside in
    let live = rw (← c.self.view_is) at c.requires in
    let k = c.self.invariant in
    let h = held pool.values.items pool.lives.items c.args.id c.place-place.result k.kept.paired c.place-place.ensures live in
    record {
      places = c.place-place.result ∷ k.places;
      kept = kept_released pool.values.items pool.lives.items pool.free pool.live c.args.id c.place-place.result k.places c.free_value.result k.kept h c.free_value.ensures.next;
      held = All-set IsRepresentable pool.values.items c.place-place.result c.free_value.result c.free_value.ensures.held k.held;
      placed = rw length-set k.placed;
      values_room = k.values_room;
      lives_room = k.lives_room;
      few = k.few;
    }

pub returns-clause-before : goal.returns-clause-before
returns-clause-before c =
    let pool = c.self.inside in
    let live = rw (← c.self.view_is) at c.requires in
    let h = held pool.values.items pool.lives.items c.args.id c.place-place.result c.self.invariant.kept.paired c.place-place.ensures live in
    rw (← c.self.view_is) (h.read c.index-value.result.now ∙ ap Some (sym c.index-value.ensures))

pub returns-clause-released : goal.returns-clause-released
returns-clause-released c =
    let pool = c.self.inside in
    let live = rw (← c.self.view_is) at c.requires in
    let same = c.self.invariant.kept.paired in
    let h = held pool.values.items pool.lives.items c.args.id c.place-place.result same c.place-place.ensures live in
    let e = set-slots pool.values.items pool.lives.items c.place-place.result c.free_value.result false in
    rw (← c.self.view_is) (is_put_at pool.values.items pool.lives.items _ _ _ c.args.id c.place-place.result None same h e c.place-place.ensures)

pub returns-clause-count : goal.returns-clause-count
returns-clause-count c =
    let pool = c.self.inside in
    let live = rw (← c.self.view_is) at c.requires in
    let h = held pool.values.items pool.lives.items c.args.id c.place-place.result c.self.invariant.kept.paired c.place-place.ensures live in
    let e = set-slots pool.values.items pool.lives.items c.place-place.result c.free_value.result false in
    rw (← c.self.view_is, e) (count-buried (slots_of pool.values.items pool.lives.items) c.place-place.result h.found)

pub returns-clause-spare : goal.returns-clause-spare
returns-clause-spare c =
    let pool = c.self.inside in
    let live = rw (← c.self.view_is) at c.requires in
    let k = c.self.invariant in
    let h = held pool.values.items pool.lives.items c.args.id c.place-place.result k.kept.paired c.place-place.ensures live in
    rw (← c.self.view_is) (omega (arith, count-buried (slots_of pool.values.items pool.lives.items) c.place-place.result h.found, k.kept.count, k.kept.all, k.placed))
