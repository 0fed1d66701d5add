use Rattle.std.proofs.Common.{◌≡◌, ◌<◌, ◌≤◌, ◌∷◌, ◌+◌, true, None, Some, drop, length, sym, ap, ◌∙◌, arith, length-set, rules}
use Rattle.std.proofs.lemmas.List.{get_or_past, get_or_read}
use Rattle.std.proofs.lemmas.List.Elements.{All-set, All-push}
use Rattle.map_defs.specs.Values.{IsRepresentable}
use Rattle.dart_arena.proofs.RowLemmas.{count-revived}
use Rattle.attr_pool.specs.Pools.{slots_of, no_value}
use Rattle.attr_pool.proofs.PairedLists.{length-slots, set-slots, slots-push}
use Rattle.attr_pool.proofs.PoolSteps.{reusable, is_put, is_put_last, kept_reused, kept_pushed, count-pushed, given_id}
use Rattle.attr_pool.proofs.pool.Pool.make.Goals as goal

pub index-requires : goal.index-requires
index-requires c =
    let pool = c.self.inside in
    let k = c.self.invariant in
    let some : pool.live < length pool.values.items = omega (arith, c.if-self-len.true, c.len.ensures, pool.values.ok.0) in
    let f = reusable pool.values.items pool.lives.items pool.free pool.live k.places k.kept some in
    let size = length-slots pool.values.items pool.lives.items k.kept.paired in
    omega (arith, f.within, size, pool.values.ok.0)

pub next_place-self-inside-requires : goal.next_place-self-inside-requires
next_place-self-inside-requires c =
    let pool = c.self.inside in
    let k = c.self.invariant in
    let some : pool.live < length pool.values.items = omega (arith, c.if-self-len.true, c.len.ensures, pool.values.ok.0) in
    let f = reusable pool.values.items pool.lives.items pool.free pool.live k.places k.kept some in
    let size = length-slots pool.values.items pool.lives.items k.kept.paired in
    let within : pool.free < length pool.values.items = omega (arith, f.within, size) in
    let read = get_or_read pool.values.items pool.free c.index.result.now within c.index.ensures no_value in
    (f.next, ap (λ v. v.a) read ∙ f.written, omega (arith, f.small, size, k.placed, k.few))

pub index_mut-requires : goal.index_mut-requires
index_mut-requires c =
    let pool = c.self.inside in
    let k = c.self.invariant in
    let some : pool.live < length pool.values.items = omega (arith, c.if-self-len.true, c.len.ensures, pool.values.ok.0) in
    let f = reusable pool.values.items pool.lives.items pool.free pool.live k.places k.kept some in
    let size = length-slots pool.values.items pool.lives.items k.kept.paired in
    omega (arith, f.within, size, pool.values.ok.0)

pub index_mut-requires-then-self-len : goal.index_mut-requires-then-self-len
index_mut-requires-then-self-len c =
    let pool = c.self.inside in
    let k = c.self.invariant in
    let some : pool.live < length pool.values.items = omega (arith, c.if-self-len.true, c.len.ensures, pool.values.ok.0) in
    let f = reusable pool.values.items pool.lives.items pool.free pool.live k.places k.kept some in
    let size = length-slots pool.values.items pool.lives.items k.kept.paired in
    omega (arith, f.within, size, k.kept.paired, pool.lives.ok.0)

pub overflow_add-place : goal.overflow_add-place
overflow_add-place c =
    let pool = c.self.inside in
    let k = c.self.invariant in
    let some : pool.live < length pool.values.items = omega (arith, c.if-self-len.true, c.len.ensures, pool.values.ok.0) in
    let f = reusable pool.values.items pool.lives.items pool.free pool.live k.places k.kept some in
    let size = length-slots pool.values.items pool.lives.items k.kept.paired in
    search (arith, f.within, size, k.placed, k.few)

pub invariant_of-self : goal.invariant_of-self
invariant_of-self c =
    let pool = c.self.inside in
    let k = c.self.invariant in
    let some : pool.live < length pool.values.items = omega (arith, c.if-self-len.true, c.len.ensures, pool.values.ok.0) in
    let f = reusable pool.values.items pool.lives.items pool.free pool.live k.places k.kept some in
    let size = length-slots pool.values.items pool.lives.items k.kept.paired in
    let within : pool.free < length pool.values.items = omega (arith, f.within, size) in
    let read = get_or_read pool.values.items pool.free c.index.result.now within c.index.ensures no_value in
    let next = sym c.next_place-self-inside.ensures ∙ ap (λ v. v.a) read in
    record {
      places = drop 1 k.places;
      kept = kept_reused pool.values.items pool.lives.items pool.free pool.live c.next_place-self-inside.result k.places c.args.value k.kept some next;
      held = All-set IsRepresentable pool.values.items pool.free c.args.value (search rules) k.held;
      placed = rw length-set k.placed;
      values_room = k.values_room;
      lives_room = k.lives_room;
      few = k.few;
    }

pub returns-then-self-len-clause-made : goal.returns-then-self-len-clause-made
returns-then-self-len-clause-made c =
    let pool = c.self.inside in
    let k = c.self.invariant in
    let some : pool.live < length pool.values.items = omega (arith, c.if-self-len.true, c.len.ensures, pool.values.ok.0) in
    let f = reusable pool.values.items pool.lives.items pool.free pool.live k.places k.kept some in
    let size = length-slots pool.values.items pool.lives.items k.kept.paired in
    let e = set-slots pool.values.items pool.lives.items pool.free c.args.value true in
    let id = given_id (pool.free + 1) c.unwrap.result c.new.result (omega arith) c.new.ensures c.unwrap.ensures in
    rw (← c.self.view_is) (is_put (slots_of pool.values.items pool.lives.items) _ _ _ c.unwrap.result pool.free (Some c.args.value) e f.within id)

pub returns-then-self-len-clause-count : goal.returns-then-self-len-clause-count
returns-then-self-len-clause-count c =
    let pool = c.self.inside in
    let k = c.self.invariant in
    let some : pool.live < length pool.values.items = omega (arith, c.if-self-len.true, c.len.ensures, pool.values.ok.0) in
    let f = reusable pool.values.items pool.lives.items pool.free pool.live k.places k.kept some in
    let size = length-slots pool.values.items pool.lives.items k.kept.paired in
    let e = set-slots pool.values.items pool.lives.items pool.free c.args.value true in
    rw (← c.self.view_is, e) (count-revived (slots_of pool.values.items pool.lives.items) pool.free c.args.value f.within f.bare)

pub invariant_of-self-2 : goal.invariant_of-self-2
invariant_of-self-2 c =
    let pool = c.self.inside in
    let k = c.self.invariant in
    let full : length pool.values.items ≤ pool.live = omega (arith, c.if-self-len.false, c.len.ensures, pool.values.ok.0) in
    let spare = rw (← c.self.view_is) at c.requires in
    let kept = kept_pushed pool.values.items pool.lives.items pool.free pool.live k.places c.args.value k.kept full in
    let capacity = c.push_reserved.ensures.capacity in
    let other = c.push_reserved-2.ensures.capacity in
    record {
      places = k.places;
      kept = rw (c.push_reserved.ensures.items, c.push_reserved-2.ensures.items) kept;
      held = rw c.push_reserved.ensures.items (All-push IsRepresentable pool.values.items c.args.value k.held (search rules));
      placed = omega (arith, kept.all, k.kept.all, c.push_reserved.ensures.len, c.push_reserved.new.self.ok.0, pool.values.ok.0, full, spare);
      values_room = omega (arith, k.values_room);
      lives_room = omega (arith, k.lives_room);
      few = k.few;
    }

pub returns-clause-fresh : goal.returns-clause-fresh
returns-clause-fresh c =
    let pool = c.self.inside in
    let k = c.self.invariant in
    let size = length-slots pool.values.items pool.lives.items k.kept.paired in
    let number : c.len-2.result ≡ length pool.values.items + 1 = omega (arith, c.len-2.ensures, c.push_reserved.ensures.len, pool.values.ok.0) in
    let id = given_id c.len-2.result c.unwrap-2.result c.new-2.result (omega arith) c.new-2.ensures c.unwrap-2.ensures in
    let last : c.unwrap-2.result ≡ length (slots_of pool.values.items pool.lives.items) + 1 = omega (arith, id, number, size) in
    rw (← c.self.view_is) (get_or_past (None ∷ slots_of pool.values.items pool.lives.items) c.unwrap-2.result None (omega (arith, last)))

pub returns-clause-made : goal.returns-clause-made
returns-clause-made c =
    let pool = c.self.inside in
    let k = c.self.invariant in
    let size = length-slots pool.values.items pool.lives.items k.kept.paired in
    let number : c.len-2.result ≡ length pool.values.items + 1 = omega (arith, c.len-2.ensures, c.push_reserved.ensures.len, pool.values.ok.0) in
    let id = given_id c.len-2.result c.unwrap-2.result c.new-2.result (omega arith) c.new-2.ensures c.unwrap-2.ensures in
    let last : c.unwrap-2.result ≡ length (slots_of pool.values.items pool.lives.items) + 1 = omega (arith, id, number, size) in
    let e = slots-push pool.values.items pool.lives.items c.args.value k.kept.paired in
    rw (← c.self.view_is, c.push_reserved.ensures.items, c.push_reserved-2.ensures.items) (is_put_last (slots_of pool.values.items pool.lives.items) _ _ _ c.unwrap-2.result (Some c.args.value) e last)

pub returns-clause-count : goal.returns-clause-count
returns-clause-count c =
    let pool = c.self.inside in
    let k = c.self.invariant in
    let e = slots-push pool.values.items pool.lives.items c.args.value k.kept.paired in
    rw (← c.self.view_is, c.push_reserved.ensures.items, c.push_reserved-2.ensures.items, e) (count-pushed (slots_of pool.values.items pool.lives.items) c.args.value)
