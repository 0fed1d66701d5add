use Rattle.std.proofs.Common.{ℕ, ◌≡◌, ◌+◌, ◌≤◌, Bool, true, List, ◌∷◌, ◌++◌, length, replicate, Option, None, sym, ap, ◌∙◌, arith}
use Rattle.std.proofs.lemmas.List.{length-append, length-replicate}
use Rattle.dart_arena.specs.Layout.{is_in_order, keys_from, IsKept}
use Rattle.dart_arena.proofs.KeyLemmas.{keys-length}
use Rattle.dart_arena.proofs.SlotLemmas.{rows-length}
use Rattle.dart_arena.proofs.Births.{all-born}
use Rattle.dart_arena.proofs.arena.Arena.bear.Goals as goal

pub invariant_of-self : goal.invariant_of-self
invariant_of-self g c =
    let live : List Bool = c.self.inside.places.live.items in
    let order : is_in_order c.self.inside.places ≡ true = sym c.is_in_order.ensures ∙ c.if-not-is_in_order.false in
    let kept : IsKept g.row.DIM c.self.inside.rows (keys_from 0 live) c.self.inside.count c.self.inside.spare c.self.inside.room = rw order at c.self.invariant.1 in
    let some : c.args.births ≤ c.self.inside.spare = rw (← c.self.view_is) at c.requires.spare in
    let more : c.args.births ≤ c.self.inside.room = rw (← c.self.view_is) at c.requires.room in
    let few : length live + c.args.births ≤ 4194304 = let made = rw (← c.self.view_is, order) at c.requires.few in omega (arith, made, rows-length c.self.inside.rows (keys_from 0 live), keys-length 0 live) in
    let capacity = rw order at c.self.invariant.2 in
    let most = rw order at c.self.invariant.3 in
    let all = live ++ replicate c.args.births true in
    let long : length (keys_from 0 all) ≡ length (keys_from 0 live) + c.args.births =
    keys-length 0 all ∙ (length-append live (replicate c.args.births true) ∙ omega (arith, length-replicate c.args.births true, keys-length 0 live)) in
    rw (c.push_in_order.ensures.keys, c.push_in_order.ensures.capacity, c.push_in_order.ensures.order, order) (
      c.self.invariant.0,
      (all-born g.row.DIM c.self.inside.rows c.args.births live c.self.inside.count c.self.inside.spare c.self.inside.room kept some more few).0,
      omega (arith, long, capacity, some),
      omega (arith, long, most, some),
    )

pub returns-clause-rows : goal.returns-clause-rows
returns-clause-rows g c =
    let live : List Bool = c.self.inside.places.live.items in
    let order : is_in_order c.self.inside.places ≡ true = sym c.is_in_order.ensures ∙ c.if-not-is_in_order.false in
    let kept : IsKept g.row.DIM c.self.inside.rows (keys_from 0 live) c.self.inside.count c.self.inside.spare c.self.inside.room = rw order at c.self.invariant.1 in
    let some : c.args.births ≤ c.self.inside.spare = rw (← c.self.view_is) at c.requires.spare in
    let more : c.args.births ≤ c.self.inside.room = rw (← c.self.view_is) at c.requires.room in
    let few : length live + c.args.births ≤ 4194304 = let made = rw (← c.self.view_is, order) at c.requires.few in omega (arith, made, rows-length c.self.inside.rows (keys_from 0 live), keys-length 0 live) in
    rw (← c.self.view_is, c.push_in_order.ensures.keys, order)
    (ap (λ (rest : List (Option (List ℕ))). let one : List (Option (List ℕ)) = None ∷ rest in one)
    (all-born g.row.DIM c.self.inside.rows c.args.births live c.self.inside.count c.self.inside.spare c.self.inside.room kept some more few).1)
