use Rattle.std.proofs.Common.{ℕ, ◌<◌, ◌≤◌, List, ◌∷◌, length, Option, None, refl, ap, arith}
use Rattle.std.proofs.lemmas.List.{length_push}
use Rattle.dart_arena.specs.Layout.{keys_of}
use Rattle.dart_arena.proofs.RowLemmas.{same-stock}
use Rattle.dart_arena.proofs.SlotLemmas.{rows-length}
use Rattle.dart_arena.proofs.Stages.{after-birth}
use Rattle.dart_arena.proofs.arena.Arena.birth.Goals as goal

pub invariant_of-self : goal.invariant_of-self
invariant_of-self g c =
    let keys : List ℕ = keys_of c.self.inside.places in
    let some : 1 ≤ c.self.inside.spare = rw (← c.self.view_is) at c.requires.spare in
    let more : 1 ≤ c.self.inside.room = rw (← c.self.view_is) at c.requires.room in
    let few = rw (← c.self.view_is) at c.requires.few in
    let taken = rw (c.is_in_order.ensures, c.made.ensures) at c.take_row-key.ensures in
    let within : length keys < 4194304 = omega (arith, few, rows-length c.self.inside.rows keys) in
    rw (c.push.ensures.keys, c.push.ensures.capacity, c.push.ensures.order) (
      c.self.invariant.0,
      (after-birth c.self.inside.places g.row.DIM c.self.inside.rows c.self.inside.count c.self.inside.spare c.self.inside.room c.self.invariant.1 c.take_row-key.new.rows c.take_row-key.result some more within taken).0,
      omega (arith, length_push keys c.take_row-key.result, c.self.invariant.2),
      omega (arith, length_push keys c.take_row-key.result, c.self.invariant.3),
    )

pub returns-clause-born : goal.returns-clause-born
returns-clause-born g c =
    let keys : List ℕ = keys_of c.self.inside.places in
    let some : 1 ≤ c.self.inside.spare = rw (← c.self.view_is) at c.requires.spare in
    let more : 1 ≤ c.self.inside.room = rw (← c.self.view_is) at c.requires.room in
    let few = rw (← c.self.view_is) at c.requires.few in
    let taken = rw (c.is_in_order.ensures, c.made.ensures) at c.take_row-key.ensures in
    let within : length keys < 4194304 = omega (arith, few, rows-length c.self.inside.rows keys) in
    rw (← c.self.view_is, c.push.ensures.keys)
    (same-stock _ _ _ _ _ _
    (ap (λ (rest : List (Option (List ℕ))). let one : List (Option (List ℕ)) = None ∷ rest in one)
    (after-birth c.self.inside.places g.row.DIM c.self.inside.rows c.self.inside.count c.self.inside.spare c.self.inside.room c.self.invariant.1 c.take_row-key.new.rows c.take_row-key.result some more within taken).1) refl refl)
