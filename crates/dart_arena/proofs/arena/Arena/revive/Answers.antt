use Rattle.std.proofs.Common.{◌≡◌, ℕ, ◌<◌, ◌≤◌, List, ◌∷◌, length, Option, Some, None, refl, sym, ap, ◌∙◌, arith, length-set}
use Rattle.map_defs.specs.Edits.{free_row}
use Rattle.dart_arena.specs.Layout.{keys_of, key_at, rows_under}
use Rattle.dart_arena.proofs.RowLemmas.{row_behind, set_behind, same-stock}
use Rattle.dart_arena.proofs.SlotLemmas.{rows-length}
use Rattle.dart_arena.proofs.Stages.{no-key, after-revival}
use Rattle.dart_arena.proofs.arena.Arena.revive.Goals as goal

pub invariant_of-self : goal.invariant_of-self
invariant_of-self g c =
    let keys : List ℕ = keys_of c.self.inside.places in
    let p : ℕ = c.place-place.result in
    let made = rw (← c.self.view_is) at c.requires.made in
    let dead = rw (← c.self.view_is) at c.requires.dead in
    let more : 1 ≤ c.self.inside.room = rw (← c.self.view_is) at c.requires.room in
    let taken = rw c.is_in_order.ensures at c.take_row-key.ensures in
    let within : p < length keys = omega (arith, made, rows-length c.self.inside.rows keys, c.place-place.ensures.place) in
    let none : key_at keys p ≡ 0 = no-key c.self.inside.places g.row.DIM c.self.inside.rows c.self.inside.count c.self.inside.spare c.self.inside.room c.self.invariant.1 p (sym (row_behind (rows_under c.self.inside.rows keys) c.args.dart p c.place-place.ensures.place) ∙ dead) in
    rw (c.fill.ensures.keys, c.fill.ensures.capacity, c.fill.ensures.order) (
      c.self.invariant.0,
      (after-revival c.self.inside.places g.row.DIM c.self.inside.rows c.self.inside.count c.self.inside.spare c.self.inside.room c.self.invariant.1 c.take_row-key.new.rows c.take_row-key.result p none within more taken).0,
      omega (arith, length-set keys p c.take_row-key.result, c.self.invariant.2),
      omega (arith, length-set keys p c.take_row-key.result, c.self.invariant.3),
    )

pub returns : goal.returns
returns g c =
    let keys : List ℕ = keys_of c.self.inside.places in
    let p : ℕ = c.place-place.result in
    let made = rw (← c.self.view_is) at c.requires.made in
    let dead = rw (← c.self.view_is) at c.requires.dead in
    let more : 1 ≤ c.self.inside.room = rw (← c.self.view_is) at c.requires.room in
    let taken = rw c.is_in_order.ensures at c.take_row-key.ensures in
    let within : p < length keys = omega (arith, made, rows-length c.self.inside.rows keys, c.place-place.ensures.place) in
    let none : key_at keys p ≡ 0 = no-key c.self.inside.places g.row.DIM c.self.inside.rows c.self.inside.count c.self.inside.spare c.self.inside.room c.self.invariant.1 p (sym (row_behind (rows_under c.self.inside.rows keys) c.args.dart p c.place-place.ensures.place) ∙ dead) in
    rw (← c.self.view_is, c.fill.ensures.keys)
    (same-stock _ _ _ _ _ _
    (ap (λ (rest : List (Option (List ℕ))). let one : List (Option (List ℕ)) = None ∷ rest in one)
    (after-revival c.self.inside.places g.row.DIM c.self.inside.rows c.self.inside.count c.self.inside.spare c.self.inside.room c.self.invariant.1 c.take_row-key.new.rows c.take_row-key.result p none within more taken).1
    ∙ sym (set_behind (rows_under c.self.inside.rows keys) c.args.dart p (Some (free_row g.row.DIM)) c.place-place.ensures.place)) refl refl)
