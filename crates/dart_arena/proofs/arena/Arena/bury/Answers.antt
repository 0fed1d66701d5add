use Rattle.std.proofs.Common.{◌≢◌, ℕ, List, ◌∷◌, get_or, Option, None, is_some, IsSome, refl, sym, ap, ◌∙◌, arith, length-set}
use Rattle.dart_arena.specs.Layout.{keys_of, key_at, rows_under}
use Rattle.dart_arena.proofs.RowLemmas.{row_behind, set_behind, same-stock}
use Rattle.dart_arena.proofs.RowSize.{row-fits}
use Rattle.dart_arena.proofs.SlotLemmas.{key-within}
use Rattle.dart_arena.proofs.Stages.{seen-key, has-row, one-lives, after-burial}
use Rattle.dart_arena.proofs.arena.Arena.bury.Goals as goal

pub give_row-requires : goal.give_row-requires
give_row-requires g c =
    let keys : List ℕ = keys_of c.self.inside.places in
    let p : ℕ = c.place-place.result in
    let there = rw (← c.self.view_is) at c.requires in
    let live : IsSome (get_or (rows_under c.self.inside.rows keys) p None) =
    sym (ap is_some (row_behind (rows_under c.self.inside.rows keys) c.args.dart p c.place-place.ensures.place)) ∙ there in
    let key : key_at keys p ≢ 0 = seen-key c.self.inside.rows keys p live in
    let some = has-row c.self.inside.places g.row.DIM c.self.inside.rows c.self.inside.count c.self.inside.spare c.self.inside.room c.self.invariant.1 p key in
    rw c.key-key.ensures (row-fits g.row.DIM c.self.invariant.0, (key, some))

pub clear-requires : goal.clear-requires
clear-requires g c =
    let keys : List ℕ = keys_of c.self.inside.places in
    let p : ℕ = c.place-place.result in
    let there = rw (← c.self.view_is) at c.requires in
    let live : IsSome (get_or (rows_under c.self.inside.rows keys) p None) =
    sym (ap is_some (row_behind (rows_under c.self.inside.rows keys) c.args.dart p c.place-place.ensures.place)) ∙ there in
    let key : key_at keys p ≢ 0 = seen-key c.self.inside.rows keys p live in
    key-within keys p key

pub overflow_sub-self : goal.overflow_sub-self
overflow_sub-self g c =
    let keys : List ℕ = keys_of c.self.inside.places in
    let p : ℕ = c.place-place.result in
    let there = rw (← c.self.view_is) at c.requires in
    let live : IsSome (get_or (rows_under c.self.inside.rows keys) p None) =
    sym (ap is_some (row_behind (rows_under c.self.inside.rows keys) c.args.dart p c.place-place.ensures.place)) ∙ there in
    let key : key_at keys p ≢ 0 = seen-key c.self.inside.rows keys p live in
    one-lives c.self.inside.places g.row.DIM c.self.inside.rows c.self.inside.count c.self.inside.spare c.self.inside.room c.self.invariant.1 p key

pub invariant_of-self : goal.invariant_of-self
invariant_of-self g c =
    let keys : List ℕ = keys_of c.self.inside.places in
    let p : ℕ = c.place-place.result in
    let there = rw (← c.self.view_is) at c.requires in
    let live : IsSome (get_or (rows_under c.self.inside.rows keys) p None) =
    sym (ap is_some (row_behind (rows_under c.self.inside.rows keys) c.args.dart p c.place-place.ensures.place)) ∙ there in
    let key : key_at keys p ≢ 0 = seen-key c.self.inside.rows keys p live in
    let given = rw c.is_in_order.ensures at c.give_row.ensures in
    rw (c.clear.ensures.keys, c.clear.ensures.capacity, c.clear.ensures.order) (
      c.self.invariant.0,
      (after-burial c.self.inside.places g.row.DIM c.self.inside.rows c.self.inside.count c.self.inside.spare c.self.inside.room c.self.invariant.1 c.give_row.new.rows c.key-key.result p key c.key-key.ensures given).0,
      omega (arith, length-set keys p 0, c.self.invariant.2),
      omega (arith, length-set keys p 0, c.self.invariant.3),
    )

pub returns : goal.returns
returns g c =
    let keys : List ℕ = keys_of c.self.inside.places in
    let p : ℕ = c.place-place.result in
    let there = rw (← c.self.view_is) at c.requires in
    let live : IsSome (get_or (rows_under c.self.inside.rows keys) p None) =
    sym (ap is_some (row_behind (rows_under c.self.inside.rows keys) c.args.dart p c.place-place.ensures.place)) ∙ there in
    let key : key_at keys p ≢ 0 = seen-key c.self.inside.rows keys p live in
    let given = rw c.is_in_order.ensures at c.give_row.ensures in
    rw (← c.self.view_is, c.clear.ensures.keys)
    (same-stock _ _ _ _ _ _
    (ap (λ (rest : List (Option (List ℕ))). let one : List (Option (List ℕ)) = None ∷ rest in one)
    (after-burial c.self.inside.places g.row.DIM c.self.inside.rows c.self.inside.count c.self.inside.spare c.self.inside.room c.self.invariant.1 c.give_row.new.rows c.key-key.result p key c.key-key.ensures given).1
    ∙ sym (set_behind (rows_under c.self.inside.rows keys) c.args.dart p None c.place-place.ensures.place)) refl refl)
