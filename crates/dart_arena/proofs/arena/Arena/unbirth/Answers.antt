use Rattle.std.proofs.Common.{◌≡◌, ◌≢◌, ℕ, ◌+◌, ◌-◌, ◌<◌, List, ◌∷◌, length, get_or, Option, None, is_some, IsSome, refl, sym, ap, ◌∙◌, arith}
use Rattle.std.proofs.lemmas.List.{length-take-le}
use Rattle.dart_arena.specs.Layout.{keys_of, key_at, rows_under}
use Rattle.dart_arena.proofs.RowLemmas.{row_behind, take_behind, same-stock}
use Rattle.dart_arena.proofs.RowSize.{row-fits}
use Rattle.dart_arena.proofs.SlotLemmas.{rows-length}
use Rattle.dart_arena.proofs.Arranged.{last-seen}
use Rattle.dart_arena.proofs.Stages.{seen-key, has-row, one-lives, after-unbirth}
use Rattle.dart_arena.proofs.arena.Arena.unbirth.Goals as goal

pub give_row-requires : goal.give_row-requires
give_row-requires g c =
    let keys : List ℕ = keys_of c.self.inside.places in
    let rows : List (Option (List ℕ)) = rows_under c.self.inside.rows keys in
    let p : ℕ = c.made.result - 1 in
    let last : length c.args.self.now.rows - 1 ≡ length keys = rw (← c.self.view_is) (omega (arith, rows-length c.self.inside.rows keys)) in
    let live = rw last at c.requires in
    let there = rw (← c.self.view_is) at live in
    let some : 0 < length keys = last-seen c.self.inside.rows keys there in
    let is : length keys ≡ p + 1 = omega (arith, some, c.made.ensures) in
    let seen : IsSome (get_or rows p None) = sym (ap is_some (row_behind rows (length keys) p (sym is))) ∙ there in
    let key : key_at keys p ≢ 0 = seen-key c.self.inside.rows keys p seen in
    rw c.key-key.ensures (row-fits g.row.DIM c.self.invariant.0, (key, has-row c.self.inside.places g.row.DIM c.self.inside.rows c.self.inside.count c.self.inside.spare c.self.inside.room c.self.invariant.1 p key))

pub overflow_sub-self : goal.overflow_sub-self
overflow_sub-self g c =
    let keys : List ℕ = keys_of c.self.inside.places in
    let rows : List (Option (List ℕ)) = rows_under c.self.inside.rows keys in
    let p : ℕ = c.made.result - 1 in
    let last : length c.args.self.now.rows - 1 ≡ length keys = rw (← c.self.view_is) (omega (arith, rows-length c.self.inside.rows keys)) in
    let live = rw last at c.requires in
    let there = rw (← c.self.view_is) at live in
    let some : 0 < length keys = last-seen c.self.inside.rows keys there in
    let is : length keys ≡ p + 1 = omega (arith, some, c.made.ensures) in
    let seen : IsSome (get_or rows p None) = sym (ap is_some (row_behind rows (length keys) p (sym is))) ∙ there in
    let key : key_at keys p ≢ 0 = seen-key c.self.inside.rows keys p seen in
    one-lives c.self.inside.places g.row.DIM c.self.inside.rows c.self.inside.count c.self.inside.spare c.self.inside.room c.self.invariant.1 p key

pub invariant_of-self : goal.invariant_of-self
invariant_of-self g c =
    let keys : List ℕ = keys_of c.self.inside.places in
    let rows : List (Option (List ℕ)) = rows_under c.self.inside.rows keys in
    let p : ℕ = c.made.result - 1 in
    let last : length c.args.self.now.rows - 1 ≡ length keys = rw (← c.self.view_is) (omega (arith, rows-length c.self.inside.rows keys)) in
    let live = rw last at c.requires in
    let there = rw (← c.self.view_is) at live in
    let some : 0 < length keys = last-seen c.self.inside.rows keys there in
    let is : length keys ≡ p + 1 = omega (arith, some, c.made.ensures) in
    let seen : IsSome (get_or rows p None) = sym (ap is_some (row_behind rows (length keys) p (sym is))) ∙ there in
    let key : key_at keys p ≢ 0 = seen-key c.self.inside.rows keys p seen in
    let shorter : length keys - 1 ≡ p = omega (arith, is) in
    let given = rw c.is_in_order.ensures at c.give_row.ensures in
    let short = length-take-le p keys (omega (arith, is)) in
    rw (c.pop.ensures.keys, c.pop.ensures.capacity, c.pop.ensures.order, shorter) (
      c.self.invariant.0,
      (after-unbirth c.self.inside.places g.row.DIM c.self.inside.rows c.self.inside.count c.self.inside.spare c.self.inside.room c.self.invariant.1 c.give_row.new.rows c.key-key.result p key c.key-key.ensures is given).0,
      omega (arith, short, is, c.self.invariant.2),
      omega (arith, short, is, c.self.invariant.3),
    )

pub returns : goal.returns
returns g c =
    let keys : List ℕ = keys_of c.self.inside.places in
    let rows : List (Option (List ℕ)) = rows_under c.self.inside.rows keys in
    let p : ℕ = c.made.result - 1 in
    let last : length c.args.self.now.rows - 1 ≡ length keys = rw (← c.self.view_is) (omega (arith, rows-length c.self.inside.rows keys)) in
    let live = rw last at c.requires in
    let there = rw (← c.self.view_is) at live in
    let some : 0 < length keys = last-seen c.self.inside.rows keys there in
    let is : length keys ≡ p + 1 = omega (arith, some, c.made.ensures) in
    let seen : IsSome (get_or rows p None) = sym (ap is_some (row_behind rows (length keys) p (sym is))) ∙ there in
    let key : key_at keys p ≢ 0 = seen-key c.self.inside.rows keys p seen in
    let shorter : length keys - 1 ≡ p = omega (arith, is) in
    let given = rw c.is_in_order.ensures at c.give_row.ensures in
    rw (← c.self.view_is, c.pop.ensures.keys, shorter)
    (same-stock _ _ _ _ _ _
    (ap (λ (rest : List (Option (List ℕ))). let one : List (Option (List ℕ)) = None ∷ rest in one)
    (after-unbirth c.self.inside.places g.row.DIM c.self.inside.rows c.self.inside.count c.self.inside.spare c.self.inside.room c.self.invariant.1 c.give_row.new.rows c.key-key.result p key c.key-key.ensures is given).1
    ∙ sym (take_behind rows _ p (omega (arith, is, rows-length c.self.inside.rows keys)))) refl refl)
