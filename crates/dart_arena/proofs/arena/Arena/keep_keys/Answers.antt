use Rattle.std.proofs.Common.{◌≡◌, ℕ, ◌+◌, ◌≤◌, true, List, ◌∷◌, length, Option, None, refl, sym, ap, ◌∙◌, arith, rules}
use Rattle.dart_arena.specs.Layout.{is_in_order, keys_of, places_capacity}
use Rattle.dart_arena.proofs.RowLemmas.{same-stock}
use Rattle.dart_arena.proofs.Stages.{live-few, is-freed, after-freeing}
use Rattle.dart_arena.proofs.arena.Arena.keep_keys.Goals as goal

pub overflow_sub-dead : goal.overflow_sub-dead
overflow_sub-dead g c = omega (arith, c.made.ensures, live-few c.self.inside.places g.row.DIM c.self.inside.rows c.self.inside.count c.self.inside.spare c.self.inside.room c.self.invariant.1)

pub invariant_of-self-then-is_in_order : goal.invariant_of-self-then-is_in_order
invariant_of-self-then-is_in_order g c =
    let keys : List ℕ = keys_of c.self.inside.places in
    let same = c.in_ok-keep_keys.ensures.keys in
    let order : is_in_order c.self.inside.places ≡ true = sym c.is_in_order.ensures ∙ c.if-is_in_order.true in
    let kept = rw same at c.remove_dead.ensures.kept in
    let count = rw same at c.remove_dead.ensures.count in
    let fits : length keys + c.self.inside.spare ≤ places_capacity c.keep_keys.new.self = search rules in
    rw same (
      c.self.invariant.0,
      is-freed (is_in_order c.keep_keys.new.self) g.row.DIM c.remove_dead.new.rows keys c.self.inside.count c.self.inside.spare c.self.inside.room c.in_ok-keep_keys.ensures.order
          ((after-freeing c.self.inside.places g.row.DIM c.self.inside.rows c.self.inside.count c.self.inside.spare c.self.inside.room c.self.invariant.1 order c.remove_dead.new.rows kept count c.remove_dead.ensures.capacity (omega (arith, c.if-narrow.true, c.capacity.ensures.value))).0),
      fits,
      c.self.invariant.3,
    )

pub returns-in_ok-keep_keys : goal.returns-in_ok-keep_keys
returns-in_ok-keep_keys g c =
    let same = c.in_ok-keep_keys.ensures.keys in
    let order : is_in_order c.self.inside.places ≡ true = sym c.is_in_order.ensures ∙ c.if-is_in_order.true in
    let kept = rw same at c.remove_dead.ensures.kept in
    let count = rw same at c.remove_dead.ensures.count in
    rw (← c.self.view_is, same)
    (same-stock _ _ _ _ _ _
    (ap (λ (rest : List (Option (List ℕ))). let one : List (Option (List ℕ)) = None ∷ rest in one) ((after-freeing c.self.inside.places g.row.DIM c.self.inside.rows c.self.inside.count c.self.inside.spare c.self.inside.room c.self.invariant.1 order c.remove_dead.new.rows kept count c.remove_dead.ensures.capacity (omega (arith, c.if-narrow.true, c.capacity.ensures.value))).1)) refl refl)
