use Rattle.std.proofs.Common.{◌≡◌, ℕ, ◌+◌, ◌-◌, ◌≤◌, false, List, ◌∷◌, length, Option, None, refl, sym, ap, ◌∙◌, arith, rules}
use Rattle.slab.specs.Slab.{slab_len}
use Rattle.std.proofs.lemmas.Result.{err_from_is_err_and}
use Rattle.dart_arena.specs.Layout.{is_in_order, keys_of, places_capacity}
use Rattle.dart_arena.proofs.RowLemmas.{same-stock}
use Rattle.dart_arena.proofs.RowSize.{row-fits}
use Rattle.dart_arena.proofs.SlotLemmas.{rows-length}
use Rattle.dart_arena.proofs.Stages.{live-few, room-within, freed-parts, rows-all, in-order-sum, after-filling, still-arranged, filled-rows}
use Rattle.dart_arena.proofs.arena.Arena.grow.Goals as goal

pub widen-requires : goal.widen-requires
widen-requires g c =
    let keys : List ℕ = keys_of c.self.inside.places in
    let made = rw (← c.self.view_is) at c.requires in
    let order : is_in_order c.self.inside.places ≡ false = sym c.is_in_order.ensures ∙ c.if-not-is_in_order.true in
    let all = rows-all c.self.inside.places g.row.DIM c.self.inside.rows c.self.inside.count c.self.inside.spare c.self.inside.room c.self.invariant.1 order in
    let few = live-few c.self.inside.places g.row.DIM c.self.inside.rows c.self.inside.count c.self.inside.spare c.self.inside.room c.self.invariant.1 in
    let long = rows-length c.self.inside.rows keys in (
      row-fits g.row.DIM c.self.invariant.0,
      (
        order,
        (
          freed-parts c.self.inside.places g.row.DIM c.self.inside.rows c.self.inside.count c.self.inside.spare c.self.inside.room c.self.invariant.1 order,
          (
            omega (arith, made, long, c.max-spare.ensures, c.self.invariant.3),
            omega (arith, made, long, few, all, c.max-room.ensures, room-within c.self.inside.places g.row.DIM c.self.inside.rows c.self.inside.count c.self.inside.spare c.self.inside.room c.self.invariant.1),
          ),
        ),
      ),
    )

pub invariant_of-self-in_err-fill_rows : goal.invariant_of-self-in_err-fill_rows
invariant_of-self-in_err-fill_rows g c =
    let more = rw c.reserve.ensures.order at c.reserve.ensures.capacity in
    rw (c.reserve.ensures.keys, c.reserve.ensures.order) (
      c.self.invariant.0,
      still-arranged c.self.inside.places g.row.DIM c.self.inside.rows c.self.inside.count c.self.inside.spare c.self.inside.room c.self.invariant.1 (sym c.is_in_order.ensures ∙ c.if-not-is_in_order.false) c.fill_rows.new.rows c.fill_rows.ensures.more c.fill_rows.ensures.rows c.fill_rows.ensures.kept c.fill_rows.ensures.holds c.fill_rows.ensures.zeros,
      omega (arith, more, c.self.invariant.2),
      c.self.invariant.3,
    )

pub returns-in_err-fill_rows-clause-rows : goal.returns-in_err-fill_rows-clause-rows
returns-in_err-fill_rows-clause-rows g c =
    rw (← c.self.view_is, c.reserve.ensures.keys) (ap (λ (rest : List (Option (List ℕ))). let one : List (Option (List ℕ)) = None ∷ rest in one) (filled-rows c.self.inside.places g.row.DIM c.self.inside.rows c.self.inside.count c.self.inside.spare c.self.inside.room c.self.invariant.1 (sym c.is_in_order.ensures ∙ c.if-not-is_in_order.false) c.fill_rows.new.rows c.fill_rows.ensures.more c.fill_rows.ensures.rows c.fill_rows.ensures.kept c.fill_rows.ensures.holds c.fill_rows.ensures.zeros))

pub returns-in_err-fill_rows-clause-err : goal.returns-in_err-fill_rows-clause-err
returns-in_err-fill_rows-clause-err g c =
    let p = err_from_is_err_and c.from_residual-in_err-fill_rows.result c.from_residual-in_err-fill_rows.ensures.1 in
    rw (p.1, ← c.self.view_is, c.reserve.ensures.keys) (same-stock _ _ _ _ _ _ (ap (λ (rest : List (Option (List ℕ))). let one : List (Option (List ℕ)) = None ∷ rest in one) (filled-rows c.self.inside.places g.row.DIM c.self.inside.rows c.self.inside.count c.self.inside.spare c.self.inside.room c.self.invariant.1 (sym c.is_in_order.ensures ∙ c.if-not-is_in_order.false) c.fill_rows.new.rows c.fill_rows.ensures.more c.fill_rows.ensures.rows c.fill_rows.ensures.kept c.fill_rows.ensures.holds c.fill_rows.ensures.zeros)) refl refl)

pub invariant_of-self-2 : goal.invariant_of-self-2
invariant_of-self-2 g c =
    let keys : List ℕ = keys_of c.self.inside.places in
    let made = rw (← c.self.view_is) at c.requires in
    let long = rows-length c.self.inside.rows keys in
    let fits : length keys + c.max-spare.result ≤ places_capacity c.reserve.new.self = search rules in
    let done : c.made.result + c.max-spare.result ≤ slab_len c.fill_rows.new.rows = search rules in
    let count = c.made.ensures ∙ ap length c.reserve.ensures.keys in
    let sum = in-order-sum c.self.inside.places g.row.DIM c.self.inside.rows c.self.inside.count c.self.inside.spare c.self.inside.room c.self.invariant.1 (sym c.is_in_order.ensures ∙ c.if-not-is_in_order.false) in
    let most : length keys + c.max-spare.result ≤ 4194304 = omega (arith, made, long, c.max-spare.ensures, c.self.invariant.3) in
    rw (c.reserve.ensures.keys, c.reserve.ensures.order) (
      c.self.invariant.0,
      after-filling c.self.inside.places g.row.DIM c.self.inside.rows c.self.inside.count c.self.inside.spare c.self.inside.room c.self.invariant.1 (sym c.is_in_order.ensures ∙ c.if-not-is_in_order.false) c.fill_rows.new.rows c.fill_rows.ensures.more c.fill_rows.ensures.rows c.fill_rows.ensures.kept c.fill_rows.ensures.holds c.fill_rows.ensures.zeros c.max-spare.result (c.self.inside.room + (c.max-spare.result - c.self.inside.spare))
          (omega (arith, count, done)) (omega (arith, sum, c.max-spare.ensures)) (omega (arith, sum, c.max-spare.ensures, most)),
      rw c.reserve.ensures.order at fits,
      most,
    )

pub returns-clause-rows : goal.returns-clause-rows
returns-clause-rows g c =
    rw (← c.self.view_is, c.reserve.ensures.keys) (ap (λ (rest : List (Option (List ℕ))). let one : List (Option (List ℕ)) = None ∷ rest in one) (filled-rows c.self.inside.places g.row.DIM c.self.inside.rows c.self.inside.count c.self.inside.spare c.self.inside.room c.self.invariant.1 (sym c.is_in_order.ensures ∙ c.if-not-is_in_order.false) c.fill_rows.new.rows c.fill_rows.ensures.more c.fill_rows.ensures.rows c.fill_rows.ensures.kept c.fill_rows.ensures.holds c.fill_rows.ensures.zeros))

pub returns-clause-room : goal.returns-clause-room
returns-clause-room g c = omega (arith, in-order-sum c.self.inside.places g.row.DIM c.self.inside.rows c.self.inside.count c.self.inside.spare c.self.inside.room c.self.invariant.1 (sym c.is_in_order.ensures ∙ c.if-not-is_in_order.false), live-few c.self.inside.places g.row.DIM c.self.inside.rows c.self.inside.count c.self.inside.spare c.self.inside.room c.self.invariant.1, c.max-spare.ensures)
