use Rattle.std.proofs.Common.{◌≡◌, ℕ, ◌+◌, ◌<◌, List, ◌∷◌, length, reverse, Option, None, refl, ap, ◌∙◌, arith}
use Rattle.dart_arena.specs.declared.places.Places.{Places}
use Rattle.dart_arena.specs.Layout.{keys_of, key_at, rows_under}
use Rattle.dart_arena.proofs.RowSize.{row-fits}
use Rattle.dart_arena.proofs.SlotLemmas.{rows-length}
use Rattle.dart_arena.proofs.Arranged.{turned-step, turned-whole}
use Rattle.dart_arena.proofs.Stages.{has-row, after-write}
use Rattle.dart_arena.proofs.arena.Arena.reverse_rows.Goals as goal

pub loop-place-init : goal.loop-place-init
loop-place-init g c = (c.self.invariant.1, refl, refl, refl, refl, refl)

pub invariant_of-self : goal.invariant_of-self
invariant_of-self g c =
    let kept = c.loop-place.invariant in
    rw (kept.2, kept.3, kept.4, kept.5) (c.self.invariant.0, kept.0, c.self.invariant.2, c.self.invariant.3)

pub turn_row-requires : goal.turn_row-requires
turn_row-requires g c =
    let keys : List ℕ = keys_of c.self.inside.places in
    let key : c.key-key.result ≡ key_at keys c.loop-place.place = c.key-key.ensures ∙ ap (λ (places : Places). key_at (keys_of places) c.loop-place.place) c.loop-place.invariant.2 in
    rw key (row-fits g.row.DIM c.self.invariant.0, has-row c.self.inside.places g.row.DIM c.loop-place.self-inside.rows c.self.inside.count c.self.inside.spare c.self.inside.room c.loop-place.invariant.0 c.loop-place.place)

pub loop-place-preserved : goal.loop-place-preserved
loop-place-preserved g c =
    let keys : List ℕ = keys_of c.self.inside.places in
    let kept = c.loop-place.invariant in
    let p : ℕ = c.loop-place.place in
    let key : c.key-key.result ≡ key_at keys p = c.key-key.ensures ∙ ap (λ (places : Places). key_at (keys_of places) p) kept.2 in
    let within : p < length (rows_under c.self.inside.rows keys) = omega (arith, rows-length c.self.inside.rows keys, c.made-place-end.ensures) in
    let written = after-write c.self.inside.places g.row.DIM c.loop-place.self-inside.rows c.self.inside.count c.self.inside.spare c.self.inside.room c.loop-place.invariant.0 p reverse in
    rw (c.turn_row.ensures, key) (
      written.0,
      turned-step (rows_under c.self.inside.rows keys) _ _ p (p + 1) refl within kept.1 written.1,
      kept.2,
      kept.3,
      kept.4,
      kept.5,
    )

pub returns-clause-rows : goal.returns-clause-rows
returns-clause-rows g c =
    let keys : List ℕ = keys_of c.self.inside.places in
    let kept = c.loop-place.invariant in
    let all : c.loop-place.place ≡ length (rows_under c.self.inside.rows keys) = omega (arith, rows-length c.self.inside.rows keys, c.made-place-end.ensures) in
    rw (← c.self.view_is, kept.2)
    (ap (λ (rest : List (Option (List ℕ))). let one : List (Option (List ℕ)) = None ∷ rest in one)
    (kept.1 ∙ turned-whole (rows_under c.self.inside.rows keys) c.loop-place.place all))
