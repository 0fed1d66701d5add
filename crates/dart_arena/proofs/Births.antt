-- Many births at once, while no keys are kept.
use Rattle.std.proofs.Common.{◌≡◌, ℕ, zero, suc, ◌+◌, ◌-◌, ◌≤◌, Bool, true, List, [], ◌∷◌, ◌++◌, length, replicate, Option, Some, refl, ap, ◌∙◌, arith}
use Rattle.std.proofs.lemmas.List.{append-nil, append_assoc, length_push}
use Rattle.map_defs.specs.Edits.{free_row}
use Rattle.slab.specs.Slab.{Slab}
use Rattle.dart_arena.specs.Layout.{keys_from, rows_under, IsKept}
use Rattle.dart_arena.proofs.Arranged.{own-places, rows-born, kept-born}
use Rattle.dart_arena.proofs.KeyLemmas.{keys-length, keys-pushed}

module _ (dim : ℕ) (s : Slab (List ℕ)) where
  -- the key of one more dart
  next-key : (bs : List Bool) → keys_from 0 (bs ++ true ∷ []) ≡ keys_from 0 bs ++ (length (keys_from 0 bs) + 1) ∷ []
  next-key bs =
      let e : suc (0 + length bs) ≡ length (keys_from 0 bs) + 1 = omega (arith, keys-length 0 bs) in
      keys-pushed 0 bs ∙ ap (λ (key : ℕ). keys_from 0 bs ++ key ∷ []) e

  pub all-born : (m : ℕ) (bs : List Bool) (n spare room : ℕ) → IsKept dim s (keys_from 0 bs) n spare room → m ≤ spare → m ≤ room → length bs + m ≤ 4194304
      → IsKept dim s (keys_from 0 (bs ++ replicate m true)) (n + m) (spare - m) (room - m)
      × (rows_under s (keys_from 0 (bs ++ replicate m true)) ≡ rows_under s (keys_from 0 bs) ++ replicate m (Some (free_row dim)))
  all-born zero bs n spare room kept some more few =
      let a : n + 0 ≡ n = omega arith in
      let b : spare - 0 ≡ spare = omega arith in
      let c : room - 0 ≡ room = omega arith in
      rw (append-nil bs, append-nil (rows_under s (keys_from 0 bs)), a, b, c) (kept, refl)
  all-born (suc m) bs n spare room kept some more few =
      let keys : List ℕ = keys_from 0 bs in
      let own = own-places bs in
      let long = keys-length 0 bs in
      let one : IsKept dim s (keys_from 0 (bs ++ true ∷ [])) (n + 1) (spare - 1) (room - 1) =
      rw (next-key bs) (kept-born dim s keys n spare room kept own (omega arith) (omega arith) (omega (arith, long))) in
      let rows : rows_under s (keys_from 0 (bs ++ true ∷ [])) ≡ rows_under s keys ++ Some (free_row dim) ∷ [] =
      rw (next-key bs) (rows-born dim s keys n spare room kept own (omega arith) (omega arith)) in
      let rest = all-born m (bs ++ true ∷ []) (n + 1) (spare - 1) (room - 1) one (omega arith) (omega arith) (omega (arith, length_push bs true)) in
      let joined : bs ++ true ∷ [] ++ replicate m true ≡ bs ++ replicate (suc m) true = append_assoc bs (true ∷ []) (replicate m true) in
      let a : n + 1 + m ≡ n + suc m = omega arith in
      let b : spare - 1 - m ≡ spare - suc m = omega arith in
      let c : room - 1 - m ≡ room - suc m = omega arith in (
        rw (joined, a, b, c) at rest.0,
        (rw joined at rest.1) ∙ ap (λ (front : List (Option (List ℕ))). front ++ replicate m (Some (free_row dim))) rows
            ∙ append_assoc (rows_under s keys) (Some (free_row dim) ∷ []) (replicate m (Some (free_row dim))),
      )
