-- Rows that are copied one by one into a slab of their own, each under a key that it gives.
use Rattle.std.proofs.Common.{◌≡◌, ℕ, zero, suc, ◌+◌, ◌-◌, ◌<◌, ◌≤◌, Bool, true, cond, List, [], ◌∷◌, ◌++◌, length, get_or, take, Option, None, Some, is_some, IsSome, refl, sym, ap, ◌∙◌, arith}
use Rattle.std.specs.Prelude.{filter}
use Rattle.std.proofs.lemmas.List.{take_more, length_push, length-take-le}
use Rattle.slab.specs.Slab.{Slab, slab_len}
use Rattle.dart_arena.specs.Layout.{row_under, rows_under, key_at, IsFreed, IsTurned}
use Rattle.dart_arena.proofs.SlotLemmas.{rows-length, rows-at, rows-pushed}
use Rattle.dart_arena.proofs.Freed.{born-freed, born-rows}

-- how many rows stand before a place
abbrev pub before : List (Option (List ℕ)) → ℕ → ℕ
before rows place = length (filter is_some (take place rows))

-- the count with one more row, or none
count-more : (rows : List (Option (List ℕ))) (o : Option (List ℕ)) → length (filter is_some (rows ++ o ∷ [])) ≡ length (filter is_some rows) + cond (is_some o) 1 0
count-more [] None = refl
count-more [] (Some row) = refl
count-more (None ∷ rows) o = count-more rows o
count-more (Some row ∷ rows) o = omega (arith, count-more rows o)

before-more : (rows : List (Option (List ℕ))) (p : ℕ) → p < length rows → before rows (p + 1) ≡ before rows p + cond (is_some (get_or rows p None)) 1 0
before-more rows p h = ap (λ (xs : List (Option (List ℕ))). length (filter is_some xs)) (take_more rows p None h) ∙ count-more (take p rows) (get_or rows p None)

before-le : (rows : List (Option (List ℕ))) (p : ℕ) → before rows p ≤ length (filter is_some rows)
before-le [] zero = omega arith
before-le [] (suc p) = omega arith
before-le (o ∷ rows) zero = omega arith
before-le (None ∷ rows) (suc p) = before-le rows p
before-le (Some row ∷ rows) (suc p) = omega (arith, before-le rows p)

-- a place without a row
pushed-zero : (keys : List ℕ) (p : ℕ) → get_or (keys ++ 0 ∷ []) p 0 ≡ get_or keys p 0
pushed-zero [] zero = refl
pushed-zero [] (suc p) = refl
pushed-zero (j ∷ keys) zero = refl
pushed-zero (j ∷ keys) (suc p) = pushed-zero keys p

module _ (s : Slab (List ℕ)) (keys : List ℕ) (n room : ℕ) (k : IsFreed s keys n room) where
  empty-freed : length keys < 4194304 → IsFreed s (keys ++ 0 ∷ []) n room
  empty-freed few = record {
    few = omega (arith, length_push keys 0);
    counted = rw (rows-pushed s keys 0) (omega (arith, k.counted, count-more (rows_under s keys) None));
    there = λ p key. ap (λ (i : ℕ). is_some (row_under s i)) (pushed-zero keys p) ∙ k.there p (λ z. key (pushed-zero keys p ∙ z));
    once = λ p q key same. k.once p q (λ z. key (pushed-zero keys p ∙ z)) (sym (pushed-zero keys q) ∙ same ∙ pushed-zero keys p);
    all = k.all;
    fits = k.fits;
    bound = k.bound;
    narrow = k.narrow;
  }

-- what a copy of a row, if it is one, makes of another slab
record IsCopy (s new : Slab (List ℕ)) (j : ℕ) (o : Option (List ℕ)) : Type 0 where
  same : row_under new j ≡ o
  none : o ≡ None → (j ≡ 0) × (new ≡ s)
  turned : IsSome o → IsTurned s new j
  fresh : row_under s j ≡ None
  count : IsSome o → slab_len new ≡ slab_len s + 1

module _ (s new : Slab (List ℕ)) (keys : List ℕ) (n room : ℕ) (k : IsFreed s keys n room) (few : length keys < 4194304) (j : ℕ) where
  copied : (o : Option (List ℕ)) → IsCopy s new j o → (IsSome o → 1 ≤ room)
      → IsFreed new (keys ++ j ∷ []) (n + cond (is_some o) 1 0) (room - cond (is_some o) 1 0) × (rows_under new (keys ++ j ∷ []) ≡ rows_under s keys ++ o ∷ [])
  copied None c fits =
      let gone = c.none refl in
      let more : n + 0 ≡ n = omega arith in
      let left : room - 0 ≡ room = omega arith in
      rw (more, left, gone.0, gone.1) (empty-freed s keys n room k few, rows-pushed s keys 0)
  copied (Some row) c fits = (
    born-freed s new keys n room k j (c.turned refl) row c.fresh c.same (c.count refl) (fits refl) few,
    born-rows s new keys n room k j (c.turned refl) row c.fresh c.same (c.count refl) (fits refl),
  )

-- the rows before a place are copied
module _ (from s : Slab (List ℕ)) (old keys : List ℕ) (p live room : ℕ) (within : p < length old) (few : length old ≤ 4194304)
    (told : live ≡ length (filter is_some (rows_under from old)))
    (done : rows_under s keys ≡ take p (rows_under from old))
    (k : IsFreed s keys (before (rows_under from old) p) (live + room - before (rows_under from old) p)) where
  inside : p < length (rows_under from old)
  inside = omega (arith, rows-length from old, within)

  pub keys-long : length keys ≡ p
  keys-long = sym (rows-length s keys) ∙ ap (λ (xs : List (Option (List ℕ))). length xs) done ∙ length-take-le p (rows_under from old) (omega (arith, inside))

  -- there is room for the row at the place, if there is one
  one-left : IsSome (row_under from (key_at old p)) → before (rows_under from old) p + 1 ≤ live
  one-left h =
      let some : is_some (get_or (rows_under from old) p None) ≡ true = ap is_some (rows-at from old p) ∙ h in
      let counted : before (rows_under from old) (p + 1) ≡ before (rows_under from old) p + 1 = before-more (rows_under from old) p inside ∙ ap (λ (b : Bool). before (rows_under from old) p + cond b 1 0) some in
      omega (arith, counted, before-le (rows_under from old) (p + 1), told)

  pub copy-fits : IsSome (row_under from (key_at old p)) → slab_len s + 1 ≤ s.capacity
  copy-fits h = omega (arith, one-left h, k.all, k.fits)

  module _ (new : Slab (List ℕ)) (j : ℕ) (same : row_under new j ≡ row_under from (key_at old p)) (none : row_under from (key_at old p) ≡ None → (j ≡ 0) × (new ≡ s))
      (turned : IsSome (row_under from (key_at old p)) → IsTurned s new j) (fresh : row_under s j ≡ None)
      (count : IsSome (row_under from (key_at old p)) → slab_len new ≡ slab_len s + 1) where
    copy : IsCopy s new j (row_under from (key_at old p))
    copy = record { same = same; none = none; turned = turned; fresh = fresh; count = count }

    counted : before (rows_under from old) (p + 1) ≡ before (rows_under from old) p + cond (is_some (row_under from (key_at old p))) 1 0
    counted = before-more (rows_under from old) p inside ∙ ap (λ (o : Option (List ℕ)). before (rows_under from old) p + cond (is_some o) 1 0) (rows-at from old p)

    pub copied-more : (rows_under new (keys ++ j ∷ []) ≡ take (p + 1) (rows_under from old))
        × IsFreed new (keys ++ j ∷ []) (before (rows_under from old) (p + 1)) (live + room - before (rows_under from old) (p + 1))
    copied-more =
        let next = copied s new keys (before (rows_under from old) p) (live + room - before (rows_under from old) p) k (omega (arith, keys-long)) j
        (row_under from (key_at old p)) copy (λ h. omega (arith, one-left h)) in
        let left : live + room - before (rows_under from old) (p + 1)
        ≡ live + room - before (rows_under from old) p - cond (is_some (row_under from (key_at old p))) 1 0 = omega (arith, counted) in (
          next.1 ∙ ap (λ (xs : List (Option (List ℕ))). xs ++ row_under from (key_at old p) ∷ []) done
              ∙ ap (λ (o : Option (List ℕ)). take p (rows_under from old) ++ o ∷ []) (sym (rows-at from old p)) ∙ sym (take_more (rows_under from old) p None inside),
          rw (left, counted) next.0,
        )
