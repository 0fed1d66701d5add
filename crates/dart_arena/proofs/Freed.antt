-- What an arena's parts keep once it keeps keys, and what each step makes of them.
use Rattle.std.proofs.Common.{◌≡◌, ◌≢◌, ℕ, zero, suc, ◌+◌, ◌-◌, ◌<◌, ◌≤◌, ◌⊎◌, true, List, [], ◌∷◌, ◌++◌, length, get_or, set, take, Option, None, Some, is_some, IsSome, refl, sym, ap, ◌∙◌, inl, inr, arith, length-set}
use Rattle.std.specs.Prelude.{filter}
use Rattle.std.proofs.lemmas.Bool.{cases_eq, cases_lt, false≢true}
use Rattle.std.proofs.lemmas.List.{get_or-set_other, get_or_past, get_or-take, ext_get_or, take-set-le, length_push, length-take-le}
use Rattle.slab.specs.Slab.{Slab, get, slab_len}
use Rattle.dart_arena.specs.Layout.{row_under, rows_under, key_at, count_keys, with_row, IsFreed, IsTurned, IsKept}
use Rattle.dart_arena.proofs.RowLemmas.{count-buried, count-revived, count-kept, count-pushed, count-last}
use Rattle.dart_arena.proofs.SlotLemmas.{rows-length, rows-at, rows-set, rows-pushed, rows-taken, rows-same, len-changed, capacity-changed, some-changed, rows-changed, set-there}
use Rattle.dart_arena.proofs.Arranged.{set-twice, AreOwn, own-once, key-some}

-- what stands at a place after a key is appended, put or taken away
pushed-key : (keys : List ℕ) (j p : ℕ) → ((p ≡ length keys) × (get_or (keys ++ j ∷ []) p 0 ≡ j)) ⊎ ((p ≢ length keys) × (get_or (keys ++ j ∷ []) p 0 ≡ get_or keys p 0))
pushed-key [] j zero = inl (refl, refl)
pushed-key [] j (suc p) = inr ((λ h. absurd (omega (arith, h))), refl)
pushed-key (k ∷ keys) j zero = inr ((λ h. absurd (omega (arith, h))), refl)
pushed-key (k ∷ keys) j (suc p) = elim (pushed-key keys j p) [
  | inl at ↦ inl (ap suc at.0, at.1)
  | inr other ↦ inr ((λ h. other.0 (omega (arith, h))), other.1)
]

put-at : (keys : List ℕ) (p k : ℕ) → p < length keys → get_or (set keys p k) p 0 ≡ k
put-at [] p k h = absurd (omega arith)
put-at (j ∷ keys) zero k h = refl
put-at (j ∷ keys) (suc p) k h = put-at keys p k (omega arith)

zero-at : (keys : List ℕ) (p : ℕ) → get_or (set keys p 0) p 0 ≡ (let z : ℕ = 0 in z)
zero-at [] p = refl
zero-at (j ∷ keys) zero = refl
zero-at (j ∷ keys) (suc p) = zero-at keys p

module _ (s new : Slab (List ℕ)) (keys : List ℕ) (n room : ℕ) (k : IsFreed s keys n room) (j : ℕ) (t : IsTurned s new j) where
  -- a new row under a new key
  module _ (row : List ℕ) (none : row_under s j ≡ None) (seen : row_under new j ≡ Some row) (len : slab_len new ≡ slab_len s + 1) (more : 1 ≤ room) where
    fresh : (p : ℕ) → key_at keys p ≢ 0 → key_at keys p ≢ j
    fresh p key same = false≢true (sym (ap (λ (i : ℕ). is_some (row_under s i)) same ∙ ap is_some none) ∙ k.there p key)

    seen-same : (p : ℕ) → row_under new (key_at keys p) ≡ row_under s (key_at keys p)
    seen-same p = elim (cases_eq (key_at keys p) 0) [
      | inl no-key ↦ rw no-key refl
      | inr key ↦ t.others (key_at keys p) (fresh p key)
    ]

    rows-kept : rows_under new keys ≡ rows_under s keys
    rows-kept = rows-same new s keys (λ p h. seen-same p)

    module _ (later : List ℕ) (place : ℕ)
        (at : (p : ℕ) → ((p ≡ place) × (key_at later p ≡ j)) ⊎ ((p ≢ place) × (key_at later p ≡ key_at keys p))) where
      there-more : (p : ℕ) → key_at later p ≢ 0 → IsSome (row_under new (key_at later p))
      there-more p key = elim (at p) [
        | inl own ↦ ap (λ (i : ℕ). is_some (row_under new i)) own.1 ∙ ap is_some seen
        | inr other ↦
            let old : key_at keys p ≢ 0 = λ z. key (other.1 ∙ z) in
            ap (λ (i : ℕ). is_some (row_under new i)) other.1 ∙ ap is_some (seen-same p) ∙ k.there p old
      ]

      once-more : (p q : ℕ) → key_at later p ≢ 0 → key_at later q ≡ key_at later p → q ≡ p
      once-more p q key same = elim (at p) [
        | inl own ↦ elim (at q) [
          | inl both ↦ both.0 ∙ sym own.0
          | inr other ↦
              let is : key_at keys q ≡ j = sym other.1 ∙ same ∙ own.1 in
              absurd (fresh q (λ z. t.own (sym is ∙ z)) is)
        ]
        | inr other ↦ elim (at q) [
          | inl own ↦
              let is : key_at keys p ≡ j = sym other.1 ∙ sym same ∙ own.1 in
              absurd (fresh p (λ z. t.own (sym is ∙ z)) is)
          | inr both ↦ k.once p q (λ z. key (other.1 ∙ z)) (sym both.1 ∙ same ∙ other.1)
        ]
      ]

    pub born-rows : rows_under new (keys ++ j ∷ []) ≡ rows_under s keys ++ Some row ∷ []
    born-rows =
        rows-pushed new keys j ∙ ap (λ (o : Option (List ℕ)). rows_under new keys ++ o ∷ []) seen
        ∙ ap (λ (rows : List (Option (List ℕ))). rows ++ Some row ∷ []) rows-kept

    pub born-freed : length keys < 4194304 → IsFreed new (keys ++ j ∷ []) (n + 1) (room - 1)
    born-freed few = record {
      few = omega (arith, length_push keys j);
      counted = rw born-rows (omega (arith, k.counted, count-pushed (rows_under s keys) row));
      there = there-more (keys ++ j ∷ []) (length keys) (pushed-key keys j);
      once = once-more (keys ++ j ∷ []) (length keys) (pushed-key keys j);
      all = omega (arith, len, k.all);
      fits = omega (arith, t.capacity, k.fits);
      bound = omega (arith, k.bound);
      narrow = omega (arith, t.capacity, k.narrow);
    }

    module _ (p : ℕ) (dead : key_at keys p ≡ 0) (within : p < length keys) where
      set-at : (q : ℕ) → ((q ≡ p) × (key_at (set keys p j) q ≡ j)) ⊎ ((q ≢ p) × (key_at (set keys p j) q ≡ key_at keys q))
      set-at q = elim (cases_eq q p) [
        | inl same ↦ inl (same, ap (λ (i : ℕ). key_at (set keys p j) i) same ∙ put-at keys p j within)
        | inr other ↦ inr (other, get_or-set_other keys p q j 0 other)
      ]

      pub revived-rows : rows_under new (set keys p j) ≡ set (rows_under s keys) p (Some row)
      revived-rows =
          rows-set new keys p j ∙ ap (λ (o : Option (List ℕ)). set (rows_under new keys) p o) seen
          ∙ ap (λ (rows : List (Option (List ℕ))). set rows p (Some row)) rows-kept

      pub revived-freed : IsFreed new (set keys p j) (n + 1) (room - 1)
      revived-freed =
          let none-seen : get_or (rows_under s keys) p None ≡ None = rows-at s keys p ∙ ap (row_under s) dead in
          record {
            few = omega (arith, k.few, length-set keys p j);
            counted = rw revived-rows (omega (arith, k.counted, count-revived (rows_under s keys) p row (omega (arith, rows-length s keys)) none-seen));
            there = there-more (set keys p j) p set-at;
            once = once-more (set keys p j) p set-at;
            all = omega (arith, len, k.all);
            fits = omega (arith, t.capacity, k.fits);
            bound = omega (arith, k.bound);
            narrow = omega (arith, t.capacity, k.narrow);
          }

  -- the row of a place is gone
  module _ (p : ℕ) (is : j ≡ key_at keys p) (gone : row_under new j ≡ None) (len : slab_len new + 1 ≡ slab_len s) where
    key : key_at keys p ≢ 0
    key z = t.own (is ∙ z)

    row-some : IsSome (get_or (rows_under s keys) p None)
    row-some = ap is_some (rows-at s keys p) ∙ k.there p key

    seen-other : (q : ℕ) → q ≢ p → row_under new (key_at keys q) ≡ row_under s (key_at keys q)
    seen-other q other = t.others (key_at keys q) (λ same. other (k.once p q key (same ∙ is)))

    rows-gone : rows_under new keys ≡ set (rows_under s keys) p None
    rows-gone =
        let long : length (rows_under new keys) ≡ length (set (rows_under s keys) p None) =
        rows-length new keys ∙ sym (rows-length s keys) ∙ sym (length-set (rows_under s keys) p None) in
        ext_get_or None (rows_under new keys) (set (rows_under s keys) p None) long
        (λ q h. rows-at new keys q ∙ elim (cases_eq q p) [
          | inl same ↦
              let within : p < length (rows_under s keys) = omega (arith, rows-length new keys, rows-length s keys) in
              rw same (ap (row_under new) (sym is) ∙ gone ∙ sym (set-there (rows_under s keys) p None within))
          | inr other ↦ seen-other q other ∙ sym (rows-at s keys q) ∙ sym (get_or-set_other (rows_under s keys) p q None None other)
        ])

    module _ (later : List ℕ) (at : (q : ℕ) → (key_at later q ≡ 0) ⊎ ((q ≢ p) × (key_at later q ≡ key_at keys q))) where
      there-less : (q : ℕ) → key_at later q ≢ 0 → IsSome (row_under new (key_at later q))
      there-less q some = elim (at q) [
        | inl none ↦ absurd (some none)
        | inr other ↦
            ap (λ (i : ℕ). is_some (row_under new i)) other.1 ∙ ap is_some (seen-other q other.0) ∙ k.there q (λ z. some (other.1 ∙ z))
      ]

      once-less : (a b : ℕ) → key_at later a ≢ 0 → key_at later b ≡ key_at later a → b ≡ a
      once-less a b some same = elim (at a) [
        | inl none ↦ absurd (some none)
        | inr first ↦ elim (at b) [
          | inl none ↦ absurd (some (sym same ∙ none))
          | inr second ↦ k.once a b (λ z. some (first.1 ∙ z)) (sym second.1 ∙ same ∙ first.1)
        ]
      ]

    pub buried-rows : rows_under new (set keys p 0) ≡ set (rows_under s keys) p None
    buried-rows =
        rows-set new keys p 0 ∙ ap (λ (rows : List (Option (List ℕ))). set rows p None) rows-gone ∙ set-twice (rows_under s keys) p None None

    buried-at : (q : ℕ) → (key_at (set keys p 0) q ≡ 0) ⊎ ((q ≢ p) × (key_at (set keys p 0) q ≡ key_at keys q))
    buried-at q = elim (cases_eq q p) [
      | inl same ↦ inl (ap (λ (i : ℕ). key_at (set keys p 0) i) same ∙ zero-at keys p)
      | inr other ↦ inr (other, get_or-set_other keys p q 0 0 other)
    ]

    pub buried-freed : IsFreed new (set keys p 0) (n - 1) (room + 1)
    buried-freed =
        let fewer = count-buried (rows_under s keys) p row-some in
        record {
          few = omega (arith, k.few, length-set keys p 0);
          counted = rw buried-rows (omega (arith, k.counted));
          there = there-less (set keys p 0) buried-at;
          once = once-less (set keys p 0) buried-at;
          all = omega (arith, len, k.all, k.counted);
          fits = omega (arith, t.capacity, k.fits, k.counted);
          bound = omega (arith, k.bound, k.counted);
          narrow = omega (arith, t.capacity, k.narrow);
        }

    module _ (last : length keys ≡ p + 1) where
      pub unborn-rows : rows_under new (take p keys) ≡ take p (rows_under s keys)
      unborn-rows = rows-taken new p keys ∙ ap (take p) rows-gone ∙ take-set-le p (rows_under s keys) p None (omega arith)

      taken-at : (q : ℕ) → (key_at (take p keys) q ≡ 0) ⊎ ((q ≢ p) × (key_at (take p keys) q ≡ key_at keys q))
      taken-at q = elim (cases_lt q p) [
        | inl below ↦ inr ((λ same. absurd (omega (arith, same))), get_or-take p keys q 0 below)
        | inr past ↦ inl (get_or_past (take p keys) q 0 (omega (arith, length-take-le p keys (omega arith))))
      ]

      pub unborn-freed : IsFreed new (take p keys) (n - 1) (room + 1)
      unborn-freed =
          let fewer = count-last (rows_under s keys) p (omega (arith, rows-length s keys)) row-some in
          record {
            few = omega (arith, k.few, length-take-le p keys (omega arith));
            counted = rw unborn-rows (omega (arith, k.counted));
            there = there-less (take p keys) taken-at;
            once = once-less (take p keys) taken-at;
            all = omega (arith, len, k.all, k.counted);
            fits = omega (arith, t.capacity, k.fits, k.counted);
            bound = omega (arith, k.bound, k.counted);
            narrow = omega (arith, t.capacity, k.narrow);
          }

module _ (s : Slab (List ℕ)) (keys : List ℕ) (n room : ℕ) (k : IsFreed s keys n room) where
  -- the row of a place is changed
  pub written-freed : (p : ℕ) (f : List ℕ → List ℕ) → IsFreed (with_row s (key_at keys p) f) keys n room
  written-freed p f = record {
    few = k.few;
    counted = rw (rows-changed s keys p f k.once) (k.counted ∙ sym (count-kept (rows_under s keys) p f));
    there = λ q key. some-changed s (key_at keys p) (key_at keys q) f ∙ k.there q key;
    once = k.once;
    all = len-changed s (key_at keys p) f ∙ k.all;
    fits = omega (arith, k.fits, capacity-changed s (key_at keys p) f);
    bound = k.bound;
    narrow = omega (arith, k.narrow, capacity-changed s (key_at keys p) f);
  }

  -- another room that the memory has
  pub freed-for : (big : ℕ) → n + big ≤ s.capacity → n + big ≤ 8388608 → IsFreed s keys n big
  freed-for big fits bound = record {
    few = k.few;
    counted = k.counted;
    there = k.there;
    once = k.once;
    all = k.all;
    fits = fits;
    bound = bound;
    narrow = k.narrow;
  }

-- keys are kept from now on
count-told : (s : Slab (List ℕ)) (keys : List ℕ) → ((p : ℕ) → key_at keys p ≢ 0 → IsSome (row_under s (key_at keys p)))
    → length (filter is_some (rows_under s keys)) ≡ count_keys keys
count-told s [] there = refl
count-told s (zero ∷ keys) there = count-told s keys (λ p. there (suc p))
count-told s (suc j ∷ keys) there =
    let rest = count-told s keys (λ p. there (suc p)) in
    let first : is_some (row_under s (suc j)) ≡ true = there 0 (λ h. absurd (omega (arith, h))) in
    rw first (omega (arith, rest))

pub kept-freed : (dim : ℕ) (s new : Slab (List ℕ)) (keys : List ℕ) (n spare room : ℕ) → IsKept dim s keys n spare room → AreOwn keys
    → ((p : ℕ) → key_at keys p ≢ 0 → get new p ≡ get s p) → slab_len new ≡ count_keys keys → new.capacity ≡ s.capacity → s.capacity < 4294967296
    → IsFreed new keys n room × (rows_under new keys ≡ rows_under s keys)
kept-freed dim s new keys n spare room k own kept len capacity narrow = (
  record {
    few = k.few;
    counted = rw same k.counted;
    there = λ p key. ap is_some (under p) ∙ key-some dim s keys n spare room k own p key;
    once = own-once keys own;
    all = len ∙ sym (count-told s keys (key-some dim s keys n spare room k own)) ∙ sym k.counted;
    fits = omega (arith, k.shared, k.within, k.holds, capacity);
    bound = k.bound;
    narrow = omega (arith, narrow, capacity);
  },
  same,
) where
  under : (p : ℕ) → row_under new (key_at keys p) ≡ row_under s (key_at keys p)
  under p = elim (cases_eq (key_at keys p) 0) [
    | inl none ↦ rw none refl
    | inr key ↦ rw (own p key) (kept p key)
  ]

  same : rows_under new keys ≡ rows_under s keys
  same = rows-same new s keys (λ p h. under p)

-- how many keys stand before a place
count-none : (keys : List ℕ) (p : ℕ) → key_at keys p ≡ 0 → count_keys (take (suc p) keys) ≡ count_keys (take p keys)
count-none [] zero h = refl
count-none [] (suc p) h = refl
count-none (zero ∷ keys) zero h = refl
count-none (suc j ∷ keys) zero h = absurd (omega (arith, h))
count-none (zero ∷ keys) (suc p) h = count-none keys p h
count-none (suc j ∷ keys) (suc p) h = ap suc (count-none keys p h)

count-one : (keys : List ℕ) (p : ℕ) → key_at keys p ≢ 0 → count_keys (take (suc p) keys) ≡ suc (count_keys (take p keys))
count-one [] p h = absurd (h refl)
count-one (zero ∷ keys) zero h = absurd (h refl)
count-one (suc j ∷ keys) zero h = refl
count-one (zero ∷ keys) (suc p) h = count-one keys p h
count-one (suc j ∷ keys) (suc p) h = ap suc (count-one keys p h)

-- the rows before a place are looked through
module _ (first s new : Slab (List ℕ)) (keys : List ℕ) (p key : ℕ) (is : key ≡ key_at keys p)
    (had : key ≢ 0 → new ≡ s) (dead : key ≡ 0 → IsTurned s new (p + 1) × (row_under new (p + 1) ≡ None) × (slab_len new + 1 ≡ slab_len s))
    (len : slab_len s + p ≡ slab_len first + count_keys (take p keys))
    (rest : (place : ℕ) → p ≤ place → get s place ≡ get first place)
    (kept : (place : ℕ) → key_at keys place ≢ 0 → get s place ≡ get first place) (capacity : s.capacity ≡ first.capacity) where
  next : p + 1 ≡ suc p
  next = omega arith

  apart : (place : ℕ) → key ≡ 0 → place ≢ p → get new place ≡ get s place
  apart place none other = (dead none).0.others (suc place) (λ same. other (omega (arith, same)))

  pub looked-more : (slab_len new + (p + 1) ≡ slab_len first + count_keys (take (p + 1) keys))
      × ((place : ℕ) → p + 1 ≤ place → get new place ≡ get first place)
      × ((place : ℕ) → key_at keys place ≢ 0 → get new place ≡ get first place)
      × (new.capacity ≡ first.capacity)
  looked-more = elim (cases_eq key 0) [
    | inl none ↦
        let fewer : slab_len new + 1 ≡ slab_len s = (dead none).2 in
        let counted : count_keys (take (p + 1) keys) ≡ count_keys (take p keys) =
        ap (λ (m : ℕ). count_keys (take m keys)) next ∙ count-none keys p (sym is ∙ none) in (
          omega (arith, fewer, counted, len),
          (λ place h. apart place none (λ same. absurd (omega (arith, same))) ∙ rest place (omega arith)),
          (λ place h. apart place none (λ same. h (ap (key_at keys) same ∙ sym is ∙ none)) ∙ kept place h),
          (dead none).0.capacity ∙ capacity,
        )
    | inr some ↦
        let counted : count_keys (take (p + 1) keys) ≡ suc (count_keys (take p keys)) =
        ap (λ (m : ℕ). count_keys (take m keys)) next ∙ count-one keys p (λ z. some (is ∙ z)) in
        let same = had some in
        rw same (omega (arith, counted, len), (λ place h. rest place (omega arith)), kept, capacity)
  ]
