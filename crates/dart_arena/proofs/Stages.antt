-- What an arena's parts keep, with or without keys, and what each step makes of them.
use Rattle.std.proofs.Common.{◌≡◌, ◌≢◌, ℕ, suc, ◌+◌, ◌-◌, ◌<◌, ◌≤◌, Bool, true, false, cond, List, [], ◌∷◌, ◌++◌, length, get_or, set, take, Option, None, Some, is_some, IsSome, refl, sym, ap, subst, ◌∙◌, inl, inr, arith}
use Rattle.std.specs.Prelude.{option_map, filter}
use Rattle.std.proofs.lemmas.Bool.{cases_eq, false≢true}
use Rattle.map_defs.specs.Rows.{entry_of}
use Rattle.map_defs.specs.Edits.{free_row}
use Rattle.slab.specs.Slab.{Slab, get, slab_len}
use Rattle.dart_arena.specs.declared.places.Places.{Places}
use Rattle.dart_arena.specs.Layout.{is_in_order, keys_of, row_under, rows_under, key_at, with_row, AreFirst, IsKept, IsFreed, IsArranged, IsTaken, IsGiven, count_keys}
use Rattle.dart_arena.proofs.RowLemmas.{count-buried, count-le}
use Rattle.dart_arena.proofs.SlotLemmas.{rows-length, rows-at, rows-changed}
use Rattle.dart_arena.proofs.Arranged.{AreOwn, own-places, key-some, entry-seen, rows-born, kept-born, rows-revived, kept-revived, rows-buried, kept-buried, rows-unborn, kept-unborn, rows-written, kept-written, rows-grown, kept-grown}
use Rattle.dart_arena.proofs.Freed.{born-freed, born-rows, revived-freed, revived-rows, buried-freed, buried-rows, unborn-freed, unborn-rows, written-freed, freed-for, kept-freed}

pub own-keys : (places : Places) → is_in_order places ≡ true → AreOwn (keys_of places)
own-keys places h = rw h (own-places places.live.items)

-- where a row is seen, there is a key
pub seen-key : (s : Slab (List ℕ)) (keys : List ℕ) (p : ℕ) → IsSome (get_or (rows_under s keys) p None) → key_at keys p ≢ 0
seen-key s keys p h none = false≢true (sym (ap is_some (rows-at s keys p) ∙ ap (λ (j : ℕ). is_some (row_under s j)) none) ∙ h)

abbrev Kept : Bool → ℕ → Slab (List ℕ) → List ℕ → ℕ → ℕ → ℕ → Type 0
Kept b dim s keys n spare room = IsArranged b dim s keys n spare room

few-of : (b : Bool) (dim : ℕ) (s : Slab (List ℕ)) (keys : List ℕ) (n spare room : ℕ) → Kept b dim s keys n spare room → length keys ≤ 4194304
few-of true dim s keys n spare room k = k.few
few-of false dim s keys n spare room k = k.few

counted-of : (b : Bool) (dim : ℕ) (s : Slab (List ℕ)) (keys : List ℕ) (n spare room : ℕ) → Kept b dim s keys n spare room → n ≡ length (filter is_some (rows_under s keys))
counted-of true dim s keys n spare room k = k.counted
counted-of false dim s keys n spare room k = k.counted

some-of : (b : Bool) (dim : ℕ) (s : Slab (List ℕ)) (keys : List ℕ) (n spare room : ℕ) → Kept b dim s keys n spare room → (b ≡ true → AreOwn keys)
    → (p : ℕ) → key_at keys p ≢ 0 → IsSome (row_under s (key_at keys p))
some-of true dim s keys n spare room k own p h = key-some dim s keys n spare room k (own refl) p h
some-of false dim s keys n spare room k own p h = k.there p h

entry-of : (b : Bool) (dim : ℕ) (s : Slab (List ℕ)) (keys : List ℕ) (n spare room : ℕ) → Kept b dim s keys n spare room → (b ≡ true → AreOwn keys)
    → (p link : ℕ) → entry_of (row_under s (cond b (p + 1) (key_at keys p))) link ≡ entry_of (get_or (rows_under s keys) p None) link
entry-of true dim s keys n spare room k own p link = let e : p + 1 ≡ suc p = omega arith in rw e (entry-seen dim s keys n spare room k (own refl) p link)
entry-of false dim s keys n spare room k own p link = ap (λ (o : Option (List ℕ)). entry_of o link) (sym (rows-at s keys p))

room-of : (b : Bool) (dim : ℕ) (s : Slab (List ℕ)) (keys : List ℕ) (n spare room : ℕ) → Kept b dim s keys n spare room → 1 ≤ room → b ≡ false → slab_len s + 1 ≤ s.capacity
room-of true dim s keys n spare room k more h = absurd (false≢true (sym h))
room-of false dim s keys n spare room k more h = omega (arith, k.all, k.fits)

sum-of : (b : Bool) (dim : ℕ) (s : Slab (List ℕ)) (keys : List ℕ) (n spare room : ℕ) → Kept b dim s keys n spare room → n + room ≤ 8388608
sum-of true dim s keys n spare room k = k.bound
sum-of false dim s keys n spare room k = k.bound

narrow-of : (b : Bool) (dim : ℕ) (s new : Slab (List ℕ)) (keys : List ℕ) (n spare room p j : ℕ) → Kept b dim s keys n spare room → p < 4194304 → IsTaken b dim s new p j → j < 4294967296
narrow-of true dim s new keys n spare room p j k few t = omega (arith, t.0)
narrow-of false dim s new keys n spare room p j k few t = omega (arith, t.4, k.narrow)

born-of : (b : Bool) (dim : ℕ) (s new : Slab (List ℕ)) (keys : List ℕ) (n spare room j : ℕ) → Kept b dim s keys n spare room → (b ≡ true → AreOwn keys)
    → 1 ≤ spare → 1 ≤ room → length keys < 4194304 → IsTaken b dim s new (length keys) j
    → Kept b dim new (keys ++ j ∷ []) (n + 1) (spare - 1) (room - 1) × (rows_under new (keys ++ j ∷ []) ≡ rows_under s keys ++ Some (free_row dim) ∷ [])
born-of true dim s new keys n spare room j k own some more few t =
    rw (t.0, t.1) (kept-born dim s keys n spare room k (own refl) some more few, rows-born dim s keys n spare room k (own refl) some more)
born-of false dim s new keys n spare room j k own some more few t =
    (born-freed s new keys n room k j t.0 (free_row dim) t.1 t.2 t.3 more few, born-rows s new keys n room k j t.0 (free_row dim) t.1 t.2 t.3 more)

revived-of : (b : Bool) (dim : ℕ) (s new : Slab (List ℕ)) (keys : List ℕ) (n spare room j : ℕ) → Kept b dim s keys n spare room → (b ≡ true → AreOwn keys)
    → (p : ℕ) → key_at keys p ≡ 0 → p < length keys → 1 ≤ room → IsTaken b dim s new p j
    → Kept b dim new (set keys p j) (n + 1) spare (room - 1) × (rows_under new (set keys p j) ≡ set (rows_under s keys) p (Some (free_row dim)))
revived-of true dim s new keys n spare room j k own p none within more t =
    rw (t.0, t.1) (kept-revived dim s keys n spare room k (own refl) p none within more, rows-revived dim s keys n spare room k (own refl) p none within more)
revived-of false dim s new keys n spare room j k own p none within more t =
    (revived-freed s new keys n room k j t.0 (free_row dim) t.1 t.2 t.3 more p none within, revived-rows s new keys n room k j t.0 (free_row dim) t.1 t.2 t.3 more p none within)

buried-of : (b : Bool) (dim : ℕ) (s new : Slab (List ℕ)) (keys : List ℕ) (n spare room j : ℕ) → Kept b dim s keys n spare room → (b ≡ true → AreOwn keys)
    → (p : ℕ) → key_at keys p ≢ 0 → j ≡ key_at keys p → IsGiven b dim s new j
    → Kept b dim new (set keys p 0) (n - 1) spare (room + 1) × (rows_under new (set keys p 0) ≡ set (rows_under s keys) p None)
buried-of true dim s new keys n spare room j k own p key is g =
    rw (g, is) (kept-buried dim s keys n spare room k (own refl) p key, rows-buried dim s keys n spare room k (own refl) p key)
buried-of false dim s new keys n spare room j k own p key is g =
    (buried-freed s new keys n room k j g.0 p is g.1 g.2, buried-rows s new keys n room k j g.0 p is g.1 g.2)

unborn-of : (b : Bool) (dim : ℕ) (s new : Slab (List ℕ)) (keys : List ℕ) (n spare room j : ℕ) → Kept b dim s keys n spare room → (b ≡ true → AreOwn keys)
    → (p : ℕ) → key_at keys p ≢ 0 → j ≡ key_at keys p → length keys ≡ p + 1 → IsGiven b dim s new j
    → Kept b dim new (take p keys) (n - 1) (spare + 1) (room + 1) × (rows_under new (take p keys) ≡ take p (rows_under s keys))
unborn-of true dim s new keys n spare room j k own p key is last g =
    rw (g, is) (kept-unborn dim s keys n spare room k (own refl) p key last, rows-unborn dim s keys n spare room k (own refl) p key last)
unborn-of false dim s new keys n spare room j k own p key is last g =
    (unborn-freed s new keys n room k j g.0 p is g.1 g.2 last, unborn-rows s new keys n room k j g.0 p is g.1 g.2 last)

written-of : (b : Bool) (dim : ℕ) (s : Slab (List ℕ)) (keys : List ℕ) (n spare room : ℕ) → Kept b dim s keys n spare room → (b ≡ true → AreOwn keys)
    → (p : ℕ) (f : List ℕ → List ℕ)
    → Kept b dim (with_row s (key_at keys p) f) keys n spare room
    × (rows_under (with_row s (key_at keys p) f) keys ≡ set (rows_under s keys) p (option_map f (get_or (rows_under s keys) p None)))
written-of true dim s keys n spare room k own p f = (kept-written dim s keys n spare room k (own refl) p f, rows-written dim s keys n spare room k (own refl) p f)
written-of false dim s keys n spare room k own p f = (written-freed s keys n room k p f, rows-changed s keys p f k.once)

-- what is kept in order, and with keys
kept-is : (b : Bool) (dim : ℕ) (s : Slab (List ℕ)) (keys : List ℕ) (n spare room : ℕ) → Kept b dim s keys n spare room → b ≡ true → IsKept dim s keys n spare room
kept-is true dim s keys n spare room k h = k
kept-is false dim s keys n spare room k h = absurd (false≢true h)

freed-is : (b : Bool) (dim : ℕ) (s : Slab (List ℕ)) (keys : List ℕ) (n spare room : ℕ) → Kept b dim s keys n spare room → b ≡ false → IsFreed s keys n room
freed-is true dim s keys n spare room k h = absurd (false≢true (sym h))
freed-is false dim s keys n spare room k h = k

is-kept : (b : Bool) (dim : ℕ) (s : Slab (List ℕ)) (keys : List ℕ) (n spare room : ℕ) → b ≡ true → IsKept dim s keys n spare room → Kept b dim s keys n spare room
is-kept true dim s keys n spare room h k = k
is-kept false dim s keys n spare room h k = absurd (false≢true h)

pub is-freed : (b : Bool) (dim : ℕ) (s : Slab (List ℕ)) (keys : List ℕ) (n spare room : ℕ) → b ≡ false → IsFreed s keys n room → Kept b dim s keys n spare room
is-freed true dim s keys n spare room h k = absurd (false≢true (sym h))
is-freed false dim s keys n spare room h k = k

-- the same for the places of an arena
module _ (places : Places) (dim : ℕ) (s : Slab (List ℕ)) (n spare room : ℕ) (k : IsArranged (is_in_order places) dim s (keys_of places) n spare room) where
  abbrev at : List ℕ
  at = keys_of places

  pub few-darts : length (keys_of places) ≤ 4194304
  few-darts = few-of (is_in_order places) dim s at n spare room k

  pub told-live : n ≡ length (filter is_some (rows_under s (keys_of places)))
  told-live = counted-of (is_in_order places) dim s at n spare room k

  pub live-few : n ≤ length (keys_of places)
  live-few = omega (arith, told-live, count-le (rows_under s at), rows-length s at)

  pub has-row : (p : ℕ) → key_at (keys_of places) p ≢ 0 → IsSome (row_under s (key_at (keys_of places) p))
  has-row = some-of (is_in_order places) dim s at n spare room k (own-keys places)

  pub row-seen : (p : ℕ) → key_at (keys_of places) p ≢ 0 → IsSome (get_or (rows_under s (keys_of places)) p None)
  row-seen p h = ap is_some (rows-at s at p) ∙ has-row p h

  pub no-key : (p : ℕ) → get_or (rows_under s (keys_of places)) p None ≡ None → key_at (keys_of places) p ≡ 0
  no-key p h = elim (cases_eq (key_at at p) 0) [
    | inl none ↦ none
    | inr key ↦ absurd (false≢true (sym (ap is_some h) ∙ row-seen p key))
  ]

  pub one-lives : (p : ℕ) → key_at (keys_of places) p ≢ 0 → 1 ≤ n
  one-lives p h = omega (arith, told-live, count-buried (rows_under s at) p (row-seen p h))

  pub entry-read : (p link : ℕ) → entry_of (row_under s (cond (is_in_order places) (p + 1) (key_at (keys_of places) p))) link ≡ entry_of (get_or (rows_under s (keys_of places)) p None) link
  entry-read = entry-of (is_in_order places) dim s at n spare room k (own-keys places)

  pub row-fits-in : 1 ≤ room → is_in_order places ≡ false → slab_len s + 1 ≤ s.capacity
  row-fits-in = room-of (is_in_order places) dim s at n spare room k

  pub room-within : n + room ≤ 8388608
  room-within = sum-of (is_in_order places) dim s at n spare room k

  pub key-narrow : (new : Slab (List ℕ)) (p j : ℕ) → p < 4194304 → IsTaken (is_in_order places) dim s new p j → j < 4294967296
  key-narrow new p j few t = narrow-of (is_in_order places) dim s new at n spare room p j k few t

  pub after-birth : (new : Slab (List ℕ)) (j : ℕ) → 1 ≤ spare → 1 ≤ room → length (keys_of places) < 4194304 → IsTaken (is_in_order places) dim s new (length (keys_of places)) j
      → IsArranged (is_in_order places) dim new (keys_of places ++ j ∷ []) (n + 1) (spare - 1) (room - 1) × (rows_under new (keys_of places ++ j ∷ []) ≡ rows_under s (keys_of places) ++ Some (free_row dim) ∷ [])
  after-birth new j some more few t = born-of (is_in_order places) dim s new at n spare room j k (own-keys places) some more few t

  pub after-revival : (new : Slab (List ℕ)) (j p : ℕ) → key_at (keys_of places) p ≡ 0 → p < length (keys_of places) → 1 ≤ room → IsTaken (is_in_order places) dim s new p j
      → IsArranged (is_in_order places) dim new (set (keys_of places) p j) (n + 1) spare (room - 1) × (rows_under new (set (keys_of places) p j) ≡ set (rows_under s (keys_of places)) p (Some (free_row dim)))
  after-revival new j p none within more t = revived-of (is_in_order places) dim s new at n spare room j k (own-keys places) p none within more t

  pub after-burial : (new : Slab (List ℕ)) (j p : ℕ) → key_at (keys_of places) p ≢ 0 → j ≡ key_at (keys_of places) p → IsGiven (is_in_order places) dim s new j
      → IsArranged (is_in_order places) dim new (set (keys_of places) p 0) (n - 1) spare (room + 1) × (rows_under new (set (keys_of places) p 0) ≡ set (rows_under s (keys_of places)) p None)
  after-burial new j p key is g = buried-of (is_in_order places) dim s new at n spare room j k (own-keys places) p key is g

  pub after-unbirth : (new : Slab (List ℕ)) (j p : ℕ) → key_at (keys_of places) p ≢ 0 → j ≡ key_at (keys_of places) p → length (keys_of places) ≡ p + 1 → IsGiven (is_in_order places) dim s new j
      → IsArranged (is_in_order places) dim new (take p (keys_of places)) (n - 1) (spare + 1) (room + 1) × (rows_under new (take p (keys_of places)) ≡ take p (rows_under s (keys_of places)))
  after-unbirth new j p key is last g = unborn-of (is_in_order places) dim s new at n spare room j k (own-keys places) p key is last g

  pub after-write : (p : ℕ) (f : List ℕ → List ℕ)
      → IsArranged (is_in_order places) dim (with_row s (key_at (keys_of places) p) f) (keys_of places) n spare room
      × (rows_under (with_row s (key_at (keys_of places) p) f) (keys_of places) ≡ set (rows_under s (keys_of places)) p (option_map f (get_or (rows_under s (keys_of places)) p None)))
  after-write = written-of (is_in_order places) dim s at n spare room k (own-keys places)

  -- more rows of zeros, while no keys are kept
  module _ (order : is_in_order places ≡ true) where
    in-order : IsKept dim s (keys_of places) n spare room
    in-order = kept-is (is_in_order places) dim s at n spare room k order

    pub in-order-sum : n + room ≡ length (keys_of places) + spare
    in-order-sum = in-order.shared

    module _ (new : Slab (List ℕ)) (more : slab_len s ≤ slab_len new) (first : AreFirst new)
        (kept : (key : ℕ) → key < slab_len s → get new key ≡ get s key) (holds : slab_len new ≤ new.capacity)
        (zeros : (key : ℕ) → slab_len s ≤ key → key < slab_len new → get new key ≡ Some (free_row dim)) where
      pub after-filling : (fresh big : ℕ) → length (keys_of places) + fresh ≤ slab_len new → n + big ≡ length (keys_of places) + fresh → n + big ≤ 8388608
          → IsArranged (is_in_order places) dim new (keys_of places) n fresh big
      after-filling fresh big within shared bound =
          is-kept (is_in_order places) dim new at n fresh big order (kept-grown dim s at n spare room in-order (own-keys places order) new more first kept holds zeros fresh big within shared bound)

      pub still-arranged : IsArranged (is_in_order places) dim new (keys_of places) n spare room
      still-arranged = after-filling spare room (omega (arith, in-order.within, more)) in-order.shared in-order.bound

      pub filled-rows : rows_under new (keys_of places) ≡ rows_under s (keys_of places)
      filled-rows = rows-grown dim s at n spare room in-order (own-keys places order) new more first kept holds zeros

    -- keys are kept from now on
    pub after-freeing : (new : Slab (List ℕ)) → ((p : ℕ) → key_at (keys_of places) p ≢ 0 → get new p ≡ get s p) → slab_len new ≡ count_keys (keys_of places)
        → new.capacity ≡ s.capacity → s.capacity < 4294967296 → IsFreed new (keys_of places) n room × (rows_under new (keys_of places) ≡ rows_under s (keys_of places))
    after-freeing new kept len capacity narrow = kept-freed dim s new at n spare room in-order (own-keys places order) kept len capacity narrow

  -- once keys are kept
  pub freed-parts : is_in_order places ≡ false → IsFreed s (keys_of places) (slab_len s) 0
  freed-parts order =
      let parts = freed-is (is_in_order places) dim s at n spare room k order in
      let plain : IsFreed s (keys_of places) n 0 = freed-for s at n room parts 0 (omega (arith, parts.fits)) (omega (arith, parts.bound)) in
      subst (λ (m : ℕ). IsFreed s (keys_of places) m 0) (sym parts.all) plain

  pub rows-all : is_in_order places ≡ false → slab_len s ≡ n
  rows-all order = (freed-is (is_in_order places) dim s at n spare room k order).all
