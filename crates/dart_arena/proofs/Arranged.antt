-- What an arena's parts keep, and what each step makes of them.
use Rattle.std.proofs.Common.{◌≡◌, ◌≢◌, ℕ, zero, suc, ◌+◌, ◌-◌, ◌<◌, ◌≤◌, Bool, true, false, cond, List, [], ◌∷◌, ◌++◌, length, get_or, set, take, replicate, Option, None, Some, is_some, IsSome, refl, sym, ap, ◌∙◌, inl, inr, arith, length-set}
use Rattle.std.specs.Prelude.{map, option_map, filter, reverse}
use Rattle.std.proofs.lemmas.Bool.{cases_eq, cases_lt, false≢true}
use Rattle.std.proofs.lemmas.List.{get_or-set_other, get_or_past, get_or-take, take-set-le, length_push, length-take-le}
use Rattle.map_defs.specs.Rows.{entry_of}
use Rattle.map_defs.specs.Edits.{free_row}
use Rattle.slab.specs.Slab.{Slab, get, slab_len}
use Rattle.dart_arena.specs.Layout.{row_under, rows_under, key_at, with_row, keys_from, AreFirst, IsKept, first_turned}
use Rattle.dart_arena.specs.Stock.{Stock, IsNextLive}
use Rattle.dart_arena.proofs.RowLemmas.{row_behind, count-buried, count-revived, count-kept, count-pushed, count-last, count-le}
use Rattle.dart_arena.proofs.SlotLemmas.{rows-length, rows-at, rows-set, rows-pushed, rows-taken, rows-same, key-within, under-changed, under-other, len-changed, capacity-changed, some-changed, AreOnce, rows-changed}
use Rattle.dart_arena.proofs.KeyLemmas.{keys-at}

-- each key is its place's own, or none
abbrev pub AreOwn : List ℕ → Type 0
AreOwn keys = (p : ℕ) → key_at keys p ≢ 0 → key_at keys p ≡ suc p

own-if : (b : Bool) (p : ℕ) → (let k : ℕ = cond b (suc p) 0 in k) ≢ 0 → (let k : ℕ = cond b (suc p) 0 in k) ≡ suc p
own-if true p h = refl
own-if false p h = absurd (h refl)

pub own-places : (bs : List Bool) → AreOwn (keys_from 0 bs)
own-places bs p h =
    let e : 0 + p ≡ p = omega arith in
    let at : get_or (keys_from 0 bs) p 0 ≡ cond (get_or bs p false) (suc p) 0 =
    keys-at 0 bs p ∙ ap (λ (q : ℕ). cond (get_or bs p false) (suc q) 0) e in
    at ∙ own-if (get_or bs p false) p (λ none. h (at ∙ none))

pub own-once : (keys : List ℕ) → AreOwn keys → AreOnce keys
own-once keys own p q key same =
    let other : key_at keys q ≢ 0 = λ none. key (sym same ∙ none) in
    let e = own p key in
    let f = own q other in
    omega (arith, same)

none-from : (o : Option (List ℕ)) → is_some o ≡ false → o ≡ None
none-from None h = refl
none-from (Some row) h = absurd (false≢true (sym h))

zero-in : (n j : ℕ) → get_or (replicate n 0) j 0 ≡ (let z : ℕ = 0 in z)
zero-in zero j = refl
zero-in (suc n) zero = refl
zero-in (suc n) (suc j) = zero-in n j

const-mapped : (row : List ℕ) (o : Option (List ℕ)) → IsSome o → option_map (λ (r : List ℕ). row) o ≡ Some row
const-mapped row None h = absurd (false≢true h)
const-mapped row (Some r) h = refl

pub set-twice : (xs : List (Option (List ℕ))) (p : ℕ) (a b : Option (List ℕ)) → set (set xs p a) p b ≡ set xs p b
set-twice [] p a b = refl
set-twice (x ∷ xs) zero a b = refl
set-twice (x ∷ xs) (suc p) a b = ap (λ (rest : List (Option (List ℕ))). x ∷ rest) (set-twice xs p a b)

-- a key that is none after a birth was none before
none-before : (keys : List ℕ) (k p : ℕ) → k ≢ 0 → get_or (keys ++ k ∷ []) p 0 ≡ 0 → get_or keys p 0 ≡ 0
none-before [] k p key h = refl
none-before (j ∷ keys) k zero key h = h
none-before (j ∷ keys) k (suc p) key h = none-before keys k p key h

-- a change of one row leaves the first keys as they are
first-changed : (s : Slab (List ℕ)) (k : ℕ) (f : List ℕ → List ℕ) → AreFirst s → AreFirst (with_row s k f)
first-changed s k f first = record {
  there = λ key h. some-changed s k (suc key) f ∙ first.there key (omega (arith, len-changed s k f));
  past = λ key h. none-from (get (with_row s k f) key) (some-changed s k (suc key) f ∙ ap is_some (first.past key (omega (arith, len-changed s k f))));
}

module _ (dim : ℕ) (s : Slab (List ℕ)) (keys : List ℕ) (n spare room : ℕ) (k : IsKept dim s keys n spare room) (own : AreOwn keys) where
  pub live-most : n ≤ length keys
  live-most = omega (arith, k.counted, count-le (rows_under s keys), rows-length s keys)

  -- where a key is, there is a row, and nowhere else
  pub key-some : (p : ℕ) → key_at keys p ≢ 0 → IsSome (row_under s (key_at keys p))
  key-some p h = let within = key-within keys p h in rw (own p h) (k.first.there p (omega (arith, k.within)))

  pub row-some : (p : ℕ) → key_at keys p ≢ 0 → IsSome (get_or (rows_under s keys) p None)
  row-some p h = ap is_some (rows-at s keys p) ∙ key-some p h

  pub some-key : (p : ℕ) → IsSome (get_or (rows_under s keys) p None) → key_at keys p ≢ 0
  some-key p h none = false≢true (sym (ap is_some (rows-at s keys p) ∙ ap (λ (j : ℕ). is_some (row_under s j)) none) ∙ h)

  pub none-key : (p : ℕ) → get_or (rows_under s keys) p None ≡ None → key_at keys p ≡ 0
  none-key p h = elim (cases_eq (key_at keys p) 0) [
    | inl none ↦ none
    | inr key ↦ absurd (false≢true (sym (ap is_some h) ∙ row-some p key))
  ]

  pub some-live : (p : ℕ) → key_at keys p ≢ 0 → 1 ≤ n
  some-live p h = omega (arith, k.counted, count-buried (rows_under s keys) p (row-some p h))

  -- the row of zeros of who does not live
  clear-row : (p : ℕ) → p < slab_len s → key_at keys p ≡ 0 → get s p ≡ Some (free_row dim)
  clear-row = k.clear

  pub entry-seen : (p link : ℕ) → entry_of (get s p) link ≡ entry_of (get_or (rows_under s keys) p None) link
  entry-seen p link = elim (cases_eq (key_at keys p) 0) [
    | inl none ↦
        let seen : get_or (rows_under s keys) p None ≡ None = rows-at s keys p ∙ ap (row_under s) none in
        elim (cases_lt p (slab_len s)) [
          | inl within ↦ rw (seen, clear-row p within none) (zero-in (dim + 1) link)
          | inr past ↦ rw (seen, k.first.past p past) refl
        ]
    | inr key ↦ sym (ap (λ (o : Option (List ℕ)). entry_of o link) (rows-at s keys p ∙ ap (row_under s) (own p key)))
  ]

  -- a birth
  module _ (some : 1 ≤ spare) (more : 1 ≤ room) where
    pub rows-born : rows_under s (keys ++ (length keys + 1) ∷ []) ≡ rows_under s keys ++ Some (free_row dim) ∷ []
    rows-born =
        let next : length keys + 1 ≡ suc (length keys) = omega arith in
        let row : get s (length keys) ≡ Some (free_row dim) = clear-row (length keys) (omega (arith, k.within)) (get_or_past keys (length keys) 0 (omega arith)) in
        rw next (rows-pushed s keys (suc (length keys)) ∙ ap (λ (o : Option (List ℕ)). rows_under s keys ++ o ∷ []) row)

    pub kept-born : length keys < 4194304 → IsKept dim s (keys ++ (length keys + 1) ∷ []) (n + 1) (spare - 1) (room - 1)
    kept-born few = record {
      few = omega (arith, length_push keys (length keys + 1));
      counted = rw rows-born (omega (arith, k.counted, count-pushed (rows_under s keys) (free_row dim)));
      first = k.first;
      clear = λ p h none. k.clear p h (none-before keys (length keys + 1) p (λ z. absurd (omega (arith, z))) none);
      within = omega (arith, length_push keys (length keys + 1), k.within);
      shared = omega (arith, length_push keys (length keys + 1), k.shared);
      bound = omega (arith, k.bound);
      holds = k.holds;
    }

  -- the row under a key becomes zeros
  module _ (p : ℕ) (key : key_at keys p ≢ 0) where
    abbrev pub cleared : Slab (List ℕ)
    cleared = with_row s (key_at keys p) (λ (r : List ℕ). free_row dim)

    cleared-at : get cleared p ≡ Some (free_row dim)
    cleared-at =
        let e : suc p ≡ key_at keys p = sym (own p key) in
        ap (λ (j : ℕ). row_under cleared j) e ∙ under-changed s (key_at keys p) (λ (r : List ℕ). free_row dim)
        ∙ const-mapped (free_row dim) (row_under s (key_at keys p)) (key-some p key)

    cleared-other : (q : ℕ) → q ≢ p → get cleared q ≡ get s q
    cleared-other q other =
        under-other s (key_at keys p) (suc q) (λ (r : List ℕ). free_row dim) (λ same. other (omega (arith, same, own p key)))

    pub rows-buried : rows_under cleared (set keys p 0) ≡ set (rows_under s keys) p None
    rows-buried =
        let o : Option (List ℕ) = option_map (λ (r : List ℕ). free_row dim) (get_or (rows_under s keys) p None) in
        rows-set cleared keys p 0
        ∙ ap (λ (rows : List (Option (List ℕ))). set rows p None) (rows-changed s keys p (λ (r : List ℕ). free_row dim) (own-once keys own))
        ∙ set-twice (rows_under s keys) p o None

    pub kept-buried : IsKept dim cleared (set keys p 0) (n - 1) spare (room + 1)
    kept-buried =
        let most = some-live p key in
        record {
          few = omega (arith, k.few, length-set keys p 0);
          counted = rw rows-buried (omega (arith, k.counted, count-buried (rows_under s keys) p (row-some p key)));
          first = first-changed s (key_at keys p) (λ (r : List ℕ). free_row dim) k.first;
          clear = λ q h none. elim (cases_eq q p) [
            | inl same ↦ rw same cleared-at
            | inr other ↦ cleared-other q other ∙ k.clear q (omega (arith, len-changed s (key_at keys p) (λ (r : List ℕ). free_row dim))) (sym (get_or-set_other keys p q 0 0 other) ∙ none)
          ];
          within = omega (arith, k.within, length-set keys p 0, len-changed s (key_at keys p) (λ (r : List ℕ). free_row dim));
          shared = omega (arith, k.shared, length-set keys p 0);
          bound = omega (arith, k.bound);
          holds = omega (arith, k.holds, len-changed s (key_at keys p) (λ (r : List ℕ). free_row dim), capacity-changed s (key_at keys p) (λ (r : List ℕ). free_row dim));
        }

    module _ (last : length keys ≡ p + 1) where
      pub rows-unborn : rows_under cleared (take p keys) ≡ take p (rows_under s keys)
      rows-unborn =
          let o : Option (List ℕ) = option_map (λ (r : List ℕ). free_row dim) (get_or (rows_under s keys) p None) in
          rows-taken cleared p keys
          ∙ ap (take p) (rows-changed s keys p (λ (r : List ℕ). free_row dim) (own-once keys own))
          ∙ take-set-le p (rows_under s keys) p o (omega arith)

      count-unborn : length (filter is_some (rows_under s keys)) ≡ length (filter is_some (take p (rows_under s keys))) + 1
      count-unborn =
          let rows : List (Option (List ℕ)) = rows_under s keys in
          count-last rows p (omega (arith, rows-length s keys)) (row-some p key)

      pub kept-unborn : IsKept dim cleared (take p keys) (n - 1) (spare + 1) (room + 1)
      kept-unborn =
          let most = some-live p key in
          let short : length (take p keys) ≡ p = length-take-le p keys (omega arith) in
          record {
            few = omega (arith, k.few);
            counted = rw rows-unborn (omega (arith, k.counted, count-unborn));
            first = first-changed s (key_at keys p) (λ (r : List ℕ). free_row dim) k.first;
            clear = λ q h none. elim (cases_eq q p) [
              | inl same ↦ rw same cleared-at
              | inr other ↦ cleared-other q other ∙ k.clear q (omega (arith, len-changed s (key_at keys p) (λ (r : List ℕ). free_row dim))) (none-taken q other none)
            ];
            within = omega (arith, k.within, len-changed s (key_at keys p) (λ (r : List ℕ). free_row dim));
            shared = omega (arith, k.shared);
            bound = omega (arith, k.bound);
            holds = omega (arith, k.holds, len-changed s (key_at keys p) (λ (r : List ℕ). free_row dim), capacity-changed s (key_at keys p) (λ (r : List ℕ). free_row dim));
          } where
            none-taken : (q : ℕ) → q ≢ p → get_or (take p keys) q 0 ≡ 0 → get_or keys q 0 ≡ 0
            none-taken q other none = elim (cases_lt q p) [
              | inl below ↦ sym (get_or-take p keys q 0 below) ∙ none
              | inr past ↦ get_or_past keys q 0 (omega arith)
            ]

  -- a dead dart lives again
  module _ (p : ℕ) (none : key_at keys p ≡ 0) (within : p < length keys) (more : 1 ≤ room) where
    row-again : get s p ≡ Some (free_row dim)
    row-again = clear-row p (omega (arith, k.within)) none

    pub rows-revived : rows_under s (set keys p (p + 1)) ≡ set (rows_under s keys) p (Some (free_row dim))
    rows-revived =
        let next : p + 1 ≡ suc p = omega arith in
        rw next (rows-set s keys p (suc p) ∙ ap (λ (o : Option (List ℕ)). set (rows_under s keys) p o) row-again)

    pub kept-revived : IsKept dim s (set keys p (p + 1)) (n + 1) spare (room - 1)
    kept-revived =
        let dead : get_or (rows_under s keys) p None ≡ None = rows-at s keys p ∙ ap (row_under s) none in
        record {
          few = omega (arith, k.few, length-set keys p (p + 1));
          counted = rw rows-revived (omega (arith, k.counted, count-revived (rows_under s keys) p (free_row dim) (omega (arith, rows-length s keys)) dead));
          first = k.first;
          clear = λ q h zero-key. elim (cases_eq q p) [
            | inl same ↦ rw same row-again
            | inr other ↦ k.clear q h (sym (get_or-set_other keys p q (p + 1) 0 other) ∙ zero-key)
          ];
          within = omega (arith, k.within, length-set keys p (p + 1));
          shared = omega (arith, k.shared, length-set keys p (p + 1));
          bound = omega (arith, k.bound);
          holds = k.holds;
        }

  -- the row of who lives is changed
  module _ (p : ℕ) (f : List ℕ → List ℕ) where
    pub rows-written : rows_under (with_row s (key_at keys p) f) keys ≡ set (rows_under s keys) p (option_map f (get_or (rows_under s keys) p None))
    rows-written = rows-changed s keys p f (own-once keys own)

    pub kept-written : IsKept dim (with_row s (key_at keys p) f) keys n spare room
    kept-written = record {
      few = k.few;
      counted = rw rows-written (k.counted ∙ sym (count-kept (rows_under s keys) p f));
      first = first-changed s (key_at keys p) f k.first;
      clear = λ q h none. under-other s (key_at keys p) (suc q) f (not-own q none) ∙ k.clear q (omega (arith, len-changed s (key_at keys p) f)) none;
      within = omega (arith, k.within, len-changed s (key_at keys p) f);
      shared = k.shared;
      bound = k.bound;
      holds = omega (arith, k.holds, len-changed s (key_at keys p) f, capacity-changed s (key_at keys p) f);
    } where
      not-own : (q : ℕ) → key_at keys q ≡ 0 → suc q ≢ key_at keys p
      not-own q none same =
          let key : key_at keys p ≢ 0 = λ z. absurd (omega (arith, same, z)) in
          let one : p ≡ q = omega (arith, own p key, same) in
          key (ap (key_at keys) one ∙ none)

  -- more rows of zeros
  module _ (new : Slab (List ℕ)) (more : slab_len s ≤ slab_len new) (first : AreFirst new)
      (kept : (key : ℕ) → key < slab_len s → get new key ≡ get s key)
      (holds : slab_len new ≤ new.capacity)
      (zeros : (key : ℕ) → slab_len s ≤ key → key < slab_len new → get new key ≡ Some (free_row dim)) where
    under-same : (p : ℕ) → p < length keys → row_under new (key_at keys p) ≡ row_under s (key_at keys p)
    under-same p h = elim (cases_eq (key_at keys p) 0) [
      | inl none ↦ rw none refl
      | inr key ↦ rw (own p key) (kept p (omega (arith, k.within)))
    ]

    pub rows-grown : rows_under new keys ≡ rows_under s keys
    rows-grown = rows-same new s keys under-same

    pub kept-grown : (fresh big : ℕ) → length keys + fresh ≤ slab_len new → n + big ≡ length keys + fresh → n + big ≤ 8388608 → IsKept dim new keys n fresh big
    kept-grown fresh big within shared bound = record {
      few = k.few;
      counted = rw rows-grown k.counted;
      first = first;
      clear = λ q h none. elim (cases_lt q (slab_len s)) [
        | inl below ↦ kept q below ∙ k.clear q below none
        | inr past ↦ zeros q past h
      ];
      within = within;
      shared = shared;
      bound = bound;
      holds = holds;
    }

-- the row of a place is turned round, after those of the places before
turned-more : (xs : List (Option (List ℕ))) (p : ℕ) → p < length xs
    → set (first_turned p xs) p (option_map reverse (get_or (first_turned p xs) p None)) ≡ first_turned (suc p) xs
turned-more [] p h = absurd (omega arith)
turned-more (x ∷ xs) zero h = refl
turned-more (x ∷ xs) (suc p) h = ap (λ (rest : List (Option (List ℕ))). option_map reverse x ∷ rest) (turned-more xs p (omega arith))

pub turned-step : (xs ys zs : List (Option (List ℕ))) (p q : ℕ) → q ≡ p + 1 → p < length xs → ys ≡ first_turned p xs
    → zs ≡ set ys p (option_map reverse (get_or ys p None)) → zs ≡ first_turned q xs
turned-step xs ys zs p q next h before after =
    let e : q ≡ suc p = omega arith in
    rw e (after ∙ ap (λ (rows : List (Option (List ℕ))). set rows p (option_map reverse (get_or rows p None))) before ∙ turned-more xs p h)

pub turned-whole : (xs : List (Option (List ℕ))) (p : ℕ) → p ≡ length xs → first_turned p xs ≡ map (option_map reverse) xs
turned-whole [] zero h = refl
turned-whole [] (suc p) h = absurd (omega arith)
turned-whole (x ∷ xs) zero h = absurd (omega arith)
turned-whole (x ∷ xs) (suc p) h = ap (λ (rest : List (Option (List ℕ))). option_map reverse x ∷ rest) (turned-whole xs p (omega arith))

-- the next live dart
module _ (s : Slab (List ℕ)) (keys : List ℕ) where
  pub none-below : (after place : ℕ) → ((p : ℕ) → p < place → after ≤ p → get_or keys p 0 ≡ 0)
      → (e : ℕ) → after < e → e ≤ place → IsSome (get_or (None ∷ rows_under s keys) e None) → ⊥
  none-below after place dead zero above below live = absurd (omega arith)
  none-below after place dead (suc e) above below live =
      let none : get_or (rows_under s keys) e None ≡ None = rows-at s keys e ∙ ap (row_under s) (dead e (omega arith) (omega arith)) in
      false≢true (sym (ap is_some none) ∙ live)

  pub none-above : (after place : ℕ) → ((p : ℕ) → p < place → after ≤ p → get_or keys p 0 ≡ 0) → length keys ≤ place
      → (e : ℕ) → after < e → IsSome (get_or (None ∷ rows_under s keys) e None) → ⊥
  none-above after place dead end zero above live = absurd (omega arith)
  none-above after place dead end (suc e) above live = elim (cases_lt e place) [
    | inl below ↦ none-below after place dead (suc e) above (omega arith) live
    | inr past ↦
        let none : get_or (rows_under s keys) e None ≡ None = rows-at s keys e ∙ ap (row_under s) (get_or_past keys e 0 (omega arith)) in
        false≢true (sym (ap is_some none) ∙ live)
  ]

  next-least : (after place d : ℕ) → d ≡ place + 1 → ((p : ℕ) → p < place → after ≤ p → get_or keys p 0 ≡ 0)
      → (e : ℕ) → after < e → IsSome (get_or (None ∷ rows_under s keys) e None) → d ≤ e
  next-least after place d is dead e above live = elim (cases_lt place e) [
    | inl below ↦ omega arith
    | inr past ↦ absurd (none-below after place dead e above past live)
  ]

  pub next-seen : (spare room after place d : ℕ) → d ≡ place + 1 → after ≤ place → ((p : ℕ) → p < place → after ≤ p → get_or keys p 0 ≡ 0)
      → IsSome (get_or (rows_under s keys) place None)
      → IsNextLive (let one : Stock (List ℕ) = record { rows = None ∷ rows_under s keys; spare = spare; room = room } in one) after d
  next-seen spare room after place d is above dead live = record {
    live = ap is_some (row_behind (rows_under s keys) d place (sym is)) ∙ live;
    above = omega arith;
    least = next-least after place d is dead;
  }

-- where the last place lives, there is one
pub last-seen : (s : Slab (List ℕ)) (keys : List ℕ) → IsSome (get_or (None ∷ rows_under s keys) (length keys) None) → 0 < length keys
last-seen s [] h = absurd (false≢true h)
last-seen s (k ∷ keys) h = omega arith
