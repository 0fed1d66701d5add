-- The live darts, listed one after the other.
use Rattle.std.proofs.Common.{◌≡◌, ◌≢◌, ℕ, zero, suc, ◌+◌, ◌<◌, ◌≤◌, ◌⊎◌, List, [], ◌∷◌, ◌++◌, length, get_or, take, Bool, true, false, cond, None, is_some, refl, sym, ap, ◌∙◌, subst, inl, inr, arith}
use Rattle.std.specs.Prelude.{All, Contains, slice_index, filter}
use Rattle.std.specs.List.Sorted.{IsStrictlyIncreasing}
use Rattle.std.proofs.lemmas.Bool.{cases_lt, cases_eq, false≢true}
use Rattle.std.proofs.lemmas.List.{get_or_append_left, get_or_at, length_push, take_all}
use Rattle.std.proofs.lemmas.List.Elements.{Contains-append_left, Contains-push, Contains-push_cases, Contains-get_or}
use Rattle.std.proofs.lemmas.List.Filters.{length-filter_more}
use Rattle.map_defs.specs.Rows.{Rows, row_at, made, IsLive, live_count}
use Rattle.edit_laws.proofs.RowWrites.{live-within}
use Rattle.half_defs.specs.Halves.{AreOrigins}
use Rattle.orient_half.specs.LiveDarts.{AreLiveBelow}

-- one more number at the end of an ascending list
increasing-push : (xs : List ℕ) (y : ℕ) → IsStrictlyIncreasing xs → ((x : ℕ) → Contains xs x → x < y) → IsStrictlyIncreasing (xs ++ y ∷ [])
increasing-push xs y up below k low = at (cases_lt (k + 1) (length xs))
  where
    at : (k + 1 < length xs) ⊎ (length xs ≤ k + 1) → slice_index (xs ++ y ∷ []) k < slice_index (xs ++ y ∷ []) (k + 1)
    at (inl within) =
        rw (get_or_append_left xs (y ∷ []) 0 k (omega arith), get_or_append_left xs (y ∷ []) 0 (k + 1) within) (up k within)
    at (inr past) =
        let last : length xs ≡ k + 1 = omega (arith, low, length_push xs y) in
        rw (get_or_append_left xs (y ∷ []) 0 k (omega arith), get_or_at xs y [] 0 (k + 1) last)
        (below (slice_index xs k) (Contains-get_or xs k 0 (omega arith)))

one-more : (rows : Rows) (d : ℕ) (b : Bool) → d < length rows → is_some (row_at rows d) ≡ b → length (filter is_some (take (d + 1) rows)) ≡ length (filter is_some (take d rows)) + cond b 1 0
one-more rows d b low is = length-filter_more is_some rows d None low ∙ ap (λ (c : Bool). length (filter is_some (take d rows)) + cond c 1 0) is

pub live-none : (rows : Rows) → 0 < length rows → row_at rows 0 ≡ None → AreLiveBelow rows 1 []
live-none rows begun nothing = record {
  ascending = λ k low. absurd (omega arith);
  members = λ d. (λ has. absurd (let low = has.1 in omega arith), λ lives. absurd (no-dart d lives.0 lives.1));
  counted = sym (one-more rows 0 false begun (ap is_some nothing));
}
  where
    no-dart : (d : ℕ) → IsLive rows d → d < 1 → ⊥
    no-dart zero lives low = false≢true (sym (ap is_some nothing) ∙ lives)
    no-dart (suc d) lives low = omega arith

-- a dart that is not live
pub live-past : (rows : Rows) (d : ℕ) (darts : List ℕ) → d < length rows → (IsLive rows d → ⊥) → AreLiveBelow rows d darts → AreLiveBelow rows (d + 1) darts
live-past rows d darts low dead are = record {
  ascending = are.ascending;
  members = λ e. (λ has. let own = (are.members e).0 has in (own.0, omega (arith, own.1)), λ lives. (are.members e).1 (lives.0, below e lives.0 lives.1));
  counted = let more = one-more rows d false low (not-some (is_some (row_at rows d)) dead) in let before = are.counted in omega (arith, more, before);
}
  where
    not-some : (b : Bool) → (b ≡ true → ⊥) → b ≡ false
    not-some true no_more = absurd (no_more refl)
    not-some false no_more = refl

    below : (e : ℕ) → IsLive rows e → e < d + 1 → e < d
    below e lives less = elim (cases_eq e d) [
      | inl same ↦ absurd (dead (subst (IsLive rows) same lives))
      | inr other ↦ omega arith
    ]

-- a live dart
pub live-more : (rows : Rows) (d : ℕ) (darts : List ℕ) → d < length rows → IsLive rows d → AreLiveBelow rows d darts → AreLiveBelow rows (d + 1) (darts ++ d ∷ [])
live-more rows d darts low lives are = record {
  ascending = increasing-push darts d are.ascending (λ e has. ((are.members e).0 has).1);
  members = λ e. (λ has. of_push e (Contains-push_cases darts d e has), λ own. into e own.0 (cases_lt e d) own.1);
  counted = length_push darts d ∙ ap (λ (c : ℕ). c + 1) are.counted ∙ sym (one-more rows d true low lives);
}
  where
    of_push : (e : ℕ) → Contains darts e ⊎ (d ≡ e) → IsLive rows e × (e < d + 1)
    of_push e (inl has) = let own = (are.members e).0 has in (own.0, omega (arith, own.1))
    of_push e (inr same) = (subst (IsLive rows) same lives, omega arith)

    into : (e : ℕ) → IsLive rows e → (e < d) ⊎ (d ≤ e) → e < d + 1 → Contains (darts ++ d ∷ []) e
    into e own (inl less) high = Contains-append_left darts (d ∷ []) e ((are.members e).1 (own, less))
    into e own (inr past) high = let same : d ≡ e = omega arith in subst (Contains (darts ++ d ∷ [])) same (Contains-push darts d)

-- all live darts
pub live-all : (rows : Rows) (next : ℕ) (darts : List ℕ) → length rows ≤ next → AreLiveBelow rows next darts → AreOrigins (IsLive rows) darts × (length darts ≡ live_count rows)
live-all rows next darts end are = (
  record {
    ascending = are.ascending;
    members = λ d. (λ has. ((are.members d).0 has).0, λ lives. (are.members d).1 (lives, let within = live-within rows d lives in omega arith));
  },
  are.counted ∙ ap (λ (r : Rows). length (filter is_some r)) (take_all next rows end),
)

-- live darts are numbered from 1 to the number of darts made
pub live-made : (rows : Rows) → 0 < length rows → row_at rows 0 ≡ None → (darts : List ℕ) → ((d : ℕ) → Contains darts d → IsLive rows d) → All (λ d. (1 ≤ d) × (d ≤ made rows)) darts
live-made rows begun nothing darts lives k z low = (some (get_or darts k z) own, let within = live-within rows (get_or darts k z) own in omega arith)
  where
    own : IsLive rows (get_or darts k z)
    own = lives (get_or darts k z) (Contains-get_or darts k z low)

    some : (d : ℕ) → IsLive rows d → 1 ≤ d
    some zero live = absurd (false≢true (sym (ap is_some nothing) ∙ live))
    some (suc d) live = omega arith

-- 0 is no live dart
pub live-some : (rows : Rows) → row_at rows 0 ≡ None → (d : ℕ) → IsLive rows d → d ≢ 0
live-some rows nothing d lives none = false≢true (sym (ap is_some nothing) ∙ subst (IsLive rows) none lives)
