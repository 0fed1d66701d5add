-- Values, and the rules by which they merge and split. Source: the manual's merge and split functions; the table is this
-- project's.
use Rattle.std.specs.Prelude.{ℕ, zero, suc, ◌≡◌, ◌+ℤ◌, ℤ, pos, int_lt, cond, nat_eq, Bool, true, List, Option, Some, None, FitsSigned}
use Rattle.std.specs.Int.{w64, saturate_signed, int_min, int_max, int_div_euclid, int_rem_euclid}
use Rattle.std.specs.List.{list_any}
use Rattle.std.specs.Str.{bytes_eq}

-- a value: three whole numbers, which a map keeps within 64 bits
pub record Value : Type 0 where
  pub a : ℤ
  pub b : ℤ
  pub c : ℤ

-- each of the three numbers is within 64 bits
abbrev pub IsRepresentable : Value → Type 0
IsRepresentable v = FitsSigned w64 v.a × FitsSigned w64 v.b × FitsSigned w64 v.c

-- a cell, named by its least dart, and its value
pub record Place : Type 0 where
  pub dart : ℕ
  pub value : Value

-- how two values become one: by a row of the table, or by the rule of this name that a caller hands in
pub data Merge : Type 0 where
  First : Merge
  Last : Merge
  Sum : Merge
  Min : Merge
  Max : Merge
  Mid : Merge
  Host : Merge
  Named : List ℕ → Merge

-- how a value goes to the pieces of its cell, likewise
pub data Split : Type 0 where
  Copied : Split
  Keep : Split
  Share : Split
  Host : Split
  Named : List ℕ → Split

pub record Rule : Type 0 where
  pub merge : Merge
  pub split : Split

-- What a rule does: two values merged, and what piece p of k pieces gets of a value, if it gets anything.
pub record Meaning : Type 0 where
  pub merged : Value → Value → Value
  pub share : Value → ℕ → ℕ → Option Value

-- What a caller hands in beside the tables: what the row `host` does, and the rules that are known by these names.
pub record Hook : Type 0 where
  pub host : Meaning
  pub names : List (List ℕ)
  pub named : List ℕ → Meaning

-- the name is one of these
abbrev pub is_among : List (List ℕ) → List ℕ → Bool
is_among names name = list_any (bytes_eq name) names

-- each of the three numbers by itself
abbrev pub on_each : (ℤ → ℤ → ℤ) → Value → Value → Value
on_each f x y = record { a = f x.a y.a; b = f x.b y.b; c = f x.c y.c }

-- the sum, held within 64 bits
abbrev pub held_sum : ℤ → ℤ → ℤ
held_sum x y = saturate_signed w64 (x +ℤ y)

-- the floor of half of the sum
abbrev pub middle : ℤ → ℤ → ℤ
middle x y = int_div_euclid (x +ℤ y) (pos 2)

-- The part of v that piece p of k gets where v is dealt out: the floor of v / k, and one more for the first pieces, as
-- many as the rest says.
abbrev pub dealt : ℕ → ℕ → ℤ → ℤ
dealt k p v = cond (int_lt (pos p) (int_rem_euclid v (pos k))) (int_div_euclid v (pos k) +ℤ pos 1) (int_div_euclid v (pos k))

-- the numbers f 0 to f (n - 1) added up
abbrev pub total : ℕ → (ℕ → ℤ) → ℤ
total zero f = pos 0
total (suc n) f = total n f +ℤ f n

abbrev pub dealt_value : ℕ → ℕ → Value → Value
dealt_value k p v = record { a = dealt k p v.a; b = dealt k p v.b; c = dealt k p v.c }

-- The table of merges, and what the hook does. A name that the hook does not know works as `first`.
abbrev pub merged_by : Hook → Merge → Value → Value → Value
merged_by hook First x y = x
merged_by hook Last x y = y
merged_by hook Sum x y = on_each held_sum x y
merged_by hook Min x y = on_each int_min x y
merged_by hook Max x y = on_each int_max x y
merged_by hook Mid x y = on_each middle x y
merged_by hook Host x y = hook.host.merged x y
merged_by hook (Named name) x y = cond (is_among hook.names name) ((hook.named name).merged x y) x

-- The table of splits, and what the hook does. A name that the hook does not know works as `copy`.
abbrev pub share_by : Hook → Split → Value → ℕ → ℕ → Option Value
share_by hook Copied v k p = Some v
share_by hook Keep v k p = cond (nat_eq p 0) (Some v) None
share_by hook Share v k p = Some (dealt_value k p v)
share_by hook Host v k p = hook.host.share v k p
share_by hook (Named name) v k p = cond (is_among hook.names name) ((hook.named name).share v k p) (Some v)

-- what a rule does beside a hook
abbrev pub meaning_of : Hook → Rule → Meaning
meaning_of hook rule = record { merged = merged_by hook rule.merge; share = share_by hook rule.split }

-- A cell that is not split keeps its value. Without this a cell far from a change would lose it, under a hook that gives
-- each piece nothing. No more is asked than of values that a map can hold, so that a hook may clamp.
abbrev pub KeepsWhole : Meaning → Type 0
KeepsWhole rule = (v : Value) → IsRepresentable v → rule.share v 1 0 ≡ Some v

-- this is asked of what a hook does by itself and of each rule that it knows by name
pub record AreWhole (hook : Hook) : Type 0 where
  pub host : KeepsWhole hook.host
  pub named : (name : List ℕ) → is_among hook.names name ≡ true → KeepsWhole (hook.named name)
