-- What the table of rules says: a cell that is not split keeps its value, and what is dealt out is the value.
use Rattle.std.proofs.Common.{ℕ, suc, ◌≡◌, ◌+◌, ◌*◌, ◌/◌, ◌%◌, ◌-◌, ◌<◌, ◌+ℤ◌, ◌*ℤ◌, ℤ, pos, negsuc, Bool, true, false, cond, Option, refl, ap, Some, neg_ℤ, arith, div-one, mod-lt}
use Rattle.std.proofs.lemmas.Int.{ints}
use Rattle.std.specs.Int.{int_div_euclid, int_rem_euclid}
use Rattle.map_defs.specs.Values.{Value, Split, Rule, Hook, Copied, Keep, Share, Host, Named, is_among, dealt, dealt_value, share_by, meaning_of, KeepsWhole, AreWhole}

none_left : (a : ℕ) → a % 1 ≡ 0
none_left a = let h : a % 1 < 1 = omega arith in omega arith

pub dealt_whole : (v : ℤ) → dealt 1 0 v ≡ v
dealt_whole (pos a) = rw (none_left a, div-one) refl
dealt_whole (negsuc a) = rw (none_left a, div-one) refl

pub same_value : (x y : Value) → x.a ≡ y.a → x.b ≡ y.b → x.c ≡ y.c → x ≡ y
same_value x y p q r = λ i. record { a = p i; b = q i; c = r i }

-- a rule deals a whole value to the one piece of a cell that is not split, where the hook does
pub keeps_whole : (hook : Hook) (rule : Rule) → AreWhole hook → KeepsWhole (meaning_of hook rule)
keeps_whole hook rule h v held = go rule.split
  where
    go : (s : Split) → share_by hook s v 1 0 ≡ Some v
    go Copied = refl
    go Keep = refl
    go Share = ap Some (same_value (dealt_value 1 0 v) v (dealt_whole v.a) (dealt_whole v.b) (dealt_whole v.c))
    go Host = h.host v held
    go (Named name) = known (is_among hook.names name) refl
      where
        known : (b : Bool) → is_among hook.names name ≡ b → cond b ((hook.named name).share v 1 0) (Some v) ≡ Some v
        known true is = h.named name is v held
        known false is = refl

-- the quotient and the rest by which a value is dealt out
pub rest_below : (k : ℕ) (v : ℤ) → 0 < k → (r : ℕ) × (r < k) × (int_rem_euclid v (pos k) ≡ pos r)
rest_below k (pos a) h = (a % k, mod-lt a h, refl)
rest_below k (negsuc a) h = (k - 1 - a % k, omega arith, refl)

below : (x y a : ℕ) → x ≡ suc a + y → negsuc a ≡ neg_ℤ (pos x) +ℤ pos y
below x y a e = omega (arith, ints)

pub quotient_and_rest : (k : ℕ) (v : ℤ) → 0 < k → v ≡ int_div_euclid v (pos k) *ℤ pos k +ℤ int_rem_euclid v (pos k)
quotient_and_rest k (pos a) h = ap pos (omega arith)
quotient_and_rest k (negsuc a) h = below (suc (a / k) * k) (k - 1 - a % k) a (omega arith)
