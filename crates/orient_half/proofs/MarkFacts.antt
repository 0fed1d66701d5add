-- Marks of darts: what is known of one that was reached, and what one more mark changes.
use Rattle.std.proofs.Common.{ℕ, ◌≡◌, ◌≢◌, ◌<◌, ◌⊎◌, inl, inr, refl, sym, ap, subst, ◌∙◌, Bool, true, false, not, Option, Some, None, IsSome, IsNone, IfSome, length, slice_set}
use Rattle.std.proofs.lemmas.Bool.{false≢true}
use Rattle.std.proofs.lemmas.List.{get_or-set_same, get_or-set_other}
use Rattle.map_defs.specs.Links.{Links}
use Rattle.link_laws.proofs.Basics.{same_or_not}
use Rattle.orient_half.specs.declared.search.Reached.{Reached}
use Rattle.orient_half.specs.Marks.{Marks, mark_at, sign_of, sign_at, IsReached, IsKept, Flips}

pub Some-one : {X : Type 0} (x y : X) → Some x ≡ Some y → x ≡ y
Some-one x y e = cc

pub not-twice : (b : Bool) → not (not b) ≡ b
not-twice true = refl
not-twice false = refl

-- a dart that was reached has a mark
pub mark-of : (o : Option Reached) → IsSome o → (r : Reached) × (o ≡ Some r)
mark-of None some = absurd (false≢true some)
mark-of (Some r) some = (r, refl)

-- a sign is that of a mark
pub mark-of_sign : (o : Option Reached) (b : Bool) → sign_of o ≡ Some b → (r : Reached) × (o ≡ Some r) × (r.positive ≡ b)
mark-of_sign None b e = absurd (cc)
mark-of_sign (Some r) b e = (r, refl, Some-one r.positive b e)

pub reached-mark : (o : Option Reached) (r : Reached) → o ≡ Some r → IsSome o
reached-mark o r e = subst IsSome (sym e) refl

pub sign-mark : (o : Option Reached) (r : Reached) → o ≡ Some r → sign_of o ≡ Some r.positive
sign-mark o r e = ap sign_of e

pub reached-sign : (o : Option Reached) (b : Bool) → sign_of o ≡ Some b → IsSome o
reached-sign o b e = let m = mark-of_sign o b e in reached-mark o m.0 m.1

module _ (old new : Marks) (kept : IsKept old new) where
  pub kept-sign : (d : ℕ) (b : Bool) → sign_at old d ≡ Some b → sign_at new d ≡ Some b
  kept-sign d b e =
      let m = mark-of_sign (mark_at old d) b e in
      sign-mark (mark_at new d) m.0 (kept d m.0 m.1) ∙ ap Some m.2

  pub kept-reached : (d : ℕ) → IsReached old d → IsReached new d
  kept-reached d some = let m = mark-of (mark_at old d) some in reached-mark (mark_at new d) m.0 (kept d m.0 m.1)

  pub kept-flips : (L : Links) (d i : ℕ) → Flips L old d i → Flips L new d i
  kept-flips L d i f = (f.0, kept-sign d f.0 f.1, kept-sign (L i d) (not f.0) f.2)

pub kept-same : (marks : Marks) → IsKept marks marks
kept-same marks d r e = e

pub kept-trans : (one two three : Marks) → IsKept one two → IsKept two three → IsKept one three
kept-trans one two three p q d r e = q d r (p d r e)

-- one more mark, at a dart that had none
module _ (marks : Marks) (y : ℕ) (r : Reached) (low : y < length marks) where
  pub put-here : mark_at (slice_set marks y (Some r)) y ≡ Some r
  put-here = get_or-set_same marks y (Some r) None low

  pub put-other : (d : ℕ) → d ≢ y → mark_at (slice_set marks y (Some r)) d ≡ mark_at marks d
  put-other d apart = get_or-set_other marks y d (Some r) None apart

  -- what holds of the mark at a dart
  pub put-cases : (d : ℕ) (s : Reached) → mark_at (slice_set marks y (Some r)) d ≡ Some s → ((d ≡ y) × (s ≡ r)) ⊎ ((d ≢ y) × (mark_at marks d ≡ Some s))
  put-cases d s e = go (same_or_not d y)
    where
      go : (d ≡ y) ⊎ (d ≢ y) → ((d ≡ y) × (s ≡ r)) ⊎ ((d ≢ y) × (mark_at marks d ≡ Some s))
      go (inl is) = inl (is, Some-one s r (sym e ∙ (ap (mark_at (slice_set marks y (Some r))) is ∙ put-here)))
      go (inr apart) = inr (apart, sym (put-other d apart) ∙ e)

  pub put-kept : mark_at marks y ≡ None → IsKept marks (slice_set marks y (Some r))
  put-kept fresh d s e = go (same_or_not d y)
    where
      go : (d ≡ y) ⊎ (d ≢ y) → mark_at (slice_set marks y (Some r)) d ≡ Some s
      go (inl is) = absurd (false≢true (subst IsSome (sym e ∙ (ap (mark_at marks) is ∙ fresh)) refl))
      go (inr apart) = put-other d apart ∙ e

  pub put-reached : (d : ℕ) → IsReached (slice_set marks y (Some r)) d → (d ≡ y) ⊎ IsReached marks d
  put-reached d some = go (same_or_not d y)
    where
      go : (d ≡ y) ⊎ (d ≢ y) → (d ≡ y) ⊎ IsReached marks d
      go (inl is) = inl is
      go (inr apart) = inr (subst IsSome (put-other d apart) some)

-- what is not none is some
pub some-or_none : {X : Type 0} (o : Option X) → (IsNone o → ⊥) → IsSome o
some-or_none None some = absurd (some refl)
some-or_none (Some x) some = refl

pub at-some : {X : Type 0} (P : X → Type 0) (o : Option X) (x : X) → o ≡ Some x → IfSome o P → P x
at-some P o x e h = subst (λ p. IfSome p P) e h
