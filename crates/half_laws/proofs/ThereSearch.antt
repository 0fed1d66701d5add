-- Questions that are answered, and the first pair of numbers with a property of which it is told whether a pair has it.
use Rattle.std.proofs.Common.{ℕ, suc, ◌≡◌, ◌<◌, ◌≤◌, ◌⊎◌, subst, sym, inl, inr, arith}
use Rattle.link_laws.proofs.Basics.{same_or_not}
use Rattle.value_laws.proofs.Rising.{find_least}

pub le_or_not : (a b : ℕ) → (a ≤ b) ⊎ (a ≤ b → ⊥)
le_or_not a b = grind arith

-- two questions at once
pub both_or_not : {A B : Type 0} → A ⊎ (A → ⊥) → B ⊎ (B → ⊥) → (A × B) ⊎ ((A × B) → ⊥)
both_or_not (inl a) (inl b) = inl (a, b)
both_or_not (inl a) (inr out) = inr (λ h. out h.1)
both_or_not (inr out) b = inr (λ h. out h.0)

-- the pairs are bounded; one comes before another by its first number, and then by its second
module _ (At : ℕ → ℕ → Type 0) (told : (d i : ℕ) → At d i ⊎ (At d i → ⊥)) (bound n : ℕ) (low : (d i : ℕ) → At d i → (d ≤ bound) × (i ≤ n)) where
  some_or_none : (d : ℕ) → ((i : ℕ) × At d i) ⊎ (((i : ℕ) × At d i) → ⊥)
  some_or_none d = elim (find_least (At d) (told d) (suc n)) [
    | inl found ↦ inl (found.0, found.1)
    | inr out ↦ inr (λ h. out h.0 (let l = (low d h.0 h.1).1 in omega arith) h.1)
  ]

  least_of : (d : ℕ) → ((i : ℕ) × At d i) → ((e : ℕ) → ((j : ℕ) × At e j) → d ≤ e) → (d : ℕ) × (i : ℕ) × At d i × ((e j : ℕ) → At e j → (d < e) ⊎ ((d ≡ e) × (i ≤ j)))
  least_of d some least = elim (find_least (At d) (told d) (suc n)) [
    | inl found ↦ (d, found.0, found.1, after found.0 found.2)
    | inr out ↦ absurd (out some.0 (let l = (low d some.0 some.1).1 in omega arith) some.1)
  ]
    where
      after : (i : ℕ) → ((j : ℕ) → At d j → i ≤ j) → (e j : ℕ) → At e j → (d < e) ⊎ ((d ≡ e) × (i ≤ j))
      after i first e j other = elim (same_or_not d e) [
        | inl same ↦ inr (same, first j (subst (λ x. At x j) (sym same) other))
        | inr apart ↦ inl (let l = least e (j, other) in omega arith)
      ]

  pub first_at : ((d : ℕ) × (i : ℕ) × At d i × ((e j : ℕ) → At e j → (d < e) ⊎ ((d ≡ e) × (i ≤ j)))) ⊎ ((d i : ℕ) → At d i → ⊥)
  first_at = elim (find_least (λ d. (i : ℕ) × At d i) some_or_none (suc bound)) [
    | inl found ↦ inl (least_of found.0 found.1 found.2)
    | inr out ↦ inr (λ d i h. out d (let l = (low d i h).0 in omega arith) (i, h))
  ]
