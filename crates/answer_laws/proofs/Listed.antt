-- Bounded sets make lists in order.
use Rattle.std.proofs.Common.{◌≡◌, ◌⊎◌, ◌↔◌, ℕ, zero, suc, ◌+◌, ◌-◌, ◌<◌, ◌≤◌, List, [], ◌∷◌, ◌++◌, length, get_or, AllPairs, Contains, refl, sym, subst, inl, inr, arith}
use Rattle.std.specs.List.Sorted.{IsStrictlyIncreasing}
use Rattle.std.proofs.lemmas.Bool.{cases_lt}
use Rattle.std.proofs.lemmas.List.{get_or_append_left, get_or-append_right, length-append}
use Rattle.std.proofs.lemmas.List.Elements.{Contains-get_or, Contains-append_left, Contains-append_right, Contains-append_cases}
use Rattle.link_laws.proofs.Basics.{same_or_not}
use Rattle.answer_laws.specs.Answering.{NotNot}
use Rattle.answer_laws.proofs.Choosing.{either_way}

module _ {T : Type 0} where
  -- the list holds what At tells, in order
  pub record Lists (Before : T → T → Type 0) (At : T → Type 0) (xs : List T) : Type 0 where
    pub members : (v : T) → Contains xs v ↔ At v
    pub ordered : AllPairs Before xs

  module _ (Before : T → T → Type 0) where
    -- two lists in order, each element of the first before each of the second
    pairs-append : (xs ys : List T) → AllPairs Before xs → AllPairs Before ys → ((v w : T) → Contains xs v → Contains ys w → Before v w) → AllPairs Before (xs ++ ys)
    pairs-append xs ys p q across i j d less within = by (cases_lt i (length xs)) (cases_lt j (length xs))
      where
        long : length (xs ++ ys) ≡ length xs + length ys
        long = length-append xs ys

        at_left : (k : ℕ) → k < length xs → get_or (xs ++ ys) k d ≡ get_or xs k d
        at_left k l = get_or_append_left xs ys d k l

        at_right : (k : ℕ) → length xs ≤ k → get_or (xs ++ ys) k d ≡ get_or ys (k - length xs) d
        at_right k l = get_or-append_right xs ys (length xs) k d refl l

        by : (i < length xs) ⊎ (length xs ≤ i) → (j < length xs) ⊎ (length xs ≤ j) → Before (get_or (xs ++ ys) i d) (get_or (xs ++ ys) j d)
        by (inl l) (inl m) = rw (at_left i l, at_left j m) (p i j d less m)
        by (inl l) (inr m) = rw (at_left i l, at_right j m) (across (get_or xs i d) (get_or ys (j - length xs) d) (Contains-get_or xs i d l) (Contains-get_or ys (j - length xs) d (omega (arith, within, long))))
        by (inr l) (inl m) = absurd (omega arith)
        by (inr l) (inr m) = rw (at_right i l, at_right j m) (q (i - length xs) (j - length xs) d (omega arith) (omega (arith, within, long)))

    none_held : (v : T) → Contains [] v → ⊥
    none_held v h = let g = h.1 in omega arith

    -- lists for the numbers below n, one after another
    pub joined : (At : ℕ → T → Type 0) → ((i j : ℕ) (v w : T) → i < j → At i v → At j w → Before v w) → (n : ℕ)
        → ((i : ℕ) → i < n → NotNot ((xs : List T) × Lists Before (At i) xs)) → NotNot ((xs : List T) × Lists Before (λ v. (i : ℕ) × (i < n) × At i v) xs)
    joined At rising zero h never = never (
      [],
      record {
        members = λ v. (λ c. absurd (none_held v c), λ a. absurd (let l = a.1 in omega arith));
        ordered = λ i j d less within. absurd (omega arith);
      },
    )
    joined At rising (suc n) h never = joined At rising n (λ i l. h i (omega arith)) (λ low. h n (omega arith) (λ top. never (low.0 ++ top.0, add low.0 top.0 low.1 top.1)))
      where
        add : (xs ys : List T) → Lists Before (λ v. (i : ℕ) × (i < n) × At i v) xs → Lists Before (At n) ys → Lists Before (λ v. (i : ℕ) × (i < suc n) × At i v) (xs ++ ys)
        add xs ys p q = record {
          members = λ v. (
            λ c. elim (Contains-append_cases xs ys v c) [
              | inl a ↦ let t = (p.members v).0 a in (t.0, (let l = t.1 in omega arith), t.2)
              | inr b ↦ (n, omega arith, (q.members v).0 b)
            ],
            λ a. elim (same_or_not a.0 n) [
              | inl e ↦ Contains-append_right xs ys v ((q.members v).1 (subst (λ (m : ℕ). At m v) e a.2))
              | inr d ↦ Contains-append_left xs ys v ((p.members v).1 (a.0, (let l = a.1 in omega arith), a.2))
            ],
          );
          ordered = pairs-append xs ys p.ordered q.ordered (λ v w a b. let t = (p.members v).0 a in rising t.0 n v w t.1 t.2 ((q.members w).0 b));
        }

    one_or_none : (P : Type 0) (x : T) → NotNot ((xs : List T) × Lists Before (λ v. P × (v ≡ x)) xs)
    one_or_none P x never = either_way P (λ c. elim c [
      | inl p ↦ never (
        x ∷ [],
        record {
          members = λ v. (λ h. (p, only v h.0 h.1 h.2), λ a. (0, omega arith, sym a.1));
          ordered = λ i j d less within. absurd (omega arith);
        },
      )
      | inr n ↦ never (
        [],
        record {
          members = λ v. (λ h. absurd (none_held v h), λ a. absurd (n a.0));
          ordered = λ i j d less within. absurd (omega arith);
        },
      )
    ])
      where
        only : (v : T) (k : ℕ) → k < length (x ∷ []) → get_or (x ∷ []) k v ≡ v → v ≡ x
        only v zero l e = sym e
        only v (suc k) l e = absurd (omega arith)

    -- what stands at the numbers of a set, below a bound
    pub keyed : (P : ℕ → Type 0) (key : ℕ → T) (n : ℕ) → ((i j : ℕ) → i < j → Before (key i) (key j))
        → NotNot ((xs : List T) × Lists Before (λ v. (i : ℕ) × (i < n) × (P i × (v ≡ key i))) xs)
    keyed P key n rising =
        joined (λ i v. P i × (v ≡ key i)) (λ i j v w less a b. rw (a.1, b.1) (rising i j less)) n (λ i l. one_or_none (P i) (key i))

    -- what stands at the pairs of numbers of a set, below two bounds, by the first number and then by the second
    pub tabled : (P : ℕ → ℕ → Type 0) (key : ℕ → ℕ → T) (n m : ℕ) → ((i j a b : ℕ) → i < j → Before (key i a) (key j b)) → ((i a b : ℕ) → a < b → Before (key i a) (key i b))
        → NotNot ((xs : List T) × Lists Before (λ v. (i : ℕ) × (i < n) × ((a : ℕ) × (a < m) × (P i a × (v ≡ key i a)))) xs)
    tabled P key n m rising along =
        joined (λ i v. (a : ℕ) × (a < m) × (P i a × (v ≡ key i a))) (λ i j v w less a b. rw (a.2.1, b.2.1) (rising i j a.0 b.0 less)) n
        (λ i l. keyed (P i) (key i) m (along i))

-- a bounded set of numbers, ascending
pub ascending : (P : ℕ → Type 0) (n : ℕ) → ((x : ℕ) → P x → x < n) → NotNot ((xs : List ℕ) × IsStrictlyIncreasing xs × ((x : ℕ) → Contains xs x ↔ P x))
ascending P n bound never = keyed (λ x y. x < y) P (λ i. i) n (λ i j less. less) (λ found. never (
  found.0,
  λ k within. found.1.ordered k (k + 1) 0 (omega arith) within,
  λ x. (
    λ c. let t = (found.1.members x).0 c in subst P (sym t.2.1) t.2.0,
    λ p. (found.1.members x).1 (x, bound x p, (p, refl)),
  ),
))
