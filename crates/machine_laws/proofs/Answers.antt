-- The answer to a question is one.
use Rattle.std.proofs.Common.{◌≡◌, ℕ, zero, suc, ◌+◌, ◌≤◌, ◌<◌, ◌⊎◌, ◌↔◌, List, length, slice_index, Bool, true, false, IsTrue, Contains, refl, sym, ap, ◌∙◌, inl, inr, arith}
use Rattle.std.proofs.lemmas.Bool.{cases_lt}
use Rattle.std.proofs.lemmas.List.{ext_get_or}
use Rattle.std.specs.List.Sorted.{IsStrictlyIncreasing}
use Rattle.map_defs.specs.Kind.{Kind}
use Rattle.map_defs.specs.Links.{Links}
use Rattle.map_defs.specs.Rows.{Rows, IsLive, links_of, live_count}
use Rattle.map_defs.specs.Counts.{HasCount, AreCountsAmong, AreCounts}
use Rattle.value_laws.proofs.Rising.{rising_one}

pub truth-one : (P : Type 0) (a b : Bool) → IsTrue a ↔ P → IsTrue b ↔ P → a ≡ b
truth-one P true true f g = refl
truth-one P true false f g = sym (g.1 (f.0 refl))
truth-one P false true f g = f.1 (g.0 refl)
truth-one P false false f g = refl

pub darts-one : (P : ℕ → Type 0) (xs ys : List ℕ) → IsStrictlyIncreasing xs → IsStrictlyIncreasing ys
    → ((d : ℕ) → Contains xs d ↔ P d) → ((d : ℕ) → Contains ys d ↔ P d) → xs ≡ ys
darts-one P xs ys up up' f g = rising_one xs ys up up' (λ m. ((λ h. (g m).1 ((f m).0 h)), (λ h. (f m).1 ((g m).0 h))))

pub count-one : (P : ℕ → Type 0) (n m : ℕ) → HasCount P n → HasCount P m → n ≡ m
count-one P n m a b = sym a.counted ∙ ap length (darts-one P a.numbers b.numbers a.ascending b.ascending a.members b.members) ∙ b.counted

-- the counts of links among live darts
pub counts-among-one : (k : Kind) (n : ℕ) (Live : ℕ → Type 0) (live : ℕ) (L : Links) (xs ys : List ℕ)
    → AreCountsAmong k n Live live L xs → AreCountsAmong k n Live live L ys → xs ≡ ys
counts-among-one k n Live live L xs ys a b = ext_get_or 0 xs ys (a.long ∙ sym b.long) same
  where
    last : (place : ℕ) → place < length xs → (n + 1 < place) ⊎ (place ≤ n + 1) → slice_index xs place ≡ slice_index ys place
    last zero h c = a.darts ∙ sym b.darts
    last (suc i) h (inl above) =
        let e : suc i ≡ n + 2 = omega (arith, a.long) in
        ap (slice_index xs) e ∙ count-one _ _ _ a.components b.components ∙ ap (slice_index ys) (sym e)
    last (suc i) h (inr below) =
        let e : suc i ≡ i + 1 = omega arith in
        ap (slice_index xs) e ∙ count-one _ _ _ (a.cells i (omega arith)) (b.cells i (omega arith)) ∙ ap (slice_index ys) (sym e)

    same : (place : ℕ) → place < length xs → slice_index xs place ≡ slice_index ys place
    same place h = last place h (cases_lt (n + 1) place)

pub counts-one : (k : Kind) (n : ℕ) (rows : Rows) (xs ys : List ℕ) → AreCounts k n rows xs → AreCounts k n rows ys → xs ≡ ys
counts-one k n rows xs ys a b = counts-among-one k n (IsLive rows) (live_count rows) (links_of rows) xs ys a b
