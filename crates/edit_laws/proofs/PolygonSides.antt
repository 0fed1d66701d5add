-- A polygon's rows side by side.
use Rattle.std.proofs.Common.{◌≡◌, ℕ, zero, suc, ◌+◌, ◌*◌, ◌<◌, List, [], ◌∷◌, ◌++◌, length, get_or, refl, ap, ◌∙◌, arith, add-one, add-zero}
use Rattle.std.specs.List.{flat_map, range_with_len}
use Rattle.std.proofs.lemmas.Grind.{flat_map-append}
use Rattle.std.proofs.lemmas.List.{append-nil}

-- one more number at the end
range_with_len-more : (a n : ℕ) → range_with_len a (suc n) ≡ range_with_len a n ++ (a + n) ∷ []
range_with_len-more a zero = rw add-zero refl
range_with_len-more a (suc n) =
    let e : (a + 1) + n ≡ a + suc n = omega arith in
    ap (λ (xs : List ℕ). a ∷ xs) (range_with_len-more (a + 1) n ∙ ap (λ (m : ℕ). range_with_len (a + 1) n ++ m ∷ []) e)

pub flat_map-range_more : {X : Type 0} (f : ℕ → List X) (n : ℕ) → flat_map f (range_with_len 0 (n + 1)) ≡ flat_map f (range_with_len 0 n) ++ f n
flat_map-range_more {X} f n =
    let e : 0 + n ≡ n = omega arith in
    ap (λ (m : ℕ). flat_map f (range_with_len 0 m)) (add-one n) ∙ ap (flat_map f) (range_with_len-more 0 n)
    ∙ ap (λ (m : ℕ). flat_map f (range_with_len 0 n ++ m ∷ [])) e ∙ flat_map-append f (range_with_len 0 n) (n ∷ [])
    ∙ ap (λ (ys : List X). flat_map f (range_with_len 0 n) ++ ys) (append-nil (f n))

-- where each number gives one element, the list has that of s at the place s
pub flat_map-singles : {X : Type 0} (f : ℕ → List X) (one : ℕ → X) → ((s : ℕ) → f s ≡ one s ∷ []) → (a n : ℕ)
    → length (flat_map f (range_with_len a n)) ≡ n
flat_map-singles f one are a zero = refl
flat_map-singles f one are a (suc n) =
    let rest = flat_map-singles f one are (a + 1) n in
    rw (are a) (omega (arith, rest))

pub get_or-flat_map-singles : {X : Type 0} (f : ℕ → List X) (one : ℕ → X) → ((s : ℕ) → f s ≡ one s ∷ []) → (a n s : ℕ) (d : X) → s < n
    → get_or (flat_map f (range_with_len a n)) s d ≡ one (a + s)
get_or-flat_map-singles f one are a zero s d h = absurd (omega arith)
get_or-flat_map-singles f one are a (suc n) zero d h = rw (are a, add-zero) refl
get_or-flat_map-singles f one are a (suc n) (suc s) d h =
    let rest = get_or-flat_map-singles f one are (a + 1) n s d (omega arith) in
    let p : a + 1 + s ≡ a + suc s = omega arith in
    rw (are a, ← p) rest

-- where each number gives two elements, the list has the two of s at the places 2s and 2s + 1
pub flat_map-pairs : {X : Type 0} (f : ℕ → List X) (one other : ℕ → X) → ((s : ℕ) → f s ≡ one s ∷ other s ∷ []) → (a n : ℕ)
    → length (flat_map f (range_with_len a n)) ≡ 2 * n
flat_map-pairs f one other are a zero = refl
flat_map-pairs f one other are a (suc n) =
    let rest = flat_map-pairs f one other are (a + 1) n in
    rw (are a) (omega (arith, rest))

pub get_or-flat_map-pairs : {X : Type 0} (f : ℕ → List X) (one other : ℕ → X) → ((s : ℕ) → f s ≡ one s ∷ other s ∷ []) → (a n s : ℕ) (d : X) → s < n
    → (get_or (flat_map f (range_with_len a n)) (2 * s) d ≡ one (a + s)) × (get_or (flat_map f (range_with_len a n)) (2 * s + 1) d ≡ other (a + s))
get_or-flat_map-pairs f one other are a zero s d h = absurd (omega arith)
get_or-flat_map-pairs f one other are a (suc n) zero d h = rw (are a, add-zero) (refl, refl)
get_or-flat_map-pairs {X} f one other are a (suc n) (suc s) d h =
    let rest = get_or-flat_map-pairs f one other are (a + 1) n s d (omega arith) in
    let e : 2 * suc s ≡ suc (suc (2 * s)) = omega arith in
    let e1 : 2 * suc s + 1 ≡ suc (suc (2 * s + 1)) = omega arith in
    let p : a + 1 + s ≡ a + suc s = omega arith in
    rw (e1, e, are a, ← p) rest
