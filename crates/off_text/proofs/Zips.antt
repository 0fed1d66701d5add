-- Two lists side by side: what is found beside an element.
use Rattle.std.proofs.Common.{◌≡◌, ℕ, zero, suc, ◌<◌, List, [], ◌∷◌, length, map, slice_index_or, All, Contains, refl, subst, arith}
use Rattle.std.specs.List.{AllZip}
use Rattle.std.proofs.lemmas.List.Elements.{All-cons, All-nil}

-- beside an element of the first list
pub zip-find : {A B : Type 0} (R : A → B → Type 0) (xs : List A) (ys : List B) (x : A) → AllZip R xs ys → Contains xs x → (y : B) × Contains ys y × R x y
zip-find R [] ys x zip has = absurd (omega (arith, has.1))
zip-find R (u ∷ xs) [] x zip has = absurd zip
zip-find {A = A} {B = B} R (u ∷ xs) (v ∷ ys) x zip has = go (zip-find R xs ys x zip.1) has.0 has.1 has.2
  where
    go : (Contains xs x → (y : B) × Contains ys y × R x y) → (k : ℕ) → k < length (u ∷ xs) → slice_index_or (u ∷ xs) k x ≡ x → (y : B) × Contains (v ∷ ys) y × R x y
    go later zero low is = (v, (0, omega arith, refl), subst (λ z. R z v) is zip.0)
    go later (suc k) low is =
        let more = later (k, omega arith, is) in
        let at = more.1 in
        (more.0, (suc at.0, omega (arith, at.1), at.2), more.2)

-- beside an element of the second list
pub zip-found : {A B : Type 0} (R : A → B → Type 0) (xs : List A) (ys : List B) (y : B) → AllZip R xs ys → Contains ys y → (x : A) × Contains xs x × R x y
zip-found R xs [] y zip has = absurd (omega (arith, has.1))
zip-found R [] (v ∷ ys) y zip has = absurd zip
zip-found {A = A} {B = B} R (u ∷ xs) (v ∷ ys) y zip has = go (zip-found R xs ys y zip.1) has.0 has.1 has.2
  where
    go : (Contains ys y → (x : A) × Contains xs x × R x y) → (k : ℕ) → k < length (v ∷ ys) → slice_index_or (v ∷ ys) k y ≡ y → (x : A) × Contains (u ∷ xs) x × R x y
    go later zero low is = (u, (0, omega arith, refl), subst (R u) is zip.0)
    go later (suc k) low is =
        let more = later (k, omega arith, is) in
        let at = more.1 in
        (more.0, (suc at.0, omega (arith, at.1), at.2), more.2)

-- what follows for the second list
pub zip-right : {A B : Type 0} (R : A → B → Type 0) (P : A → Type 0) (Q : B → Type 0) → ((x : A) (y : B) → P x → R x y → Q y)
    → (xs : List A) (ys : List B) → All P xs → AllZip R xs ys → All Q ys
zip-right R P Q f [] [] each zip = All-nil Q
zip-right R P Q f [] (y ∷ ys) each zip = absurd zip
zip-right R P Q f (x ∷ xs) [] each zip = absurd zip
zip-right R P Q f (x ∷ xs) (y ∷ ys) each zip =
    All-cons Q y ys (f x y (each 0 x (omega arith)) zip.0) (zip-right R P Q f xs ys (λ k d low. each (suc k) d (omega arith)) zip.1)

-- a list beside what a function makes of it
pub zip-map : {A B : Type 0} (R : A → B → Type 0) (f : A → B) (xs : List A) → All (λ x. R x (f x)) xs → AllZip R xs (map f xs)
zip-map R f [] each = tt
zip-map R f (x ∷ xs) each = (each 0 x (omega arith), zip-map R f xs (λ k d low. each (suc k) d (omega arith)))

-- the same, where the list stands beside another already
pub zip-onward : {A B C : Type 0} (R : A → B → Type 0) (S : A → C → Type 0) (P : B → Type 0) (f : B → C) → ((x : A) (y : B) → R x y → P y → S x (f y))
    → (xs : List A) (ys : List B) → AllZip R xs ys → All P ys → AllZip S xs (map f ys)
zip-onward R S P f on [] [] zip each = tt
zip-onward R S P f on [] (y ∷ ys) zip each = absurd zip
zip-onward R S P f on (x ∷ xs) [] zip each = absurd zip
zip-onward R S P f on (x ∷ xs) (y ∷ ys) zip each =
    (on x y zip.0 (each 0 y (omega arith)), zip-onward R S P f on xs ys zip.1 (λ k d low. each (suc k) d (omega arith)))

-- what is so of each element is so of one
pub all-at : {A : Type 0} (P : A → Type 0) (xs : List A) (x : A) → All P xs → Contains xs x → P x
all-at P xs x each has = subst P has.2 (each has.0 x has.1)
