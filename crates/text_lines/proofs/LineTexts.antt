-- The texts of lines that an iterator yields.
use Rattle.std.proofs.Common.{◌≡◌, ℕ, List, [], ◌∷◌, ◌++◌, Option, Some, None, map, refl, sym, ap, ◌∙◌, subst, append_assoc}
use Rattle.std.specs.List.{concat, flat_map}
use Rattle.std.specs.Iterator.{Yields, AlwaysYields}
use Rattle.std.proofs.lemmas.List.{append-nil}
use Rattle.std.proofs.lemmas.Iterator.{YieldsList}

module _ {S A : Type 0} (steps : S → Option A → S → Type 0) (text : A → List ℕ) where
  -- the texts of the lines so far, and what is yielded behind them
  along : (s t : S) (xs : List A) (texts : List (List ℕ)) → Yields steps s xs t → AlwaysYields steps text s texts
      → (rest : List (List ℕ)) × (concat texts ≡ flat_map text xs ++ concat rest) × AlwaysYields steps text t rest
  along s t [] texts same road = (texts, refl, subst (λ (u : S). AlwaysYields steps text u texts) same road)
  along s t (x ∷ xs) [] y road = absurd (road x y.0 y.1)
  along s t (x ∷ xs) (one ∷ texts) y road =
      let next = road.1 x y.0 y.1 in
      let more = along y.0 t xs texts y.2 next.1 in
      (more.0, ap (λ (l : List ℕ). l ++ concat texts) (sym next.0) ∙ (ap (λ (l : List ℕ). text x ++ l) more.1 ∙ sym (append_assoc (text x) (flat_map text xs) (concat more.0))), more.2)

  -- one more line
  pub one-more : (s t u : S) (xs : List A) (x : A) (texts : List (List ℕ)) → Yields steps s xs t → steps t (Some x) u → AlwaysYields steps text s texts
      → (rest : List ℕ) × (concat texts ≡ (flat_map text xs ++ text x) ++ rest)
  one-more s t u xs x texts y step road =
      let more = along s t xs texts y road in
      at more.0 more.1 more.2
    where
      at : (rest : List (List ℕ)) → concat texts ≡ flat_map text xs ++ concat rest → AlwaysYields steps text t rest → (rest : List ℕ) × (concat texts ≡ (flat_map text xs ++ text x) ++ rest)
      at [] is road = absurd (road x u step)
      at (one ∷ rest) is road =
          (concat rest, is ∙ (ap (λ (l : List ℕ). flat_map text xs ++ (l ++ concat rest)) (sym (road.1 x u step).0) ∙ sym (append_assoc (flat_map text xs) (text x) (concat rest))))

  -- no more line
  pub no-more : (s t u : S) (xs : List A) (texts : List (List ℕ)) → Yields steps s xs t → steps t None u → AlwaysYields steps text s texts
      → concat texts ≡ flat_map text xs
  no-more s t u xs texts y step road =
      let more = along s t xs texts y road in
      at more.0 more.1 more.2
    where
      at : (rest : List (List ℕ)) → concat texts ≡ flat_map text xs ++ concat rest → AlwaysYields steps text t rest → concat texts ≡ flat_map text xs
      at [] is road = is ∙ append-nil (flat_map text xs)
      at (one ∷ rest) is road = absurd (road.0 u step)

-- what is yielded, seen by its text
seen : {S A : Type 0} (steps : S → Option A → S → Type 0) (text : A → List ℕ) (s : S) (lines : List A)
    → AlwaysYields steps (λ x. x) s lines → AlwaysYields steps text s (map text lines)
seen steps text s [] road = road
seen steps text s (line ∷ lines) road = (road.0, λ x t step. let next = road.1 x t step in (ap text next.0, seen steps text t lines next.1))

pub YieldsList-seen : {S A : Type 0} {steps : S → Option A → S → Type 0} (text : A → List ℕ) {s : S} {lines : List A}
    → YieldsList steps (λ x. x) s lines → YieldsList steps text s (map text lines)
YieldsList-seen {steps = steps} text {s = s} {lines = lines} road = record { runs = seen steps text s lines road.runs }

-- texts one after the other
pub concat-append : (xs ys : List (List ℕ)) → concat (xs ++ ys) ≡ concat xs ++ concat ys
concat-append [] ys = refl
concat-append (x ∷ xs) ys = ap (λ (t : List ℕ). x ++ t) (concat-append xs ys) ∙ sym (append_assoc x (concat xs) (concat ys))

pub concat-map : {X : Type 0} (text : X → List ℕ) (xs : List X) → concat (map text xs) ≡ flat_map text xs
concat-map text [] = refl
concat-map text (x ∷ xs) = ap (λ (t : List ℕ). text x ++ t) (concat-map text xs)
