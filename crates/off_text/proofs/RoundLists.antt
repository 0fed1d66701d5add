-- Lists of lists, element by element.
use Rattle.std.proofs.Common.{◌≡◌, ℕ, ◌+◌, ◌<◌, List, [], ◌∷◌, ◌++◌, length, map, take, get_or, Vec, sym, ap, ap₂, ◌∙◌, subst}
use Rattle.std.specs.declared.alloc.Global.{Global}
use Rattle.std.specs.List.{AllZip}
use Rattle.std.proofs.lemmas.List.{map-append, take_more}
use Rattle.std.proofs.lemmas.Slice.Zip.{all_zipped_more}
use Rattle.off_text.specs.Meanings.{lists_of, items_of}

-- one more list, for one more number
pub zip-more : (R : ℕ → List ℕ → Type 0) (xs : List ℕ) (i x : ℕ) (old new : List (List ℕ)) (list : List ℕ) → i < length xs → x ≡ get_or xs i x → new ≡ old ++ list ∷ []
    → AllZip R (take i xs) old → R x list → AllZip R (take (i + 1) xs) new
zip-more R xs i x old new list low at grown zip own =
    subst (λ front. AllZip R front new) (ap (λ y. take i xs ++ y ∷ []) at ∙ sym (take_more xs i x low))
    (subst (AllZip R (take i xs ++ x ∷ [])) (sym grown) (all_zipped_more R (take i xs) old x list zip own))

-- one more face, for one more list
pub faces-more : (f : List ℕ → List ℕ) (rounds : List (List ℕ)) (i : ℕ) (round : List ℕ) (old new : List (Vec ℕ Global)) (face : Vec ℕ Global) → i < length rounds → round ≡ get_or rounds i []
    → new ≡ old ++ face ∷ [] → face.items ≡ f round → lists_of old ≡ map f (take i rounds) → lists_of new ≡ map f (take (i + 1) rounds)
faces-more f rounds i round old new face low at grown is before =
    let front : take (i + 1) rounds ≡ take i rounds ++ round ∷ [] = take_more rounds i [] low ∙ ap (λ l. take i rounds ++ l ∷ []) (sym at) in
    ap lists_of grown ∙ map-append items_of old (face ∷ []) ∙ ap₂ (◌++◌) before (ap (λ l. l ∷ []) is) ∙ sym (ap (map f) front ∙ map-append f (take i rounds) (round ∷ []))
