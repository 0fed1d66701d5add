-- The texts of the steps of a log, one after another.
use Rattle.std.proofs.Common.{◌≡◌, ℕ, ◌+◌, ◌<◌, List, [], ◌∷◌, ◌++◌, length, take, drop, get_or, map, codes, refl, sym, ap, ap₂, ◌∙◌, arith, append_assoc}
use Rattle.std.specs.List.{concat, flat_map}
use Rattle.std.proofs.lemmas.List.{append-nil, take_more, length-take-le, take-append-drop}
use Rattle.machine_defs.specs.Difference.{Difference}
use Rattle.machine_defs.specs.TextLines.{ended, spaced}
use Rattle.machine_defs.specs.LogText.{born_text, dead_text, link_change_text, value_change_text, rule_change_text, step_text, steps_text}
use Rattle.text_lines.proofs.LineTexts.{concat-append, concat-map}

three : (a b c : List ℕ) → concat (a ∷ b ∷ c ∷ []) ≡ a ++ b ++ c
three a b c = ap (λ (t : List ℕ). a ++ (b ++ t)) (append-nil c) ∙ sym (append_assoc a b c)

-- a step, from its lines
pub step-joined : (n : ℕ) (s : Difference)
    → concat (((ended (codes "step" ++ spaced n) ∷ born_text s.first s.edit.births ∷ dead_text s.edit.deaths ∷ [] ++ map link_change_text s.edit.changes) ++ map value_change_text s.values) ++ map rule_change_text s.rules)
    ≡ step_text n s
step-joined n s =
    let front : List (List ℕ) = ended (codes "step" ++ spaced n) ∷ born_text s.first s.edit.births ∷ dead_text s.edit.deaths ∷ [] in
    concat-append ((front ++ map link_change_text s.edit.changes) ++ map value_change_text s.values) (map rule_change_text s.rules)
    ∙ ap₂ ◌++◌
    (concat-append (front ++ map link_change_text s.edit.changes) (map value_change_text s.values)
    ∙ ap₂ ◌++◌
    (concat-append front (map link_change_text s.edit.changes)
    ∙ ap₂ ◌++◌
    (three (ended (codes "step" ++ spaced n)) (born_text s.first s.edit.births) (dead_text s.edit.deaths))
    (concat-map link_change_text s.edit.changes))
    (concat-map value_change_text s.values))
    (concat-map rule_change_text s.rules)

-- what is told where some dart ended
pub dead_text-some : (darts : List ℕ) → 0 < length darts → dead_text darts ≡ ended (codes "dead" ++ flat_map spaced darts)
dead_text-some [] some = absurd (omega arith)
dead_text-some (dart ∷ darts) some = refl

-- steps behind others are numbered on
steps_text-append : (n m : ℕ) (xs ys : List Difference) → m ≡ n + length xs → steps_text n (xs ++ ys) ≡ steps_text n xs ++ steps_text m ys
steps_text-append n m [] ys h =
    let e : n ≡ m = omega arith in
    ap (λ (k : ℕ). steps_text k ys) e
steps_text-append n m (x ∷ xs) ys h =
    ap (λ (t : List ℕ). step_text n x ++ t) (steps_text-append (n + 1) m xs ys (omega arith))
    ∙ sym (append_assoc (step_text n x) (steps_text (n + 1) xs) (steps_text m ys))

-- the text of the steps up to one, and of that one behind it
pub steps_text-more : (i : ℕ) (xs : List Difference) (x : Difference) → i < length xs → x ≡ get_or xs i x
    → steps_text 1 (take (i + 1) xs) ≡ steps_text 1 (take i xs) ++ step_text (i + 1) x
steps_text-more i xs x h e =
    ap (steps_text 1) (take_more xs i x h)
    ∙ ap (λ (y : Difference). steps_text 1 (take i xs ++ y ∷ [])) (sym e)
    ∙ steps_text-append 1 (i + 1) (take i xs) (x ∷ []) (omega (arith, length-take-le i xs))
    ∙ ap (λ (t : List ℕ). steps_text 1 (take i xs) ++ t) (append-nil (step_text (i + 1) x))

-- what comes after the first steps
pub steps_text-rest : (xs : List Difference) (k : ℕ) → (rest : List ℕ) × (steps_text 1 xs ≡ steps_text 1 (take k xs) ++ rest)
steps_text-rest xs k =
    (steps_text (1 + length (take k xs)) (drop k xs), ap (steps_text 1) (sym (take-append-drop k xs)) ∙ steps_text-append 1 (1 + length (take k xs)) (take k xs) (drop k xs) refl)
