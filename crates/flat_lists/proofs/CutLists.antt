-- Lists that are cut out of the list of their items.
use Rattle.std.proofs.Common.{◌≡◌, ℕ, zero, suc, ◌+◌, ◌-◌, ◌<◌, ◌≤◌, List, [], ◌∷◌, ◌++◌, length, get_or, take, drop, refl, ap, ap₂, ◌∙◌, arith}
use Rattle.std.specs.List.{sum_by}
use Rattle.std.proofs.lemmas.List.{length-take, length-drop, take_all, take-append-le, drop-append-le, drop-drop}
use Rattle.std.proofs.lemmas.List.Sums.{sum_by-cons}
use Rattle.flat_lists.specs.Cutting.{cut, AreEnds, start_from}

ends-within : (from : ℕ) (ends : List ℕ) (all : ℕ) → AreEnds from ends all → from ≤ all
ends-within from [] all h = omega (arith, h)
ends-within from (end ∷ ends) all h = let more = ends-within end ends all h.1 in omega (arith, h.0, more)

-- a list is put behind the others
pub ends-push : (from : ℕ) (ends : List ℕ) (all last : ℕ) → AreEnds from ends all → all ≤ last → AreEnds from (ends ++ last ∷ []) last
ends-push from [] all last h le = (omega (arith, h, le), refl)
ends-push from (end ∷ ends) all last h le = (h.0, ends-push end ends all last h.1 le)

-- where a list begins
pub start-behind : (from : ℕ) (ends : List ℕ) (place d : ℕ) → place < length ends → get_or ends place d ≡ start_from from ends (suc place)
start-behind from [] place d h = absurd (omega (arith, h))
start-behind from (end ∷ []) zero d h = refl
start-behind from (end ∷ e ∷ ends) zero d h = refl
start-behind from (end ∷ ends) (suc place) d h = start-behind end ends place d (omega (arith, h))

-- where a list lies
pub list-within : (from : ℕ) (ends : List ℕ) (all place d : ℕ) → AreEnds from ends all → place < length ends
    → (from ≤ start_from from ends place) × (start_from from ends place ≤ get_or ends place d) × (get_or ends place d ≤ all)
list-within from [] all place d h lt = absurd (omega (arith, lt))
list-within from (end ∷ ends) all zero d h lt = let within = ends-within end ends all h.1 in (omega arith, h.0, within)
list-within from (end ∷ ends) all (suc place) d h lt =
    let more = list-within end ends all place d h.1 (omega (arith, lt)) in (omega (arith, h.0, more.0), more.1, more.2)

module _ {X : Type 0} where
  -- the items that are left behind the first list
  record IsFirst (from end all : ℕ) (items : List X) : Type 0 where
    low : end - from ≤ length items
    long : all ≡ end + length (drop (end - from) items)

  is_first : (from end : ℕ) (items : List X) (ends : List ℕ) (all : ℕ) → all ≡ from + length items → AreEnds from (end ∷ ends) all → IsFirst from end all items
  is_first from end items ends all long h =
      let within = ends-within end ends all h.1 in
      record { low = omega (arith, long, within, h.0); long = omega (arith, long, within, h.0, length-drop (end - from) items) }

  pub length-cut : (from : ℕ) (items : List X) (ends : List ℕ) → length (cut from items ends) ≡ length ends
  length-cut from items [] = refl
  length-cut from items (end ∷ ends) = ap suc (length-cut end (drop (end - from) items) ends)

  -- each item is an item of one list
  pub sum-cut : (from : ℕ) (items : List X) (ends : List ℕ) (all : ℕ) → all ≡ from + length items → AreEnds from ends all → sum_by length (cut from items ends) ≡ length items
  sum-cut from items [] all long h = omega (arith, long, h)
  sum-cut from items (end ∷ ends) all long h =
      let first = is_first from end items ends all long h in
      let rest : List X = drop (end - from) items in
      let step = sum_by-cons length (take (end - from) items) (cut end rest ends) in
      omega (arith, step, first.low, length-take (end - from) items, length-drop (end - from) items, sum-cut end rest ends all first.long h.1)

  pub cut-push : (from : ℕ) (items list : List X) (ends : List ℕ) (all last : ℕ) → all ≡ from + length items → last ≡ all + length list → AreEnds from ends all
      → cut from (items ++ list) (ends ++ last ∷ []) ≡ cut from items ends ++ list ∷ []
  cut-push from [] list [] all last long is h = ap (λ (xs : List X). xs ∷ []) (take_all (last - from) list (omega (arith, is, h)))
  cut-push from (x ∷ items) list [] all last long is h = absurd (omega (arith, long, h))
  cut-push from items list (end ∷ ends) all last long is h =
      let first = is_first from end items ends all long h in
      ap₂ ◌∷◌ (take-append-le (end - from) items list first.low)
      (ap (λ (xs : List X). cut end xs (ends ++ last ∷ [])) (drop-append-le (end - from) items list first.low)
      ∙ cut-push end (drop (end - from) items) list ends all last first.long is h.1)

  -- what a list is
  list-at : (from : ℕ) (items : List X) (ends : List ℕ) (all place d : ℕ) → all ≡ from + length items → AreEnds from ends all → place < length ends
      → get_or (cut from items ends) place [] ≡ take (get_or ends place d - start_from from ends place) (drop (start_from from ends place - from) items)
  list-at from items [] all place d long h lt = absurd (omega (arith, lt))
  list-at from items (end ∷ ends) all zero d long h lt = let e : from - from ≡ 0 = omega arith in rw e refl
  list-at from items (end ∷ ends) all (suc place) d long h lt =
      let first = is_first from end items ends all long h in
      let start : ℕ = start_from end ends place in
      let within = list-within end ends all place d h.1 (omega (arith, lt)) in
      let e : (end - from) + (start - end) ≡ start - from = omega (arith, within.0, h.0) in
      list-at end (drop (end - from) items) ends all place d first.long h.1 (omega (arith, lt))
      ∙ ap (take (get_or ends place d - start)) (drop-drop (start - end) (end - from) items ∙ ap (λ (n : ℕ). drop n items) e)

  -- the same where all items are there
  pub list-of : (items : List X) (ends : List ℕ) (place d : ℕ) → AreEnds 0 ends (length items) → place < length ends
      → get_or (cut 0 items ends) place [] ≡ take (get_or ends place d - start_from 0 ends place) (drop (start_from 0 ends place) items)
  list-of items ends place d h lt =
      let e : start_from 0 ends place - 0 ≡ start_from 0 ends place = omega arith in
      list-at 0 items ends (length items) place d (omega arith) h lt ∙ ap (λ (n : ℕ). take (get_or ends place d - start_from 0 ends place) (drop n items)) e
