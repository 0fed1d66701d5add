-- Elements in the order of a way.
use Rattle.std.proofs.Common.{ℕ, ◌≡◌, ◌+◌, ◌<◌, ◌≤◌, sym, subst, ◌∙◌, List, [], ◌∷◌, ◌++◌, length, get_or, drop, reverse, Contains, arith}
use Rattle.std.proofs.lemmas.List.{length-reverse, get_or-reverse, reverse-reverse, drop_all}
use Rattle.std.proofs.lemmas.List.Sorted.{IsPermutation-reverse, Contains-permutation}
use Rattle.std.proofs.lemmas.Grind.{reverse_onto}
use Rattle.valued_map.specs.Ways.{in_turn, place_at}
use Rattle.valued_map.specs.declared.way.Way.{Way}
use Rattle.valued_map.specs.declared.way.Way.TheVariants.{Back, Forth}
use Rattle.valued_map.proofs.Heads.{rest-is}

module _ {X : Type 0} where
  -- the element that comes after so many others, and those behind it
  pub turn-is : (way : Way) (xs : List X) (k : ℕ) (x : X) → k < length xs → x ≡ get_or xs (place_at way k (length xs)) x → drop k (in_turn way xs) ≡ x ∷ drop (k + 1) (in_turn way xs)
  turn-is Back xs k x h is = rest-is (reverse xs) k x (let long : length (reverse xs) ≡ length xs = length-reverse xs in omega (arith, h, long)) (is ∙ sym (get_or-reverse xs k x h))
  turn-is Forth xs k x h is = rest-is xs k x h is

  -- behind the last one there is none
  pub turn-end : (way : Way) (xs : List X) (k : ℕ) → length xs ≤ k → drop k (in_turn way xs) ≡ []
  turn-end Back xs k h = drop_all k (reverse xs) (let long : length (reverse xs) ≡ length xs = length-reverse xs in omega (arith, h, long))
  turn-end Forth xs k h = drop_all k xs h

  -- the order takes none in
  pub turn-among : (way : Way) (xs : List X) (x : X) → Contains (in_turn way xs) x → Contains xs x
  turn-among Back xs x here =
      subst (λ (ys : List X). Contains ys x) (reverse-reverse xs) (Contains-permutation (reverse xs) (reverse (reverse xs)) x (IsPermutation-reverse (reverse xs)) here)
  turn-among Forth xs x here = here

  -- the first one comes last on the way back
  pub reverse-first : (x : X) (xs : List X) → reverse (x ∷ xs) ≡ reverse xs ++ x ∷ []
  reverse-first x xs = reverse_onto xs x []
