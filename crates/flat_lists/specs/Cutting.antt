-- Lists cut out of the list of all their items.
use Rattle.std.specs.Prelude.{ℕ, zero, suc, ◌≡◌, ◌-◌, ◌≤◌, List, [], ◌∷◌, take, drop}

-- the lists of these items, of which the first is the one at `from`, by where each list ends
abbrev pub cut : {X : Type 0} → ℕ → List X → List ℕ → List (List X)
cut from items [] = []
cut from items (end ∷ ends) = take (end - from) items ∷ cut end (drop (end - from) items) ends

-- the ends ascend, and the last one is where all items end
abbrev pub AreEnds : ℕ → List ℕ → ℕ → Type 0
AreEnds from [] all = from ≡ all
AreEnds from (end ∷ ends) all = (from ≤ end) × AreEnds end ends all

-- where a list begins: where the one before it ends
abbrev pub start_from : ℕ → List ℕ → ℕ → ℕ
start_from from ends zero = from
start_from from [] (suc place) = from
start_from from (end ∷ ends) (suc place) = start_from end ends place
