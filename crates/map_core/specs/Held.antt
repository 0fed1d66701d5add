-- What a map keeps, and with it the places that going back asks for.
use Rattle.std.specs.Prelude.{ℕ, ◌+◌, ◌≤◌, List, [], ◌∷◌, length}
use Rattle.map_defs.specs.Rows.{live_count}
use Rattle.map_defs.specs.Values.{Hook}
use Rattle.machine_defs.specs.State.{Content}
use Rattle.machine_defs.specs.Kept.{KnowsRules}
use Rattle.trail_laws.specs.Trails.{Trail}
use Rattle.trail_laws.specs.Told.{contents_of, told, IsTraced}
use Rattle.valued_map.specs.Holding.{Holding}

-- so many places are enough for the darts that live in a content together with those that the step to the next one bears
abbrev pub HasPlacesFor : ℕ → Content → Content → Type 0
HasPlacesFor places a b = live_count a.rows + length b.rows ≤ places + length a.rows

-- the same of each content and the next
abbrev pub HasPlacesForAll : ℕ → List Content → Type 0
HasPlacesForAll places [] = Unit
HasPlacesForAll places (a ∷ []) = Unit
HasPlacesForAll places (a ∷ b ∷ more) = HasPlacesFor places a b × HasPlacesForAll places (b ∷ more)

-- The present map and its trail agree; the map has places for the darts of all contents that the steps lead through, those
-- ahead too; and the hook knows each rule of the state that they tell.
pub record IsHeld (hook : Hook) (map : Holding) (t : Trail) : Type 0 where
  pub traced : IsTraced map.content t
  pub room : HasPlacesForAll map.places (contents_of map.content t)
  pub known : KnowsRules hook (told map.content t)
