-- Places are made in the labels for darts to come.
use Rattle.std.proofs.Common.{ℕ, ◌≤◌, List, Option, refl, arith}
use Rattle.map_defs.specs.Kind.{Kind}
use Rattle.map_defs.specs.Rows.{Rows}
use Rattle.map_defs.specs.Values.{Rule}
use Rattle.store_defs.specs.Stores.{Store}
use Rattle.store_defs.specs.Labelings.{Labeling}
use Rattle.label_laws.specs.Maps.{IsStoredMap}
use Rattle.label_laws.proofs.LineSteps.{stored-grown}

-- the ids of before, for as many darts as the other labels are for
abbrev pub widened : Labeling → Labeling → Labeling
widened l m = record { made = m.made; columns = l.columns }

-- they are of the same map
pub widened-stored : (k : Kind) (n : ℕ) (rows : Rows) (l m : Labeling) (p : Store) (rules : List (Option Rule)) → IsStoredMap k n rows l p rules → l.made ≤ m.made
    → IsStoredMap k n rows (widened l m) p rules
widened-stored k n rows l m p rules s longer = stored-grown k n rows l (widened l m) p p rules s (λ i d. refl) (λ i. ((λ h. h), λ h. h)) (omega (arith, s.long)) refl
