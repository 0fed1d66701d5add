-- The 0-cells of places, as groups.
use Rattle.std.proofs.Common.{ℕ, ◌≡◌, ◌<◌, ◌↔◌, refl, sym, subst, List, [], length, get_or, map, Contains, arith}
use Rattle.std.proofs.lemmas.List.{length-map, get_or-map, get_or_default}
use Rattle.std.proofs.lemmas.List.FromFn.{length-map-range_with_len, get_or-map-range_with_len}
use Rattle.map_defs.specs.Kind.{Kind}
use Rattle.map_defs.specs.Links.{Links}
use Rattle.map_defs.specs.Cells.{InCell}
use Rattle.map_defs.specs.Values.{Place}
use Rattle.cell_walk.specs.CellLists.{AreCellsOf}
use Rattle.store_defs.specs.Groups.{Group, group_at, no_group}
use Rattle.label_laws.specs.Placing.{IsPlacedCell, ArePlacedCells}
use Rattle.valued_map.specs.Placed.{no_place, placed_group, placed_groups}

module _ (places : List Place) (cells : List (List ℕ)) where
  pub length-placed : length (placed_groups places cells) ≡ length places
  length-placed = length-map-range_with_len (placed_group places cells) 0 (length places)

  pub placed-at : (n : ℕ) → n < length places → group_at (placed_groups places cells) n ≡ placed_group places cells n
  placed-at n low = get_or-map-range_with_len (placed_group places cells) 0 (length places) n n no_group low (omega arith)

  pub placed-cells : (k : Kind) (L : Links) → AreCellsOf k L 0 (map (λ (place : Place). place.dart) places) cells → ArePlacedCells k L places (length places) (placed_groups places cells)
  placed-cells k L are = record { long = length-placed; each = each }
    where
      each : (n : ℕ) (place : Place) → n < length places → IsPlacedCell k L (get_or places n place) (group_at (placed_groups places cells) n)
      each n place low =
          let dart : get_or (map (λ (p : Place). p.dart) places) n 0 ≡ (get_or places n no_place).dart = get_or-map (λ (p : Place). p.dart) places n no_place 0 low in
          let one : IsPlacedCell k L (get_or places n no_place) (placed_group places cells n) = record {
            dim = refl;
            value = refl;
            members = λ x. subst (λ (d : ℕ). Contains (get_or cells n []) x ↔ InCell k L 0 d x) dart (are.members n (omega (arith, low, length-map places (λ (p : Place). p.dart))) x);
          } in
          subst (λ (g : Group). IsPlacedCell k L (get_or places n place) g) (sym (placed-at n low))
          (subst (λ (p : Place). IsPlacedCell k L p (placed_group places cells n)) (get_or_default places n no_place place low) one)
