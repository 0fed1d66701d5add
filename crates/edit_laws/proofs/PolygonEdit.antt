-- The edit that makes a polygon.
use Rattle.std.proofs.Common.{◌≡◌, ℕ, ◌+◌, ◌*◌, ◌<◌, ◌≤◌, List, [], ◌∷◌, ◌++◌, length, get_or, map, Some, refl, sym, ap, ◌∙◌, arith, subst}
use Rattle.std.specs.Prelude.{All}
use Rattle.std.specs.List.{flat_map, range_with_len}
use Rattle.std.proofs.lemmas.List.{get_or_default}
use Rattle.map_defs.specs.Kind.{Kind, alpha, beta}
use Rattle.map_defs.specs.Laws.{Laws}
use Rattle.map_defs.specs.Rows.{Rows, IsSound, links_of, made, made_max}
use Rattle.map_defs.specs.Edits.{Edit, after_edit, Fits}
use Rattle.map_defs.specs.Polygon.{per_side, polygon_rows, side_rows, row_of}
use Rattle.edit_laws.specs.BirthChanges.{birth_changes}
use Rattle.edit_laws.proofs.PolygonRing.{ring, sides-length, polygon-ring}
use Rattle.edit_laws.proofs.PolygonSound.{ring-sound, ring-lawful}
use Rattle.edit_laws.proofs.BirthLinks.{birth_edit, IsFlat, births-after, births-fit-rows}

-- the changes are the same in every dimension
pub changes-same : (k : Kind) (n d first sides : ℕ) (xs : List ℕ)
    → birth_changes d (flat_map (side_rows k 1 first sides) xs) ≡ birth_changes d (flat_map (side_rows k n first sides) xs)
changes-same k n d first sides [] = refl
changes-same alpha n d first sides (x ∷ xs) = rw (changes-same alpha n (d + 1 + 1) first sides xs) refl
changes-same beta n d first sides (x ∷ xs) = rw (changes-same beta n (d + 1) first sides xs) refl

-- the edit that makes all sides
abbrev pub sides_edit : Kind → ℕ → ℕ → Edit
sides_edit k first sides =
    record { births = per_side k * sides; deaths = []; changes = birth_changes first (flat_map (side_rows k 1 first sides) (range_with_len 0 sides)) }

edit-is : (k : Kind) (n first sides : ℕ) → sides_edit k first sides ≡ birth_edit first (polygon_rows k n first sides)
edit-is k n first sides = rw (changes-same k n first first sides (range_with_len 0 sides), sides-length k n first sides sides) refl

-- a polygon's rows have no links but 0 and 1
polygon-flat : (k : Kind) (n first sides : ℕ) → All (IsFlat n) (polygon_rows k n first sides)
polygon-flat k n first sides p z h =
    let are = polygon-ring k n first sides in
    let is : get_or (polygon_rows k n first sides) p z ≡ row_of n (first + ring k sides 0 p) (first + ring k sides 1 p) =
    get_or_default (polygon_rows k n first sides) p z [] h ∙ are.at p (omega (arith, are.long)) in
    subst (IsFlat n) (sym is) refl

module _ (k : Kind) (n : ℕ) (rows : Rows) (sides : ℕ) (wide : 1 ≤ n) (begun : 0 < length rows) (sound : IsSound k n rows)
    (few : made rows + per_side k * sides ≤ made_max) where
  abbrev ys : List (List ℕ)
  ys = polygon_rows k n (length rows) sides

  pub polygon-fits : Fits k n rows (sides_edit k (length rows) sides)
  polygon-fits =
      subst (Fits k n rows) (sym (edit-is k n (length rows) sides))
      (births-fit-rows k n wide rows ys (polygon-flat k n (length rows) sides)
      (ring-sound k n rows (per_side k * sides) ys (ring k sides) wide begun sound (polygon-ring k n (length rows) sides) few))

  pub polygon-after : after_edit n (sides_edit k (length rows) sides) rows ≡ rows ++ map (λ (row : List ℕ). Some row) ys
  polygon-after =
      ap (λ (e : Edit). after_edit n e rows) (edit-is k n (length rows) sides)
      ∙ births-after k n wide rows ys (polygon-flat k n (length rows) sides)

  pub polygon-lawful : Laws k (links_of rows) → Laws k (links_of (after_edit n (sides_edit k (length rows) sides) rows))
  polygon-lawful laws =
      subst (λ (r : Rows). Laws k (links_of r)) (sym polygon-after)
      (ring-lawful k n rows (per_side k * sides) ys (ring k sides) wide begun sound (polygon-ring k n (length rows) sides) laws)
