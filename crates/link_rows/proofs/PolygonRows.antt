-- The rows of a polygon, and the changes that they tell.
use Rattle.std.proofs.Common.{◌≡◌, ◌≢◌, ℕ, zero, suc, ◌+◌, ◌-◌, ◌*◌, ◌<◌, List, [], ◌∷◌, ◌++◌, get_or, replicate, None, refl, sym, ap, subst, ◌∙◌, arith}
use Rattle.std.specs.Prelude.{All, slice_index}
use Rattle.std.specs.List.{flat_map, range_with_len}
use Rattle.std.proofs.lemmas.List.{get_or_default}
use Rattle.std.proofs.lemmas.List.Elements.{All-head, All-tail}
use Rattle.map_defs.specs.Kind.{Kind}
use Rattle.map_defs.specs.Edits.{Change, Edit}
use Rattle.map_defs.specs.Polygon.{per_side, polygon_rows, row_of, side_rows}
use Rattle.dart_arena.specs.RowChanges.{row_changes}
use Rattle.edit_laws.specs.BirthChanges.{birth_changes}
use Rattle.edit_laws.proofs.PolygonRing.{ring, polygon-ring}
use Rattle.edit_laws.proofs.PolygonEdit.{changes-same, sides_edit}
use Rattle.link_rows.specs.BornRows.{NewRows, rows_changes, led_back}
use Rattle.link_rows.proofs.BornChanges.{row-none, row-some, led-none}

row-zeros : (d i m : ℕ) → row_changes d i (replicate m 0) ≡ []
row-zeros d i zero = refl
row-zeros d i (suc m) = row-none d i 0 (replicate m 0) refl ∙ row-zeros d (i + 1) m

-- a row with links 0 and 1, and no others
record IsPair (n : ℕ) (row : List ℕ) : Type 0 where
  zeroth : slice_index row 0 ≢ 0
  first : slice_index row 1 ≢ 0
  is : row ≡ row_of n (slice_index row 0) (slice_index row 1)

row-pair : (d n : ℕ) (row : List ℕ) → IsPair n row → row_changes d 0 row
    ≡ record { dart = d; link = 0; old = 0; new = slice_index row 0 } ∷ record { dart = d; link = 1; old = 0; new = slice_index row 1 } ∷ []
row-pair d n row pair =
    let a : ℕ = slice_index row 0 in
    let b : ℕ = slice_index row 1 in
    let rest : List ℕ = replicate (n - 1) 0 in
    ap (row_changes d 0) pair.is
    ∙ row-some d 0 a (b ∷ rest) pair.zeroth
    ∙ ap (λ (cs : List Change). record { dart = d; link = 0; old = 0; new = a } ∷ cs) (row-some d 1 b rest pair.first)
    ∙ ap (λ (cs : List Change). record { dart = d; link = 0; old = 0; new = a } ∷ record { dart = d; link = 1; old = 0; new = b } ∷ cs) (row-zeros d 2 (n - 1))

pairs-told : (d n : ℕ) (rows : List (List ℕ)) → All (IsPair n) rows → rows_changes d rows ≡ birth_changes d rows
pairs-told d n [] pairs = refl
pairs-told d n (row ∷ rows) pairs =
    ap (λ (cs : List Change). cs ++ rows_changes (d + 1) rows) (row-pair d n row (All-head (IsPair n) row rows pairs))
    ∙ ap
    (λ (cs : List Change). record { dart = d; link = 0; old = 0; new = slice_index row 0 } ∷ record { dart = d; link = 1; old = 0; new = slice_index row 1 } ∷ cs)
    (pairs-told (d + 1) n rows (All-tail (IsPair n) row rows pairs))

polygon-pairs : (k : Kind) (n first sides : ℕ) → 0 < first → All (IsPair n) (polygon_rows k n first sides)
polygon-pairs k n first sides some p z h =
    let are = polygon-ring k n first sides in
    let is : get_or (polygon_rows k n first sides) p z ≡ row_of n (first + ring k sides 0 p) (first + ring k sides 1 p) =
    get_or_default (polygon_rows k n first sides) p z [] h ∙ are.at p (omega (arith, are.long)) in
    subst (IsPair n) (sym is) (record { zeroth = λ none. omega arith; first = λ none. omega arith; is = refl })

-- the edit whose rows are those of a polygon, once they are all there
module _ (k : Kind) (n first sides side births : ℕ) (deaths : List ℕ) (changes : List Change) (born : NewRows) where
  pub polygon-told : births ≡ per_side k * sides → deaths ≡ [] → changes ≡ []
      → born ≡ record { first = first; width = n + 1; rows = flat_map (side_rows k n first sides) (range_with_len 0 side); back = None } → side ≡ sides → 0 < first
      → record { births = births; deaths = deaths; changes = changes ++ (led_back born.back born.first born.rows ++ rows_changes born.first born.rows) } ≡ sides_edit k first sides
  polygon-told many none plain pushed last some =
      let rows : born.rows ≡ polygon_rows k n first sides =
      ap (λ (b : NewRows). b.rows) pushed ∙ ap (λ (m : ℕ). flat_map (side_rows k n first sides) (range_with_len 0 m)) last in
      let told : rows_changes first (polygon_rows k n first sides) ≡ (sides_edit k first sides).changes =
      pairs-told first n (polygon_rows k n first sides) (polygon-pairs k n first sides some) ∙ sym (changes-same k n first first sides (range_with_len 0 sides)) in
      let led : led_back born.back born.first born.rows ≡ [] =
      ap (λ (b : NewRows). led_back b.back born.first born.rows) pushed ∙ led-none born.first born.rows in
      let all : changes ++ (led_back born.back born.first born.rows ++ rows_changes born.first born.rows) ≡ (sides_edit k first sides).changes =
      (λ j. plain j ++ (led j ++ rows_changes (pushed j).first (rows j))) ∙ told in
      λ j. let e : Edit = record { births = many j; deaths = none j; changes = all j } in e
