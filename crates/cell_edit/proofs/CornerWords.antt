-- The words along which the copies of a corner of a combinatorial map are found, for listed links.
use Rattle.std.proofs.Common.{ℕ, ◌≡◌, ◌<◌, ◌≤◌, ◌↔◌, List, map, length, get_or, Contains, sym, ap, ◌∙◌, arith}
use Rattle.std.specs.Prelude.{All}
use Rattle.std.proofs.lemmas.List.{get_or-map, length-map}
use Rattle.std.proofs.lemmas.List.Elements.{All-map, Contains-get_or}
use Rattle.map_defs.specs.Links.{Links, HasDimension}
use Rattle.map_defs.specs.LinkWords.{two_links, through, IsWithin}
use Rattle.map_defs.specs.Cells.{InOrbit, Leads}
use Rattle.map_defs.specs.Insertion.{InBetaCorner, IsCornerWord}
use Rattle.cell_edit.proofs.AlongLinks.{orbit-wider, linked-within}

pub copies-within : (n : ℕ) (js : List ℕ) → ((j : ℕ) → Contains js j ↔ ((j ≤ n) × (3 ≤ j))) → All (IsWithin n) (map (two_links 0) js)
copies-within n js listed = All-map (IsWithin n) (two_links 0) js (λ p d h. (omega arith, ((listed (get_or js p d)).0 (Contains-get_or js p d h)).0))

module _ (n : ℕ) (L : Links) (above : HasDimension n L) (js : List ℕ) (listed : (j : ℕ) → Contains js j ↔ ((j ≤ n) × (3 ≤ j))) where
  words-step : (x y : ℕ) → Leads L (Contains (map (two_links 0) js)) x y → Leads L IsCornerWord x y
  words-step x y (w, (p, low, is), leads, dart) =
      let within : p < length js = omega (arith, length-map js (two_links 0)) in
      let word : two_links 0 (get_or js p 0) ≡ w = sym (get_or-map (two_links 0) js p 0 w within) ∙ is in
      (w, (get_or js p 0, ((listed (get_or js p 0)).0 (Contains-get_or js p 0 within)).1, sym word), leads, dart)

  step-words : (x y : ℕ) → Leads L IsCornerWord x y → Leads L (Contains (map (two_links 0) js)) x y
  step-words x y (w, (j, high, is), leads, dart) =
      let to : L j (L 0 x) ≡ y = ap (λ v. through L v x) (sym is) ∙ leads in
      let has : Contains js j = (listed j).1 (linked-within n L above j (L 0 x) (λ none. dart (sym to ∙ none)), high) in
      (w, (has.0, omega (arith, has.1, length-map js (two_links 0)), get_or-map (two_links 0) js has.0 j w has.1 ∙ ap (two_links 0) has.2 ∙ sym is), leads, dart)

  pub corner-orbit : (d y : ℕ) → InOrbit (Leads L (Contains (map (two_links 0) js))) d y ↔ InBetaCorner L d y
  corner-orbit d y = (
    orbit-wider (Leads L (Contains (map (two_links 0) js))) (Leads L IsCornerWord) words-step d y,
    orbit-wider (Leads L IsCornerWord) (Leads L (Contains (map (two_links 0) js))) step-words d y,
  )
