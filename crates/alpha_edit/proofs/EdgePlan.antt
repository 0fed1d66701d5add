-- An edge between two corners, told by the lists of the corners' darts and of their pairs.
use Rattle.std.proofs.Common.{ℕ, ◌≢◌, ◌⊎◌, ◌↔◌, List, Contains, refl, inl, inr}
use Rattle.map_defs.specs.Kind.{alpha}
use Rattle.map_defs.specs.Links.{Links}
use Rattle.map_defs.specs.Pairs.{turned}
use Rattle.map_defs.specs.Rows.{Rows, links_of, IsLive, IsSound}
use Rattle.map_defs.specs.Insertion.{IsInsertable, IsCarrying, IsLinkedBy, AlphaEdgeDarts, AlphaEdgePairs, AreAlphaEdgePaired}
use Rattle.insert_laws.proofs.AlphaInsert.{alpha_edge_can}
use Rattle.sewing.specs.Triples.{Triple, Lists}
use Rattle.cell_edit.specs.Writing.{ArePairsOf, IsCornerOf}
use Rattle.cell_edit.proofs.WalkTurns.{listed-told}
use Rattle.cell_edit.proofs.Premises.{insertable-same, orbit-live, linked-live, pairs-among}

pub corners-live : (n : ℕ) (rows : Rows) → IsSound alpha n rows → (d e : ℕ) → IsLive rows d → IsLive rows e → (x : ℕ) → AlphaEdgeDarts (links_of rows) d e x → IsLive rows x
corners-live n rows sound d e live_d live_e x (inl o) = orbit-live (IsLinkedBy (links_of rows) (IsCarrying alpha 1)) rows (linked-live alpha n rows sound (IsCarrying alpha 1)) d x live_d o
corners-live n rows sound d e live_d live_e x (inr o) = orbit-live (IsLinkedBy (links_of rows) (IsCarrying alpha 1)) rows (linked-live alpha n rows sound (IsCarrying alpha 1)) e x live_e o

-- the first darts of the pairs are those of the corners
module _ (L : Links) (d e : ℕ) (dart_d : d ≢ 0) (dart_e : e ≢ 0) (good : AreAlphaEdgePaired L d e) (keys : List ℕ)
    (pairs : List Triple) (same : (x y t : ℕ) → Lists pairs x y t ↔ AlphaEdgePairs L d e x y t) (firsts : (x : ℕ) → Contains keys x ↔ IsCornerOf pairs x) where
  can : IsInsertable alpha 1 (AlphaEdgeDarts L d e) (AlphaEdgePairs L d e) L
  can = alpha_edge_can L d e dart_d dart_e good

  pub corner-members : (x : ℕ) → Contains keys x ↔ AlphaEdgeDarts L d e x
  corner-members x = (λ has. let first = (firsts x).0 has in (can.begins x first.0 0 ((same x first.0 0).0 first.1)).0, λ h. from h (listed-told keys x))
    where
      from : AlphaEdgeDarts L d e x → Contains keys x ⊎ (Contains keys x → ⊥) → Contains keys x
      from h (inl has) = has
      from h (inr none) = absurd (can.some x 0 h refl (λ y p. none ((firsts x).1 (y, (same x y 0).1 p))))

module _ (L : Links) (d e : ℕ) (dart_d : d ≢ 0) (dart_e : e ≢ 0) (good : AreAlphaEdgePaired L d e) (keys : List ℕ) (members : (x : ℕ) → Contains keys x ↔ AlphaEdgeDarts L d e x)
    (pairs : List Triple) (same : (x y t : ℕ) → Lists pairs x y t ↔ AlphaEdgePairs L d e x y t) where
  pub edge-insertable : IsInsertable alpha 1 (Contains keys) (Lists pairs) L
  edge-insertable = insertable-same alpha 1 (AlphaEdgeDarts L d e) (Contains keys) (AlphaEdgePairs L d e) (Lists pairs) L members same (alpha_edge_can L d e dart_d dart_e good)

  pub edge-pairs-of : ArePairsOf keys pairs
  edge-pairs-of = pairs-among alpha 1 keys pairs L edge-insertable (λ x y t has. (same y x t).1 (turned ((same x y t).0 has)))
