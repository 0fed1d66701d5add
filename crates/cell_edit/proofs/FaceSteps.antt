-- Steps around one side of a face.
use Rattle.std.proofs.Common.{ℕ, ◌≡◌, ◌≢◌, ◌≤◌, ◌↔◌, [], ◌∷◌, Contains, sym}
use Rattle.map_defs.specs.Links.{Links}
use Rattle.map_defs.specs.Cells.{InOrbit, onward}
use Rattle.map_defs.specs.Insertion.{IsLinkedBy, AreOnOneSide}
use Rattle.cell_edit.proofs.AlongLinks.{links-orbit, zero-one}

-- a link of the face leads on
pub side-on : (L : Links) (d x y j : ℕ) → j ≤ 1 → y ≡ L j x → y ≢ 0 → AreOnOneSide L d x → AreOnOneSide L d y
side-on L d x y j low is some o = onward {x = x} {y = y} o (j, low, sym is, some)

-- both links of the face lead to the darts of its side
pub one-side : (L : Links) (d e : ℕ) → InOrbit (IsLinkedBy L (Contains (0 ∷ 1 ∷ []))) d e ↔ AreOnOneSide L d e
one-side L d e = links-orbit L (Contains (0 ∷ 1 ∷ [])) (λ j. j ≤ 1) (λ j x has some. (zero-one j).0 has) (λ j x low some. (zero-one j).1 low) d e
