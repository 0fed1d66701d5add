-- Which darts are said to live does not matter, as long as each piece has a least dart that lives either way.
use Rattle.std.proofs.Common.{ℕ, ◌⊎◌, ◌<◌, inl, inr, List, slice_index, slice_index_or, Option, None, arith}
use Rattle.map_defs.specs.Values.{Value, Meaning}
use Rattle.map_defs.specs.Carry.{NamesPiece, ArePieces, Gets, IsCarried}

-- Old and New run on along themselves. What lives by Other lives, and what lives does by Other, or has a lesser dart of its piece
-- that does.
module _ (Live Other : ℕ → Type 0) (Old New : ℕ → ℕ → Type 0)
    (old-on : (a b c : ℕ) → Old a b → Old b c → Old a c) (old-own : (a b : ℕ) → Old a b → Old b b) (new-on : (a b c : ℕ) → New a b → New b c → New a c)
    (to : (x : ℕ) → Live x → Old x x → Other x ⊎ ((y : ℕ) × Other y × Old x y × New x y × (y < x))) (from : (x : ℕ) → Other x → Live x) where
  names-to : (m : ℕ) → NamesPiece Live Old New m → NamesPiece Other Old New m
  names-to m p = elim (to m p.live p.valued) [
    | inl here ↦ record { live = here; valued = p.valued; least = λ x l o n. p.least x (from x l) o n }
    | inr y ↦ absurd (let least = p.least y.0 (from y.0 y.1) y.2 y.3 in let lesser : y.0 < m = y.4 in omega arith)
  ]

  names-from : (m : ℕ) → NamesPiece Other Old New m → NamesPiece Live Old New m
  names-from m p = record {
    live = from m p.live;
    valued = p.valued;
    least = λ x l o n. (elim (to x l (old-own m x o)) [
      | inl here ↦ p.least x here o n
      | inr y ↦ (let least = p.least y.0 y.1 (old-on m x y.0 o y.2) (new-on m x y.0 n y.3) in let lesser : y.0 < x = y.4 in omega arith)
    ]);
  }

  pieces : (Cell : ℕ → Type 0) (p : List ℕ) → ArePieces Live Old New Cell p → ArePieces Other Old New Cell p
  pieces Cell p a = record {
    ascending = a.ascending;
    members = λ m. ((λ h. let n = (a.members m).0 h in (names-to m n.0, n.1)), λ h. (a.members m).1 (names-from m h.0, h.1));
  }

  pub relived : (rule : Meaning) (value : ℕ → Value) (d : ℕ) (r : Option Value) → IsCarried rule value Live Old New d r → IsCarried rule value Other Old New d r
  relived rule value d r a = record {
    pieces = a.pieces;
    are = pieces (New d) a.pieces a.are;
    parts = a.parts;
    even = a.even;
    each = λ at l. part (slice_index a.pieces at) (slice_index_or a.parts at None) (a.each at l);
    is = a.is;
  }
    where
      part : (m : ℕ) (v : Option Value) → Gets rule value Live Old New m v → Gets rule value Other Old New m v
      part m v g = record { pieces = g.pieces; are = pieces (Old m) g.pieces g.are; at = g.at; within = g.within; named = g.named; is = g.is }
