-- The names of old cells do not matter, and what the value of a dart without a value is said to be.
use Rattle.std.proofs.Common.{ℕ, ◌≡◌, ◌↔◌, ap, ◌∙◌, List, length, slice_index, slice_index_or, Option, None}
use Rattle.std.proofs.lemmas.List.Elements.{Contains-get_or}
use Rattle.map_defs.specs.Values.{Value, Meaning}
use Rattle.map_defs.specs.Carry.{NamesPiece, ArePieces, Gets, IsCarried}

-- on the darts that live, two accounts of the old valued cells say the same
abbrev pub AreSameCells : (ℕ → Type 0) → (ℕ → ℕ → Type 0) → (ℕ → ℕ → Type 0) → Type 0
AreSameCells Live Old Other = (x y : ℕ) → Live x → Live y → Old x y ↔ Other x y

module _ (Live : ℕ → Type 0) (Old Other New : ℕ → ℕ → Type 0) (e : (x y : ℕ) → Live x → Live y → Old x y ↔ Other x y) where
  names_to : (m : ℕ) → NamesPiece Live Old New m → NamesPiece Live Other New m
  names_to m p = record { live = p.live; valued = (e m m p.live p.live).0 p.valued; least = λ x l o n. p.least x l ((e m x p.live l).1 o) n }

  names_from : (m : ℕ) → NamesPiece Live Other New m → NamesPiece Live Old New m
  names_from m p = record { live = p.live; valued = (e m m p.live p.live).1 p.valued; least = λ x l o n. p.least x l ((e m x p.live l).0 o) n }

  cell_pieces : (Cell : ℕ → Type 0) (p : List ℕ) → ArePieces Live Old New Cell p → ArePieces Live Other New Cell p
  cell_pieces Cell p a = record {
    ascending = a.ascending;
    members = λ m. ((λ h. let n = (a.members m).0 h in (names_to m n.0, n.1)), λ h. (a.members m).1 (names_from m h.0, h.1));
  }

  own_pieces : (d : ℕ) → Live d → (p : List ℕ) → ArePieces Live Old New (Old d) p → ArePieces Live Other New (Other d) p
  own_pieces d l p a = record {
    ascending = a.ascending;
    members = λ m. ((λ h. let n = (a.members m).0 h in let q : NamesPiece Live Old New m = n.0 in (names_to m q, (e d m l q.live).0 n.1)), λ h. let q : NamesPiece Live Other New m = h.0 in (a.members m).1 (names_from m q, (e d m l q.live).1 h.1));
  }

  module _ (rule : Meaning) (value other : ℕ → Value) (v : (m : ℕ) → Live m → Old m m → value m ≡ other m) where
    renamed_gets : (m : ℕ) (part : Option Value) → NamesPiece Live Old New m → Gets rule value Live Old New m part → Gets rule other Live Other New m part
    renamed_gets m part n g = record {
      pieces = g.pieces;
      are = own_pieces m n.live g.pieces g.are;
      at = g.at;
      within = g.within;
      named = g.named;
      is = g.is ∙ ap (λ z. rule.share z (length g.pieces) g.at) (v m n.live n.valued);
    }

    pub renamed : (d : ℕ) (r : Option Value) → IsCarried rule value Live Old New d r → IsCarried rule other Live Other New d r
    renamed d r a = record {
      pieces = a.pieces;
      are = cell_pieces (New d) a.pieces a.are;
      parts = a.parts;
      even = a.even;
      each = λ at l. renamed_gets (slice_index a.pieces at) (slice_index_or a.parts at None) ((a.are.members (slice_index a.pieces at)).0 (Contains-get_or a.pieces at 0 l)).0 (a.each at l);
      is = a.is;
    }
