-- Values carried by pieces: each new cell gets one value, and the names of the old cells do not matter.
use Rattle.std.proofs.Common.{ℕ, ◌≡◌, ◌↔◌, ◌<◌, sym, ap, subst, ◌∙◌, List, length, Contains, slice_index, slice_index_or, Option, None, ext_get_or}
use Rattle.map_defs.specs.Values.{Value, Meaning}
use Rattle.map_defs.specs.Carry.{merged_all, NamesPiece, ArePieces, Gets, IsCarried}
use Rattle.value_laws.proofs.Rising.{rising_one, rising_place}

-- the pieces of a cell are one list
pub pieces_one : (Live : ℕ → Type 0) (Old New : ℕ → ℕ → Type 0) (Cell Other : ℕ → Type 0) (p q : List ℕ) → ArePieces Live Old New Cell p → ArePieces Live Old New Other q
    → ((m : ℕ) → NamesPiece Live Old New m → Cell m ↔ Other m) → p ≡ q
pieces_one Live Old New Cell Other p q a b e = rising_one p q a.ascending b.ascending (λ m. (to m, from m))
  where
    to : (m : ℕ) → Contains p m → Contains q m
    to m h = let n = (a.members m).0 h in (b.members m).1 (n.0, (e m n.0).0 n.1)

    from : (m : ℕ) → Contains q m → Contains p m
    from m h = let n = (b.members m).0 h in (a.members m).1 (n.0, (e m n.0).1 n.1)

module _ (rule : Meaning) (value : ℕ → Value) (Live : ℕ → Type 0) (Old New : ℕ → ℕ → Type 0) where
  -- a piece gets one part
  pub gets_one : (m : ℕ) (u v : Option Value) → Gets rule value Live Old New m u → Gets rule value Live Old New m v → u ≡ v
  gets_one m u v g h = g.is ∙ (share_same ∙ sym h.is)
    where
      same : g.pieces ≡ h.pieces
      same = pieces_one Live Old New (Old m) (Old m) g.pieces h.pieces g.are h.are (λ x n. ((λ a. a), λ a. a))

      place : g.at ≡ h.at
      place = rising_place h.pieces h.are.ascending g.at h.at (subst (λ l. g.at < length l) same g.within) h.within (ap (λ l. slice_index l g.at) (sym same) ∙ (g.named ∙ sym h.named))

      share_same : rule.share (value m) (length g.pieces) g.at ≡ rule.share (value m) (length h.pieces) h.at
      share_same = ap (λ l. rule.share (value m) (length l) g.at) same ∙ ap (rule.share (value m) (length h.pieces)) place

  -- two darts of one new cell get one value
  pub carried_one : (d e : ℕ) (r s : Option Value) → ((m : ℕ) → New d m ↔ New e m) → IsCarried rule value Live Old New d r → IsCarried rule value Live Old New e s → r ≡ s
  carried_one d e r s alike a b = a.is ∙ (ap (merged_all rule.merged None) parts ∙ sym b.is)
    where
      same : a.pieces ≡ b.pieces
      same = pieces_one Live Old New (New d) (New e) a.pieces b.pieces a.are b.are (λ m n. alike m)

      each : (at : ℕ) → at < length a.parts → slice_index_or a.parts at None ≡ slice_index_or b.parts at None
      each at h =
          let l : at < length a.pieces = subst (λ n. at < n) a.even h in
          gets_one (slice_index b.pieces at) (slice_index_or a.parts at None) (slice_index_or b.parts at None)
          (subst (λ p. Gets rule value Live Old New (slice_index p at) (slice_index_or a.parts at None)) same (a.each at l))
          (b.each at (subst (λ p. at < length p) same l))

      parts : a.parts ≡ b.parts
      parts = ext_get_or None a.parts b.parts (a.even ∙ (ap length same ∙ sym b.even)) each
