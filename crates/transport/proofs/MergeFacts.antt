-- The values of cells, as they are merged from one piece after the other.
use Rattle.std.proofs.Common.{◌≡◌, ◌≢◌, ◌⊎◌, inl, inr, ℕ, suc, ◌+◌, ◌<◌, List, [], ◌∷◌, ◌++◌, length, get_or, set, true, false, Option, Some, None, nat_eq, cond, refl, sym, ◌∙◌, ap, subst, arith, add-one, length-set, get_or-set_other, get_or-set_same}
use Rattle.std.proofs.lemmas.List.{get_or_default}
use Rattle.map_defs.specs.Values.{Value, Meaning}
use Rattle.map_defs.specs.Carry.{merged_with, merged_all, known}
use Rattle.store_defs.specs.Stores.{Store, value_of}
use Rattle.store_defs.specs.Groups.{Group, no_group, group_at}
use Rattle.transport.specs.Pieces.{no_piece, piece_at, picked, count_below, has_id, lies_in, part_at, merged_before, IsPieceMerged, AreMerged}
use Rattle.transport.specs.declared.pieces.Piece.{Piece}
use Rattle.transport.proofs.Gathering.{told_eq}
use Rattle.transport.proofs.Picking.{picked_yes, picked_no, count_passed}

merged_last : (f : Value → Value → Value) (sofar : Option Value) (parts : List (Option Value)) (v : Option Value) → merged_all f sofar (parts ++ v ∷ []) ≡ merged_with f (merged_all f sofar parts) v
merged_last f sofar [] v = refl
merged_last f sofar (u ∷ parts) v = merged_last f (merged_with f sofar u) parts v

-- a group after one was written
group_set : (gs : List Group) (n m : ℕ) (g : Group) → n < length gs → ((m ≡ n) × (group_at (set gs n g) m ≡ g)) ⊎ ((m ≢ n) × (group_at (set gs n g) m ≡ group_at gs m))
group_set gs n m g h = elim (told_eq m n) [
  | inl p ↦ inl (p.0, (let e = p.0 in rw (e, get_or-set_same) refl))
  | inr p ↦ inr (p.0, get_or-set_other gs n m g no_group p.0)
]

module _ (rule : Meaning) (pool : Store) (pieces : List Piece) where
  -- the piece at a place, as it is read
  pub read_piece : (k : ℕ) (p : Piece) → k < length pieces → p ≡ get_or pieces k p → p ≡ piece_at pieces k
  read_piece k p h e = e ∙ get_or_default pieces k p no_piece h

  pub part_of : (k : ℕ) (p : Piece) (v : Value) (total before : ℕ) (part : Option Value) → p ≡ piece_at pieces k → value_of pool p.id ≡ Some v
      → total ≡ count_below (has_id pieces p.id) (length pieces) → before ≡ count_below (has_id pieces p.id) k → part ≡ rule.share v total before → part ≡ part_at rule pool pieces k
  part_of k p v total before part e has t b is =
      is ∙ (ap (λ w. rule.share w total before) (sym (ap known has))
      ∙ (ap (λ w. rule.share (known (value_of pool p.id)) w before) t
      ∙ (ap (λ w. rule.share (known (value_of pool p.id)) (count_below (has_id pieces p.id) (length pieces)) w) b
      ∙ ap (λ (q : Piece). rule.share (known (value_of pool q.id)) (count_below (has_id pieces q.id) (length pieces)) (count_below (has_id pieces q.id) k)) e)))

  pub merged_more : (k : ℕ) (old new : List Group) (p : Piece) (part : Option Value) (g : Group) → AreMerged rule pool pieces k old new → p ≡ piece_at pieces k → p.cell < length old
      → part ≡ part_at rule pool pieces k → g.dim ≡ (group_at new p.cell).dim → g.darts ≡ (group_at new p.cell).darts → g.value ≡ merged_with rule.merged (group_at new p.cell).value part
      → AreMerged rule pool pieces (k + 1) old (set new p.cell g)
  merged_more k old new p part g m e placed is dim darts value = record {
    size = length-set new p.cell g ∙ m.size;
    dims = λ n. elim (group_set new p.cell n g within) [ inl q ↦ ap (λ h. h.dim) q.1 ∙ dim ∙ m.dims p.cell ∙ ap (λ c. (group_at old c).dim) (sym q.0) | inr q ↦ ap (λ h. h.dim) q.1 ∙ m.dims n ];
    darts = λ n. elim (group_set new p.cell n g within) [ inl q ↦ ap (λ h. h.darts) q.1 ∙ darts ∙ m.darts p.cell ∙ ap (λ c. (group_at old c).darts) (sym q.0) | inr q ↦ ap (λ h. h.darts) q.1 ∙ m.darts n ];
    values = λ n h. elim (group_set new p.cell n g within) [ inl q ↦ ap (λ h. h.value) q.1 ∙ here n q.0 | inr q ↦ ap (λ h. h.value) q.1 ∙ (m.values n h ∙ other n q.0) ];
  }
    where
      within : p.cell < length new
      within = let s = m.size in omega arith

      cell : p.cell ≡ (piece_at pieces k).cell
      cell = ap (λ q. q.cell) e

      next : (n : ℕ) → merged_before rule pool pieces (suc k) n ≡ merged_before rule pool pieces (k + 1) n
      next n = ap (λ j. merged_before rule pool pieces j n) (sym (add-one k))

      here : (n : ℕ) → n ≡ p.cell → g.value ≡ merged_before rule pool pieces (k + 1) n
      here n s =
          let in_it : lies_in pieces n k ≡ true = elim (told_eq (piece_at pieces k).cell n) [ inl t ↦ t.1 | inr t ↦ absurd (t.0 (sym cell ∙ sym s)) ] in
          value
          ∙ (ap (λ v. merged_with rule.merged v part) (m.values p.cell placed)
          ∙ (ap (merged_with rule.merged (merged_before rule pool pieces k p.cell)) is
          ∙ (ap (λ c. merged_with rule.merged (merged_before rule pool pieces k c) (part_at rule pool pieces k)) (sym s)
          ∙ (sym (merged_last rule.merged None (picked (lies_in pieces n) (part_at rule pool pieces) k) (part_at rule pool pieces k))
          ∙ (ap (merged_all rule.merged None) (sym (picked_yes (lies_in pieces n) (part_at rule pool pieces) k in_it))
          ∙ next n)))))

      other : (n : ℕ) → n ≢ p.cell → merged_before rule pool pieces k n ≡ merged_before rule pool pieces (k + 1) n
      other n s =
          let out : lies_in pieces n k ≡ false = elim (told_eq (piece_at pieces k).cell n) [ inl t ↦ absurd (s (sym t.0 ∙ sym cell)) | inr t ↦ t.1 ] in
          ap (merged_all rule.merged None) (sym (picked_no (lies_in pieces n) (part_at rule pool pieces) k out)) ∙ next n

  -- the cells after one more piece, by what is said of that piece alone
  pub merged_step : (k : ℕ) (old new after : List Group) (p : Piece) (total before : ℕ) → AreMerged rule pool pieces k old new → p ≡ piece_at pieces k → p.cell < length old
      → total ≡ count_below (has_id pieces p.id) (length pieces) → before ≡ count_below (has_id pieces p.id) k → IsPieceMerged rule pool p total before new after → AreMerged rule pool pieces (k + 1) old after
  merged_step k old new after p total before m e placed t b step =
      subst (AreMerged rule pool pieces (k + 1) old) (sym step.at)
      (merged_more k old new p (rule.share step.value total before) step.cell m e placed (part_of k p step.value total before (rule.share step.value total before) e step.held t b refl) step.dim step.darts step.merged)

  -- a piece is counted among all with its id, and not among those before it
  pub before_all : (k : ℕ) (p : Piece) (total before : ℕ) → p ≡ piece_at pieces k → k < length pieces → total ≡ count_below (has_id pieces p.id) (length pieces) → before ≡ count_below (has_id pieces p.id) k → before < total
  before_all k p total before e within t b =
      let has : has_id pieces p.id k ≡ true = elim (told_eq (piece_at pieces k).id p.id) [ inl h ↦ h.1 | inr h ↦ absurd (h.0 (sym (ap (λ q. q.id) e))) ] in
      let less = count_passed (has_id pieces p.id) k (length pieces) has within in
      omega arith

  pub counted_more : (k : ℕ) (p : Piece) (id count : ℕ) → p ≡ piece_at pieces k → count ≡ count_below (has_id pieces id) k → cond (nat_eq p.id id) (count + 1) count ≡ count_below (has_id pieces id) (k + 1)
  counted_more k p id count e so =
      ap (λ c. cond (nat_eq p.id id) (c + 1) c) so
      ∙ (ap (λ (q : Piece). cond (nat_eq q.id id) (count_below (has_id pieces id) k + 1) (count_below (has_id pieces id) k)) e
      ∙ ap (count_below (has_id pieces id)) (sym (add-one k)))

  pub tally_more : (k : ℕ) (p : Piece) (before after : ℕ → ℕ) → p ≡ piece_at pieces k → ((id : ℕ) → before id ≡ count_below (has_id pieces id) k)
      → ((id : ℕ) → after id ≡ cond (nat_eq p.id id) (before id + 1) (before id)) → (id : ℕ) → after id ≡ count_below (has_id pieces id) (k + 1)
  tally_more k p before after e so is id = is id ∙ counted_more k p id (before id) e (so id)
