-- A cell that is an old one keeps its value, or its want of one.
use Rattle.std.proofs.Common.{ℕ, zero, suc, ◌≡◌, ◌⊎◌, ◌↔◌, ◌≤◌, ◌<◌, inl, inr, refl, sym, ap, subst, ◌∙◌, List, [], ◌∷◌, length, Contains, slice_index, slice_index_or, Option, Some, None, arith}
use Rattle.map_defs.specs.Values.{Value, Meaning}
use Rattle.map_defs.specs.Carry.{merged_all, NamesPiece, ArePieces, Gets, IsCarried}
use Rattle.value_laws.proofs.Rising.{held_case, held_first, held_none, rising_alone, has_least}

-- the new cell of d is an old one: all its darts live, and New is one cell
pub record IsKeptCell (Live : ℕ → Type 0) (New : ℕ → ℕ → Type 0) (d : ℕ) : Type 0 where
  pub own : New d d
  pub live : (x : ℕ) → New d x → Live x
  pub among : (m x : ℕ) → New d m → New m x ↔ New d x

module _ (rule : Meaning) (value : ℕ → Value) (Live : ℕ → Type 0) (Old New : ℕ → ℕ → Type 0) (d : ℕ) (c : IsKeptCell Live New d) where
  -- without a value there is no piece
  pub stays_without : ((x : ℕ) → New d x → Old x x → ⊥) → (r : Option Value) → IsCarried rule value Live Old New d r → r ≡ None
  stays_without none r a = go a.pieces a.parts a.even a.are a.is
    where
      go : (p : List ℕ) (q : List (Option Value)) → length q ≡ length p → ArePieces Live Old New (New d) p → r ≡ merged_all rule.merged None q → r ≡ None
      go [] [] e are is = is
      go [] (v ∷ q) e are is = absurd (omega arith)
      go (m ∷ p) q e are is = let h = (are.members m).0 (held_first m p) in let n : NamesPiece Live Old New m = h.0 in absurd (none m h.1 n.valued)

  module _ (valued : (m x : ℕ) → New d m → Live x → Old m x ↔ New d x) where
    -- the least dart of the cell names its one piece
    names_least : (m : ℕ) → New d m → ((x : ℕ) → New d x → m ≤ x) → NamesPiece Live Old New m
    names_least m h least = record { live = c.live m h; valued = (valued m m h (c.live m h)).1 h; least = λ x l o n. least x ((valued m x h l).0 o) }

    named_one : (m x : ℕ) → NamesPiece Live Old New m → New d m → NamesPiece Live Old New x → New d x → m ≡ x
    named_one m x n h p g =
        let a : m ≤ x = n.least x (c.live x g) ((valued m x h (c.live x g)).1 g) ((c.among m x h).1 g) in
        let b : x ≤ m = p.least m (c.live m h) ((valued x m g (c.live m h)).1 h) ((c.among x m g).1 h) in
        omega arith

    alone : (Cell : ℕ → Type 0) (p : List ℕ) (m : ℕ) → ArePieces Live Old New Cell p → NamesPiece Live Old New m → New d m → ((x : ℕ) → NamesPiece Live Old New x → Cell x ↔ New d x) → p ≡ m ∷ []
    alone Cell p m a n h e = rising_alone p m a.ascending (λ x. (to x, from x))
      where
        to : (x : ℕ) → Contains p x → x ≡ m
        to x k = let q = (a.members x).0 k in named_one x m q.0 ((e x q.0).0 q.1) n h

        from : (x : ℕ) → x ≡ m → Contains p x
        from x f = subst (Contains p) (sym f) ((a.members m).1 (n, (e m n).1 h))

    -- its one piece gets the whole value
    gets_whole : (m : ℕ) (v : Option Value) → NamesPiece Live Old New m → New d m → Gets rule value Live Old New m v → v ≡ rule.share (value m) 1 0
    gets_whole m v n h g = g.is ∙ (ap (λ l. rule.share (value m) (length l) g.at) same ∙ ap (rule.share (value m) 1) first)
      where
        same : g.pieces ≡ m ∷ []
        same = alone (Old m) g.pieces m g.are n h (λ x q. valued m x h q.live)

        first : g.at ≡ 0
        first = let l : g.at < 1 = subst (λ p. g.at < length p) same g.within in omega arith

    -- and so the cell keeps its value
    pub stays_with : rule.share (value d) 1 0 ≡ Some (value d) → ((m : ℕ) → New d m → value m ≡ value d) → (r : Option Value) → IsCarried rule value Live Old New d r → r ≡ Some (value d)
    stays_with whole constant r a = go a.pieces a.parts a.even a.are a.each a.is
      where
        one : (m : ℕ) (q : List (Option Value)) → length q ≡ 1 → NamesPiece Live Old New m → New d m → Gets rule value Live Old New m (slice_index_or q 0 None) → r ≡ merged_all rule.merged None q → r ≡ Some (value d)
        one m [] e n h g is = absurd (omega arith)
        one m (v ∷ []) e n h g is = is ∙ (gets_whole m v n h g ∙ (ap (λ u. rule.share u 1 0) (constant m h) ∙ whole))
        one m (v ∷ u ∷ q) e n h g is = absurd (omega arith)

        go : (p : List ℕ) (q : List (Option Value)) → length q ≡ length p → ArePieces Live Old New (New d) p → ((at : ℕ) → at < length p → Gets rule value Live Old New (slice_index p at) (slice_index_or q at None)) → r ≡ merged_all rule.merged None q → r ≡ Some (value d)
        go [] q e are each is = absurd (has_least (New d) d c.own (λ m h least. held_none m ((are.members m).1 (names_least m h least, h))))
        go (m ∷ p) q e are each is =
            let h = (are.members m).0 (held_first m p) in
            let same : m ∷ p ≡ m ∷ [] = alone (New d) (m ∷ p) m are h.0 h.1 (λ x n. ((λ k. k), λ k. k)) in
            one m q (e ∙ ap length same) h.0 h.1 (each 0 (omega arith)) is

-- And the value that it keeps is the one that the definition gives it.
module _ (rule : Meaning) (value : ℕ → Value) (Live : ℕ → Type 0) (Old New : ℕ → ℕ → Type 0) (d : ℕ) (c : IsKeptCell Live New d) where
  pub without_is_carried : ((x : ℕ) → New d x → Old x x → ⊥) → IsCarried rule value Live Old New d None
  without_is_carried none = record {
    pieces = [];
    are = record { ascending = λ k h. absurd (omega arith); members = λ m. ((λ h. absurd (held_none m h)), λ h. absurd (let n : NamesPiece Live Old New m = h.0 in none m h.1 n.valued)) };
    parts = [];
    even = refl;
    each = λ at h. absurd (omega arith);
    is = refl;
  }

  module _ (valued : (m x : ℕ) → New d m → Live x → Old m x ↔ New d x) (whole : rule.share (value d) 1 0 ≡ Some (value d)) (constant : (m : ℕ) → New d m → value m ≡ value d)
      (m : ℕ) (inside : New d m) (least : (x : ℕ) → New d x → m ≤ x) where
    one_piece : (Cell : ℕ → Type 0) → ((x : ℕ) → NamesPiece Live Old New x → Cell x ↔ New d x) → ArePieces Live Old New Cell (m ∷ [])
    one_piece Cell e = record { ascending = λ k h. absurd (omega arith); members = λ x. (to x, from x) }
      where
        named : NamesPiece Live Old New m
        named = names_least rule value Live Old New d c valued m inside least

        to : (x : ℕ) → Contains (m ∷ []) x → NamesPiece Live Old New x × Cell x
        to x h = at (held_case m [] x h)
          where
            at : (m ≡ x) ⊎ Contains [] x → NamesPiece Live Old New x × Cell x
            at (inl f) = subst (λ z. NamesPiece Live Old New z × Cell z) f (named, (e m named).1 inside)
            at (inr g) = absurd (held_none x g)

        from : (x : ℕ) → NamesPiece Live Old New x × Cell x → Contains (m ∷ []) x
        from x h = let n : NamesPiece Live Old New x = h.0 in subst (Contains (m ∷ [])) (named_one rule value Live Old New d c valued m x named inside n ((e x n).0 h.1)) (held_first m [])

    piece_gets : Gets rule value Live Old New m (Some (value d))
    piece_gets = record {
      pieces = m ∷ [];
      are = one_piece (Old m) (λ x n. valued m x inside n.live);
      at = 0;
      within = omega arith;
      named = refl;
      is = sym (ap (λ u. rule.share u 1 0) (constant m inside) ∙ whole);
    }

    pub with_is_carried : IsCarried rule value Live Old New d (Some (value d))
    with_is_carried = record {
      pieces = m ∷ [];
      are = one_piece (New d) (λ x n. ((λ k. k), λ k. k));
      parts = Some (value d) ∷ [];
      even = refl;
      each = each;
      is = refl;
    }
      where
        each : (at : ℕ) → at < 1 → Gets rule value Live Old New (slice_index (m ∷ []) at) (slice_index_or (Some (value d) ∷ []) at None)
        each zero h = piece_gets
        each (suc at) h = absurd (omega arith)
