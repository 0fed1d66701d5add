-- The pieces, as they are gathered from one dart after the other and sorted by their darts.
use Rattle.std.proofs.Common.{◌≡◌, ◌≢◌, ◌⊎◌, inl, inr, ℕ, ◌+◌, ◌<◌, ◌≤◌, List, [], ◌∷◌, ◌++◌, length, get_or, slice_index, true, false, Option, Some, None, Contains, nat_eq, IsPermutation, refl, sym, ◌∙◌, ap, subst, arith}
use Rattle.std.specs.List.Sorted.{IsNonDecreasingBy}
use Rattle.std.proofs.lemmas.List.{get_or_default}
use Rattle.store_defs.specs.Groups.{Group, no_group, group_at}
use Rattle.transport.specs.Pieces.{no_piece, piece_at, IsPiece, AreAllPieces}
use Rattle.transport.specs.Gathered.{AreApart, HasPiece, AreGathered, IsMet, IsPieceAdded}
use Rattle.transport.specs.declared.pieces.Piece.{Piece}
use Rattle.transport.proofs.Lists.{at_front, at_back, one_more, back_or_front, each_pushed, each_moved, some_moved, rising_by_key, distinct_by_key, held_at, place_of, rises_at_most}

-- a dart of a cell, as it is read
pub read_dart : (cells : List Group) (n t d : ℕ) (g : Group) (darts : List ℕ) → n < length cells → g ≡ get_or cells n g → darts ≡ g.darts → t < length darts → d ≡ get_or darts t d
    → (t < length (group_at cells n).darts) × (d ≡ slice_index (group_at cells n).darts t)
read_dart cells n t d g darts low at are within is = (
  subst (λ l. t < length l) same within,
  is ∙ get_or_default darts t d 0 within ∙ ap (λ l. slice_index l t) same,
)
  where
    same : darts ≡ (group_at cells n).darts
    same = are ∙ ap (λ c. c.darts) (at ∙ get_or_default cells n g no_group low)

pub told_eq : (a b : ℕ) → ((a ≡ b) × (nat_eq a b ≡ true)) ⊎ ((a ≢ b) × (nat_eq a b ≡ false))
told_eq a b = grind arith

module _ (label : ℕ → Option ℕ) (cells : List Group) where
  last_or_before : (j t : ℕ) → j < t + 1 → (j < t) ⊎ (j ≡ t)
  last_or_before j t h = grind arith

  module _ (apart : AreApart cells) (n t d : ℕ) (low : n < length cells) (within : t < length (group_at cells n).darts) (is : d ≡ slice_index (group_at cells n).darts t) where
    -- the darts looked at are those before, and d
    passed_case : (m j : ℕ) → (m < n) ⊎ ((m ≡ n) × (j < t + 1)) → ((m < n) ⊎ ((m ≡ n) × (j < t))) ⊎ ((m ≡ n) × (j ≡ t))
    passed_case m j (inl l) = inl (inl l)
    passed_case m j (inr (e, h)) = elim (last_or_before j t h) [ inl l ↦ inl (inr (e, l)) | inr l ↦ inr (e, l) ]

    -- the label of d, as it is read at its place
    read_label : (m j : ℕ) (o : Option ℕ) → (m ≡ n) × (j ≡ t) → label (slice_index (group_at cells m).darts j) ≡ o → label d ≡ o
    read_label m j o (e, f) h =
        ap label (is ∙ ap (λ i. slice_index (group_at cells n).darts i) (sym f) ∙ ap (λ c. slice_index (group_at cells c).darts j) (sym e)) ∙ h

    -- no piece is wanted for the dart
    added_none : (met after : ℕ → Option ℕ) (old new : List Piece) → AreGathered label cells n t met old → ((id : ℕ) → label d ≡ Some id → HasPiece old n id) → ((id : ℕ) → after id ≡ met id) → new ≡ old → AreGathered label cells n (t + 1) after new
    added_none met after old new g there same kept = subst (AreGathered label cells n (t + 1) after) (sym kept) (record {
      sound = g.sound;
      passed = λ m j id h w c e. elim (passed_case m j c) [ inl s ↦ g.passed m j id h w s e | inr s ↦ subst (λ i. HasPiece old i id) (sym s.0) (there id (read_label m j (Some id) s e)) ];
      last = λ id e. g.last id (sym (same id) ∙ e);
      known = λ k h e. same (piece_at old k).id ∙ g.known k h e;
      low = g.low;
      apart = g.apart;
    })

    module _ (id : ℕ) (labelled : label d ≡ Some id) (met after : ℕ → Option ℕ) (meets : IsMet n id met after) where
      met_here : after id ≡ Some n
      met_here = elim (told_eq id id) [ inl p ↦ rw p.1 at (meets.is id) | inr p ↦ absurd (p.0 refl) ]

      -- what was met before is met, and what is met now
      met_still : (other : ℕ) → met other ≡ Some n → after other ≡ Some n
      met_still other e = elim (told_eq id other) [ inl p ↦ rw p.1 at (meets.is other) | inr p ↦ rw p.1 at (meets.is other) ∙ e ]

      met_case : (other m : ℕ) → after other ≡ Some m → ((id ≡ other) × (m ≡ n)) ⊎ (met other ≡ Some m)
      met_case other m e = elim (told_eq id other) [
        | inl p ↦ (let f : after other ≡ Some n = rw p.1 at (meets.is other) in inl (p.0, (let s : Some m ≡ Some n = sym e ∙ f in cc)))
        | inr p ↦ (let f : after other ≡ met other = rw p.1 at (meets.is other) in inr (sym f ∙ e))
      ]

      -- its id was met last in its cell
      added_again : (old new : List Piece) → AreGathered label cells n t met old → met id ≡ Some n → new ≡ old → AreGathered label cells n (t + 1) after new
      added_again old new g again kept = subst (AreGathered label cells n (t + 1) after) (sym kept) (record {
        sound = g.sound;
        passed = λ m j o h w c e. elim (passed_case m j c) [ inl s ↦ g.passed m j o h w s e | inr s ↦ here m j o s e ];
        last = λ o e. elim (met_case o n e) [ inl p ↦ subst (HasPiece old n) p.0 (g.last id again) | inr f ↦ g.last o f ];
        known = λ k h e. met_still (piece_at old k).id (g.known k h e);
        low = g.low;
        apart = g.apart;
      })
        where
          here : (m j o : ℕ) → (m ≡ n) × (j ≡ t) → label (slice_index (group_at cells m).darts j) ≡ Some o → HasPiece old m o
          here m j o s e =
              let f = read_label m j (Some o) s e in
              let same : id ≡ o = cc in
              subst (λ c. HasPiece old c o) (sym s.0) (subst (HasPiece old n) same (g.last id again))

      -- it is the first with its id in its cell
      module _ (old : List Piece) (g : AreGathered label cells n t met old) (fresh : met id ≡ Some n → ⊥) where
        piece : Piece
        piece = record { dart = d; id = id; cell = n }

        grown : List Piece
        grown = old ++ (record { dart = d; id = id; cell = n }) ∷ []

        inside : Contains (group_at cells n).darts d
        inside = subst (Contains (group_at cells n).darts) (sym is) (held_at (group_at cells n).darts t within)

        unmet : HasPiece old n id → ⊥
        unmet (k, h, c, e) = fresh (subst (λ o. met o ≡ Some n) e (g.known k h c))

        least : (x : ℕ) → Contains (group_at cells n).darts x → label x ≡ Some id → d ≤ x
        least x h e = go (place_of (group_at cells n).darts x h)
          where
            case : (j : ℕ) → (j < t) ⊎ (t ≤ j)
            case j = grind arith

            go : (j : ℕ) × (j < length (group_at cells n).darts) × (slice_index (group_at cells n).darts j ≡ x) → d ≤ x
            go (j, l, f) = elim (case j) [
              | inl s ↦ absurd (unmet (g.passed n j id low l (inr (refl, s)) (ap label f ∙ e)))
              | inr s ↦ (let r = rises_at_most (group_at cells n).darts (apart.ascending n low) t j s l in omega arith)
            ]

        is_piece : IsPiece label cells (record { dart = d; id = id; cell = n })
        is_piece = record { placed = low; inside = inside; labelled = labelled; least = least }

        has_still : (m o : ℕ) → HasPiece old m o → HasPiece (old ++ (record { dart = d; id = id; cell = n }) ∷ []) m o
        has_still m o (k, h, c, e) =
            let f = at_front no_piece old (record { dart = d; id = id; cell = n }) k h in
            (k, omega (arith, one_more no_piece old (record { dart = d; id = id; cell = n })), ap (λ p. p.cell) f ∙ c, ap (λ p. p.id) f ∙ e)

        has_here : HasPiece (old ++ (record { dart = d; id = id; cell = n }) ∷ []) n id
        has_here =
            let f = at_back no_piece old (record { dart = d; id = id; cell = n }) in
            (length old, omega (arith, one_more no_piece old (record { dart = d; id = id; cell = n })), ap (λ p. p.cell) f, ap (λ p. p.id) f)

        other_dart : (j : ℕ) → j < length old → (piece_at old j).dart ≢ d
        other_dart j h e =
            let p = g.sound j h in
            let c : (piece_at old j).cell ≡ n = apart.one (piece_at old j).cell n d p.placed low (subst (Contains (group_at cells (piece_at old j).cell).darts) e p.inside) inside in
            let f : label d ≡ Some (piece_at old j).id = subst (λ x. label x ≡ Some (piece_at old j).id) e p.labelled in
            let same : (piece_at old j).id ≡ id = cc in
            unmet (j, h, c, same)

        added_fresh : AreGathered label cells n (t + 1) after (old ++ (record { dart = d; id = id; cell = n }) ∷ [])
        added_fresh = record {
          sound = each_pushed no_piece (IsPiece label cells) old (record { dart = d; id = id; cell = n }) g.sound is_piece;
          passed = λ m j o h w c e. elim (passed_case m j c) [ inl s ↦ has_still m o (g.passed m j o h w s e) | inr s ↦ here m j o s e ];
          last = λ o e. elim (met_case o n e) [ inl p ↦ subst (HasPiece (old ++ (record { dart = d; id = id; cell = n }) ∷ []) n) p.0 has_here | inr f ↦ has_still n o (g.last o f) ];
          known = each_pushed no_piece (λ p. p.cell ≡ n → after p.id ≡ Some n) old (record { dart = d; id = id; cell = n }) (λ k h e. met_still (piece_at old k).id (g.known k h e)) (λ e. met_here);
          low = each_pushed no_piece (λ p. p.cell ≤ n) old (record { dart = d; id = id; cell = n }) g.low (omega arith);
          apart = differ;
        }
          where
            here : (m j o : ℕ) → (m ≡ n) × (j ≡ t) → label (slice_index (group_at cells m).darts j) ≡ Some o → HasPiece (old ++ (record { dart = d; id = id; cell = n }) ∷ []) m o
            here m j o s e =
                let f = read_label m j (Some o) s e in
                let same : id ≡ o = cc in
                subst (λ c. HasPiece (old ++ (record { dart = d; id = id; cell = n }) ∷ []) c o) (sym s.0) (subst (HasPiece (old ++ (record { dart = d; id = id; cell = n }) ∷ []) n) same has_here)

            differ : (j k : ℕ) → j < k → k < length (old ++ (record { dart = d; id = id; cell = n }) ∷ []) → (piece_at (old ++ (record { dart = d; id = id; cell = n }) ∷ []) j).dart ≢ (piece_at (old ++ (record { dart = d; id = id; cell = n }) ∷ []) k).dart
            differ j k l h = elim (back_or_front no_piece old (record { dart = d; id = id; cell = n }) k h) [
              | inl s ↦ (let j' : j < length old = omega arith in rw (at_front no_piece old (record { dart = d; id = id; cell = n }) j j', at_front no_piece old (record { dart = d; id = id; cell = n }) k s) (g.apart j k l s))
              | inr s ↦ (let j' : j < length old = omega arith in rw (s, at_front no_piece old (record { dart = d; id = id; cell = n }) j j', at_back no_piece old (record { dart = d; id = id; cell = n })) (other_dart j j'))
            ]

    pub gathered_more : (met after : ℕ → Option ℕ) (old new : List Piece) → AreGathered label cells n t met old → IsPieceAdded label n d met after old new → AreGathered label cells n (t + 1) after new
    gathered_more met after old new g (inl (there, same, kept)) = added_none met after old new g there same kept
    gathered_more met after old new g (inr (id, labelled, meets, inl (again, kept))) = added_again id labelled met after meets old new g again kept
    gathered_more met after old new g (inr (id, labelled, meets, inr (fresh, pushed))) = subst (AreGathered label cells n (t + 1) after) (sym pushed) (added_fresh id labelled met after meets old g fresh)

  -- from one cell to the next, when what was met is forgotten
  pub gathered_next : (n t : ℕ) (met forgotten : ℕ → Option ℕ) (pieces : List Piece) → length (group_at cells n).darts ≤ t → AreGathered label cells n t met pieces → ((id : ℕ) → forgotten id ≡ None) → AreGathered label cells (n + 1) 0 forgotten pieces
  gathered_next n t met forgotten pieces past g none = record {
    sound = g.sound;
    passed = λ m j id h w c e. g.passed m j id h w (case m j w c) e;
    last = λ id e. absurd (let f = none id in cc);
    known = λ k h e. absurd (let b = g.low k h in omega arith);
    low = λ k h. let b = g.low k h in omega arith;
    apart = g.apart;
  }
    where
      case : (m j : ℕ) → j < length (group_at cells m).darts → (m < n + 1) ⊎ ((m ≡ n + 1) × (j < 0)) → (m < n) ⊎ ((m ≡ n) × (j < t))
      case m j w (inl l) = elim (last_or_before m n l) [ inl s ↦ inl s | inr s ↦ inr (s, (let e = ap (λ c. length (group_at cells c).darts) s in omega arith)) ]
      case m j w (inr l) = absurd (let s = l.1 in omega arith)

  -- when all cells are looked at
  pub gathered_sorted : (n : ℕ) (met : ℕ → Option ℕ) (pieces sorted : List Piece) → length cells ≤ n → AreGathered label cells n 0 met pieces → IsPermutation pieces sorted → IsNonDecreasingBy (λ (p : Piece). p.dart) sorted → AreAllPieces label cells sorted
  gathered_sorted n met pieces sorted all g moved up = record {
    sound = each_moved no_piece (IsPiece label cells) pieces sorted moved g.sound;
    whole = whole;
    rising = rising_by_key no_piece (λ (p : Piece). p.dart) pieces sorted (distinct_by_key no_piece (λ (p : Piece). p.dart) pieces g.apart) moved up;
  }
    where
      whole : (m x id : ℕ) → m < length cells → Contains (group_at cells m).darts x → label x ≡ Some id → HasPiece sorted m id
      whole m x id h c e =
          let p = place_of (group_at cells m).darts x c in
          let q = g.passed m p.0 id h p.1 (inl (omega arith)) (ap label p.2 ∙ e) in
          let r = some_moved no_piece (λ p. (p.cell ≡ m) × (p.id ≡ id)) pieces sorted moved q.0 q.1 (q.2, q.3) in
          (r.0, r.1, r.2.0, r.2.1)
