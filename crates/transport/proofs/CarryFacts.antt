-- The pieces of the touched cells are the pieces of the definition, and so are the values merged from them.
use Rattle.std.proofs.Common.{◌≡◌, ◌⊎◌, inl, inr, ℕ, zero, suc, ◌-◌, ◌<◌, ◌≤◌, List, [], ◌∷◌, length, slice_index, get_or, true, Option, Some, None, Contains, refl, sym, ◌∙◌, ap, subst, arith}
use Rattle.std.proofs.lemmas.Bool.{false≢true}
use Rattle.map_defs.specs.Kind.{Kind}
use Rattle.map_defs.specs.LinkWords.{through_second}
use Rattle.map_defs.specs.Rows.{Rows, links_of, IsLive, IsSound}
use Rattle.map_defs.specs.Cells.{InCell, here, onward}
use Rattle.dart_arena.proofs.RowLemmas.{some-within}
use Rattle.map_defs.specs.Values.{Meaning}
use Rattle.map_defs.specs.Touched.{IsAlike, IsWhole}
use Rattle.map_defs.specs.Carry.{known, NamesPiece, ArePieces, Gets, IsCarried}
use Rattle.value_laws.proofs.Rising.{held_case, held_first, held_later, held_none}
use Rattle.store_defs.specs.Stores.{Store, value_of}
use Rattle.store_defs.specs.Groups.{Group, group_at, least_of, labelled_value, known_value}
use Rattle.transport.specs.Pieces.{piece_at, picked, count_below, has_id, lies_in, part_at, merged_before, IsPiece, AreBareCells, AreAllPieces}
use Rattle.transport.specs.Gathered.{AreApart}
use Rattle.transport.specs.declared.pieces.Piece.{Piece}
use Rattle.std.specs.List.Sorted.{IsStrictlyIncreasing}
use Rattle.transport.proofs.Lists.{place_of, rises_at_most}
use Rattle.transport.proofs.Finding.{AreClasses, least_in}
use Rattle.transport.proofs.Gathering.{told_eq}
use Rattle.transport.proofs.Picking.{count_passed, place_counted, picked_size, picked_at, picked_has, picked_from, picked_rises}

-- it is told whether a list holds a number
pub told_in : (xs : List ℕ) (x : ℕ) → Contains xs x ⊎ (Contains xs x → ⊥)
told_in [] x = inr (held_none x)
told_in (y ∷ xs) x = elim (told_eq y x) [
  | inl p ↦ inl (subst (Contains (y ∷ xs)) p.0 (held_first y xs))
  | inr p ↦ elim (told_in xs x) [
    | inl h ↦ inl (held_later y xs x h)
    | inr n ↦ inr (λ h. elim (held_case y xs x h) [ inl e ↦ p.0 e | inr r ↦ n r ])
  ]
]

-- some number below b, or none
pub find_below : (P : ℕ → Type 0) → ((n : ℕ) → P n ⊎ (P n → ⊥)) → (b : ℕ) → ((n : ℕ) × (n < b) × P n) ⊎ ((n : ℕ) → n < b → P n → ⊥)
find_below P told zero = inr (λ n h p. omega arith)
find_below P told (suc b) = on (find_below P told b) (told b)
  where
    last_or_before : (n : ℕ) → n < suc b → (n ≡ b) ⊎ (n < b)
    last_or_before n h = grind arith

    on : ((n : ℕ) × (n < b) × P n) ⊎ ((n : ℕ) → n < b → P n → ⊥) → P b ⊎ (P b → ⊥) → ((n : ℕ) × (n < suc b) × P n) ⊎ ((n : ℕ) → n < suc b → P n → ⊥)
    on (inl (n, h, p)) t = inl (n, omega arith, p)
    on (inr none) (inl p) = inl (b, omega arith, p)
    on (inr none) (inr no_last) = inr (λ n h p. elim (last_or_before n h) [ inl e ↦ no_last (subst P e p) | inr l ↦ none n l p ])

-- the first of ascending darts is the least
first_least : (xs : List ℕ) → IsStrictlyIncreasing xs → (x : ℕ) → Contains xs x → slice_index xs 0 ≤ x
first_least xs up x h = let p = place_of xs x h in let r = rises_at_most xs up 0 p.0 (omega arith) p.1 in let e = p.2 in omega arith

same_some : (o : Option ℕ) (a b : ℕ) → o ≡ Some a → o ≡ Some b → a ≡ b
same_some o a b p q = cc

-- the darts of a live dart's cell are live
pub cell_live : (k : Kind) (n : ℕ) (rows : Rows) → IsSound k n rows → (i d x : ℕ) → IsLive rows d → InCell k (links_of rows) i d x → IsLive rows x
cell_live k n rows sound i d x l here = l
cell_live k n rows sound i d x l (onward {x = u} {y = y} o s) = go s.0.first s.0.second s.2
  where
    linked : (j v : ℕ) → links_of rows j v ≡ y → IsLive rows y
    linked j v e = subst (IsLive rows) e (sound.live j v (λ z. s.3 (sym e ∙ z)))

    go : (f : ℕ) (t : Option ℕ) → through_second (links_of rows) t (links_of rows f u) ≡ y → IsLive rows y
    go f None e = linked f u e
    go f (Some j) e = linked j (links_of rows f u) e

-- the darts of the cells of live darts are live
pub bare_live : (k : Kind) (n : ℕ) (rows : Rows) → IsSound k n rows → (i : ℕ) (touched : List ℕ) (cells : List Group) → AreBareCells (InCell k (links_of rows) i) i touched cells
    → ((t : ℕ) → Contains touched t → IsLive rows t) → (j x : ℕ) → j < length cells → Contains (group_at cells j).darts x → IsLive rows x
bare_live k n rows sound i touched cells bare live j x h c =
    let r = (bare.each j h).reached in
    cell_live k n rows sound i r.0 x (live r.0 r.1) (((bare.each j h).whole r.0 x r.2).0 c)

-- the ids of pieces are ids of live darts
pub pieces_held : (Live : ℕ → Type 0) (label : ℕ → Option ℕ) (Held : ℕ → Type 0) (cells : List Group) (pieces : List Piece) → AreAllPieces label cells pieces
    → ((j x : ℕ) → j < length cells → Contains (group_at cells j).darts x → Live x) → ((d id : ℕ) → Live d → label d ≡ Some id → Held id) → (k : ℕ) → k < length pieces → Held (piece_at pieces k).id
pieces_held Live label Held cells pieces all live held k h =
    let p = all.sound k h in
    held (piece_at pieces k).dart (piece_at pieces k).id (live (piece_at pieces k).cell (piece_at pieces k).dart p.placed p.inside) p.labelled

-- there are at most as many pieces as darts are ever made
pub few_pieces : (k : Kind) (n : ℕ) (rows : Rows) → IsSound k n rows → (label : ℕ → Option ℕ) (cells : List Group) (pieces : List Piece) → AreAllPieces label cells pieces
    → ((j x : ℕ) → j < length cells → Contains (group_at cells j).darts x → IsLive rows x) → length pieces < 4294967296
few_pieces k n rows sound label cells pieces all live = go (case (length pieces))
  where
    rank : (j : ℕ) → j < length pieces → j ≤ (piece_at pieces j).dart
    rank zero h = omega arith
    rank (suc j) h = let r = rank j (omega arith) in let s = all.rising j (suc j) (omega arith) h in omega arith

    made_at_most : (j : ℕ) → j < length pieces → (piece_at pieces j).dart ≤ 4194305
    made_at_most j h =
        let p = all.sound j h in
        let l = some-within rows (piece_at pieces j).dart (live (piece_at pieces j).cell (piece_at pieces j).dart p.placed p.inside) in
        let f = sound.few in
        omega arith

    case : (m : ℕ) → (m ≡ 0) ⊎ (0 < m)
    case m = grind arith

    go : (length pieces ≡ 0) ⊎ (0 < length pieces) → length pieces < 4294967296
    go (inl e) = omega arith
    go (inr l) = let r = rank (length pieces - 1) (omega arith) in let m = made_at_most (length pieces - 1) (omega arith) in omega arith

module _ (Cell : ℕ → ℕ → Type 0) (classes : AreClasses Cell) (i : ℕ) (touched : List ℕ) (cells : List Group) (bare : AreBareCells Cell i touched cells) where
  -- two cells with a dart in common are one
  pub bare_apart : AreApart cells
  bare_apart = record { ascending = λ n h. (bare.each n h).ascending; one = one }
    where
      three : (a b : ℕ) → (a ≡ b) ⊎ (a < b) ⊎ (b < a)
      three a b = grind arith

      -- the least dart of the one lies in the other
      least_there : (m n x : ℕ) → m < length cells → n < length cells → Contains (group_at cells m).darts x → Contains (group_at cells n).darts x → Contains (group_at cells n).darts (least_of (group_at cells m))
      least_there m n x hm hn cm cn =
          let l = least_in (group_at cells m) x cm in
          ((bare.each n hn).whole x (least_of (group_at cells m)) cn).1 (((bare.each m hm).whole x (least_of (group_at cells m)) cm).0 l)

      no_less : (m n x : ℕ) → m < n → n < length cells → Contains (group_at cells m).darts x → Contains (group_at cells n).darts x → ⊥
      no_less m n x l hn cm cn =
          let hm : m < length cells = omega arith in
          let r = bare.rising m n l hn in
          let t = first_least (group_at cells n).darts (bare.each n hn).ascending (least_of (group_at cells m)) (least_there m n x hm hn cm cn) in
          omega arith

      one : (m n x : ℕ) → m < length cells → n < length cells → Contains (group_at cells m).darts x → Contains (group_at cells n).darts x → m ≡ n
      one m n x hm hn cm cn = elim (three m n) [ inl e ↦ e | inr s ↦ elim s [ inl l ↦ absurd (no_less m n x l hn cm cn) | inr l ↦ absurd (no_less n m x l hm cn cm) ] ]

  module _ (Live : ℕ → Type 0) (label : ℕ → Option ℕ) (pieces : List Piece) (all : AreAllPieces label cells pieces) (live : (n x : ℕ) → n < length cells → Contains (group_at cells n).darts x → Live x)
      (covers : (d : ℕ) → Live d → ((x : ℕ) → Cell d x → Contains touched x → ⊥) → ((x : ℕ) → Cell d x → label x ≡ None) ⊎ ((c : ℕ) × IsWhole Live (Cell d) label c)) where
    dart_live : (k : ℕ) → k < length pieces → Live (piece_at pieces k).dart
    dart_live k h = let p = all.sound k h in live (piece_at pieces k).cell (piece_at pieces k).dart p.placed p.inside

    -- each piece names one
    names : (k : ℕ) → k < length pieces → NamesPiece Live (IsAlike label) Cell (piece_at pieces k).dart
    names k h = record { live = dart_live k h; valued = ((piece_at pieces k).id, p.labelled, p.labelled); least = least }
      where
        p : IsPiece label cells (piece_at pieces k)
        p = all.sound k h

        least : (x : ℕ) → Live x → IsAlike label (piece_at pieces k).dart x → Cell (piece_at pieces k).dart x → (piece_at pieces k).dart ≤ x
        least x l (c, e, f) s =
            let same : c ≡ (piece_at pieces k).id = same_some (label (piece_at pieces k).dart) c (piece_at pieces k).id e p.labelled in
            p.least x (((bare.each (piece_at pieces k).cell p.placed).whole (piece_at pieces k).dart x p.inside).1 s) (f ∙ ap Some same)

    -- and each that is named in one of the cells is there
    piece_of : (n m id : ℕ) → n < length cells → Contains (group_at cells n).darts m → label m ≡ Some id → NamesPiece Live (IsAlike label) Cell m
        → (k : ℕ) × (k < length pieces) × ((piece_at pieces k).cell ≡ n) × ((piece_at pieces k).id ≡ id) × ((piece_at pieces k).dart ≡ m)
    piece_of n m id h c e named = go (all.whole n m id h c e)
      where
        go : (k : ℕ) × (k < length pieces) × ((piece_at pieces k).cell ≡ n) × ((piece_at pieces k).id ≡ id)
            → (k : ℕ) × (k < length pieces) × ((piece_at pieces k).cell ≡ n) × ((piece_at pieces k).id ≡ id) × ((piece_at pieces k).dart ≡ m)
        go (k, l, f, g) =
            let p = all.sound k l in
            let inside : Contains (group_at cells n).darts (piece_at pieces k).dart = subst (λ j. Contains (group_at cells j).darts (piece_at pieces k).dart) f p.inside in
            let below : (piece_at pieces k).dart ≤ m = p.least m (subst (λ j. Contains (group_at cells j).darts m) (sym f) c) (e ∙ ap Some (sym g)) in
            let above : m ≤ (piece_at pieces k).dart = named.least (piece_at pieces k).dart (dart_live k l) (id, e, p.labelled ∙ ap Some g) (((bare.each n h).whole m (piece_at pieces k).dart c).0 inside) in
            (k, l, f, g, omega arith)

    in_cell : (n k : ℕ) → lies_in pieces n k ≡ true → (piece_at pieces k).cell ≡ n
    in_cell n k e = elim (told_eq (piece_at pieces k).cell n) [ inl p ↦ p.0 | inr p ↦ absurd (false≢true (sym p.1 ∙ e)) ]

    in_cell_back : (n k : ℕ) → (piece_at pieces k).cell ≡ n → lies_in pieces n k ≡ true
    in_cell_back n k e = elim (told_eq (piece_at pieces k).cell n) [ inl p ↦ p.1 | inr p ↦ absurd (p.0 e) ]

    with_id : (id k : ℕ) → has_id pieces id k ≡ true → (piece_at pieces k).id ≡ id
    with_id id k e = elim (told_eq (piece_at pieces k).id id) [ inl p ↦ p.0 | inr p ↦ absurd (false≢true (sym p.1 ∙ e)) ]

    with_id_back : (id k : ℕ) → (piece_at pieces k).id ≡ id → has_id pieces id k ≡ true
    with_id_back id k e = elim (told_eq (piece_at pieces k).id id) [ inl p ↦ p.1 | inr p ↦ absurd (p.0 e) ]

    -- the pieces of a new cell
    pieces_in_new : (n d : ℕ) → n < length cells → Contains (group_at cells n).darts d → ArePieces Live (IsAlike label) Cell (Cell d) (picked (lies_in pieces n) (λ k. (piece_at pieces k).dart) (length pieces))
    pieces_in_new n d h c = record { ascending = picked_rises (lies_in pieces n) (λ k. (piece_at pieces k).dart) (length pieces) all.rising; members = λ m. (to m, from m) }
      where
        to : (m : ℕ) → Contains (picked (lies_in pieces n) (λ k. (piece_at pieces k).dart) (length pieces)) m → NamesPiece Live (IsAlike label) Cell m × Cell d m
        to m has = go (picked_from (lies_in pieces n) (λ k. (piece_at pieces k).dart) (length pieces) m has)
          where
            go : (k : ℕ) × (k < length pieces) × (lies_in pieces n k ≡ true) × ((piece_at pieces k).dart ≡ m) → NamesPiece Live (IsAlike label) Cell m × Cell d m
            go (k, l, e, f) =
                let inside : Contains (group_at cells n).darts (piece_at pieces k).dart = subst (λ j. Contains (group_at cells j).darts (piece_at pieces k).dart) (in_cell n k e) (all.sound k l).inside in
                subst (λ x. NamesPiece Live (IsAlike label) Cell x × Cell d x) f (names k l, ((bare.each n h).whole d (piece_at pieces k).dart c).0 inside)

        from : (m : ℕ) → NamesPiece Live (IsAlike label) Cell m × Cell d m → Contains (picked (lies_in pieces n) (λ k. (piece_at pieces k).dart) (length pieces)) m
        from m (named, s) =
            let inside : Contains (group_at cells n).darts m = ((bare.each n h).whole d m c).1 s in
            let r = piece_of n m named.valued.0 h inside named.valued.1 named in
            subst (Contains (picked (lies_in pieces n) (λ k. (piece_at pieces k).dart) (length pieces))) r.4
            (picked_has (lies_in pieces n) (λ k. (piece_at pieces k).dart) (length pieces) r.0 r.1 (in_cell_back n r.0 r.2))

    -- a live dart with the id of a piece lies in one of the cells, since the touched darts cover the labels
    found : (k m : ℕ) → k < length pieces → Live m → label m ≡ Some (piece_at pieces k).id → (n : ℕ) × (n < length cells) × Contains (group_at cells n).darts m
    found k m h l e = go (find_below (λ n. Contains (group_at cells n).darts m) (λ n. told_in (group_at cells n).darts m) (length cells))
      where
        p : IsPiece label cells (piece_at pieces k)
        p = all.sound k h

        go : ((n : ℕ) × (n < length cells) × Contains (group_at cells n).darts m) ⊎ ((n : ℕ) → n < length cells → Contains (group_at cells n).darts m → ⊥) → (n : ℕ) × (n < length cells) × Contains (group_at cells n).darts m
        go (inl there) = there
        go (inr none) = absurd (elim (covers m l untouched) [ inl unlabelled ↦ (let f = unlabelled m (classes.own m) in none_some (label m) (piece_at pieces k).id f e) | inr whole ↦ other whole ])
          where
            none_some : (o : Option ℕ) (a : ℕ) → o ≡ None → o ≡ Some a → ⊥
            none_some o a f g = cc

            untouched : (x : ℕ) → Cell m x → Contains touched x → ⊥
            untouched x s t =
                let r = bare.all x t in
                none r.0 r.1 (((bare.each r.0 r.1).whole x m r.2).1 (classes.turn m x s))

            other : (c : ℕ) × IsWhole Live (Cell m) label c → ⊥
            other (c, w) =
                let same : c ≡ (piece_at pieces k).id = same_some (label m) c (piece_at pieces k).id (w.inside m (classes.own m)) e in
                let s : Cell m (piece_at pieces k).dart = w.outside (piece_at pieces k).dart (dart_live k h) (p.labelled ∙ ap Some (sym same)) in
                none (piece_at pieces k).cell p.placed (((bare.each (piece_at pieces k).cell p.placed).whole (piece_at pieces k).dart m p.inside).1 (classes.turn m (piece_at pieces k).dart s))

    -- the pieces of an old cell
    pieces_in_old : (k : ℕ) → k < length pieces → ArePieces Live (IsAlike label) Cell (IsAlike label (piece_at pieces k).dart) (picked (has_id pieces (piece_at pieces k).id) (λ j. (piece_at pieces j).dart) (length pieces))
    pieces_in_old k h = record { ascending = picked_rises (has_id pieces (piece_at pieces k).id) (λ j. (piece_at pieces j).dart) (length pieces) all.rising; members = λ m. (to m, from m) }
      where
        to : (m : ℕ) → Contains (picked (has_id pieces (piece_at pieces k).id) (λ j. (piece_at pieces j).dart) (length pieces)) m → NamesPiece Live (IsAlike label) Cell m × IsAlike label (piece_at pieces k).dart m
        to m has = go (picked_from (has_id pieces (piece_at pieces k).id) (λ j. (piece_at pieces j).dart) (length pieces) m has)
          where
            go : (j : ℕ) × (j < length pieces) × (has_id pieces (piece_at pieces k).id j ≡ true) × ((piece_at pieces j).dart ≡ m) → NamesPiece Live (IsAlike label) Cell m × IsAlike label (piece_at pieces k).dart m
            go (j, l, e, f) =
                let same = with_id (piece_at pieces k).id j e in
                subst (λ x. NamesPiece Live (IsAlike label) Cell x × IsAlike label (piece_at pieces k).dart x) f
                (names j l, ((piece_at pieces k).id, (all.sound k h).labelled, (all.sound j l).labelled ∙ ap Some same))

        from : (m : ℕ) → NamesPiece Live (IsAlike label) Cell m × IsAlike label (piece_at pieces k).dart m → Contains (picked (has_id pieces (piece_at pieces k).id) (λ j. (piece_at pieces j).dart) (length pieces)) m
        from m (named, (c, e, f)) =
            let same : c ≡ (piece_at pieces k).id = same_some (label (piece_at pieces k).dart) c (piece_at pieces k).id e (all.sound k h).labelled in
            let there = found k m h named.live (f ∙ ap Some same) in
            let r = piece_of there.0 m (piece_at pieces k).id there.1 there.2 (f ∙ ap Some same) named in
            subst (Contains (picked (has_id pieces (piece_at pieces k).id) (λ j. (piece_at pieces j).dart) (length pieces))) r.4
            (picked_has (has_id pieces (piece_at pieces k).id) (λ j. (piece_at pieces j).dart) (length pieces) r.0 r.1 (with_id_back (piece_at pieces k).id r.0 r.3))

    module _ (rule : Meaning) (pool : Store) where
      gets : (k : ℕ) → k < length pieces → Gets rule (known_value pool label) Live (IsAlike label) Cell (piece_at pieces k).dart (part_at rule pool pieces k)
      gets k h = record {
        pieces = picked (has_id pieces (piece_at pieces k).id) (λ j. (piece_at pieces j).dart) (length pieces);
        are = pieces_in_old k h;
        at = count_below (has_id pieces (piece_at pieces k).id) k;
        within = (let s = size in let c = count_passed (has_id pieces (piece_at pieces k).id) k (length pieces) own h in omega arith);
        named = picked_at (has_id pieces (piece_at pieces k).id) (λ j. (piece_at pieces j).dart) 0 (length pieces) k h own;
        is =
            ap (λ v. rule.share v (count_below (has_id pieces (piece_at pieces k).id) (length pieces)) (count_below (has_id pieces (piece_at pieces k).id) k)) (sym worth)
            ∙ ap (λ n. rule.share (known_value pool label (piece_at pieces k).dart) n (count_below (has_id pieces (piece_at pieces k).id) k)) (sym size);
      }
        where
          own : has_id pieces (piece_at pieces k).id k ≡ true
          own = with_id_back (piece_at pieces k).id k refl

          size : length (picked (has_id pieces (piece_at pieces k).id) (λ j. (piece_at pieces j).dart) (length pieces)) ≡ count_below (has_id pieces (piece_at pieces k).id) (length pieces)
          size = picked_size (has_id pieces (piece_at pieces k).id) (λ j. (piece_at pieces j).dart) 0 (length pieces)

          worth : known_value pool label (piece_at pieces k).dart ≡ known (value_of pool (piece_at pieces k).id)
          worth = ap (λ o. known (labelled_value pool o)) (all.sound k h).labelled

      pub is_carried : (n d : ℕ) → n < length cells → Contains (group_at cells n).darts d → IsCarried rule (known_value pool label) Live (IsAlike label) Cell d (merged_before rule pool pieces (length pieces) n)
      is_carried n d h c = record {
        pieces = picked (lies_in pieces n) (λ k. (piece_at pieces k).dart) (length pieces);
        are = pieces_in_new n d h c;
        parts = picked (lies_in pieces n) (part_at rule pool pieces) (length pieces);
        even = picked_size (lies_in pieces n) (part_at rule pool pieces) None (length pieces) ∙ sym (picked_size (lies_in pieces n) (λ k. (piece_at pieces k).dart) 0 (length pieces));
        each = each;
        is = refl;
      }
        where
          each : (at : ℕ) → at < length (picked (lies_in pieces n) (λ k. (piece_at pieces k).dart) (length pieces))
              → Gets rule (known_value pool label) Live (IsAlike label) Cell (slice_index (picked (lies_in pieces n) (λ k. (piece_at pieces k).dart) (length pieces)) at) (get_or (picked (lies_in pieces n) (part_at rule pool pieces) (length pieces)) at None)
          each at l = go (place_counted (lies_in pieces n) (length pieces) at (let s = picked_size (lies_in pieces n) (λ k. (piece_at pieces k).dart) 0 (length pieces) in omega arith))
            where
              go : (k : ℕ) × (k < length pieces) × (lies_in pieces n k ≡ true) × (count_below (lies_in pieces n) k ≡ at)
                  → Gets rule (known_value pool label) Live (IsAlike label) Cell (slice_index (picked (lies_in pieces n) (λ k. (piece_at pieces k).dart) (length pieces)) at) (get_or (picked (lies_in pieces n) (part_at rule pool pieces) (length pieces)) at None)
              go (k, w, e, f) =
                  let a : (piece_at pieces k).dart ≡ slice_index (picked (lies_in pieces n) (λ k. (piece_at pieces k).dart) (length pieces)) at =
                  sym (picked_at (lies_in pieces n) (λ k. (piece_at pieces k).dart) 0 (length pieces) k w e) ∙ ap (slice_index (picked (lies_in pieces n) (λ k. (piece_at pieces k).dart) (length pieces))) f in
                  let b : part_at rule pool pieces k ≡ get_or (picked (lies_in pieces n) (part_at rule pool pieces) (length pieces)) at None =
                  sym (picked_at (lies_in pieces n) (part_at rule pool pieces) None (length pieces) k w e) ∙ ap (λ j. get_or (picked (lies_in pieces n) (part_at rule pool pieces) (length pieces)) j None) f in
                  subst (λ v. Gets rule (known_value pool label) Live (IsAlike label) Cell (slice_index (picked (lies_in pieces n) (λ k. (piece_at pieces k).dart) (length pieces)) at) v) b
                  (subst (λ x. Gets rule (known_value pool label) Live (IsAlike label) Cell x (part_at rule pool pieces k)) a (gets k w))
