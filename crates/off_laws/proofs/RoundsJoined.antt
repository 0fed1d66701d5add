-- The ways round the 2-cells of a list, one behind the other, stand for the sides of their faces.
use Rattle.std.proofs.Common.{◌≡◌, ◌≢◌, ◌⊎◌, inl, inr, ℕ, ◌+◌, ◌-◌, ◌<◌, ◌≤◌, List, [], ◌∷◌, ◌++◌, length, slice_index, Contains, refl, sym, ap, ◌∙◌, subst, arith}
use Rattle.std.specs.List.{AllZip}
use Rattle.std.proofs.lemmas.Bool.{cases_lt}
use Rattle.std.proofs.lemmas.List.{get_or_append_left, get_or-append-add, length-append}
use Rattle.std.proofs.lemmas.List.Elements.{length_all_zip, AllZip-get_or}
use Rattle.std.proofs.lemmas.List.FromFn.{get_or-map-range_with_len}
use Rattle.map_defs.specs.Kind.{Kind, alpha, beta}
use Rattle.map_defs.specs.Links.{Links, HasDimension}
use Rattle.map_defs.specs.Laws.{Laws}
use Rattle.map_defs.specs.Polygon.{next_side}
use Rattle.map_defs.specs.Cells.{InCell, NamesCell}
use Rattle.map_defs.specs.MeshMap.{Side, side_at, face_sides, sides_from}
use Rattle.map_defs.specs.OffOfMap.{next_round, IsRound, LiesIn, IsFaceOf}
use Rattle.mesh_laws.specs.Sides.{no_side, side_of}
use Rattle.mesh_laws.proofs.FaceSides.{length-face_sides, length-sides_from}
use Rattle.link_laws.proofs.CellFacts.{cell_back, alpha_closed, beta_closed}
use Rattle.value_laws.proofs.MapValues.{cell_trans}
use Rattle.value_laws.proofs.Rising.{Rises, first_below, rest_rises, held_case, held_first, held_later, held_none}
use Rattle.off_laws.specs.SideDarts.{IsOfSide}
use Rattle.off_laws.proofs.RoundsOne.{next-within, round-next, round-dart, round-apart}
use Rattle.off_laws.proofs.RoundsCells.{round-cell, round-holds, round-other, IsOnWay}

-- the sides of a face before others
pub side-front : (base : ℕ) (corners : List ℕ) (faces : List (List ℕ)) (s : ℕ) → s < length corners → side_of (sides_from base (corners ∷ faces)) s ≡ side_at base corners s
side-front base corners faces s low =
    get_or_append_left (face_sides base corners) (sides_from (base + length corners) faces) no_side s (omega (arith, length-face_sides base corners))
    ∙ get_or-map-range_with_len (side_at base corners) 0 (length corners) s s no_side low (omega arith)

pub side-behind : (base : ℕ) (corners : List ℕ) (faces : List (List ℕ)) (i : ℕ) → side_of (sides_from base (corners ∷ faces)) (length corners + i) ≡ side_of (sides_from (base + length corners) faces) i
side-behind base corners faces i =
    ap (λ (n : ℕ). side_of (sides_from base (corners ∷ faces)) (n + i)) (sym (length-face_sides base corners))
    ∙ get_or-append-add (face_sides base corners) (sides_from (base + length corners) faces) i no_side

-- a place of two lists is one of the first or of the second
pub IsPlaceOf : List ℕ → List ℕ → ℕ → Type 0
IsPlaceOf xs ys s =
    ((s < length xs) × (slice_index (xs ++ ys) s ≡ slice_index xs s))
    ⊎ ((i : ℕ) × (i < length ys) × (s ≡ length xs + i) × (slice_index (xs ++ ys) s ≡ slice_index ys i))

place-of : (xs ys : List ℕ) (s : ℕ) → s < length (xs ++ ys) → IsPlaceOf xs ys s
unfolding IsPlaceOf
place-of xs ys s low = go (cases_lt s (length xs))
  where
    go : (s < length xs) ⊎ (length xs ≤ s) → IsPlaceOf xs ys s
    go (inl less) = inl (less, get_or_append_left xs ys 0 s less)
    go (inr more) =
        let at : s ≡ length xs + (s - length xs) = omega arith in
        inr (s - length xs, omega (arith, length-append xs ys), at, ap (slice_index (xs ++ ys)) at ∙ get_or-append-add xs ys (s - length xs) 0)

-- a dart of a side of one list is that of a side of another, where the same dart stands
side-same : (k : Kind) (L : Links) (xs ys : List ℕ) (s t x : ℕ) → slice_index xs s ≡ slice_index ys t → IsOfSide k L xs s x → IsOfSide k L ys t x
side-same alpha L xs ys s t x same (inl is) = inl (sym same ∙ is)
side-same alpha L xs ys s t x same (inr is) = inr (ap (L 0) (sym same) ∙ is)
side-same beta L xs ys s t x same is = sym same ∙ is

-- a 2-cell is closed under link 0
cell-end : (k : Kind) (L : Links) (d x : ℕ) → InCell k L 2 d x → L 0 x ≢ 0 → InCell k L 2 d (L 0 x)
cell-end alpha L d x own some = alpha_closed L 2 0 d x (omega arith) own some
cell-end beta L d x own some = beta_closed L 0 0 d x (omega arith) own some

-- in a generalized map a dart on the way has an end, which is not on the way
round-end : (k : Kind) (L : Links) (w : Laws k L) (d : ℕ) (dart : d ≢ 0) (darts : List ℕ) (round : IsRound k L d darts) → k ≡ alpha → (j : ℕ) → j < length darts → L 0 (slice_index darts j) ≢ 0
round-end alpha L w d dart darts round is j low none =
    round-dart alpha L w d dart darts round (next_side (length darts) j) (next-within (length darts) j low)
    (sym (round-next alpha L w d dart darts round j low) ∙ (ap (L 1) none ∙ w.nil 1))
round-end beta L w d dart darts round is j low none = cc is

round-no-end : (k : Kind) (L : Links) (w : Laws k L) (d : ℕ) (dart : d ≢ 0) (darts : List ℕ) (round : IsRound k L d darts) → k ≡ alpha
    → (i j : ℕ) → i < length darts → j < length darts → slice_index darts i ≢ L 0 (slice_index darts j)
round-no-end alpha L w d dart darts round is i j = round-other L w d dart darts round i j
round-no-end beta L w d dart darts round is i j = cc is

-- The darts are those on the ways round these cells, one way behind the other, and stand for the sides of these faces, whose
-- numbers begin at base.
pub record AreWays (k : Kind) (L : Links) (vertices : List ℕ) (base : ℕ) (cells : List ℕ) (faces : List (List ℕ)) (darts : List ℕ) : Type 0 where
  pub counted : length darts ≡ length (sides_from base faces)
  pub owned : (s : ℕ) → s < length darts → (c : ℕ) × Contains cells c × InCell k L 2 c (slice_index darts s)
  pub apart : (s t : ℕ) → s < length darts → t < length darts → slice_index darts s ≡ slice_index darts t → s ≡ t
  pub other : (s t : ℕ) → k ≡ alpha → s < length darts → t < length darts → slice_index darts s ≢ L 0 (slice_index darts t)
  pub all : (c x : ℕ) → Contains cells c → InCell k L 2 c x → IsOnWay k L darts x
  pub next : (s : ℕ) → s < length darts → (t : ℕ) × (t < length darts) × ((side_of (sides_from base faces) s).next ≡ base + t) × (next_round k L (slice_index darts s) ≡ slice_index darts t)
  pub starts : (s : ℕ) → s < length darts → LiesIn k L vertices (slice_index darts s) (side_of (sides_from base faces) s).from

module _ (k : Kind) (L : Links) (w : Laws k L) (flat : HasDimension 2 L) (vertices : List ℕ) where
  -- a dart that names its 2-cell
  abbrev Names : ℕ → Type 0
  Names e = (e ≢ 0) × NamesCell k L 2 e

  -- two darts that name one cell are one
  names-one : (c e x : ℕ) → NamesCell k L 2 c → NamesCell k L 2 e → InCell k L 2 c x → InCell k L 2 e x → c ≡ e
  names-one c e x names also own in_other =
      let low = names e (cell_trans k L 2 c x e own (cell_back k L w 2 e x in_other)) in
      let high = also c (cell_trans k L 2 e x c in_other (cell_back k L w 2 c x own)) in
      omega (arith, low, high)

  no-ways : (base : ℕ) → AreWays k L vertices base [] [] []
  no-ways base = record {
    counted = refl;
    owned = λ s low. absurd (omega arith);
    apart = λ s t low. absurd (omega arith);
    other = λ s t is low. absurd (omega arith);
    all = λ c x has. absurd (held_none c has);
    next = λ s low. absurd (omega arith);
    starts = λ s low. absurd (omega arith);
  }

  -- One way before those of other cells.
  module _ (base c : ℕ) (way corners : List ℕ) (round : IsRound k L c way) (zip : AllZip (LiesIn k L vertices) way corners)
      (cells : List ℕ) (faces : List (List ℕ)) (darts : List ℕ) (rest : AreWays k L vertices (base + length corners) cells faces darts)
      (named : (e : ℕ) → Contains (c ∷ cells) e → Names e) (rises : Rises (c ∷ cells)) where
    abbrev Joined : List ℕ
    Joined = way ++ darts

    dart : c ≢ 0
    dart = (named c (held_first c cells)).0

    long : length way ≡ length corners
    long = length_all_zip (LiesIn k L vertices) way corners zip

    whole : length (way ++ darts) ≡ length way + length darts
    whole = length-append way darts

    own : (s : ℕ) → s < length way → InCell k L 2 c (slice_index way s)
    own s low = round-cell k L w c dart way round s low

    -- the 2-cells of other darts of the list are others
    cells-apart : (e x : ℕ) → Contains cells e → InCell k L 2 c x → InCell k L 2 e x → ⊥
    cells-apart e x has in_own in_other =
        let same = names-one c e x (named c (held_first c cells)).1 (named e (held_later c cells e has)).1 in_own in_other in
        let less = first_below c cells e rises has in
        omega (arith, same, less)

    -- so no dart on the way is on another
    ways-apart : (s i : ℕ) → s < length way → i < length darts → slice_index way s ≢ slice_index darts i
    ways-apart s i low below same =
        let owner = rest.owned i below in
        cells-apart owner.0 (slice_index way s) owner.1 (own s low) (subst (InCell k L 2 owner.0) (sym same) owner.2)

    -- nor the end of one, nor is its end on another
    ways-no-end : k ≡ alpha → (s i : ℕ) → s < length way → i < length darts → slice_index way s ≢ L 0 (slice_index darts i)
    ways-no-end is s i low below same =
        let owner = rest.owned i below in
        let some = round-dart k L w c dart way round s low in
        cells-apart owner.0 (slice_index way s) owner.1 (own s low)
        (subst (InCell k L 2 owner.0) (sym same) (cell-end k L owner.0 (slice_index darts i) owner.2 (λ none. some (same ∙ none))))

    ends-apart : k ≡ alpha → (s i : ℕ) → s < length way → i < length darts → slice_index darts i ≢ L 0 (slice_index way s)
    ends-apart is s i low below same =
        let owner = rest.owned i below in
        let some = round-end k L w c dart way round is s low in
        cells-apart owner.0 (slice_index darts i) owner.1
        (subst (InCell k L 2 c) (sym same) (cell-end k L c (slice_index way s) (own s low) some)) owner.2

    more-owned : (s : ℕ) → s < length Joined → (e : ℕ) × Contains (c ∷ cells) e × InCell k L 2 e (slice_index Joined s)
    unfolding IsPlaceOf
    more-owned s low = go (place-of way darts s low)
      where
        go : IsPlaceOf way darts s → (e : ℕ) × Contains (c ∷ cells) e × InCell k L 2 e (slice_index Joined s)
        go (inl (less, at)) = (c, held_first c cells, subst (InCell k L 2 c) (sym at) (own s less))
        go (inr (i, below, is, at)) =
            let owner = rest.owned i below in
            (owner.0, held_later c cells owner.0 owner.1, subst (InCell k L 2 owner.0) (sym at) owner.2)

    more-apart : (s t : ℕ) → s < length Joined → t < length Joined → slice_index Joined s ≡ slice_index Joined t → s ≡ t
    unfolding IsPlaceOf
    more-apart s t low below same = go (place-of way darts s low) (place-of way darts t below)
      where
        go : IsPlaceOf way darts s → IsPlaceOf way darts t → s ≡ t
        go (inl (less, at)) (inl (also, there)) = round-apart k L w c dart way round s t less also (sym at ∙ (same ∙ there))
        go (inl (less, at)) (inr (j, low_j, is_j, there)) = absurd (ways-apart s j less low_j (sym at ∙ (same ∙ there)))
        go (inr (i, low_i, is_i, at)) (inl (also, there)) = absurd (ways-apart t i also low_i (sym there ∙ (sym same ∙ at)))
        go (inr (i, low_i, is_i, at)) (inr (j, low_j, is_j, there)) =
            let equal = rest.apart i j low_i low_j (sym at ∙ (same ∙ there)) in omega (arith, equal, is_i, is_j)

    more-other : (s t : ℕ) → k ≡ alpha → s < length Joined → t < length Joined → slice_index Joined s ≢ L 0 (slice_index Joined t)
    unfolding IsPlaceOf
    more-other s t is low below same = go (place-of way darts s low) (place-of way darts t below)
      where
        go : IsPlaceOf way darts s → IsPlaceOf way darts t → ⊥
        go (inl (less, at)) (inl (also, there)) = round-no-end k L w c dart way round is s t less also (sym at ∙ (same ∙ ap (L 0) there))
        go (inl (less, at)) (inr (j, low_j, is_j, there)) = ways-no-end is s j less low_j (sym at ∙ (same ∙ ap (L 0) there))
        go (inr (i, low_i, is_i, at)) (inl (also, there)) = ends-apart is t i also low_i (sym at ∙ (same ∙ ap (L 0) there))
        go (inr (i, low_i, is_i, at)) (inr (j, low_j, is_j, there)) = rest.other i j is low_i low_j (sym at ∙ (same ∙ ap (L 0) there))

    more-all : (e x : ℕ) → Contains (c ∷ cells) e → InCell k L 2 e x → IsOnWay k L Joined x
    more-all e x has in_cell = go (held_case c cells e has)
      where
        go : (c ≡ e) ⊎ Contains cells e → IsOnWay k L Joined x
        go (inl same) =
            let on = round-holds k L w flat c dart way round x (subst (λ (d : ℕ). InCell k L 2 d x) (sym same) in_cell) in
            (on.0, omega (arith, whole, on.1), side-same k L way Joined on.0 on.0 x (sym (get_or_append_left way darts 0 on.0 on.1)) on.2)
        go (inr later) =
            let on = rest.all e x later in_cell in
            (length way + on.0, omega (arith, whole, on.1), side-same k L darts Joined on.0 (length way + on.0) x (sym (get_or-append-add way darts on.0 0)) on.2)

    abbrev Sides : List Side
    Sides = sides_from base (corners ∷ faces)

    abbrev Others : List Side
    Others = sides_from (base + length corners) faces

    behind : (s i : ℕ) → s ≡ length way + i → side_of Sides s ≡ side_of Others i
    behind s i is = ap (side_of Sides) (is ∙ ap (λ (n : ℕ). n + i) long) ∙ side-behind base corners faces i

    more-next : (s : ℕ) → s < length Joined → (t : ℕ) × (t < length Joined) × ((side_of Sides s).next ≡ base + t) × (next_round k L (slice_index Joined s) ≡ slice_index Joined t)
    unfolding IsPlaceOf
    more-next s low = go (place-of way darts s low)
      where
        go : IsPlaceOf way darts s → (t : ℕ) × (t < length Joined) × ((side_of Sides s).next ≡ base + t) × (next_round k L (slice_index Joined s) ≡ slice_index Joined t)
        go (inl (less, at)) =
            let t : ℕ = next_side (length way) s in
            let within = next-within (length way) s less in
            let is : (side_of Sides s).next ≡ base + t =
            ap (λ (side : Side). side.next) (side-front base corners faces s (omega (arith, long))) ∙ ap (λ (n : ℕ). base + next_side n s) (sym long) in (
              t,
              omega (arith, whole, within),
              is,
              ap (next_round k L) at ∙ (round-next k L w c dart way round s less ∙ sym (get_or_append_left way darts 0 t within)),
            )
        go (inr (i, below, is, at)) =
            let on = rest.next i below in
            let leads : (side_of Sides s).next ≡ base + length corners + on.0 = ap (λ (side : Side). side.next) (behind s i is) ∙ on.2 in (
              length way + on.0,
              omega (arith, whole, on.1),
              omega (arith, leads, long),
              ap (next_round k L) at ∙ (on.3 ∙ sym (get_or-append-add way darts on.0 0)),
            )

    more-starts : (s : ℕ) → s < length Joined → LiesIn k L vertices (slice_index Joined s) (side_of Sides s).from
    unfolding IsPlaceOf
    more-starts s low = go (place-of way darts s low)
      where
        to : (x y : ℕ) → slice_index Joined s ≡ x → (side_of Sides s).from ≡ y → LiesIn k L vertices x y → LiesIn k L vertices (slice_index Joined s) (side_of Sides s).from
        to x y at is lies = subst (λ (z : ℕ). LiesIn k L vertices z (side_of Sides s).from) (sym at) (subst (LiesIn k L vertices x) (sym is) lies)

        go : IsPlaceOf way darts s → LiesIn k L vertices (slice_index Joined s) (side_of Sides s).from
        go (inl (less, at)) =
            to (slice_index way s) (slice_index corners s) at (ap (λ (side : Side). side.from) (side-front base corners faces s (omega (arith, long))))
            (AllZip-get_or (LiesIn k L vertices) way corners s 0 0 zip less)
        go (inr (i, below, is, at)) =
            to (slice_index darts i) (side_of Others i).from at (ap (λ (side : Side). side.from) (behind s i is)) (rest.starts i below)

    more-ways : AreWays k L vertices base (c ∷ cells) (corners ∷ faces) (way ++ darts)
    more-ways = record {
      counted = omega (arith, whole, long, rest.counted, length-sides_from base corners faces);
      owned = more-owned;
      apart = more-apart;
      other = more-other;
      all = more-all;
      next = more-next;
      starts = more-starts;
    }

  pub ways : (base : ℕ) (cells : List ℕ) (faces : List (List ℕ)) → ((e : ℕ) → Contains cells e → Names e) → Rises cells
      → AllZip (IsFaceOf k L vertices) cells faces → (darts : List ℕ) × AreWays k L vertices base cells faces darts
  ways base [] [] named rises zip = ([], no-ways base)
  ways base [] (corners ∷ faces) named rises zip = absurd zip
  ways base (c ∷ cells) [] named rises zip = absurd zip
  ways base (c ∷ cells) (corners ∷ faces) named rises zip =
      let face = zip.0 in
      let rest = ways (base + length corners) cells faces (λ e has. named e (held_later c cells e has)) (rest_rises c cells rises) zip.1 in
      (face.0 ++ rest.0, more-ways base c face.0 corners face.1 face.2 cells faces rest.0 rest.1 named rises)
