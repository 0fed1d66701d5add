-- From the ways round 2-cells, the lists of 0-cells and their points to the OFF rows of a map.
use Rattle.std.proofs.Common.{◌≡◌, ◌≢◌, ◌⊎◌, inl, inr, ℕ, zero, suc, ◌+◌, ◌≤◌, ◌<◌, List, [], length, map, get_or, slice_index, slice_index_or, is_some, Option, Some, None, All, Contains, refl, sym, ap, ◌∙◌, subst, arith}
use Rattle.std.specs.List.{AllZip}
use Rattle.std.specs.List.Sorted.{IsStrictlyIncreasing}
use Rattle.std.proofs.lemmas.Bool.{cases_lt, false≢true}
use Rattle.std.proofs.lemmas.List.{get_or_past, get_or_default}
use Rattle.std.proofs.lemmas.List.Elements.{Contains-get_or}
use Rattle.map_defs.specs.Kind.{Kind}
use Rattle.map_defs.specs.Rows.{Rows, links_of, row_at, IsLive, IsSound, made, made_max}
use Rattle.map_defs.specs.Values.{Value}
use Rattle.map_defs.specs.OffOfMap.{OffRows, IsRound, ListsCells, LiesIn, IsFaceOf, AreOffRows, HasOpenFace, LacksPoint, HasThinFace}
use Rattle.cell_walk.specs.CellLists.{AreCellsOf}
use Rattle.off_text.specs.MapViews.{IsPlaced}
use Rattle.off_text.proofs.Rounds.{round-one, round-closed, round-all}
use Rattle.off_text.proofs.CellPlaces.{rows-nothing, cell-live, listed}
use Rattle.off_text.proofs.Zips.{zip-find, zip-found, zip-right, zip-map, zip-onward, all-at}

-- rising numbers are at least as great as their places
rises-above : (xs : List ℕ) → IsStrictlyIncreasing xs → (i : ℕ) → i < length xs → i ≤ slice_index xs i
rises-above xs up zero low = omega arith
rises-above xs up (suc i) low =
    let next : suc i ≡ i + 1 = omega arith in
    let at : slice_index xs (suc i) ≡ slice_index xs (i + 1) = ap (slice_index xs) next in
    omega (arith, at, rises-above xs up i (omega arith), up i (omega arith))

-- there are not many of them below a bound
rises-few : (m : ℕ) (xs : List ℕ) → IsStrictlyIncreasing xs → All (λ x. x ≤ m) xs → length xs ≤ m + 1
rises-few m xs up each = go (length xs) refl
  where
    go : (count : ℕ) → length xs ≡ count → length xs ≤ m + 1
    go zero is = omega arith
    go (suc count) is =
        let least = rises-above xs up count (omega arith) in
        let most : slice_index xs count ≤ m = each count 0 (omega arith) in
        omega (arith, least, most)

module _ (k : Kind) (n : ℕ) (rows : Rows) (sound : IsSound k n rows) where
  live-dart : (d : ℕ) → IsLive rows d → d ≢ 0
  live-dart d live none = false≢true (sym (ap (λ (row : Option (List ℕ)). is_some row) (ap (row_at rows) none ∙ sound.nothing)) ∙ live)

  live-made : (d : ℕ) → IsLive rows d → d ≤ made rows
  live-made d live = go (cases_lt d (length rows))
    where
      go : (d < length rows) ⊎ (length rows ≤ d) → d ≤ made rows
      go (inl low) = omega arith
      go (inr past) = absurd (false≢true (sym (ap (λ (row : Option (List ℕ)). is_some row) (get_or_past rows d None past)) ∙ live))

  cells-live : (i : ℕ) (cells : List ℕ) → ListsCells k rows i cells → All (IsLive rows) cells
  cells-live i cells lists p d low = ((lists.members (get_or cells p d)).0 (Contains-get_or cells p d low)).0

  pub cells-few : (i : ℕ) (cells : List ℕ) → ListsCells k rows i cells → length cells ≤ made_max + 1
  cells-few i cells lists =
      let few = rises-few (made rows) cells lists.ascending (λ p d low. live-made (get_or cells p d) (cells-live i cells lists p d low)) in
      omega (arith, few, sound.few)

  pub rounds-live : (cells : List ℕ) (rounds : List (List ℕ)) → ListsCells k rows 2 cells → AllZip (IsRound k (links_of rows)) cells rounds → All (All (IsLive rows)) rounds
  rounds-live cells rounds lists zip =
      zip-right (IsRound k (links_of rows)) (IsLive rows) (All (IsLive rows))
      (λ d round live is. round-all k (links_of rows) (IsLive rows) (rows-nothing k n rows sound) sound.live d round (live-dart d live) live is)
      cells rounds (cells-live 2 cells lists) zip

  pub rounds-made : (m : ℕ) (cells : List ℕ) (rounds : List (List ℕ)) → made rows < m → ListsCells k rows 2 cells → AllZip (IsRound k (links_of rows)) cells rounds → All (All (λ d. d < m)) rounds
  rounds-made m cells rounds long lists zip p e low q d below =
      let top = live-made (get_or (get_or rounds p e) q d) (rounds-live cells rounds lists zip p e low q d below) in omega (arith, top, long)

  pub lists-made : (i : ℕ) (least : List ℕ) (lists : List (List ℕ)) → ListsCells k rows i least → AreCellsOf k (links_of rows) i least lists → All (All (λ d. d ≤ made rows)) lists
  lists-made i least lists named are p e low q d below =
      let x : ℕ = get_or (get_or lists p e) q d in
      let has : Contains (slice_index_or lists p []) x = subst (λ list. Contains list x) (get_or_default lists p e [] low) (Contains-get_or (get_or lists p e) q d below) in
      let within : p < length least = omega (arith, low, are.long) in
      live-made x (cell-live k n rows sound i (slice_index least p) x (cells-live i least named p 0 within) ((are.members p within x).0 has))

  -- the places of darts are those of their 0-cells
  lies-in : (vertices : List ℕ) (lists : List (List ℕ)) (places : List ℕ) → ListsCells k rows 0 vertices → AreCellsOf k (links_of rows) 0 vertices lists
      → ((x p : ℕ) → IsPlaced lists x p → IsPlaced lists x (slice_index places x)) → (x : ℕ) → IsLive rows x → LiesIn k (links_of rows) vertices x (slice_index places x)
  lies-in vertices lists places named are placed x live =
      let some = listed k n rows 0 vertices lists sound named.members are x live in
      let own = placed x some.0 (some.1, some.2) in
      let within : slice_index places x < length vertices = omega (arith, own.0, are.long) in
      (within, (are.members (slice_index places x) within x).0 own.1)

  pub off-rows : (values : ℕ → Option Value) (off : OffRows) (vertices cells edges : List ℕ) (rounds lists : List (List ℕ)) (places : List ℕ)
      → ListsCells k rows 0 vertices → AreCellsOf k (links_of rows) 0 vertices lists → ((x p : ℕ) → IsPlaced lists x p → IsPlaced lists x (slice_index places x))
      → AllZip (λ d point. values d ≡ Some point) vertices off.points
      → ListsCells k rows 2 cells → AllZip (IsRound k (links_of rows)) cells rounds → off.faces ≡ map (map (slice_index places)) rounds
      → ListsCells k rows 1 edges → off.edges ≡ length edges → AreOffRows k rows values off
  off-rows values off vertices cells edges rounds lists places named are placed points faced zip faces edged count = record {
    vertices = vertices;
    vertices_listed = named;
    points = points;
    cells = cells;
    cells_listed = faced;
    faces =
        subst (AllZip (IsFaceOf k (links_of rows) vertices) cells) (sym faces)
        (zip-onward (IsRound k (links_of rows)) (IsFaceOf k (links_of rows) vertices) (All (IsLive rows)) (map (slice_index places))
        (λ d round is live. (round, is, zip-map (LiesIn k (links_of rows) vertices) (slice_index places) round (λ p e low. lies-in vertices lists places named are placed (get_or round p e) (live p e low))))
        cells rounds zip (rounds-live cells rounds faced zip));
    edges = record { numbers = edges; ascending = edged.ascending; members = edged.members; counted = sym count };
  }

  pub none-open : (cells : List ℕ) (rounds : List (List ℕ)) → ListsCells k rows 2 cells → AllZip (IsRound k (links_of rows)) cells rounds → HasOpenFace k rows → ⊥
  none-open cells rounds lists zip has =
      let found = zip-find (IsRound k (links_of rows)) cells rounds has.0 zip ((lists.members has.0).1 has.1) in
      round-closed k (links_of rows) has.0 found.0 (rows-nothing k n rows sound) (live-dart has.0 has.1.0) found.2 has.2

  pub none-thin : (cells : List ℕ) (rounds : List (List ℕ)) → ListsCells k rows 2 cells → AllZip (IsRound k (links_of rows)) cells rounds → All (λ round. 3 ≤ length round) rounds → HasThinFace k rows → ⊥
  none-thin cells rounds lists zip thick has =
      let found = zip-find (IsRound k (links_of rows)) cells rounds has.0 zip ((lists.members has.0).1 has.1) in
      let long = all-at (λ round. 3 ≤ length round) rounds found.0 thick found.1 in
      let thin = has.2 in
      let same = round-one k (links_of rows) has.0 found.0 thin.0 found.2 thin.1 in
      omega (arith, long, thin.2, ap length same)

  pub some-thin : (cells : List ℕ) (rounds : List (List ℕ)) (round : List ℕ) → ListsCells k rows 2 cells → AllZip (IsRound k (links_of rows)) cells rounds → Contains rounds round → length round < 3 → HasThinFace k rows
  some-thin cells rounds round lists zip has short =
      let found = zip-found (IsRound k (links_of rows)) cells rounds round zip has in
      (found.0, (lists.members found.0).0 found.1, (round, found.2, short))

pub none-lacks : (k : Kind) (rows : Rows) (values : ℕ → Option Value) (vertices : List ℕ) (points : List Value) → ListsCells k rows 0 vertices
    → AllZip (λ d point. values d ≡ Some point) vertices points → LacksPoint k rows values → ⊥
none-lacks k rows values vertices points lists zip has =
    let found = zip-find (λ d point. values d ≡ Some point) vertices points has.0 zip ((lists.members has.0).1 has.1) in
    false≢true (sym (ap (λ (value : Option Value). is_some value) has.2) ∙ ap (λ (value : Option Value). is_some value) found.2)
