-- Rows of new darts: the numbers that they stand in, and the changes that they tell.
use Rattle.std.proofs.Common.{◌≡◌, ◌≢◌, ℕ, zero, suc, ◌+◌, ◌-◌, ◌*◌, ◌<◌, ◌≤◌, List, [], ◌∷◌, ◌++◌, Contains, Option, Some, None, length, get_or, set, take, drop, replicate, refl, sym, ap, ap₂, subst, ◌∙◌, inl, inr, arith, suc-mul, zero-mul, mul-le-mul_right, add-one, append_assoc}
use Rattle.std.specs.Prelude.{All, IfSome}
use Rattle.std.proofs.lemmas.Bool.{cases_eq, ne_eqb}
use Rattle.std.proofs.lemmas.List.{drop_at, drop_more, drop-drop, drop-append-le, drop-replicate, drop-set-add, drop-set-lt, get_or-drop, get_or-set_same, get_or-take, length-drop, length-take-le, nil_from_length, take-append-le, take-replicate, take-set-le, take_all, take_at, take_more, set-set, set_at}
use Rattle.std.proofs.lemmas.List.Elements.{All-contains, All-drop, All-same, All-take, Contains-append_left, Contains-append_right, Contains-append_cases}
use Rattle.map_defs.specs.Rows.{Rows}
use Rattle.map_defs.specs.Edits.{Change, unlinked, with_entry}
use Rattle.edit_laws.proofs.RowWrites.{set-take}
use Rattle.dart_arena.specs.RowChanges.{row_changes}
use Rattle.link_rows.specs.BornRows.{rows_changes, rows_of, back_changes, led_back}

-- a row ends within the numbers
pub row-within : (p count width : ℕ) → p < count → p * width + width ≤ count * width
row-within p count width h =
    let most : suc p * width ≤ count * width = mul-le-mul_right width (omega arith) in
    omega (arith, suc-mul p width)

-- one row more
pub rows-long : (count width : ℕ) → (count + 1) * width ≡ count * width + width
rows-long count width = ap (λ (m : ℕ). m * width) (add-one count) ∙ suc-mul count width

-- the link at which darts lead back stays within the rows
pub back-within : {b c : Option ℕ} {v w : ℕ} → b ≡ c → v ≡ w → IfSome c (λ (i : ℕ). i < w) → IfSome b (λ (i : ℕ). i < v)
back-within {c = c} {v = v} same wide within =
    subst (λ (o : Option ℕ). IfSome o (λ (i : ℕ). i < v)) (sym same) (subst (λ (m : ℕ). IfSome c (λ (i : ℕ). i < m)) (sym wide) within)

-- one number more of a row, written over another
row-put-more : (row old : List ℕ) (link : ℕ) → link < length row → link < length old
    → set (take link row ++ drop link old) link (get_or row link 0) ≡ take (link + 1) row ++ drop (link + 1) old
row-put-more row old link h within =
    let y : ℕ = get_or row link 0 in
    ap (λ (ys : List ℕ). set (take link row ++ ys) link y) (drop_more old link 0 within)
    ∙ set_at (take link row) (get_or old link 0) (drop (link + 1) old) y link (length-take-le link row (omega arith))
    ∙ sym (append_assoc (take link row) (y ∷ []) (drop (link + 1) old))
    ∙ ap (λ (ys : List ℕ). ys ++ drop (link + 1) old) (sym (take_more row link 0 h))

module _ (width : ℕ) where
  -- so many rows
  pub rows-count : (count : ℕ) (numbers : List ℕ) → length (rows_of width count numbers) ≡ count
  rows-count zero numbers = refl
  rows-count (suc count) numbers = ap suc (rows-count count (drop width numbers))

  pub place-below : (count p : ℕ) (numbers : List ℕ) (rows : List (List ℕ)) → rows_of width count numbers ≡ rows → p < length rows → p < count
  place-below count p numbers rows is h = omega (arith, ap length is, rows-count count numbers)

  -- the row at a place
  pub rows-at : (count p : ℕ) (numbers other : List ℕ) → p < count → get_or (rows_of width count numbers) p other ≡ take width (drop (p * width) numbers)
  rows-at zero p numbers other h = absurd (omega arith)
  rows-at (suc count) zero numbers other h = ap (λ (m : ℕ). take width (drop m numbers)) (sym (zero-mul width))
  rows-at (suc count) (suc p) numbers other h =
      let on : width + p * width ≡ suc p * width = omega (arith, suc-mul p width) in
      rows-at count p (drop width numbers) other (omega arith)
      ∙ ap (take width) (drop-drop (p * width) width numbers ∙ ap (λ (m : ℕ). drop m numbers) on)

  -- the number at a link of the row at a place
  pub number-at : (count p link : ℕ) (numbers : List ℕ) → p < count → link < width
      → get_or numbers (p * width + link) 0 ≡ get_or (get_or (rows_of width count numbers) p []) link 0
  number-at count p link numbers h within =
      sym (
      ap (λ (row : List ℕ). get_or row link 0) (rows-at count p numbers [] h)
      ∙ get_or-take width (drop (p * width) numbers) link 0 within ∙ get_or-drop (p * width) numbers link 0
      )

  -- each row is as wide
  pub row-wide : (count p : ℕ) (numbers : List ℕ) → length numbers ≡ count * width → p < count → length (get_or (rows_of width count numbers) p []) ≡ width
  row-wide count p numbers long h =
      let enough : width ≤ length (drop (p * width) numbers) = omega (arith, row-within p count width h, length-drop (p * width) numbers) in
      ap length (rows-at count p numbers [] h) ∙ length-take-le width (drop (p * width) numbers) enough

  -- one more row behind the others
  pub rows-more : (count : ℕ) (numbers row : List ℕ) → length numbers ≡ count * width → length row ≡ width
      → rows_of width (suc count) (numbers ++ row) ≡ rows_of width count numbers ++ row ∷ []
  rows-more zero numbers row long wide =
      let none : numbers ≡ [] = nil_from_length numbers (long ∙ zero-mul width) in
      rw none (ap (λ (r : List ℕ). r ∷ []) (take_all width row (omega arith)))
  rows-more (suc count) numbers row long wide =
      let enough : width ≤ length numbers = omega (arith, suc-mul count width) in
      let rest : length (drop width numbers) ≡ count * width = omega (arith, suc-mul count width, length-drop width numbers) in
      ap₂ (λ (r : List ℕ) (rs : List (List ℕ)). r ∷ rs) (take-append-le width numbers row enough)
      (ap (rows_of width (suc count)) (drop-append-le width numbers row enough) ∙ rows-more count (drop width numbers) row rest wide)

  -- one number of a row, written
  pub rows-set : (count p link to i : ℕ) (numbers : List ℕ) → i ≡ p * width + link → p < count → link < width
      → rows_of width count (set numbers i to) ≡ set (rows_of width count numbers) p (set (get_or (rows_of width count numbers) p []) link to)
  rows-set zero p link to i numbers at h within = absurd (omega arith)
  rows-set (suc count) zero link to i numbers at h within =
      let same : i ≡ link = omega (arith, zero-mul width) in
      ap₂ (λ (r : List ℕ) (ns : List ℕ). r ∷ rows_of width count ns)
      (ap (λ (m : ℕ). take width (set numbers m to)) same ∙ sym (set-take width numbers link to))
      (drop-set-lt width numbers i to (omega arith))
  rows-set (suc count) (suc p) link to i numbers at h within =
      let j : ℕ = p * width + link in
      let on : i ≡ width + j = omega (arith, suc-mul p width) in
      ap₂ (λ (r : List ℕ) (rs : List (List ℕ)). r ∷ rs)
      (take-set-le width numbers i to (omega arith))
      (ap (λ (m : ℕ). rows_of width count (drop width (set numbers m to))) on
      ∙ ap (rows_of width count) (drop-set-add width numbers j to)
      ∙ rows-set count p link to j (drop width numbers) refl (omega arith) within)

  -- one number more of a row, written behind those before it
  pub rows-put-more : (count p link i : ℕ) (numbers : List ℕ) (rows : List (List ℕ)) (row : List ℕ)
      → rows_of width count numbers ≡ set rows p (take link row ++ drop link (get_or rows p []))
      → p < count → p < length rows → length (get_or rows p []) ≡ width → length row ≡ width → link < width → i ≡ p * width + link
      → rows_of width count (set numbers i (get_or row link 0)) ≡ set rows p (take (link + 1) row ++ drop (link + 1) (get_or rows p []))
  rows-put-more count p link i numbers rows row put below place old wide within at =
      let mixed : List ℕ = take link row ++ drop link (get_or rows p []) in
      let y : ℕ = get_or row link 0 in
      let read : get_or (rows_of width count numbers) p [] ≡ mixed = ap (λ (rs : List (List ℕ)). get_or rs p []) put ∙ get_or-set_same rows p mixed [] place in
      rows-set count p link y i numbers at below within
      ∙ ap₂ (λ (rs : List (List ℕ)) (r : List ℕ). set rs p (set r link y)) put read
      ∙ set-set rows p mixed (set mixed link y)
      ∙ ap (set rows p) (row-put-more row (get_or rows p []) link (omega arith) (omega arith))

  -- rows of zeros
  pub rows-zeros : (count n : ℕ) → n ≡ count * width → rows_of width count (replicate n zero) ≡ replicate count (replicate width zero)
  rows-zeros zero n is = refl
  rows-zeros (suc count) n is =
      let rest : n - width ≡ count * width = omega (arith, suc-mul count width) in
      ap₂ (λ (r : List ℕ) (rs : List (List ℕ)). r ∷ rs) (take-replicate width n zero (omega (arith, suc-mul count width)))
      (ap (rows_of width count) (drop-replicate width n zero) ∙ rows-zeros count (n - width) rest)

-- the changes of the rows from a place on are those of the row there, and of the rows behind it
pub rows-split : (first p d : ℕ) (rows : List (List ℕ)) (row : List ℕ) → p < length rows → d ≡ first + p → row ≡ get_or rows p []
    → rows_changes (first + p) (drop p rows) ≡ row_changes d 0 row ++ rows_changes (first + (p + 1)) (drop (p + 1) rows)
rows-split first p d rows row h is same =
    let on : first + p + 1 ≡ first + (p + 1) = omega arith in
    ap (rows_changes (first + p)) (drop_more rows p [] h)
    ∙ ap (λ (m : ℕ). row_changes (first + p) 0 (get_or rows p []) ++ rows_changes m (drop (p + 1) rows)) on
    ∙ ap₂ (λ (m : ℕ) (r : List ℕ). row_changes m 0 r ++ rows_changes (first + (p + 1)) (drop (p + 1) rows)) (sym is) (sym same)

-- the links of a dart, one after another: a number that is 0 tells no change
pub row-none : (d i y : ℕ) (ys : List ℕ) → y ≡ 0 → row_changes d i (y ∷ ys) ≡ row_changes d (i + 1) ys
row-none d i y ys none = rw none refl

pub row-some : (d i y : ℕ) (ys : List ℕ) → y ≢ 0 → row_changes d i (y ∷ ys) ≡ record { dart = d; link = i; old = 0; new = y } ∷ row_changes d (i + 1) ys
row-some d i y ys some = rw (ne_eqb y 0 some) refl

-- changes taken back, the last ones first
pub unlinked-append : (bs cs : List Change) (rows : Rows) → unlinked (bs ++ cs) rows ≡ unlinked bs (unlinked cs rows)
unlinked-append [] cs rows = refl
unlinked-append (b ∷ bs) cs rows = ap (λ (r : Rows). with_entry r b.dart b.link b.old) (unlinked-append bs cs rows)

-- what is true of all changes is true of the first of them, and of the others
pub All-front : (P : Change → Type 0) (bs cs : List Change) → All P (bs ++ cs) → All P bs
All-front P bs cs all =
    All-same P bs (take (length bs) (bs ++ cs)) (sym (take_at bs cs (length bs) refl)) (All-take P (length bs) (bs ++ cs) all)

pub All-behind : (P : Change → Type 0) (bs cs : List Change) → All P (bs ++ cs) → All P cs
All-behind P bs cs all =
    All-same P cs (drop (length bs) (bs ++ cs)) (sym (drop_at bs cs (length bs) refl)) (All-drop P (length bs) (bs ++ cs) all)

-- a change that is known by its fields
change-is : (c : Change) (d link new : ℕ) → c.dart ≡ d → c.link ≡ link → c.old ≡ zero → c.new ≡ new → record { dart = d; link = link; old = zero; new = new } ≡ c
change-is c d link new dart at old to = λ k. record { dart = sym dart k; link = sym at k; old = sym old k; new = sym to k }

-- A change is one of those that give the links from i on of dart d these numbers.
record IsRowChange (d i : ℕ) (row : List ℕ) (c : Change) : Type 0 where
  dart : c.dart ≡ d
  from : i ≤ c.link
  old : c.old ≡ 0
  new : c.new ≡ get_or row (c.link - i) 0
  some : c.new ≢ 0

behind-change : (d i y : ℕ) (ys : List ℕ) (c : Change) → IsRowChange d (i + 1) ys c → IsRowChange d i (y ∷ ys) c
behind-change d i y ys c is =
    let from : i + 1 ≤ c.link = is.from in
    let behind : c.link - i ≡ suc (c.link - (i + 1)) = omega arith in
    record { dart = is.dart; from = omega arith; old = is.old; new = is.new ∙ ap (λ (m : ℕ). get_or (y ∷ ys) m 0) (sym behind); some = is.some }

one-at : (b c : Change) (k : ℕ) → k < 1 → get_or (b ∷ []) k c ≡ c → b ≡ c
one-at b c zero h is = is
one-at b c (suc k) h is = absurd (omega arith)

row-told : (d i : ℕ) (row : List ℕ) (c : Change) → Contains (row_changes d i row) c → IsRowChange d i row c
row-told d i [] c h = absurd (let none = h.1 in omega arith)
row-told d i (y ∷ ys) c h = elim (cases_eq y 0) [
  | inl none ↦ behind-change d i y ys c (row-told d (i + 1) ys c (subst (λ (cs : List Change). Contains cs c) (row-none d i y ys none) h))
  | inr some ↦
      let b : Change = record { dart = d; link = i; old = 0; new = y } in
      let all : Contains ((b ∷ []) ++ row_changes d (i + 1) ys) c = subst (λ (cs : List Change). Contains cs c) (row-some d i y ys some) h in
      elim (Contains-append_cases (b ∷ []) (row_changes d (i + 1) ys) c all) [
        | inl one ↦
            let is : b ≡ c = one-at b c one.0 one.1 one.2 in
            let at : i ≡ c.link = ap (λ (x : Change). x.link) is in
            let to : y ≡ c.new = ap (λ (x : Change). x.new) is in
            let first : c.link - i ≡ 0 = omega arith in
            record {
              dart = sym (ap (λ (x : Change). x.dart) is);
              from = omega arith;
              old = sym (ap (λ (x : Change). x.old) is);
              new = sym to ∙ ap (λ (m : ℕ). get_or (y ∷ ys) m 0) (sym first);
              some = λ none. some (to ∙ none);
            }
        | inr others ↦ behind-change d i y ys c (row-told d (i + 1) ys c others)
      ]
]

row-tells : (d i : ℕ) (row : List ℕ) (link : ℕ) (c : Change) → c.dart ≡ d → c.link ≡ i + link → c.old ≡ zero → c.new ≡ get_or row link zero → c.new ≢ zero
    → Contains (row_changes d i row) c
row-tells d i [] link c dart at old to some = absurd (some to)
row-tells d i (y ∷ ys) zero c dart at old to some =
    let b : Change = record { dart = d; link = i; old = 0; new = y } in
    subst (λ (cs : List Change). Contains cs c) (sym (row-some d i y ys (λ none. some (to ∙ none))))
    (Contains-append_left (b ∷ []) (row_changes d (i + 1) ys) c (0, omega arith, change-is c d i y dart (omega arith) old to))
row-tells d i (y ∷ ys) (suc link) c dart at old to some =
    let rest = row-tells d (i + 1) ys link c dart (omega arith) old to some in
    elim (cases_eq y 0) [
      | inl none ↦ subst (λ (cs : List Change). Contains cs c) (sym (row-none d i y ys none)) rest
      | inr other ↦
          let b : Change = record { dart = d; link = i; old = 0; new = y } in
          subst (λ (cs : List Change). Contains cs c) (sym (row-some d i y ys other)) (Contains-append_right (b ∷ []) (row_changes d (i + 1) ys) c rest)
    ]

-- A change is one of those that rows of darts from d on tell: it gives a free link of the dart at a place the number that its
-- row has there.
pub record IsTold (d : ℕ) (rows : List (List ℕ)) (c : Change) : Type 0 where
  pub place : ℕ
  pub within : place < length rows
  pub dart : c.dart ≡ d + place
  pub old : c.old ≡ 0
  pub new : c.new ≡ get_or (get_or rows place []) c.link 0
  pub some : c.new ≢ 0

pub rows-told : (d : ℕ) (rows : List (List ℕ)) (c : Change) → Contains (rows_changes d rows) c → IsTold d rows c
rows-told d [] c h = absurd (let none = h.1 in omega arith)
rows-told d (row ∷ rows) c h = elim (Contains-append_cases (row_changes d 0 row) (rows_changes (d + 1) rows) c h) [
  | inl one ↦
      let is = row-told d 0 row c one in
      let same : c.link - 0 ≡ c.link = omega arith in
      record {
        place = 0;
        within = omega arith;
        dart = omega (arith, is.dart);
        old = is.old;
        new = is.new ∙ ap (λ (m : ℕ). get_or row m 0) same;
        some = is.some;
      }
  | inr others ↦
      let is = rows-told (d + 1) rows c others in
      record {
        place = suc is.place;
        within = omega (arith, is.within);
        dart = omega (arith, is.dart);
        old = is.old;
        new = is.new;
        some = is.some;
      }
]

-- where the rows tell of a dart, there is a row, and the first one is of that dart or one before it
pub rows-begun : (d : ℕ) (rows : List (List ℕ)) (c : Change) → Contains (rows_changes d rows) c → (0 < length rows) × (d ≤ c.dart)
rows-begun d rows c h = let told = rows-told d rows c h in (omega (arith, told.within), omega (arith, told.dart))

pub rows-tell : (d : ℕ) (rows : List (List ℕ)) (p : ℕ) (c : Change) → c.dart ≡ d + p → c.old ≡ zero → c.new ≡ get_or (get_or rows p []) c.link zero → c.new ≢ zero
    → Contains (rows_changes d rows) c
rows-tell d [] p c dart old to some = absurd (some to)
rows-tell d (row ∷ rows) zero c dart old to some =
    Contains-append_left (row_changes d 0 row) (rows_changes (d + 1) rows) c
    (row-tells d 0 row c.link c (omega arith) (omega arith) old to some)
rows-tell d (row ∷ rows) (suc p) c dart old to some =
    Contains-append_right (row_changes d 0 row) (rows_changes (d + 1) rows) c (rows-tell (d + 1) rows p c (omega arith) old to some)

-- where the changes name links up to n alone, the rows have zeros behind
pub rows-narrow : (n d : ℕ) (rows : List (List ℕ)) → All (λ (c : Change). c.link ≤ n) (rows_changes d rows)
    → (p link : ℕ) → get_or (get_or rows p []) link 0 ≢ 0 → link ≤ n
rows-narrow n d rows links p link some =
    let c : Change = record { dart = d + p; link = link; old = 0; new = get_or (get_or rows p []) link 0 } in
    All-contains (λ (b : Change). b.link ≤ n) (rows_changes d rows) c links (rows-tell d rows p c refl refl refl some)

-- The darts that rows name at link i lead back, one row after another: a row that names none there tells no change.
pub back-none : (i d : ℕ) (row : List ℕ) (rows : List (List ℕ)) → get_or row i 0 ≡ 0 → back_changes i d (row ∷ rows) ≡ back_changes i (d + 1) rows
back-none i d row rows none = rw none refl

pub back-some : (i d : ℕ) (row : List ℕ) (rows : List (List ℕ)) → get_or row i 0 ≢ 0
    → back_changes i d (row ∷ rows) ≡ record { dart = get_or row i 0; link = i; old = 0; new = d } ∷ back_changes i (d + 1) rows
back-some i d row rows some = rw (ne_eqb (get_or row i 0) 0 some) refl

-- rows behind others tell changes behind theirs
pub back-append : (i d : ℕ) (xs ys : List (List ℕ)) → back_changes i d (xs ++ ys) ≡ back_changes i d xs ++ back_changes i (d + length xs) ys
back-append i d [] ys = ap (λ (m : ℕ). back_changes i m ys) (omega arith)
back-append i d (x ∷ xs) ys =
    let on : d + 1 + length xs ≡ d + length (x ∷ xs) = omega arith in
    let behind : List Change = back_changes i (d + length (x ∷ xs)) ys in
    let rest : back_changes i (d + 1) (xs ++ ys) ≡ back_changes i (d + 1) xs ++ behind =
    back-append i (d + 1) xs ys ∙ ap (λ (m : ℕ). back_changes i (d + 1) xs ++ back_changes i m ys) on in
    elim (cases_eq (get_or x i 0) 0) [
      | inl none ↦ back-none i d x (xs ++ ys) none ∙ rest ∙ ap (λ (cs : List Change). cs ++ behind) (sym (back-none i d x xs none))
      | inr some ↦
          let one : Change = record { dart = get_or x i 0; link = i; old = 0; new = d } in
          back-some i d x (xs ++ ys) some ∙ ap (λ (cs : List Change). one ∷ cs) rest
          ∙ ap (λ (cs : List Change). cs ++ behind) (sym (back-some i d x xs some))
    ]

-- A change is one of those by which the darts that rows name at link i lead back to darts from d on: it gives the free link i
-- of the dart that the row at a place names the dart of that row.
pub record IsLedBack (i d : ℕ) (rows : List (List ℕ)) (c : Change) : Type 0 where
  pub place : ℕ
  pub within : place < length rows
  pub dart : c.dart ≡ get_or (get_or rows place []) i 0
  pub link : c.link ≡ i
  pub old : c.old ≡ 0
  pub new : c.new ≡ d + place
  pub some : c.dart ≢ 0

behind-row : (i d : ℕ) (row : List ℕ) (rows : List (List ℕ)) (c : Change) → IsLedBack i (d + 1) rows c → IsLedBack i d (row ∷ rows) c
behind-row i d row rows c is =
    record {
      place = suc is.place;
      within = omega (arith, is.within);
      dart = is.dart;
      link = is.link;
      old = is.old;
      new = omega (arith, is.new);
      some = is.some;
    }

pub back-told : (i d : ℕ) (rows : List (List ℕ)) (c : Change) → Contains (back_changes i d rows) c → IsLedBack i d rows c
back-told i d [] c h = absurd (let none = h.1 in omega arith)
back-told i d (row ∷ rows) c h = elim (cases_eq (get_or row i 0) 0) [
  | inl none ↦
      let rest : Contains (back_changes i (d + 1) rows) c = subst (λ (cs : List Change). Contains cs c) (back-none i d row rows none) h in
      behind-row i d row rows c (back-told i (d + 1) rows c rest)
  | inr some ↦
      let b : Change = record { dart = get_or row i 0; link = i; old = 0; new = d } in
      let all : Contains ((b ∷ []) ++ back_changes i (d + 1) rows) c = subst (λ (cs : List Change). Contains cs c) (back-some i d row rows some) h in
      elim (Contains-append_cases (b ∷ []) (back_changes i (d + 1) rows) c all) [
        | inl one ↦
            let is : b ≡ c = one-at b c one.0 one.1 one.2 in
            let to : d ≡ c.new = ap (λ (x : Change). x.new) is in
            let dart : get_or row i 0 ≡ c.dart = ap (λ (x : Change). x.dart) is in
            record {
              place = 0;
              within = omega arith;
              dart = sym dart;
              link = sym (ap (λ (x : Change). x.link) is);
              old = sym (ap (λ (x : Change). x.old) is);
              new = omega arith;
              some = λ none. some (dart ∙ none);
            }
        | inr others ↦ behind-row i d row rows c (back-told i (d + 1) rows c others)
      ]
]

pub back-tell : (i d : ℕ) (rows : List (List ℕ)) (p : ℕ) (c : Change) → c.dart ≡ get_or (get_or rows p []) i zero → c.link ≡ i → c.old ≡ zero → c.new ≡ d + p
    → c.dart ≢ zero → Contains (back_changes i d rows) c
back-tell i d [] p c dart link old new some = absurd (some dart)
back-tell i d (row ∷ rows) zero c dart link old new some =
    let b : Change = record { dart = get_or row i 0; link = i; old = 0; new = d } in
    subst (λ (cs : List Change). Contains cs c) (sym (back-some i d row rows (λ none. some (dart ∙ none))))
    (Contains-append_left (b ∷ []) (back_changes i (d + 1) rows) c (0, omega arith, change-is c (get_or row i 0) i d dart link old (omega arith)))
back-tell i d (row ∷ rows) (suc p) c dart link old new some =
    let rest = back-tell i (d + 1) rows p c dart link old (omega arith) some in
    elim (cases_eq (get_or row i 0) 0) [
      | inl none ↦ subst (λ (cs : List Change). Contains cs c) (sym (back-none i d row rows none)) rest
      | inr other ↦
          let b : Change = record { dart = get_or row i 0; link = i; old = 0; new = d } in
          subst (λ (cs : List Change). Contains cs c) (sym (back-some i d row rows other)) (Contains-append_right (b ∷ []) (back_changes i (d + 1) rows) c rest)
    ]

-- what is true of all these changes is true of the one that the row at a place tells
pub back-each : (P : Change → Type 0) (i d : ℕ) (rows : List (List ℕ)) → All P (back_changes i d rows) → (p : ℕ) → get_or (get_or rows p []) i 0 ≢ 0
    → P (record { dart = get_or (get_or rows p []) i 0; link = i; old = 0; new = d + p })
back-each P i d rows all p some =
    let c : Change = record { dart = get_or (get_or rows p []) i 0; link = i; old = 0; new = d + p } in
    All-contains P (back_changes i d rows) c all (back-tell i d rows p c refl refl refl refl some)

-- where no link leads back, and where link i does
pub led-none : (d : ℕ) (rows : List (List ℕ)) → led_back None d rows ≡ []
led-none d [] = refl
led-none d (row ∷ rows) = refl

pub led-some : (i d : ℕ) (rows : List (List ℕ)) → led_back (Some i) d rows ≡ back_changes i d rows
led-some i d [] = refl
led-some i d (row ∷ rows) = refl

pub led-at : (back : Option ℕ) (i d : ℕ) (rows : List (List ℕ)) → back ≡ Some i → led_back back d rows ≡ back_changes i d rows
led-at back i d rows is = ap (λ (b : Option ℕ). led_back b d rows) is ∙ led-some i d rows

-- a change by which a dart leads back is one of the link that does so
pub led-link : (back : Option ℕ) (d : ℕ) (rows : List (List ℕ)) (c : Change) → Contains (led_back back d rows) c → back ≡ Some c.link
led-link None d rows c h = absurd (let none = (subst (λ (cs : List Change). Contains cs c) (led-none d rows) h).1 in omega arith)
led-link (Some i) d rows c h =
    ap (λ (m : ℕ). Some m) (sym ((back-told i d rows c (subst (λ (cs : List Change). Contains cs c) (led-some i d rows) h)).link))

-- a change of a dart by a link that leads back
pub led-told : (back : Option ℕ) (d : ℕ) (rows : List (List ℕ)) (c : Change) → Contains (led_back back d rows) c → IsLedBack c.link d rows c
led-told back d rows c h =
    let all : Contains (led_back (Some c.link) d rows) c = subst (λ (b : Option ℕ). Contains (led_back b d rows) c) (led-link back d rows c h) h in
    back-told c.link d rows c (subst (λ (cs : List Change). Contains cs c) (led-some c.link d rows) all)
