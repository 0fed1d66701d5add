-- What holds of rows that are read.
use Rattle.std.proofs.Common.{◌≡◌, ℕ, zero, suc, ◌+◌, ◌-◌, ◌≤◌, ◌<◌, ◌==◌, ◌&&◌, nat_le, nat_lt, Bool, true, false, cond, List, [], ◌∷◌, ◌++◌, length, drop, Option, Some, None, Result, Ok, Err, refl, sym, ap, ◌∙◌, arith, slice_get, inl, inr, ◌⊎◌}
use Rattle.std.specs.Prelude.{slice_index, All}
use Rattle.std.specs.List.{before_first, after_first}
use Rattle.std.specs.List.Sorted.{IsStrictlyIncreasing}
use Rattle.std.proofs.lemmas.Bool.{leb-true, cases_lt}
use Rattle.std.proofs.lemmas.List.{length-append, get_or_append_left, get_or-append_right}
use Rattle.std.proofs.lemmas.List.Elements.{All-push}
use Rattle.std.proofs.lemmas.Bool.Decides.{nat_tests}
use Rattle.map_defs.specs.Off.{◌>>=◌}
use Rattle.machine_defs.specs.Script as script
use Rattle.machine_defs.specs.Listing.{ListRow}
use Rattle.machine_defs.specs.ListingLines.{numeral_within, entries, entries_behind, row_of, words_between, is_colon}
use Rattle.machine_defs.specs.ListingForm.{ListingWhat, ListingFault, Unread, on_line, next_line, formed, last_of, rises, put, put_row, is_row_below, taken, row_taken, rows_read}
use Rattle.row_laws.specs.Rows.{darts_of, IsRow, IsMadeRow, AreRows}

abbrev pub good : {A E : Type 0} → A → Result A E
good x = Ok x

pub ok_is : {A E : Type 0} (x y : A) → good {E = E} x ≡ good y → x ≡ y
ok_is x y e = cc

abbrev pub some : {A : Type 0} → A → Option A
some x = Some x

pub some_is : {A : Type 0} (x y : A) → some x ≡ some y → x ≡ y
some_is x y e = cc

-- what went on from a value
pub went_on : {A B E : Type 0} (r : Result A E) (f : A → Result B E) (y : B) → (r >>= f) ≡ Ok y → (x : A) × (r ≡ Ok x) × (f x ≡ Ok y)
went_on (Ok x) f y h = (x, refl, h)
went_on (Err e) f y h = absurd cc

pub went_on_some : {A B : Type 0} (o : Option A) (f : A → Option B) (y : B) → script.◌>>=◌ o f ≡ Some y → (x : A) × (o ≡ Some x) × (f x ≡ Some y)
went_on_some (Some x) f y h = (x, refl, h)
went_on_some None f y h = absurd cc

within-range : (low high : ℕ) (word : List ℕ) (n : ℕ) → numeral_within low high word ≡ Some n → (low ≤ n) × (n ≤ high)
within-range low high word n h =
    let read = went_on_some (script.numeral word) (λ m. cond (nat_le low m && nat_le m high) (Some m) None) n h in
    at read.0 (nat_le low read.0) (nat_le read.0 high) refl refl read.2
  where
    at : (m : ℕ) (a b : Bool) → nat_le low m ≡ a → nat_le m high ≡ b → cond (a && b) (some m) None ≡ Some n → (low ≤ n) × (n ≤ high)
    at m true true e f h =
        let same : m ≡ n = some_is m n h in
        let le = leb-true low m e in
        let most = leb-true m high f in
        (omega (arith, le), omega (arith, most))
    at m true false e f h = absurd cc
    at m false b e f h = absurd cc

entries-long : (made count : ℕ) (words : List (List ℕ)) (es : List ℕ) → entries made count words ≡ Some es → length es ≡ count
entries-long made zero [] es h = let e : es ≡ [] = sym (some_is [] es h) in rw e refl
entries-long made zero (word ∷ words) es h = absurd cc
entries-long made (suc count) [] es h = absurd cc
entries-long made (suc count) (word ∷ words) es h =
    let first = went_on_some (numeral_within 0 made word) (λ e. script.◌>>=◌ (entries made count words) (λ others. some (e ∷ others))) es h in
    let more = went_on_some (entries made count words) (λ others. some (first.0 ∷ others)) es first.2 in
    let is : es ≡ first.0 ∷ more.0 = sym (some_is (first.0 ∷ more.0) es more.2) in
    let long = entries-long made count words more.0 more.1 in
    rw is (omega (arith, long))

behind-long : (made count : ℕ) (words : List (List ℕ)) (es : List ℕ) → entries_behind made count words ≡ Some es → length es ≡ count
behind-long made count [] es h = absurd cc
behind-long made count (first ∷ words) es h = at (length first == 0) h
  where
    at : (b : Bool) → cond b (entries made count words) None ≡ Some es → length es ≡ count
    at true h = entries-long made count words es h
    at false h = absurd cc

abbrev pub row_with : ℕ → List ℕ → ListRow
row_with d links = record { dart = d; links = links }

-- a row that is read: its dart, and its entries
row_of-parts : (n made : ℕ) (line : List ℕ) (row : ListRow) → row_of n made line ≡ Some row
    → (numeral_within 1 made (before_first is_colon line) ≡ Some row.dart) × (entries_behind made (n + 1) (words_between (after_first is_colon line)) ≡ Some row.links)
row_of-parts n made line row h =
    let dart = went_on_some (numeral_within 1 made (before_first is_colon line)) (λ d. script.◌>>=◌ (entries_behind made (n + 1) (words_between (after_first is_colon line))) (λ links. some (row_with d links))) row h in
    let links = went_on_some (entries_behind made (n + 1) (words_between (after_first is_colon line))) (λ links. some (row_with dart.0 links)) row dart.2 in
    let is : row ≡ row_with dart.0 links.0 = sym (some_is (row_with dart.0 links.0) row links.2) in
    rw is (dart.1, links.1)

-- it is a dart's, and has the entries 0 to n
pub row_of-is : (n made : ℕ) (line : List ℕ) (row : ListRow) → row_of n made line ≡ Some row → IsRow n row
row_of-is n made line row h =
    let parts = row_of-parts n made line row h in
    let low = (within-range 1 made (before_first is_colon line) row.dart parts.0).0 in
    let long = behind-long made (n + 1) (words_between (after_first is_colon line)) row.links parts.1 in
    (omega (arith, low), long)

-- and the dart was made
row_of-made : (n made : ℕ) (line : List ℕ) (row : ListRow) → row_of n made line ≡ Some row → IsMadeRow made row
row_of-made n made line row h = (within-range 1 made (before_first is_colon line) row.dart (row_of-parts n made line row h).0).1

darts-push : (rows : List ListRow) (row : ListRow) → darts_of (rows ++ row ∷ []) ≡ darts_of rows ++ row.dart ∷ []
darts-push [] row = refl
darts-push (first ∷ rows) row = ap (λ (ds : List ℕ). first.dart ∷ ds) (darts-push rows row)

-- the row at a place
pub row-at : (rows : List ListRow) (i : ℕ) → i < length rows → (row : ListRow) × (slice_get rows i ≡ Some row) × (slice_index (darts_of rows) i ≡ row.dart)
row-at [] i h = absurd (omega arith)
row-at (row ∷ rows) zero h = (row, refl, refl)
row-at (row ∷ rows) (suc i) h = row-at rows i (omega arith)

pub rising-push : (xs : List ℕ) (x : ℕ) → IsStrictlyIncreasing xs → (0 < length xs → slice_index xs (length xs - 1) < x) → IsStrictlyIncreasing (xs ++ x ∷ [])
rising-push xs x up above k h = cases (cases_lt (k + 1) (length xs))
  where
    long : length (xs ++ x ∷ []) ≡ length xs + 1
    long = length-append xs (x ∷ [])

    cases : (k + 1 < length xs) ⊎ (length xs ≤ k + 1) → slice_index (xs ++ x ∷ []) k < slice_index (xs ++ x ∷ []) (k + 1)
    cases (inl low) =
        let first : slice_index (xs ++ x ∷ []) k ≡ slice_index xs k = get_or_append_left xs (x ∷ []) 0 k (omega arith) in
        let second : slice_index (xs ++ x ∷ []) (k + 1) ≡ slice_index xs (k + 1) = get_or_append_left xs (x ∷ []) 0 (k + 1) low in
        let less = up k low in
        omega (arith, less)
    cases (inr high) =
        let first : slice_index (xs ++ x ∷ []) k ≡ slice_index xs k = get_or_append_left xs (x ∷ []) 0 k (omega (arith, long)) in
        let zero_at : k + 1 - length xs ≡ 0 = omega (arith, long) in
        let second : slice_index (xs ++ x ∷ []) (k + 1) ≡ x = get_or-append_right xs (x ∷ []) (length xs) (k + 1) 0 refl high ∙ ap (slice_index (x ∷ [])) zero_at in
        let last : k ≡ length xs - 1 = omega (arith, long) in
        let less : slice_index xs (length xs - 1) < x = above (omega (arith, long)) in
        let there : slice_index xs k ≡ slice_index xs (length xs - 1) = ap (slice_index xs) last in
        omega (arith, less)

pub darts-long : (rows : List ListRow) → length (darts_of rows) ≡ length rows
darts-long [] = refl
darts-long (row ∷ rows) = ap (λ (n : ℕ). suc n) (darts-long rows)

-- a row that is put behind the others
put-is : (ordered : Bool) (known more : List ListRow) (row : ListRow) → put ordered known row ≡ Ok more → (ordered ≡ true) × (more ≡ known ++ row ∷ [])
put-is true known more row h = (refl, sym (ok_is (known ++ row ∷ []) more h))
put-is false known more row h = absurd cc

put-are : (n : ℕ) (known more : List ListRow) (row : ListRow) → AreRows n known → IsRow n row → put_row known row ≡ Ok more → AreRows n more
put-are n known more row are is h =
    let behind = put-is (rises is_row_below (last_of known) row) known more row h in
    let above : 0 < length (darts_of known) → slice_index (darts_of known) (length (darts_of known) - 1) < row.dart = λ some.
    let long = darts-long known in
    let last = row-at known (length known - 1) (omega (arith, long)) in
    let below : nat_lt last.0.dart row.dart ≡ true = ap (λ (o : Option ListRow). rises is_row_below o row) (sym last.1) ∙ behind.0 in
    let less : last.0.dart < row.dart = grind (arith, nat_tests) in
    let there : slice_index (darts_of known) (length (darts_of known) - 1) ≡ last.0.dart = ap (λ (m : ℕ). slice_index (darts_of known) (m - 1)) long ∙ last.2 in
    omega arith
    in
    rw behind.1 (record {
      ascending = rw (darts-push known row) (rising-push (darts_of known) row.dart are.ascending above);
      each = All-push (IsRow n) known row are.each is;
    })

put-made : (made : ℕ) (known more : List ListRow) (row : ListRow) → All (IsMadeRow made) known → IsMadeRow made row → put_row known row ≡ Ok more → All (IsMadeRow made) more
put-made made known more row all is h = rw (put-is (rises is_row_below (last_of known) row) known more row h).1 (All-push (IsMadeRow made) known row all is)

pub formed-is : {A : Type 0} (o : Option A) (x : A) → formed o ≡ Ok x → o ≡ Some x
formed-is (Some y) x h = ap (λ (z : _). Some z) (ok_is y x h)
formed-is None x h = absurd cc

pub on_line-is : {A : Type 0} (line : ℕ) (r : Result A ListingWhat) (x : A) → on_line line r ≡ Ok x → r ≡ Ok x
on_line-is line (Ok y) x h = ap (λ (z : _). Ok z) (ok_is y x h)
on_line-is line (Err what) x h = absurd cc

abbrev pair : List ListRow → Unread → Result (List ListRow × Unread) ListingFault
pair more left = Ok (more, left)

-- what holds of rows with one more that is read holds of all that are read
module _ (Kept : List ListRow → Type 0) (n made : ℕ)
    (one-more : (known more : List ListRow) (line : List ℕ) (row : ListRow) → Kept known → row_of n made line ≡ Some row → put_row known row ≡ Ok more → Kept more) where
  taken-kept : (known : List ListRow) (left : Unread) (x : List ListRow × Unread) → Kept known → taken (row_taken n made) 0 known left ≡ Ok x → Kept x.0
  unfolding taken
  taken-kept known left x kept h =
      let line = went_on (next_line left) (λ line. on_line line.1.line (row_taken n made known (drop 0 line.0)) >>= λ more. pair more line.1) x h in
      let more = went_on (on_line line.0.1.line (row_taken n made known (drop 0 line.0.0))) (λ more. pair more line.0.1) x line.2 in
      let rows = on_line-is line.0.1.line (row_taken n made known (drop 0 line.0.0)) more.0 more.1 in
      let row = went_on (formed (row_of n made (drop 0 line.0.0))) (put_row known) more.0 rows in
      let same : x.0 ≡ more.0 = ap (λ (p : List ListRow × Unread). p.0) (sym (ok_is (more.0, line.0.1) x more.2)) in
      rw same (one-more known more.0 (drop 0 line.0.0) row.0 kept (formed-is (row_of n made (drop 0 line.0.0)) row.0 row.1) row.2)

  rows_read-kept : (owed : ℕ) (known : List ListRow) (left : Unread) (x : List ListRow × Unread) → Kept known → rows_read n made owed known left ≡ Ok x → Kept x.0
  rows_read-kept zero known left x kept h =
      let same : x.0 ≡ known = ap (λ (p : List ListRow × Unread). p.0) (sym (ok_is (known, left) x h)) in
      rw same kept
  rows_read-kept (suc owed) known left x kept h =
      let more = went_on (taken (row_taken n made) 0 known left) (λ more. rows_read n made owed more.0 more.1) x h in
      rows_read-kept owed more.0.0 more.0.1 x (taken-kept known left more.0 kept more.1) more.2

-- rows that are read ascend, and each is a dart's and has the entries 0 to n
pub rows_read-are : (n made owed : ℕ) (known : List ListRow) (left : Unread) (x : List ListRow × Unread) → AreRows n known → rows_read n made owed known left ≡ Ok x → AreRows n x.0
rows_read-are n made = rows_read-kept (AreRows n) n made (λ known more line row are is. put-are n known more row are (row_of-is n made line row is))

-- and their darts were made
pub rows_read-made : (n made owed : ℕ) (known : List ListRow) (left : Unread) (x : List ListRow × Unread) → All (IsMadeRow made) known → rows_read n made owed known left ≡ Ok x → All (IsMadeRow made) x.0
rows_read-made n made = rows_read-kept (All (IsMadeRow made)) n made (λ known more line row all is. put-made made known more row all (row_of-made n made line row is))

pub no_rows : (n : ℕ) → AreRows n []
no_rows n = record { ascending = λ k h. absurd (omega arith); each = λ k d h. absurd (omega arith) }
