-- Reading lines one after the other, as loops do.
use Rattle.std.proofs.Common.{◌≡◌, ℕ, suc, ◌+◌, ◌-◌, ◌≤◌, ◌<◌, ◌==◌, ◌&&◌, Bool, true, false, not, cond, codes, List, [], ◌∷◌, length, drop, Result, Ok, Err, refl, sym, ap, ◌∙◌, arith}
use Rattle.std.specs.Str.{bytes_eq}
use Rattle.std.proofs.lemmas.Bool.{and_parts, false≢true}
use Rattle.std.specs.List.{list_all, starts_with}
use Rattle.std.proofs.lemmas.Bool.Decides.{nat_tests}
use Rattle.map_defs.specs.Off.{◌>>=◌}
use Rattle.machine_defs.specs.Script.{lines_of}
use Rattle.machine_defs.specs.Listing.{ListRow}
use Rattle.machine_defs.specs.ListingForm.{ListingWhat, ListingFault, Unread, unread, line_of, next_line, on_line, bad, taken, row_taken, rows_read, all_read, closed, ended, Form}
use Rattle.list_text.specs.declared.fault.ListFault.{ListFault}
use Rattle.list_text.specs.declared.fault.ListFault.TheVariants as outcome
use Rattle.list_text.specs.Meanings.{meaning, IsFault}
use Rattle.list_text.proofs.Cuts.{has_parts}

-- a line behind which a line feed stands
pub line_of-next : (line : ℕ) (text rest : List ℕ) → line_of line (text ∷ lines_of rest) ≡ Ok (text, unread (line + 1) (lines_of rest))
line_of-next line text rest = let parts = has_parts (λ b. b == 10) rest in rw parts.2 refl

-- so many rows
pub rows-on : (n made owed i : ℕ) (known more : List ListRow) (left after : Unread) (total : Result (List ListRow × Unread) ListingFault) → i < owed
    → taken (row_taken n made) 0 known left ≡ Ok (more, after) → rows_read n made (owed - i) known left ≡ total → rows_read n made (owed - (i + 1)) more after ≡ total
rows-on n made owed i known more left after total lt h so_far =
    let k : owed - i ≡ suc (owed - (i + 1)) = omega arith in
    let step : rows_read n made (owed - i) known left ≡ rows_read n made (owed - (i + 1)) more after = rw (k, h) refl in
    sym step ∙ so_far

pub rows-end : (fault : ListFault) (n made owed i : ℕ) (known : List ListRow) (left : Unread) (total : Result (List ListRow × Unread) ListingFault) → i < owed
    → IsFault fault (taken (row_taken n made) 0 known left) → rows_read n made (owed - i) known left ≡ total → IsFault fault total
rows-end outcome.NoMemory n made owed i known left total lt h so_far = tt
rows-end (outcome.Bad line what) n made owed i known left total lt h so_far =
    let k : owed - i ≡ suc (owed - (i + 1)) = omega arith in
    let step : rows_read n made (owed - i) known left ≡ bad line (meaning what) = rw (k, h) refl in
    sym so_far ∙ step

pub rows-done : (n made owed i : ℕ) (known : List ListRow) (left : Unread) (total : Result (List ListRow × Unread) ListingFault) → owed ≤ i
    → rows_read n made (owed - i) known left ≡ total → total ≡ Ok (known, left)
rows-done n made owed i known left total le so_far =
    let k : owed - i ≡ 0 = omega arith in
    let step : rows_read n made (owed - i) known left ≡ Ok (known, left) = rw k refl in
    sym so_far ∙ step

-- a byte that may stand in a line
abbrev pub is_inside : ℕ → Bool
is_inside b = not (b == 10)

-- a text begins so where its first line does, if no line feed is asked for
pub first-starts : (front text first : List ℕ) (others : List (List ℕ)) → list_all is_inside front ≡ true → lines_of text ≡ first ∷ others
    → starts_with ◌==◌ first front ≡ starts_with ◌==◌ text front
first-starts [] text first others all parts = refl
first-starts (x ∷ front) [] first others all parts = let e : first ≡ [] = cc in rw e refl
first-starts (x ∷ front) (b ∷ text) first others all parts =
    let both = and_parts (is_inside x) (list_all is_inside front) all in
    let rest = has_parts (λ b. b == 10) text in
    at (b == 10) refl rest.0 rest.1 both.0 (rw rest.2 at parts) (first-starts front text rest.0 rest.1 both.1 rest.2)
  where
    at : (feed : Bool) → b == 10 ≡ feed → (part : List ℕ) (more : List (List ℕ)) → is_inside x ≡ true → cond feed ([] ∷ part ∷ more) ((b ∷ part) ∷ more) ≡ first ∷ others
        → starts_with ◌==◌ part front ≡ starts_with ◌==◌ text front → starts_with ◌==◌ first (x ∷ front) ≡ starts_with ◌==◌ (b ∷ text) (x ∷ front)
    at true e part more inside parts below =
        let nothing : first ≡ [] = cc in
        let other : x == b ≡ false = grind (arith, nat_tests) in
        rw (nothing, other) refl
    at false e part more inside parts below =
        let begins : first ≡ b ∷ part = cc in
        rw begins (ap (λ (rest : Bool). x == b && rest) below)

-- something stands behind the last line
pub closed-more : (line : ℕ) (rest : List ℕ) → length rest == 0 ≡ false → closed line (lines_of rest) ≡ bad (line + 1) Form
closed-more line [] h = absurd (false≢true (sym h))
closed-more line (b ∷ rest) h =
    let parts = has_parts (λ b. b == 10) rest in
    rw parts.2 (at (b == 10) parts.0 parts.1)
  where
    at : (feed : Bool) (part : List ℕ) (more : List (List ℕ)) → closed line (cond feed ([] ∷ part ∷ more) ((b ∷ part) ∷ more)) ≡ bad (line + 1) Form
    at true part more = refl
    at false part [] = refl
    at false part (next ∷ more) = refl

pub ended-more : (left : Unread) (text rest : List ℕ) (line : ℕ) → next_line left ≡ Ok (text, unread line (lines_of rest)) → bytes_eq text (codes "end") ≡ true → length rest == 0 ≡ false
    → ended left ≡ bad (line + 1) Form
unfolding ended
ended-more left text rest line h is more = rw (h, is) (closed-more line rest more)

abbrev good : {A : Type 0} → A → Result A ListingFault
good x = Ok x

ok_is : {A : Type 0} (x y : A) → good x ≡ good y → x ≡ y
ok_is x y e = cc

module _ {A : Type 0} (take-line : A → List ℕ → Result A ListingWhat) where
  abbrev told-then : A → Unread → Result (A × Unread) ListingFault
  told-then x left = Ok (x, left)

  -- behind a line that is taken stand the lines behind it
  pub taken-after : (count : ℕ) (known more : A) (line : ℕ) (first : List ℕ) (others : List (List ℕ)) (after : Unread)
      → taken take-line count known (unread line (first ∷ others)) ≡ Ok (more, after) → after ≡ unread (line + 1) others
  unfolding taken
  taken-after count known more line first [] after h = absurd cc
  taken-after count known more line first (next ∷ others) after h = of_line (take-line known (drop count first)) h
    where
      of_line : (r : Result A ListingWhat) → (on_line (line + 1) r >>= λ x. told-then x (unread (line + 1) (next ∷ others))) ≡ Ok (more, after) → after ≡ unread (line + 1) (next ∷ others)
      of_line (Ok x) h = ap (λ (p : A × Unread). p.1) (sym (ok_is (x, unread (line + 1) (next ∷ others)) (more, after) h))
      of_line (Err what) h = absurd cc

  module _ (front : List ℕ) (clean : list_all is_inside front ≡ true) where
    pub section-on : (known more : A) (line : ℕ) (text : List ℕ) (after : Unread) (total : Result (A × Unread) ListingFault) → starts_with ◌==◌ text front ≡ true
        → taken take-line (length front) known (unread line (lines_of text)) ≡ Ok (more, after) → all_read front take-line known line (lines_of text) ≡ total
        → all_read front take-line more after.line after.pieces ≡ total
    section-on known more line text after total begins h so_far =
        let parts = has_parts (λ b. b == 10) text in
        let starts : starts_with ◌==◌ parts.0 front ≡ true = first-starts front text parts.0 parts.1 clean parts.2 ∙ begins in
        let here : taken take-line (length front) known (unread line (parts.0 ∷ parts.1)) ≡ Ok (more, after) = rw parts.2 at h in
        let behind = taken-after (length front) known more line parts.0 parts.1 after here in
        let step : all_read front take-line known line (parts.0 ∷ parts.1) ≡ all_read front take-line more (line + 1) parts.1 = rw (starts, here) refl in
        rw behind (sym step ∙ rw parts.2 at so_far)

    pub section-end : (fault : ListFault) (known : A) (line : ℕ) (text : List ℕ) (total : Result (A × Unread) ListingFault) → starts_with ◌==◌ text front ≡ true
        → IsFault fault (taken take-line (length front) known (unread line (lines_of text))) → all_read front take-line known line (lines_of text) ≡ total → IsFault fault total
    section-end outcome.NoMemory known line text total begins h so_far = tt
    section-end (outcome.Bad at-line what) known line text total begins h so_far =
        let parts = has_parts (λ b. b == 10) text in
        let starts : starts_with ◌==◌ parts.0 front ≡ true = first-starts front text parts.0 parts.1 clean parts.2 ∙ begins in
        let here : taken take-line (length front) known (unread line (parts.0 ∷ parts.1)) ≡ bad at-line (meaning what) = rw parts.2 at h in
        let step : all_read front take-line known line (parts.0 ∷ parts.1) ≡ bad at-line (meaning what) = rw (starts, here) refl in
        sym (rw parts.2 at so_far) ∙ step

    pub section-done : (known : A) (line : ℕ) (text : List ℕ) (total : Result (A × Unread) ListingFault) → starts_with ◌==◌ text front ≡ false
        → all_read front take-line known line (lines_of text) ≡ total → total ≡ Ok (known, unread line (lines_of text))
    section-done known line text total begins so_far =
        let parts = has_parts (λ b. b == 10) text in
        let starts : starts_with ◌==◌ parts.0 front ≡ false = first-starts front text parts.0 parts.1 clean parts.2 ∙ begins in
        let step : all_read front take-line known line (lines_of text) ≡ Ok (known, unread line (lines_of text)) = rw (parts.2, starts) refl in
        sym so_far ∙ step
