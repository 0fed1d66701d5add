-- Rows that are read one after the other, by their places.
use Rattle.std.proofs.Common.{◌≡◌, ℕ, zero, suc, ◌+◌, ◌-◌, ◌<◌, ◌≤◌, Bool, true, false, List, [], ◌∷◌, length, get_or, drop, Option, Some, Result, Ok, Err, refl, ap, ◌∙◌, inl, inr, arith}
use Rattle.std.specs.Prelude.{slice_get}
use Rattle.std.specs.List.{list_all}
use Rattle.std.proofs.lemmas.Bool.{cases_eq}
use Rattle.std.proofs.lemmas.List.{drop-drop}
use Rattle.std.proofs.lemmas.Option.{same_Some, slice_get-get_or}
use Rattle.map_defs.specs.TextWords.{is_text}
use Rattle.map_defs.specs.Off.{What, Short, TextFault, Row, Left, ◌>>=◌, bad, line_read, many}
use Rattle.reading_laws.specs.MeshTexts.{read_row, read_at, line_of}

-- what was read of a row, with what is left then or with the number of the line
abbrev pub placed : {A : Type 0} → ℕ → Left → Result A What → Result (A × Left) TextFault
placed line left (Ok x) = Ok (x, left)
placed line left (Err what) = bad line what

pub slice_get-drop : {A : Type 0} (p j : ℕ) (xs : List A) → slice_get (drop p xs) j ≡ slice_get xs (p + j)
slice_get-drop zero j xs = ap (slice_get xs) (omega arith)
slice_get-drop (suc p) j [] = refl
slice_get-drop (suc p) j (x ∷ xs) = slice_get-drop p j xs ∙ (let e : suc p + j ≡ suc (p + j) = omega arith in rw e refl)

pub line-read : {A : Type 0} (read : List ℕ → List (List ℕ) → Result A What) (rows : List Row) (last : ℕ)
    → line_read read (record { rows = rows; last = last }) ≡ placed (line_of last (slice_get rows 0)) (record { rows = drop 1 rows; last = last }) (read_at Short read rows 0)
unfolding line_read
line-read read [] last = refl
line-read {A = A} read (row ∷ rows) last = at (list_all is_text (row.first ∷ row.others)) refl (read row.first row.others) refl
  where
    at : (b : Bool) → list_all is_text (row.first ∷ row.others) ≡ b → (found : Result A What) → read row.first row.others ≡ found
        → line_read read (record { rows = row ∷ rows; last = last }) ≡ placed row.line (record { rows = rows; last = last }) (read_row Short read (Some row))
    at true e (Ok x) f = rw (e, f) refl
    at true e (Err what) f = rw (e, f) refl
    at false e found f = rw e refl

module _ {A : Type 0} (read : List ℕ → List (List ℕ) → Result A What) (rows : List Row) (last : ℕ) where
  -- what is left from place p on, and the number of the line there
  abbrev pub left : ℕ → Left
  left p = record { rows = drop p rows; last = last }

  abbrev pub line_at : ℕ → ℕ
  line_at p = line_of last (slice_get rows p)

  one-read : (p : ℕ) → line_read read (left p) ≡ placed (line_at p) (left (p + 1)) (read_at Short read rows p)
  one-read p =
      let here : slice_get (drop p rows) 0 ≡ slice_get rows p = slice_get-drop p 0 rows ∙ (let e : p + 0 ≡ p = omega arith in rw e refl) in
      line-read read (drop p rows) last
      ∙ (ap (λ (o : Option Row). placed (line_of last o) (record { rows = drop 1 (drop p rows); last = last }) (read_row Short read o)) here
      ∙ ap (λ (rs : List Row). placed (line_at p) (record { rows = rs; last = last }) (read_at Short read rows p)) (drop-drop 1 p rows))

  -- n rows from place p on: all are read, or one is at fault and those before it are read
  abbrev pub AreRead : ℕ → ℕ → List A → Left → Type 0
  AreRead p n xs rest = (rest ≡ left (p + n)) × (length xs ≡ n) × ((j : ℕ) (x : A) → slice_get xs j ≡ Some x → read_at Short read rows (p + j) ≡ Ok x)

  abbrev pub IsStopped : ℕ → ℕ → TextFault → Type 0
  IsStopped p n fault =
      (q : ℕ) × (p ≤ q) × (q < p + n) × (read_at Short read rows q ≡ Err fault.what) × (fault.line ≡ line_at q)
      × ((r : ℕ) (what : What) → p ≤ r → r < q → read_at Short read rows r ≡ Err what → ⊥)

  abbrev pub ManyTold : ℕ → ℕ → Result (List A × Left) TextFault → Type 0
  ManyTold p n (Ok (xs, rest)) = AreRead p n xs rest
  ManyTold p n (Err fault) = IsStopped p n fault

  read-on : (p n : ℕ) (x : A) (more : Result (List A × Left) TextFault) → read_at Short read rows p ≡ Ok x → ManyTold (p + 1) n more → ManyTold p (suc n) (more >>= λ xs. Ok (x ∷ xs.0, xs.1))
  read-on p n x (Ok (xs, rest)) e (is, long, each) = (is ∙ ap left (omega arith), ap suc long, first)
    where
      first : (j : ℕ) (y : A) → slice_get (x ∷ xs) j ≡ Some y → read_at Short read rows (p + j) ≡ Ok y
      first zero y g = let same : x ≡ y = same_Some x y g in ap (read_at Short read rows) (omega arith) ∙ (e ∙ ap (λ (z : A). Ok z) same)
      first (suc j) y g = ap (read_at Short read rows) (omega arith) ∙ each j y g
  read-on p n x (Err fault) e (q, low, high, wrong, line, none) = (q, omega arith, omega arith, wrong, line, before)
    where
      before : (r : ℕ) (what : What) → p ≤ r → r < q → read_at Short read rows r ≡ Err what → ⊥
      before r what le lt bad = elim (cases_eq r p) [
        | inl same ↦ let other : read_at Short read rows r ≡ Ok x = ap (read_at Short read rows) same ∙ e in cc
        | inr past ↦ none r what (omega arith) lt bad
      ]

  pub many-told : (n p : ℕ) → ManyTold p n (many (line_read read) n (left p))
  many-told zero p = (ap left (omega arith), refl, λ j x e. absurd (cc (e)))
  many-told (suc n) p = at (read_at Short read rows p) refl (many-told n (p + 1))
    where
      at : (found : Result A What) → read_at Short read rows p ≡ found → ManyTold (p + 1) n (many (line_read read) n (left (p + 1))) → ManyTold p (suc n) (many (line_read read) (suc n) (left p))
      at (Ok x) e later =
          let one : line_read read (left p) ≡ Ok (x, left (p + 1)) = one-read p ∙ ap (placed (line_at p) (left (p + 1))) e in
          rw one (read-on p n x (many (line_read read) n (left (p + 1))) e later)
      at (Err what) e later =
          let one : line_read read (left p) ≡ bad (line_at p) what = one-read p ∙ ap (placed (line_at p) (left (p + 1))) e in
          rw one (p, omega arith, omega arith, e, refl, λ r w le lt b. absurd (omega arith))

-- a row that is read is not wrong
pub not-wrong : {A : Type 0} (read : List ℕ → List (List ℕ) → Result A What) (rows : List Row) (from p : ℕ) (what : What) (xs : List A) → ((j : ℕ) (x : A) → slice_get xs j ≡ Some x → read_at Short read rows (from + j) ≡ Ok x)
    → from ≤ p → p < from + length xs → read_at Short read rows p ≡ Err what → ⊥
not-wrong read rows from p what [] each low high e = absurd (omega arith)
not-wrong read rows from p what (x ∷ xs) each low high e = at (p - from) (omega arith) e
  where
    at : (j : ℕ) → p ≡ from + j → read_at Short read rows p ≡ Err what → ⊥
    at j is e =
        let there = each j (get_or (x ∷ xs) j x) (slice_get-get_or (x ∷ xs) j x (omega arith)) in
        let here : read_at Short read rows p ≡ Ok (get_or (x ∷ xs) j x) = ap (read_at Short read rows) is ∙ there in
        cc
