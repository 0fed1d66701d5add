-- What a contract sees of an arena: the rows of the live darts, and the room kept for more. Source: this project's.
use Rattle.std.specs.Prelude.{ℕ, ◌≡◌, ◌+◌, ◌-◌, ◌<◌, ◌≤◌, List, [], ◌∷◌, ◌++◌, length, take, filter, Option, Some, None, is_some, IsSome, slice_index_or, slice_set, refl}
use Rattle.std.specs.Coded.{Coded, code_by, coded×, coded_ℕ, coded_list, coded_option}

-- The row of dart d stands at place d. Place 0, which is no dart's, and the place of a dart that is not live hold none.
-- So many new numbers as `spare` can be given without memory, and so many more rows as `room` can live without memory.
pub record Stock (R : Type 0) : Type 0 where
  pub rows : List (Option R)
  pub spare : ℕ
  pub room : ℕ

-- a stock is stored as the tuple of its fields
abbrev pub stock_code : {R : Type 0} → Coded R → Coded (Stock R)
stock_code {R} code =
    code_by
    (List (Option R) × (ℕ × ℕ))
    (coded× (coded_list (coded_option code)) (coded× coded_ℕ coded_ℕ))
    (λ s. (s.rows, (s.spare, s.room)))
    (λ p. record { rows = p.0; spare = p.1.0; room = p.1.1 })
    (λ _. refl)

module _ {R : Type 0} where
  -- the number of darts made so far, dead ones among them
  abbrev pub made : Stock R → ℕ
  made s = length s.rows - 1

  abbrev pub row_at : Stock R → ℕ → Option R
  row_at s d = slice_index_or s.rows d None

  abbrev pub IsLive : Stock R → ℕ → Type 0
  IsLive s d = IsSome (row_at s d)

  -- how many darts are live
  abbrev pub live_count : Stock R → ℕ
  live_count s = length (filter is_some s.rows)

  -- What each stock keeps, where so many darts are ever made at most.
  pub record IsStock (made_max : ℕ) (s : Stock R) : Type 0 where
    -- place 0 is there, and no dart's
    pub begun : 0 < length s.rows
    pub nothing : row_at s 0 ≡ None
    pub few : made s ≤ made_max

  -- the stock after a birth: the new dart is the next number, with this row
  abbrev pub born : Stock R → R → Stock R
  born s row = record { rows = s.rows ++ Some row ∷ []; spare = s.spare - 1; room = s.room - 1 }

  -- the stock after the last birth is taken back, so that its number can be given again
  abbrev pub unborn : Stock R → Stock R
  unborn s = record { rows = take (made s) s.rows; spare = s.spare + 1; room = s.room + 1 }

  -- the stock without the row of dart d, whose number is never given again
  abbrev pub buried : Stock R → ℕ → Stock R
  buried s d = record { rows = slice_set s.rows d None; spare = s.spare; room = s.room + 1 }

  -- the stock in which the dead dart d lives again, with this row
  abbrev pub revived : Stock R → ℕ → R → Stock R
  revived s d row = record { rows = slice_set s.rows d (Some row); spare = s.spare; room = s.room - 1 }

  -- the stock with this row at the live dart d
  abbrev pub replaced : Stock R → ℕ → R → Stock R
  replaced s d row = record s { rows = slice_set s.rows d (Some row) }

  -- d is the least live dart above a number
  pub record IsNextLive (s : Stock R) (after d : ℕ) : Type 0 where
    pub live : IsLive s d
    pub above : after < d
    pub least : (e : ℕ) → after < e → IsLive s e → d ≤ e
