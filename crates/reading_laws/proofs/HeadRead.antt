-- The counts, by their place.
use Rattle.std.proofs.Common.{◌≡◌, ℕ, ◌+◌, Bool, true, false, List, [], ◌∷◌, drop, Result, Ok, Err, refl, sym, arith}
use Rattle.std.specs.Prelude.{slice_get, codes}
use Rattle.std.specs.List.{list_all}
use Rattle.std.specs.Str.{bytes_eq}
use Rattle.map_defs.specs.TextWords.{is_text}
use Rattle.map_defs.specs.Off.{What, NoHeader, Short, NotText, TextFault, Row, Left, Counts, line_read, counts, counts_behind, header}
use Rattle.reading_laws.specs.MeshTexts.{read_at, line_of, behind_off, AreCounts, no_header, beside, below}
use Rattle.reading_laws.proofs.RowsRead.{placed, line-read}

-- the counts are read at one place, as one
pub one-counts : (rows : List Row) (p q : ℕ) (x y : Result Counts What) → AreCounts rows p x → AreCounts rows q y → (p ≡ q) × (x ≡ y)
one-counts rows p q x y (no_header what at head is) (no_header other there front told) = let same : what ≡ other = cc in (omega arith, cc)
one-counts rows p q x y (no_header what at head is) (beside first others there front told) = absurd (cc)
one-counts rows p q x y (no_header what at head is) (below there front told) = absurd (cc)
one-counts rows p q x y (beside first others at head is) (no_header what there front told) = absurd (cc)
one-counts rows p q x y (beside first others at head is) (beside word words there front told) =
    let one : first ≡ word = cc in
    let two : others ≡ words = cc in
    (omega arith, cc)
one-counts rows p q x y (beside first others at head is) (below there front told) = absurd (cc)
one-counts rows p q x y (below at head is) (no_header what there front told) = absurd (cc)
one-counts rows p q x y (below at head is) (beside first others there front told) = absurd (cc)
one-counts rows p q x y (below at head is) (below there front told) = (omega arith, cc)

-- what the counts are read as, and what is left behind them
abbrev pub HeadTold : List Row → ℕ → Result (Counts × Left) TextFault → Type 0
HeadTold rows last (Ok (c, rest)) = (p : ℕ) × AreCounts rows p (Ok c) × (rest ≡ record { rows = drop (p + 1) rows; last = last })
HeadTold rows last (Err fault) = (p : ℕ) × AreCounts rows p (Err fault.what) × (fault.line ≡ line_of last (slice_get rows p))

module _ (row : Row) (rows : List Row) (last : ℕ) where
  abbrev all : List Row
  all = row ∷ rows

  abbrev behind : Left
  behind = record { rows = rows; last = last }

  counts-below : (found : Result Counts What) → read_at Short counts all 1 ≡ found → read_at NoHeader behind_off all 0 ≡ Ok [] → HeadTold all last (line_read counts behind)
  counts-below found e head = rw (line-read counts rows last) (at found e)
    where
      at : (found : Result Counts What) → read_at Short counts all 1 ≡ found → HeadTold all last (placed (line_of last (slice_get rows 0)) (record { rows = drop 1 rows; last = last }) (read_at Short counts rows 0))
      at (Ok c) e = rw e (1, below refl head (sym e), refl)
      at (Err what) e = rw e (1, below refl head (sym e), refl)

  counts-beside : (first : List ℕ) (others : List (List ℕ)) (found : Result Counts What) → counts first others ≡ found → read_at NoHeader behind_off all 0 ≡ Ok (first ∷ others) → HeadTold all last (counts_behind row.line (first ∷ others) behind)
  counts-beside first others (Ok c) e head = rw e (0, beside first others refl head (sym e), refl)
  counts-beside first others (Err what) e head = rw e (0, beside first others refl head (sym e), refl)

  behind-told : (others : List (List ℕ)) → read_at NoHeader behind_off all 0 ≡ Ok others → HeadTold all last (counts_behind row.line others behind)
  behind-told [] head = counts-below (read_at Short counts all 1) refl head
  behind-told (first ∷ others) head = counts-beside first others (counts first others) refl head

  row-told : HeadTold all last (header (record { rows = all; last = last }))
  unfolding header
  row-told = at (list_all is_text (row.first ∷ row.others)) refl (bytes_eq row.first (codes "OFF")) refl
    where
      at : (b : Bool) → list_all is_text (row.first ∷ row.others) ≡ b → (off : Bool) → bytes_eq row.first (codes "OFF") ≡ off → HeadTold all last (header (record { rows = all; last = last }))
      at false e off f = rw e (0, no_header NotText refl (rw e refl) refl, refl)
      at true e false f = rw (e, f) (0, no_header NoHeader refl (rw (e, f) refl) refl, refl)
      at true e true f =
          let head : read_at NoHeader behind_off all 0 ≡ Ok row.others = rw (e, f) refl in
          rw (e, f) (behind-told row.others head)

pub head-told : (rows : List Row) (last : ℕ) → HeadTold rows last (header (record { rows = rows; last = last }))
unfolding header
head-told [] last = (0, no_header NoHeader refl refl refl, refl)
head-told (row ∷ rows) last = row-told row rows last
