-- The steps along the words of a map: they lead to live darts.
use Rattle.std.proofs.Common.{◌≡◌, ◌≢◌, ℕ, ◌+◌, ◌*◌, ◌≤◌, ◌<◌, ◌⊎◌, length, List, is_some, Option, Some, None, refl, sym, ap, ◌∙◌, subst, inl, inr, arith}
use prog.Memory.{up}
use Rattle.std.proofs.lemmas.Bool.{cases_eq, cases_lt, false≢true}
use Rattle.std.proofs.lemmas.List.{get_or_past}
use Rattle.map_defs.specs.Kind.{Kind}
use Rattle.map_defs.specs.LinkWords.{LinkWord, through, through_second}
use Rattle.map_defs.specs.Cells.{Leads}
use Rattle.map_defs.specs.Rows.{Rows, row_at, links_of, made, IsLive, IsSound}
use Rattle.cell_walk.specs.Surveys.{TurnsBack}
use Rattle.cell_walk.proofs.SurveyFacts.{IsWalkable}

-- a word leads to live darts
pub word-lands : (k : Kind) (n : ℕ) (rows : Rows) → IsSound k n rows → (w : LinkWord) (x y : ℕ) → through (links_of rows) w x ≡ y → y ≢ 0 → IsLive rows y
word-lands k n rows sound w x y is dart = lands w.second is
  where
    lands : (second : Option ℕ) → through_second (links_of rows) second (links_of rows w.first x) ≡ y → IsLive rows y
    lands None leads = subst (IsLive rows) leads (sound.live w.first x (λ none. dart (sym leads ∙ none)))
    lands (Some j) leads = subst (IsLive rows) leads (sound.live j (links_of rows w.first x) (λ none. dart (sym leads ∙ none)))

-- a live dart is no 0
pub live-real : (k : Kind) (n : ℕ) (rows : Rows) → IsSound k n rows → (d : ℕ) → IsLive rows d → d ≢ 0
live-real k n rows sound d live none = false≢true (sym (ap (λ (row : Option (List ℕ)). is_some row) (ap (row_at rows) none ∙ sound.nothing)) ∙ live)

pub rows-walkable : (k : Kind) (n : ℕ) (rows : Rows) (Words : LinkWord → Type 0) → IsSound k n rows → TurnsBack (Leads (links_of rows) Words) → IsWalkable (Leads (links_of rows) Words) (IsLive rows)
rows-walkable k n rows Words sound turns = record {
  dart = λ x y s. s.3;
  lands = λ x y s. word-lands k n rows sound s.0 x y s.2 s.3;
  turns = turns;
  some = live-real k n rows sound;
}

-- how many bytes a row takes
pub row-fits : (dim : ℕ) → dim ≤ 8 → up 4 (4 + dim * 4) < 9223372036854775808
row-fits dim h = omega arith

-- a live dart has a place among the rows
pub live-low : (rows : Rows) (d : ℕ) → IsLive rows d → d < length rows
live-low rows d live = go (cases_lt d (length rows))
  where
    go : (d < length rows) ⊎ (length rows ≤ d) → d < length rows
    go (inl low) = low
    go (inr past) = absurd (false≢true (sym (ap (λ (row : Option (List ℕ)). is_some row) (get_or_past rows d None past)) ∙ live))

-- a word leads to the number of a row
pub word-low : (k : Kind) (n : ℕ) (rows : Rows) → IsSound k n rows → 0 < length rows → (w : LinkWord) (x : ℕ) → through (links_of rows) w x < length rows
word-low k n rows sound begun w x = go (cases_eq (through (links_of rows) w x) 0)
  where
    go : (through (links_of rows) w x ≡ 0) ⊎ (through (links_of rows) w x ≢ 0) → through (links_of rows) w x < length rows
    go (inl none) = omega (arith, none, begun)
    go (inr real) = live-low rows _ (word-lands k n rows sound w x _ refl real)

-- no dart above made is live
pub live-made : (rows : Rows) (d : ℕ) → IsLive rows d → d < made rows + 1
live-made rows d live = omega (arith, live-low rows d live)
