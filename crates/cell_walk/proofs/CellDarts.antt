-- The cells of rows: their words are among the links of the map, and the least dart of a cell is the first of the
-- ascending list of its darts.
use Rattle.std.proofs.Common.{◌≡◌, ◌≢◌, ℕ, zero, suc, ◌+◌, ◌≤◌, ◌<◌, ◌⊎◌, ◌↔◌, List, length, get_or, slice_index, Contains, All, IfSome, Option, Some, None, refl, sym, ap, ◌∙◌, inl, inr, arith}
use Rattle.std.proofs.lemmas.Bool.{cases_lt}
use Rattle.std.proofs.lemmas.List.{get_or_default}
use Rattle.std.proofs.lemmas.List.Elements.{Contains-get_or}
use Rattle.std.specs.List.Sorted.{IsStrictlyIncreasing}
use Rattle.map_defs.specs.Kind.{Kind}
use Rattle.map_defs.specs.Links.{Links, HasDimension}
use Rattle.map_defs.specs.LinkWords.{LinkWord, through, through_second, IsCellWord, IsWithin}
use Rattle.map_defs.specs.Cells.{InOrbit, here, onward, Leads, InCell, NamesCell}
use Rattle.map_defs.specs.Rows.{Rows, entry_of, links_of, IsSound}
use Rattle.link_laws.proofs.Orbits.{orbit_trans}
use Rattle.link_laws.proofs.RowFacts.{rows_dimension}
use Rattle.link_laws.proofs.CellTurns.{step_turns}
use Rattle.cell_walk.specs.Surveys.{TurnsBack, IsLeast}

-- an orbit grows with its steps
pub orbit-wider : (Step Other : ℕ → ℕ → Type 0) → ((x y : ℕ) → Step x y → Other x y) → (d y : ℕ) → InOrbit Step d y → InOrbit Other d y
orbit-wider Step Other f d y here = here
orbit-wider Step Other f d y (onward {x = u} {y = v} o s) = onward (orbit-wider Step Other f d u o) (f u v s)

pub links-nothing : (k : Kind) (n : ℕ) (rows : Rows) → IsSound k n rows → (i : ℕ) → links_of rows i 0 ≡ 0
links-nothing k n rows sound i = ap (λ row. entry_of row i) sound.nothing

-- a word that leads somewhere has links of the map alone
pub IsWithin-leads : (k : Kind) (n : ℕ) (rows : Rows) → IsSound k n rows → (w : LinkWord) (x : ℕ) → through (links_of rows) w x ≢ 0 → IsWithin n w
IsWithin-leads k n rows sound w x leads = (first (cases_lt n w.first), second w.second refl)
  where
    free : HasDimension n (links_of rows)
    free = rows_dimension n rows sound.wide

    nowhere : (s : Option ℕ) → through_second (links_of rows) s 0 ≡ 0
    nowhere None = refl
    nowhere (Some j) = links-nothing k n rows sound j

    first : (n < w.first) ⊎ (w.first ≤ n) → w.first ≤ n
    first (inl above) = absurd (leads (ap (through_second (links_of rows) w.second) (free w.first x above) ∙ nowhere w.second))
    first (inr low) = low

    second : (s : Option ℕ) → w.second ≡ s → IfSome s (λ j. j ≤ n)
    second None is = tt
    second (Some j) is = elim (cases_lt n j) [
      | inl above ↦ absurd (leads (ap (λ t. through_second (links_of rows) t (links_of rows w.first x)) is ∙ free j (links_of rows w.first x) above))
      | inr low ↦ low
    ]

-- the words that `words` answers
pub record AreWordsOf (k : Kind) (n i : ℕ) (words : List LinkWord) : Type 0 where
  pub are : (w : LinkWord) → Contains words w ↔ (IsCellWord k i w × IsWithin n w)

pub words-within : (k : Kind) (n i : ℕ) (words : List LinkWord) → AreWordsOf k n i words → All (IsWithin n) words
words-within k n i words cell = λ at d low. ((cell.are (get_or words at d)).0 (Contains-get_or words at d low)).1

-- these words and the words of the cell lead alike
leads-to : (k : Kind) (n i : ℕ) (L : Links) (words : List LinkWord) → AreWordsOf k n i words → (u v : ℕ) → Leads L (Contains words) u v → Leads L (IsCellWord k i) u v
leads-to k n i L words cell u v s = (s.0, ((cell.are s.0).0 s.1).0, s.2, s.3)

leads-from : (k : Kind) (n i : ℕ) (rows : Rows) (words : List LinkWord) → IsSound k n rows → AreWordsOf k n i words → (u v : ℕ) → Leads (links_of rows) (IsCellWord k i) u v → Leads (links_of rows) (Contains words) u v
leads-from k n i rows words sound cell u v s = (s.0, (cell.are s.0).1 (s.1, IsWithin-leads k n rows sound s.0 u (λ none. s.3 (sym s.2 ∙ none))), s.2, s.3)

pub words-turn : (k : Kind) (n i : ℕ) (rows : Rows) (words : List LinkWord) → IsSound k n rows → AreWordsOf k n i words → TurnsBack (Leads (links_of rows) (Contains words))
words-turn k n i rows words sound cell x y dart s =
    leads-from k n i rows words sound cell y x
    (step_turns k (links_of rows) (links-nothing k n rows sound) sound.back i x y dart (leads-to k n i (links_of rows) words cell x y s))

-- the orbit under these words is the cell
pub words-cell : (k : Kind) (n i : ℕ) (rows : Rows) (words : List LinkWord) → IsSound k n rows → AreWordsOf k n i words → (d y : ℕ) → InOrbit (Leads (links_of rows) (Contains words)) d y ↔ InCell k (links_of rows) i d y
words-cell k n i rows words sound cell d y = (
  orbit-wider (Leads (links_of rows) (Contains words)) (Leads (links_of rows) (IsCellWord k i)) (leads-to k n i (links_of rows) words cell) d y,
  orbit-wider (Leads (links_of rows) (IsCellWord k i)) (Leads (links_of rows) (Contains words)) (leads-from k n i rows words sound cell) d y,
)

pub words-least : (k : Kind) (n i : ℕ) (rows : Rows) (words : List LinkWord) → IsSound k n rows → AreWordsOf k n i words → (d : ℕ) → IsLeast (Leads (links_of rows) (Contains words)) d ↔ NamesCell k (links_of rows) i d
words-least k n i rows words sound cell d = (
  λ least e among. least e ((words-cell k n i rows words sound cell d e).1 among),
  λ names e o. names e ((words-cell k n i rows words sound cell d e).0 o),
)

-- the first of ascending darts is the least
first-least : (xs : List ℕ) → IsStrictlyIncreasing xs → (k : ℕ) → k < length xs → slice_index xs 0 ≤ slice_index xs k
first-least xs up zero low = omega arith
first-least xs up (suc k) low =
    let next : suc k ≡ k + 1 = omega arith in
    let at : slice_index xs (suc k) ≡ slice_index xs (k + 1) = ap (slice_index xs) next in
    omega (arith, at, first-least xs up k (omega arith), up k (omega arith))

pub cell-first : (k : Kind) (L : Links) (i d x : ℕ) (cell : List ℕ) → ((y : ℕ) → Contains cell y ↔ InCell k L i d y) → IsStrictlyIncreasing cell → x ≡ get_or cell 0 x → InCell k L i d x × NamesCell k L i x
cell-first k L i d x cell members up at = (first, least)
  where
    some : 0 < length cell
    some = let own = (members d).1 here in omega (arith, own.1)

    first : InCell k L i d x
    first = (members x).0 (0, some, sym at)

    least : (e : ℕ) → InCell k L i x e → x ≤ e
    least e among =
        let there = (members e).1 (orbit_trans (Leads L (IsCellWord k i)) d x e first among) in
        omega (arith, first-least cell up there.0 there.1, get_or_default cell there.0 0 e there.1 ∙ there.2, at ∙ get_or_default cell 0 x 0 some)
