-- Walks around the cells of a dimension, by ways or along words.
use Rattle.std.proofs.Common.{◌≡◌, ◌≢◌, ℕ, zero, suc, ◌<◌, ◌↔◌, List, [], ◌∷◌, Contains, slice_index_or, refl, sym, ◌∙◌, inl, inr, arith}
use Rattle.map_defs.specs.Kind.{Kind}
use Rattle.map_defs.specs.LinkWords.{LinkWord, IsCellWord, IsWithin}
use Rattle.map_defs.specs.Cells.{InOrbit, Leads, InCell}
use Rattle.map_defs.specs.Rows.{Rows, links_of, IsSound}
use Rattle.cell_walk.specs.declared.ways.Ways.{Ways}
use Rattle.cell_walk.specs.declared.ways.Course.{Course}
use Rattle.cell_walk.specs.declared.ways.Course.TheVariants.{Round, Links, Words}
use Rattle.cell_walk.specs.Ways.{IsEither, IsCourse}
use Rattle.cell_walk.specs.CellCourses.{AreCellWords, AreCellWays, IsCellCourse}
use Rattle.cell_walk.proofs.CellDarts.{orbit-wider, IsWithin-leads}

-- a course along the words of the cells goes around the cells
pub course-along : (k : Kind) (n i : ℕ) (words : List LinkWord) (course : Course) → AreCellWords k n i words → IsCourse k words course → IsCellCourse k n i words course
course-along k n i words (Round ways) are along = record {
  same = λ w. (λ among. (along.same w).0 ((are w).1 among), λ either. (are w).0 ((along.same w).1 either));
  turns = along.turns;
}
course-along k n i words Links are single = (are, single)
course-along k n i words Words are all = are

-- the orbit along just the words of the cell is the cell
pub either-cell : (k : Kind) (n i : ℕ) (rows : Rows) (p q : LinkWord) → IsSound k n rows → ((w : LinkWord) → (IsCellWord k i w × IsWithin n w) ↔ IsEither p q w)
    → (d y : ℕ) → InOrbit (Leads (links_of rows) (IsEither p q)) d y ↔ InCell k (links_of rows) i d y
either-cell k n i rows p q sound same d y = (
  orbit-wider Step (Leads (links_of rows) (IsCellWord k i)) (λ u v s. (s.0, ((same s.0).1 s.1).0, s.2, s.3)) d y,
  orbit-wider (Leads (links_of rows) (IsCellWord k i)) Step
      (λ u v s. (s.0, (same s.0).0 (s.1, IsWithin-leads k n rows sound s.0 u (λ none. s.3 (sym s.2 ∙ none))), s.2, s.3)) d y,
)
  where
    Step : ℕ → ℕ → Type 0
    Step = Leads (links_of rows) (IsEither p q)

-- the orbit along such ways is the cell
pub ways-cell : (k : Kind) (n i : ℕ) (rows : Rows) (ways : Ways) → IsSound k n rows → AreCellWays k n i ways
    → (d y : ℕ) → InOrbit (Leads (links_of rows) (IsEither ways.forth.next ways.back.next)) d y ↔ InCell k (links_of rows) i d y
ways-cell k n i rows ways sound are = either-cell k n i rows ways.forth.next ways.back.next sound are.same

-- the words of such ways are among the links of the map
pub ways-within : (k : Kind) (n i : ℕ) (ways : Ways) → AreCellWays k n i ways → (w : LinkWord) → IsEither ways.forth.next ways.back.next w → IsWithin n w
ways-within k n i ways are w either = ((are.same w).1 either).1

-- a course that is not round has the words of the cells, and goes along them
pub course-words : (k : Kind) (n i : ℕ) (words : List LinkWord) (course : Course) → ((ways : Ways) → course ≢ Round ways) → IsCellCourse k n i words course
    → AreCellWords k n i words × IsCourse k words course
course-words k n i words (Round ways) other along = absurd (other ways refl)
course-words k n i words Links other along = along
course-words k n i words Words other along = (along, tt)

-- a list of two words has one or the other
pub two-either : (v w u : LinkWord) → Contains (v ∷ w ∷ []) u ↔ IsEither v w u
two-either v w u = (λ has. to has.0 has.1 has.2, from)
  where
    to : (at : ℕ) → at < 2 → slice_index_or (v ∷ w ∷ []) at u ≡ u → IsEither v w u
    to zero low is = inl (sym is)
    to (suc zero) low is = inr (sym is)
    to (suc (suc at)) low is = absurd (omega (arith, low))

    from : IsEither v w u → Contains (v ∷ w ∷ []) u
    from (inl is) = (0, omega arith, sym is)
    from (inr is) = (1, omega arith, sym is)
