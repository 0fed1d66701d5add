-- How walks go around the cells of a dimension.
use Rattle.std.specs.Prelude.{ℕ, ◌↔◌, List, All, Contains}
use Rattle.map_defs.specs.Kind.{Kind}
use Rattle.map_defs.specs.LinkWords.{LinkWord, IsCellWord, IsWithin}
use Rattle.cell_walk.specs.declared.ways.Ways.{Ways}
use Rattle.cell_walk.specs.declared.ways.Course.{Course}
use Rattle.cell_walk.specs.declared.ways.Course.TheVariants.{Round, Links, Words}
use Rattle.cell_walk.specs.Ways.{IsEither, IsLink, AreWays}

-- the words of the i-cells, as far as their links are among the links 0 to n
abbrev pub AreCellWords : Kind → ℕ → ℕ → List LinkWord → Type 0
AreCellWords k n i words = (w : LinkWord) → Contains words w ↔ (IsCellWord k i w × IsWithin n w)

-- The ways go along just these words, and take turns.
pub record AreCellWays (k : Kind) (n i : ℕ) (ways : Ways) : Type 0 where
  pub same : (w : LinkWord) → (IsCellWord k i w × IsWithin n w) ↔ IsEither ways.forth.next ways.back.next w
  pub turns : AreWays k ways.forth.next ways.forth.after ways.back.next ways.back.after

-- Walks around the i-cells may go so, along these words. Ways have their words with them.
abbrev pub IsCellCourse : Kind → ℕ → ℕ → List LinkWord → Course → Type 0
IsCellCourse k n i words (Round ways) = AreCellWays k n i ways
IsCellCourse k n i words Links = AreCellWords k n i words × All IsLink words
IsCellCourse k n i words Words = AreCellWords k n i words
