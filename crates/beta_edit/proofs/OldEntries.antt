-- The entries of old darts around the way over a new dart: the change of one link, where they stand, and that those of two
-- such ways have no place in common.
use Rattle.std.proofs.Common.{ℕ, ◌≡◌, ◌≢◌, ◌≤◌, List, [], ◌∷◌, ◌++◌, sym, ◌∙◌, arith}
use Rattle.map_defs.specs.Links.{Links}
use Rattle.map_defs.specs.Edits.{Change}
use Rattle.cell_edit.specs.Writing.{Appends}
use Rattle.cell_edit.proofs.Writings.{writes-one}
use Rattle.beta_edit.specs.Entries.{IsOneEntry}

pub one-pushed : (L : Links) (c : Change) (a b : List Change) → c.old ≡ L c.link c.dart → b ≡ a ++ c ∷ [] → Appends L (IsOneEntry c.dart c.link c.new) a b
one-pushed L c a b old grown = (c ∷ [], grown, writes-one L c old)

-- the way leads from b over a new dart to y, 0 where it ends there: entries stand at link 1 of b or above, and at link 0 of y
pub data IsWayPlace (b y : ℕ) (d t : ℕ) : Type 0 where
  before : d ≡ b → 1 ≤ t → IsWayPlace b y d t
  after : d ≡ y → y ≢ 0 → t ≡ 0 → IsWayPlace b y d t

-- two ways that begin and end apart
pub places-apart : (b y c z d t : ℕ) → b ≢ c → (y ≢ 0 → y ≢ z) → IsWayPlace b y d t → IsWayPlace c z d t → ⊥
places-apart b y c z d t begins ends (before e l) (before f m) = begins (sym e ∙ f)
places-apart b y c z d t begins ends (before e l) (after f n m) = absurd (omega arith)
places-apart b y c z d t begins ends (after e n l) (before f m) = absurd (omega arith)
places-apart b y c z d t begins ends (after e n l) (after f k m) = ends n (sym e ∙ f)
