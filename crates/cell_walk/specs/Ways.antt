-- Orbits along two words that take turns, which are paths and rings: what makes words take turns, and what a walk along
-- them finds.
use Rattle.std.specs.Prelude.{ℕ, ◌≡◌, ◌≢◌, ◌⊎◌, ◌↔◌, List, length, take, All, Contains, None}
use Rattle.map_defs.specs.Kind.{Kind}
use Rattle.map_defs.specs.Links.{Links as MapLinks}
use Rattle.map_defs.specs.LinkWords.{LinkWord, through, inverse_word}
use Rattle.map_defs.specs.Cells.{InOrbit, Leads}
use Rattle.cell_walk.specs.declared.ways.Ways.{Ways}
use Rattle.cell_walk.specs.declared.ways.Course.{Course}
use Rattle.cell_walk.specs.declared.ways.Course.TheVariants.{Round, Links, Words}

-- one of two words
abbrev pub IsEither : LinkWord → LinkWord → LinkWord → Type 0
IsEither p q w = (w ≡ p) ⊎ (w ≡ q)

-- Where p and q take turns, w leads back or on, after p and after q alike.
abbrev pub TakesTurns : Kind → LinkWord → LinkWord → LinkWord → Type 0
TakesTurns k p q w = IsEither (inverse_word k p) q w × IsEither (inverse_word k q) p w

-- From a dart go two ways along the words f and b: forth, along f and g in turn, and back, along b and c in turn.
pub record AreWays (k : Kind) (f g b c : LinkWord) : Type 0 where
  pub forth : IsEither f b g
  pub back : IsEither f b c
  pub forth_turns : (w : LinkWord) → IsEither f b w → TakesTurns k f g w
  pub back_turns : (w : LinkWord) → IsEither f b w → TakesTurns k b c w

-- The ways go along just these words, and take turns.
pub record AreAlong (k : Kind) (words : List LinkWord) (ways : Ways) : Type 0 where
  pub same : (w : LinkWord) → Contains words w ↔ IsEither ways.forth.next ways.back.next w
  pub turns : AreWays k ways.forth.next ways.forth.after ways.back.next ways.back.after

-- the word is one link
abbrev pub IsLink : LinkWord → Type 0
IsLink w = w.second ≡ None

-- walks along these words may go so
abbrev pub IsCourse : Kind → List LinkWord → Course → Type 0
IsCourse k words (Round ways) = AreAlong k words ways
IsCourse k words Links = All IsLink words
IsCourse k words Words = Unit {0}

-- The way from d along p and q in turn was followed, after some darts were found before: what was found since lies on it,
-- and what leads on from there was found, and so was what p leads to from d.
pub record IsFollowed (k : Kind) (L : MapLinks) (p q : LinkWord) (d : ℕ) (old new : List ℕ) : Type 0 where
  pub before : take (length old) new ≡ old
  pub reached : (y : ℕ) → Contains new y → Contains old y ⊎ InOrbit (Leads L (IsEither p q)) d y
  pub closed : (x y : ℕ) → Contains new x → Leads L (TakesTurns k p q) x y → Contains old x ⊎ Contains new y
  pub begun : (y : ℕ) → through L p d ≡ y → y ≢ 0 → Contains new y
