-- Which darts a change of links touches, and so which cells may have changed. Source: this project's.
use Rattle.std.specs.Prelude.{ℕ, ◌≡◌, ◌≢◌, ◌⊎◌, ◌↔◌, Option, Some, None}
use Rattle.map_defs.specs.Kind.{Kind, beta}
use Rattle.map_defs.specs.Links.{Links}
use Rattle.map_defs.specs.Cells.{InCell}

-- some link of x differs between the old links L and the new links N
abbrev pub IsChanged : Links → Links → ℕ → Type 0
IsChanged L N x = (t : ℕ) × (N t x ≢ L t x)

-- One old or new link joins x to a changed dart. The smallest map that shows why such darts count: beta, link 1 leading
-- from 2 to itself and link 2 joining 1 and 2. Where link 1 of 2 is unsewn, the vertex of 1 loses 2, and no link of 1
-- changes.
abbrev pub IsBesideChanged : Links → Links → ℕ → Type 0
IsBesideChanged L N x = (y : ℕ) × (t : ℕ) × IsChanged L N y × ((L t y ≡ x) ⊎ (N t y ≡ x))

-- the darts that a change of links touches, in ways that the kind of the map counts
abbrev pub IsReached : Kind → (ℕ → Type 0) → Links → Links → ℕ → Type 0
IsReached k Live L N x = (Live x → ⊥) ⊎ IsChanged L N x ⊎ ((k ≡ beta) × IsBesideChanged L N x)

-- The touched darts between an old and a new map: those that live in the new one and were born, are changed, or in a
-- combinatorial map are joined to a changed dart by one old or new link.
abbrev pub IsTouched : Kind → Links → (ℕ → Type 0) → Links → (ℕ → Type 0) → ℕ → Type 0
IsTouched k L Live N LiveAfter x = LiveAfter x × IsReached k Live L N x

-- The new i-cell of d is, as a set of darts, an old one; its darts lived before. Without this a dart just born and alone
-- would be an old cell, since a number without links is a cell by itself.
pub record IsOldCell (k : Kind) (i : ℕ) (L : Links) (Live : ℕ → Type 0) (N : Links) (d : ℕ) : Type 0 where
  pub lived : (x : ℕ) → InCell k N i d x → Live x
  pub same : (x : ℕ) → InCell k N i d x ↔ InCell k L i d x

-- The darts of T touch dimension i: each new i-cell without a dart of T is an old one.
abbrev pub Touches : Kind → ℕ → Links → (ℕ → Type 0) → Links → (ℕ → Type 0) → (ℕ → Type 0) → Type 0
Touches k i L Live N LiveAfter T = (d : ℕ) → LiveAfter d → ((x : ℕ) → InCell k N i d x → T x → ⊥) → IsOldCell k i L Live N d

-- x and y have the same label
abbrev pub IsAlike : (ℕ → Option ℕ) → ℕ → ℕ → Type 0
IsAlike label x y = (c : ℕ) × (label x ≡ Some c) × (label y ≡ Some c)

-- The labels of dimension i tell the cells that have one: two live darts have the same label exactly where they lie in
-- the same cell and it has a label.
abbrev pub IsLabelled : Kind → ℕ → Links → (ℕ → Type 0) → (ℕ → Option ℕ) → Type 0
IsLabelled k i L Live label = (x y : ℕ) → Live x → Live y → IsAlike label x y ↔ (InCell k L i x y × ((c : ℕ) × (label x ≡ Some c)))

-- all darts of the cell have the label c, and no live dart outside it has
pub record IsWhole (Live : ℕ → Type 0) (Cell : ℕ → Type 0) (label : ℕ → Option ℕ) (c : ℕ) : Type 0 where
  pub inside : (x : ℕ) → Cell x → label x ≡ Some c
  pub outside : (x : ℕ) → Live x → label x ≡ Some c → Cell x

-- The darts of T cover the labels of dimension i: each i-cell without a dart of T has no label, or one of its own.
abbrev pub Covers : Kind → ℕ → Links → (ℕ → Type 0) → (ℕ → Option ℕ) → (ℕ → Type 0) → Type 0
Covers k i L Live label T = (d : ℕ) → Live d → ((x : ℕ) → InCell k L i d x → T x → ⊥) → ((x : ℕ) → InCell k L i d x → label x ≡ None) ⊎ ((c : ℕ) × IsWhole Live (InCell k L i d) label c)
