-- What a vertex or an edge that is inserted is checked for, and what it makes of the links, by kind. Source: the inverse of
-- the textbook's removal; the conditions are this project's.
use Rattle.std.specs.Prelude.{ℕ}
use Rattle.map_defs.specs.Kind.{Kind, alpha, beta}
use Rattle.map_defs.specs.Links.{Links}
use Rattle.map_defs.specs.Cells.{InCell}
use Rattle.map_defs.specs.Insertion.{IsAlphaVertex, IsBetaVertex, InAlphaCorner, InBetaCorner, AlphaEdgeDarts, BetaEdgeDarts, AreAlphaEdgePaired, AreBetaEdgePaired, IsAlphaEdge, IsBetaEdge}

-- a vertex on the edge of d: the darts of the edge get new darts
abbrev pub VertexDarts : Kind → Links → ℕ → ℕ → Type 0
VertexDarts k L d = InCell k L 1 d

abbrev pub IsVertex : Kind → ℕ → (ℕ → ℕ) → Links → Links → Type 0
IsVertex alpha = IsAlphaVertex
IsVertex beta = IsBetaVertex

-- the corner of d with its copies on the other sides of the face
abbrev pub InCorner : Kind → Links → ℕ → ℕ → Type 0
InCorner alpha = InAlphaCorner
InCorner beta = InBetaCorner

-- an edge from the corner of d to that of e
abbrev pub EdgeDarts : Kind → Links → ℕ → ℕ → ℕ → Type 0
EdgeDarts alpha = AlphaEdgeDarts
EdgeDarts beta = BetaEdgeDarts

abbrev pub AreEdgePaired : Kind → Links → ℕ → ℕ → Type 0
AreEdgePaired alpha = AreAlphaEdgePaired
AreEdgePaired beta = AreBetaEdgePaired

abbrev pub IsEdge : Kind → ℕ → ℕ → (ℕ → ℕ) → Links → Links → Type 0
IsEdge alpha = IsAlphaEdge
IsEdge beta = IsBetaEdge
