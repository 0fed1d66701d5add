-- A line that inserts keeps the laws, and what every state of the machine keeps.
use Rattle.std.proofs.Common.{◌≡◌, ◌≢◌, ℕ, ◌+◌, ◌≤◌, List, length, All, refl, sym, ap, ◌∙◌, subst, inl, inr, arith}
use Rattle.std.proofs.lemmas.Bool.{cases_lt}
use Rattle.std.proofs.lemmas.List.Elements.{All-contains}
use Rattle.map_defs.specs.Kind.{Kind, alpha, beta, inverse}
use Rattle.map_defs.specs.Links.{Links}
use Rattle.map_defs.specs.Laws.{Laws}
use Rattle.map_defs.specs.Rows.{Rows, made, made_max, IsLive, links_of}
use Rattle.map_defs.specs.LinkWords.{through}
use Rattle.map_defs.specs.Cells.{InOrbit, here, onward, InCell}
use Rattle.map_defs.specs.Births.{IsNumbered, IsFresh}
use Rattle.map_defs.specs.Insertion.{NoPairs, IsLinkedBy, InAlphaCorner, AlphaEdgeDarts, AlphaEdgePairs, BetaEdgeLeads, FaceDarts}
use Rattle.map_defs.specs.Inserting.{VertexDarts, IsVertex, InCorner, EdgeDarts, AreEdgePaired, IsEdge}
use Rattle.machine_defs.specs.Relinking.{IsTooMany, IsTooManyTwice, IsGrown, IsHungWith, NoDart}
use Rattle.map_defs.specs.Closing.{IsOpen, IsClosed, IsDangled, CanDangle, IsCentred}
use Rattle.map_defs.specs.Values.{Hook}
use Rattle.machine_defs.specs.State.{Content}
use Rattle.machine_defs.specs.Kept.{IsLawfulContent}
use Rattle.link_laws.proofs.RowFacts.{rows_made, rows_lead_to_live, linked_live}
use Rattle.edit_laws.proofs.RowWrites.{live-within}
use Rattle.insert_laws.proofs.InsertSquare.{insertion_keeps}
use Rattle.insert_laws.proofs.AlphaInsert.{alpha_vertex_can, alpha_edge_can}
use Rattle.insert_laws.proofs.Numbers.{numbered_fresh}
use Rattle.insert_laws.proofs.BetaVertex.{edge_set, split_keeps}
use Rattle.insert_laws.proofs.BetaEdgePairs.{edge_turning}
use Rattle.insert_laws.proofs.BetaEdgeLaws.{cut_keeps}
use Rattle.insert_laws.proofs.Closed.{closing_keeps}
use Rattle.insert_laws.proofs.ClosedFree.{live_dart}
use Rattle.center_laws.proofs.Hung.{hanging_keeps}
use Rattle.center_laws.proofs.HangingSets.{corner_hangs, face_hangs}
use Rattle.center_laws.proofs.BetaDangle.{dangle_keeps}
use Rattle.center_laws.proofs.BetaCentre.{centre_keeps}
use Rattle.center_laws.proofs.TwoSeries.{series_fresh}
use Rattle.value_laws.proofs.Touching.{cell_live}
use Rattle.machine_laws.proofs.Grown.{counted-live}
use Rattle.machine_laws.proofs.Keeping.{kept-relinked}

pub vertex-lawful : (k : Kind) (L N : Links) (d : ℕ) (star : ℕ → ℕ) → Laws k L → d ≢ 0 → IsFresh L (VertexDarts k L d) star → IsVertex k d star L N → Laws k N
vertex-lawful alpha L N d star w dart fresh s = insertion_keeps alpha 0 (InCell alpha L 1 d) NoPairs star L w (alpha_vertex_can L d dart) fresh N s
vertex-lawful beta L N d star w dart fresh s = split_keeps L w (InCell beta L 1 d) (edge_set L d dart) star fresh N s

pub edge-lawful : (k : Kind) (L N : Links) (d e : ℕ) (star : ℕ → ℕ) → Laws k L → d ≢ 0 → e ≢ 0 → (InCorner k L d e → ⊥) → AreEdgePaired k L d e
    → IsFresh L (EdgeDarts k L d e) star → IsEdge k d e star L N → Laws k N
edge-lawful alpha L N d e star w dart dart' apart paired fresh s =
    insertion_keeps alpha 1 (AlphaEdgeDarts L d e) (AlphaEdgePairs L d e) star L w (alpha_edge_can L d e dart dart' paired) fresh N s
edge-lawful beta L N d e star w dart dart' apart paired fresh s = cut_keeps L w (BetaEdgeLeads L d e) (edge_turning L w d e paired apart) star fresh N s

pub closed-lawful : (k : Kind) (rows : Rows) (i : ℕ) → inverse k i ≡ i → (IsLive rows 0 → ⊥) → Laws k (links_of rows) → (star : ℕ → ℕ) (N : Links)
    → IsFresh (links_of rows) (IsOpen (IsLive rows) i (links_of rows)) star → IsClosed k i (IsLive rows) star (links_of rows) N → Laws k N
closed-lawful k rows i own nothing w star N fresh s =
    closing_keeps k i own (IsLive rows) (links_of rows) w (live_dart (made rows) (IsLive rows) (counted-live rows nothing)) (rows_lead_to_live k rows w)
    (made rows) (rows_made rows) star fresh N s

-- two series of new darts are fresh and have no dart in common
abbrev pub AreTwoSeries : Links → (ℕ → Type 0) → (ℕ → ℕ) → (ℕ → ℕ) → Type 0
AreTwoSeries L K star tip = IsFresh L K star × IsFresh L K tip × ((x y : ℕ) → K x → K y → star x ≢ tip y)

pub dangle-lawful : (k : Kind) (L N : Links) (d : ℕ) (star tip : ℕ → ℕ) → Laws k L → d ≢ 0 → CanDangle k L d → AreTwoSeries L (InCorner k L d) star tip
    → IsDangled k d star tip L N → Laws k N
dangle-lawful alpha L N d star tip w dart can two s = hanging_keeps 1 L w (InAlphaCorner L d) (corner_hangs L d dart) star tip two.0 two.1 two.2 N s
dangle-lawful beta L N d star tip w dart can two s = dangle_keeps L w d can star tip two.0 two.1 two.2 N s

pub centre-lawful : (k : Kind) (L N : Links) (d : ℕ) (star tip : ℕ → ℕ) → Laws k L → d ≢ 0 → AreTwoSeries L (InCell k L 2 d) star tip
    → IsCentred k d star tip L N → Laws k N
centre-lawful alpha L N d star tip w dart two s = hanging_keeps 0 L w (InCell alpha L 2 d) (face_hangs L d dart) star tip two.0 two.1 two.2 N s
centre-lawful beta L N d star tip w dart two s = centre_keeps L w d dart star tip two.0 two.1 two.2 N s

-- the darts that get new ones live
module _ (k : Kind) (rows : Rows) (w : Laws k (links_of rows)) where
  orbit-live : (J : ℕ → Type 0) (b x : ℕ) → IsLive rows b → InOrbit (IsLinkedBy (links_of rows) J) b x → IsLive rows x
  orbit-live J b x live here = live
  orbit-live J b x live (onward {x = u} {y = y} o (j, a, e, n)) = subst (IsLive rows) e (rows_lead_to_live k rows w j u (λ none. n (sym e ∙ none)))

  pub cell-live : (i d x : ℕ) → IsLive rows d → InCell k (links_of rows) i d x → IsLive rows x
  cell-live i d x live h = cell_live k (IsLive rows) (links_of rows) (links_of rows) w w (IsLive rows) (rows_lead_to_live k rows w) i d live h

  pub vertex-live : (d x : ℕ) → IsLive rows d → VertexDarts k (links_of rows) d x → IsLive rows x
  vertex-live d x live h = cell-live 1 d x live h

  pub face-live : (path : List ℕ) (x : ℕ) → All (IsLive rows) path → FaceDarts k (links_of rows) path x → IsLive rows x
  face-live path x live (b, h, o) = orbit-live _ b x (All-contains (IsLive rows) path b live h) o

pub edge-live : (k : Kind) (rows : Rows) → Laws k (links_of rows) → (d e x : ℕ) → IsLive rows d → IsLive rows e → EdgeDarts k (links_of rows) d e x → IsLive rows x
edge-live alpha rows w d e x live live' (inl o) = orbit-live alpha rows w _ d x live o
edge-live alpha rows w d e x live live' (inr o) = orbit-live alpha rows w _ e x live' o
edge-live beta rows w d e x live live' (y, p) = linked_live rows 0 x p.0

pub corner-live : (k : Kind) (rows : Rows) → Laws k (links_of rows) → (d x : ℕ) → IsLive rows d → InCorner k (links_of rows) d x → IsLive rows x
corner-live alpha rows w d x live o = orbit-live alpha rows w _ d x live o
corner-live beta rows w d x live here = live
corner-live beta rows w d x live (onward {x = u} {y = y} o (word, (j, l, e), q, n)) =
    let led : links_of rows j (links_of rows 0 u) ≡ y = ap (λ t. through (links_of rows) t u) (sym e) ∙ q in
    subst (IsLive rows) led (rows_lead_to_live beta rows w j (links_of rows 0 u) (λ none. n (sym led ∙ none)))

-- an insertion that keeps the laws
module _ (hook : Hook) (c : Content) (kept : IsLawfulContent c) (K : ℕ → Type 0) (live : (x : ℕ) → K x → IsLive c.rows x) where
  grown-fresh : (keys : List ℕ) (star : ℕ → ℕ) → IsNumbered K keys (made c.rows) star → IsFresh (links_of c.rows) K star
  grown-fresh keys star m = numbered_fresh K keys (made c.rows) star m (links_of c.rows)
      (λ x h. let within = live-within c.rows x (live x h) in omega arith) (rows_made c.rows)

  grown-few : (keys : List ℕ) (star : ℕ → ℕ) (births : ℕ) → (IsTooMany c K → ⊥) → IsNumbered K keys (made c.rows) star → births ≡ length keys → made c.rows + births ≤ made_max
  grown-few keys star births room m counted = elim (cases_lt made_max (made c.rows + births)) [
    | inl above ↦ absurd (room (births, record { numbers = keys; ascending = m.ascending; members = m.members; counted = sym counted }, above))
    | inr within ↦ within
  ]

  hung-few : (keys : List ℕ) (star : ℕ → ℕ) (births : ℕ) → (IsTooManyTwice c K → ⊥) → IsNumbered K keys (made c.rows) star → births ≡ length keys + length keys → made c.rows + births ≤ made_max
  hung-few keys star births room m counted = elim (cases_lt made_max (made c.rows + births)) [
    | inl above ↦ absurd (room (length keys, record { numbers = keys; ascending = m.ascending; members = m.members; counted = refl }, omega (arith, above, counted)))
    | inr within ↦ within
  ]

  -- edges that are hung so that the laws are kept
  pub kept-hung : (Becomes : (ℕ → ℕ) → (ℕ → ℕ) → Links → Type 0) → (IsTooManyTwice c K → ⊥)
      → ((star tip : ℕ → ℕ) (N : Links) → AreTwoSeries (links_of c.rows) K star tip → Becomes star tip N → Laws c.kind N)
      → (births : ℕ) (next : Content) → IsHungWith hook c K Becomes births next → IsLawfulContent next
  kept-hung Becomes room lawful births next g =
      kept-relinked hook c kept births NoDart (Becomes g.star g.tip) next
      (hung-few g.keys g.star births room g.begins g.counted)
      (lawful g.star g.tip (links_of next.rows)
      (series_fresh K g.keys (made c.rows) g.star g.tip g.begins g.ends (links_of c.rows) (λ x h. let within = live-within c.rows x (live x h) in omega arith) (rows_made c.rows))
      g.relinked.links) g.relinked

  pub kept-grown : (Becomes : (ℕ → ℕ) → Links → Type 0) → (IsTooMany c K → ⊥) → ((star : ℕ → ℕ) (N : Links) → IsFresh (links_of c.rows) K star → Becomes star N → Laws c.kind N)
      → (births : ℕ) (next : Content) → IsGrown hook c K Becomes births next → IsLawfulContent next
  kept-grown Becomes room lawful births next g =
      kept-relinked hook c kept births NoDart (Becomes g.star) next
      (grown-few g.keys g.star births room g.numbered g.counted)
      (lawful g.star (links_of next.rows) (grown-fresh g.keys g.star g.numbered) g.relinked.links) g.relinked
