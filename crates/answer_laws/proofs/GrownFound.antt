-- A vertex, an edge and a face that can be inserted are inserted, a map is closed, and edges are hung.
use Rattle.std.proofs.Common.{◌≡◌, ◌≢◌, ℕ, ◌+◌, ◌≤◌, List, length, All, Contains, arith}
use Rattle.map_defs.specs.Kind.{Kind, alpha, beta, inverse}
use Rattle.map_defs.specs.Links.{Links}
use Rattle.map_defs.specs.Laws.{Laws}
use Rattle.map_defs.specs.Rows.{made, IsLive, links_of}
use Rattle.map_defs.specs.Cells.{InCell}
use Rattle.map_defs.specs.Births.{IsNumbered}
use Rattle.map_defs.specs.Insertion.{InAlphaCorner, InBetaCorner, NoPairs, AlphaEdgeDarts, AlphaEdgePairs, BetaEdgeLeads, FaceDarts, FacePairs, IsClosedPath, IsFacePaired, IsFace}
use Rattle.map_defs.specs.Inserting.{VertexDarts, IsVertex, InCorner, EdgeDarts, AreEdgePaired, IsEdge}
use Rattle.map_defs.specs.Closing.{IsOpen, IsClosed, IsDangled, CanDangle, IsCentred}
use Rattle.map_defs.specs.Values.{Hook}
use Rattle.machine_defs.specs.State.{Content}
use Rattle.machine_defs.specs.Kept.{IsLawfulContent}
use Rattle.machine_defs.specs.Relinking.{NoDart, IsGrown, IsHungWith}
use Rattle.link_laws.proofs.LawFacts.{link_one}
use Rattle.link_laws.proofs.RowFacts.{rows_lead_to_live}
use Rattle.insert_laws.proofs.AlphaInsert.{alpha_vertex_can, alpha_edge_can}
use Rattle.insert_laws.proofs.Paths.{has_next}
use Rattle.insert_laws.proofs.Face.{alpha_face_can, beta_face_can}
use Rattle.insert_laws.proofs.BetaEdgePairs.{edge_turning}
use Rattle.center_laws.proofs.BetaDangle.{corner_begins}
use Rattle.center_laws.proofs.HungLinkOne.{led_to_corner, led_to_face}
use Rattle.machine_laws.proofs.Keeping.{laws-of}
use Rattle.machine_laws.proofs.GrownLaws.{vertex-live, edge-live, face-live, cell-live, corner-live}
use Rattle.machine_laws.proofs.Hung.{dangled-from, centred-from}
use Rattle.answer_laws.specs.Answering.{NotNot}
use Rattle.answer_laws.proofs.LinksFound.{AreLinksAfter}
use Rattle.answer_laws.proofs.SewnFound.{high-free}
use Rattle.answer_laws.proofs.Numbered.{grown_found, hung_with_found}
use Rattle.answer_laws.proofs.InsertedFound.{inserted_found}
use Rattle.answer_laws.proofs.SplitFound.{split_found}
use Rattle.answer_laws.proofs.CutFound.{cut_found}
use Rattle.answer_laws.proofs.ClosedFound.{closed_found}
use Rattle.answer_laws.proofs.HungFound.{hung_found, hung_at_found}

module _ (c : Content) (kept : IsLawfulContent c) where
  abbrev L : Links
  L = links_of c.rows

  -- links as Becomes tells them of the new darts
  abbrev HasLinks : ((ℕ → ℕ) → Links → Type 0) → List ℕ → (ℕ → ℕ) → Type 0
  HasLinks Becomes keys star = NotNot ((N : Links) × Becomes star N × AreLinksAfter c kept (length keys) NoDart N)

  vertex-links : (k : Kind) → Laws k L → (d : ℕ) → d ≢ 0 → ((x : ℕ) → VertexDarts k L d x → IsLive c.rows x)
      → (keys : List ℕ) (star : ℕ → ℕ) → IsNumbered (VertexDarts k L d) keys (made c.rows) star → HasLinks (λ star N. IsVertex k d star L N) keys star
  vertex-links alpha w d dart live keys star m =
      inserted_found c kept alpha w 0 (omega arith) (InCell alpha L 1 d) (λ h. absurd (let flat = kept.flat in omega arith)) live NoPairs (alpha_vertex_can L d dart) (λ x y z t p. absurd p) keys star m
  vertex-links beta w d dart live keys star m = split_found c kept w (InCell beta L 1 d) live keys star m

  edge-links : (k : Kind) → Laws k L → (d e : ℕ) → d ≢ 0 → e ≢ 0 → (InCorner k L d e → ⊥) → AreEdgePaired k L d e → ((x : ℕ) → EdgeDarts k L d e x → IsLive c.rows x)
      → (keys : List ℕ) (star : ℕ → ℕ) → IsNumbered (EdgeDarts k L d e) keys (made c.rows) star → HasLinks (λ star N. IsEdge k d e star L N) keys star
  edge-links alpha w d e dart dart' apart paired live keys star m =
      inserted_found c kept alpha w 1 (let flat = kept.flat in omega arith) (AlphaEdgeDarts L d e) (λ h. absurd (let flat = kept.flat in omega arith)) live (AlphaEdgePairs L d e) (alpha_edge_can L d e dart dart' paired) paired.one keys star m
  edge-links beta w d e dart dart' apart paired live keys star m =
      cut_found c kept w (BetaEdgeLeads L d e) (edge_turning L w d e paired apart) (λ x y z p q. paired.good.one (L 0 x) y z 1 p.1 q.1) live keys star m

  face-links : (k : Kind) → Laws k L → (path : List ℕ) → 3 ≤ c.dim → ((b : ℕ) → Contains path b → b ≢ 0) → IsClosedPath k L path → IsFacePaired k L path
      → ((x : ℕ) → FaceDarts k L path x → IsLive c.rows x)
      → (keys : List ℕ) (star : ℕ → ℕ) → IsNumbered (FaceDarts k L path) keys (made c.rows) star → HasLinks (λ star N. IsFace k path star L N) keys star
  face-links alpha w path high darts closed paired live keys star m =
      inserted_found c kept alpha w 2 (omega arith) (FaceDarts alpha L path) (λ h. absurd (omega arith)) live (FacePairs alpha L path)
      (alpha_face_can L w path (λ b h. let after = has_next path b h in (closed b after.0 after.1).0) paired.good darts) paired.good.one keys star m
  face-links beta w path high darts closed paired live keys star m =
      inserted_found c kept beta w 2 (omega arith) (FaceDarts beta L path) (λ h. absurd (omega arith)) live (FacePairs beta L path) (beta_face_can L path paired.good darts) paired.good.one keys star m

  -- of both series of new darts
  abbrev HasHungLinks : ((ℕ → ℕ) → (ℕ → ℕ) → Links → Type 0) → List ℕ → (ℕ → ℕ) → (ℕ → ℕ) → Type 0
  HasHungLinks Becomes keys star tip = NotNot ((N : Links) × Becomes star tip N × AreLinksAfter c kept (length keys + length keys) NoDart N)

  dangle-links : (k : Kind) → Laws k L → (d : ℕ) → CanDangle k L d → ((x : ℕ) → InCorner k L d x → IsLive c.rows x)
      → (keys : List ℕ) (star tip : ℕ → ℕ) → IsNumbered (InCorner k L d) keys (made c.rows) star → IsNumbered (InCorner k L d) keys (made c.rows + length keys) tip
      → HasHungLinks (λ star tip N. IsDangled k d star tip L N) keys star tip
  dangle-links alpha w d can live keys star tip m n = hung_found c kept (InAlphaCorner L d) live keys star tip m n 1
  dangle-links beta w d can live keys star tip m n = λ never.
      hung_at_found c kept (InBetaCorner L d) live keys star tip m n w (L 0) (λ x. x) (λ x. x) (λ j x. L j (L 0 x))
      (λ z h. rows_lead_to_live beta c.rows w 0 z (corner_begins L w d can z h))
      (λ y z g h e. link_one beta L w 0 y z (corner_begins L w d can y g) e)
      (led_to_corner L w (InBetaCorner L d)) (λ t z h. high-free c kept t (L 0 z) h) (λ found.
      never (found.0, dangled-from L found.0 d star tip found.1, found.2))

  centre-links : (k : Kind) → Laws k L → (d : ℕ) → ((x : ℕ) → InCell k L 2 d x → IsLive c.rows x)
      → (keys : List ℕ) (star tip : ℕ → ℕ) → IsNumbered (InCell k L 2 d) keys (made c.rows) star → IsNumbered (InCell k L 2 d) keys (made c.rows + length keys) tip
      → HasHungLinks (λ star tip N. IsCentred k d star tip L N) keys star tip
  centre-links alpha w d live keys star tip m n = hung_found c kept (InCell alpha L 2 d) live keys star tip m n 0
  centre-links beta w d live keys star tip m n = λ never.
      hung_at_found c kept (InCell beta L 2 d) live keys star tip m n w (λ x. x) (L 1) (L 0) L live (λ y z g h e. e)
      (led_to_face L w d) (λ t z h. high-free c kept t z h) (λ found.
      never (found.0, centred-from L found.0 d star tip found.1, found.2))

  abbrev w : Laws c.kind L
  w = laws-of c kept

  module _ (hook : Hook) where
    abbrev HasContent : (ℕ → Type 0) → ((ℕ → ℕ) → Links → Type 0) → Type 0
    HasContent K Becomes = NotNot ((births : ℕ) × (next : Content) × IsGrown hook c K Becomes births next)

    pub vertex_found : (d : ℕ) → d ≢ 0 → IsLive c.rows d → HasContent (VertexDarts c.kind L d) (λ star. IsVertex c.kind d star L)
    vertex_found d dart live =
        let all : (x : ℕ) → VertexDarts c.kind L d x → IsLive c.rows x = λ x h. vertex-live c.kind c.rows w d x live h in
        grown_found c kept (VertexDarts c.kind L d) all hook (λ star. IsVertex c.kind d star L) (vertex-links c.kind w d dart all)

    pub edge_found : (d e : ℕ) → d ≢ 0 → e ≢ 0 → IsLive c.rows d → IsLive c.rows e → (InCorner c.kind L d e → ⊥) → AreEdgePaired c.kind L d e
        → HasContent (EdgeDarts c.kind L d e) (λ star. IsEdge c.kind d e star L)
    edge_found d e dart dart' live live' apart paired =
        let all : (x : ℕ) → EdgeDarts c.kind L d e x → IsLive c.rows x = λ x h. edge-live c.kind c.rows w d e x live live' h in
        grown_found c kept (EdgeDarts c.kind L d e) all hook (λ star. IsEdge c.kind d e star L) (edge-links c.kind w d e dart dart' apart paired all)

    pub face_found : (path : List ℕ) → 3 ≤ c.dim → ((b : ℕ) → Contains path b → b ≢ 0) → All (IsLive c.rows) path → IsClosedPath c.kind L path → IsFacePaired c.kind L path
        → HasContent (FaceDarts c.kind L path) (λ star. IsFace c.kind path star L)
    face_found path high darts live closed paired =
        let all : (x : ℕ) → FaceDarts c.kind L path x → IsLive c.rows x = λ x h. face-live c.kind c.rows w path x live h in
        grown_found c kept (FaceDarts c.kind L path) all hook (λ star. IsFace c.kind path star L) (face-links c.kind w path high darts closed paired all)

    pub closing_found : (i : ℕ) → inverse c.kind i ≡ i → i ≤ c.dim → HasContent (IsOpen (IsLive c.rows) i L) (λ star. IsClosed c.kind i (IsLive c.rows) star L)
    closing_found i own within =
        grown_found c kept (IsOpen (IsLive c.rows) i L) (λ x h. h.0) hook (λ star. IsClosed c.kind i (IsLive c.rows) star L) (closed_found c kept c.kind w i own within)

    abbrev HasHungContent : (ℕ → Type 0) → ((ℕ → ℕ) → (ℕ → ℕ) → Links → Type 0) → Type 0
    HasHungContent K Becomes = NotNot ((births : ℕ) × (next : Content) × IsHungWith hook c K Becomes births next)

    pub dangle_found : (d : ℕ) → IsLive c.rows d → CanDangle c.kind L d → HasHungContent (InCorner c.kind L d) (λ star tip. IsDangled c.kind d star tip L)
    dangle_found d live can =
        let all : (x : ℕ) → InCorner c.kind L d x → IsLive c.rows x = λ x h. corner-live c.kind c.rows w d x live h in
        hung_with_found c kept (InCorner c.kind L d) all hook (λ star tip. IsDangled c.kind d star tip L) (dangle-links c.kind w d can all)

    pub centre_found : (d : ℕ) → IsLive c.rows d → HasHungContent (InCell c.kind L 2 d) (λ star tip. IsCentred c.kind d star tip L)
    centre_found d live =
        let all : (x : ℕ) → InCell c.kind L 2 d x → IsLive c.rows x = λ x h. cell-live c.kind c.rows w 2 d x live h in
        hung_with_found c kept (InCell c.kind L 2 d) all hook (λ star tip. IsCentred c.kind d star tip L) (centre-links c.kind w d all)
