-- A line that inserts leaves one content.
use Rattle.std.proofs.Common.{◌≡◌, ◌≢◌, ℕ, ◌+◌, List, length, refl, sym, ap, ◌∙◌, subst, inl, inr, arith}
use Rattle.map_defs.specs.Kind.{Kind, alpha, beta, inverse}
use Rattle.map_defs.specs.Links.{Links, LeadsToLive}
use Rattle.map_defs.specs.Laws.{Laws}
use Rattle.map_defs.specs.Rows.{Rows, made, IsLive, links_of}
use Rattle.map_defs.specs.Cells.{here, InCell}
use Rattle.map_defs.specs.Births.{IsNumbered, IsCounted}
use Rattle.map_defs.specs.Insertion.{IsInserted, NoPairs, AlphaEdgeDarts, AlphaEdgePairs, BetaEdgeLeads, FaceDarts, FacePairs, IsClosedPath, IsFacePaired, IsFace}
use Rattle.map_defs.specs.Inserting.{VertexDarts, IsVertex, InCorner, EdgeDarts, AreEdgePaired, IsEdge}
use Rattle.machine_defs.specs.Relinking.{IsGrown, IsHungWith, NoDart, IsRelinked}
use Rattle.map_defs.specs.Values.{Hook}
use Rattle.machine_defs.specs.State.{Content}
use Rattle.map_defs.specs.Closing.{IsOpen, IsClosed}
use Rattle.link_laws.proofs.RowFacts.{rows_made, rows_lead_to_live}
use Rattle.edit_laws.proofs.RowWrites.{live-within}
use Rattle.insert_laws.proofs.AlphaInsert.{alpha_vertex_can, alpha_edge_can}
use Rattle.insert_laws.proofs.Paths.{has_next}
use Rattle.insert_laws.proofs.Face.{alpha_face_can, beta_face_can}
use Rattle.insert_laws.proofs.Numbers.{numbered_at, numbered_above}
use Rattle.insert_laws.proofs.BetaVertex.{edge_set}
use Rattle.insert_laws.proofs.BetaEdgePairs.{edge_turning}
use Rattle.machine_laws.proofs.Answers.{darts-one}
use Rattle.machine_laws.proofs.Relinked.{relinked-one}
use Rattle.insert_laws.proofs.Closed.{ClosingPair, closing_can, closing_inserted}
use Rattle.insert_laws.proofs.ClosedFree.{live_dart, open_fresh}
use Rattle.machine_laws.proofs.Inserted.{AreAlike, TellsInserted, inserted-one, split-one, cut-one}
use Rattle.machine_laws.proofs.Hung.{TellsHung}

-- the darts of K are numbered in one way
module _ (K : ℕ → Type 0) (last : ℕ) where
  numbered-dart : (keys : List ℕ) (star : ℕ → ℕ) → IsNumbered K keys last star → (x : ℕ) → K x → x ≢ 0
  numbered-dart keys star m x h e = let above = numbered_above K keys last star m x h in let none = m.nothing in let same = ap star e in omega arith

  numbered-keys : (keys keys' : List ℕ) (star other : ℕ → ℕ) → IsNumbered K keys last star → IsNumbered K keys' last other → keys ≡ keys'
  numbered-keys keys keys' star other m n = darts-one K keys keys' m.ascending n.ascending m.members n.members

  numbered-alike : (keys keys' : List ℕ) (star other : ℕ → ℕ) → IsNumbered K keys last star → IsNumbered K keys' last other → AreAlike K star other
  numbered-alike keys keys' star other m n x (inr e) = ap star e ∙ m.nothing ∙ sym (ap other e ∙ n.nothing)
  numbered-alike keys keys' star other m n x (inl h) =
      let same = numbered-keys keys keys' star other m n in
      let at = numbered_at K keys last star m x h in
      let number = subst (λ (ks : List ℕ). IsNumbered K ks last other) (sym same) n in
      at.3 ∙ sym (ap other (sym at.2) ∙ number.numbers at.0 at.1)

-- what Becomes tells of new darts that are numbered on from the last one tells the links
abbrev pub TellsNumbered : (ℕ → Type 0) → ℕ → ((ℕ → ℕ) → Links → Type 0) → Type 0
TellsNumbered K last Becomes = (keys keys' : List ℕ) (star other : ℕ → ℕ) → IsNumbered K keys last star → IsNumbered K keys' last other
    → (N M : Links) → Becomes star N → Becomes other M → (t x : ℕ) → N t x ≡ M t x

pub tells-numbered : (K : ℕ → Type 0) (last : ℕ) (Becomes : (ℕ → ℕ) → Links → Type 0) → (((x : ℕ) → K x → x ≢ 0) → TellsInserted K Becomes) → TellsNumbered K last Becomes
tells-numbered K last Becomes tells keys keys' star other m n = tells (numbered-dart K last keys star m) star other (numbered-alike K last keys keys' star other m n)

-- what was born, and what there is then
module _ (hook : Hook) (c : Content) (K : ℕ → Type 0) (Becomes : (ℕ → ℕ) → Links → Type 0) (births births' : ℕ) (a b : Content)
    (p : IsGrown hook c K Becomes births a) (q : IsGrown hook c K Becomes births' b) where
  pub births-one : births ≡ births'
  births-one = p.counted ∙ ap (λ (keys : List ℕ). length keys) (numbered-keys K (made c.rows) p.keys q.keys p.star q.star p.numbered q.numbered) ∙ sym q.counted

  pub grown-one : TellsNumbered K (made c.rows) Becomes → a ≡ b
  grown-one tells =
      relinked-one hook c births NoDart (Becomes p.star) (Becomes q.star) (tells p.keys q.keys p.star q.star p.numbered q.numbered) a b p.relinked
      (subst (λ (n : ℕ). IsRelinked hook c n NoDart (Becomes q.star) b) (sym births-one) q.relinked)

-- the same of edges that were hung
module _ (hook : Hook) (c : Content) (K : ℕ → Type 0) (Becomes : (ℕ → ℕ) → (ℕ → ℕ) → Links → Type 0) (births births' : ℕ) (a b : Content)
    (p : IsHungWith hook c K Becomes births a) (q : IsHungWith hook c K Becomes births' b) where
  same-keys : p.keys ≡ q.keys
  same-keys = numbered-keys K (made c.rows) p.keys q.keys p.star q.star p.begins q.begins

  pub hung-births-one : births ≡ births'
  hung-births-one = p.counted ∙ ap (λ (keys : List ℕ). length keys + length keys) same-keys ∙ sym q.counted

  pub hung-content-one : (((x : ℕ) → K x → x ≢ 0) → TellsHung K Becomes) → a ≡ b
  hung-content-one tells =
      let begins = numbered-alike K (made c.rows) p.keys q.keys p.star q.star p.begins q.begins in
      let later = subst (λ (keys : List ℕ). IsNumbered K q.keys (made c.rows + length keys) q.tip) (sym same-keys) q.ends in
      let ends = numbered-alike K (made c.rows + length p.keys) p.keys q.keys p.tip q.tip p.ends later in
      let darts = numbered-dart K (made c.rows) p.keys p.star p.begins in
      relinked-one hook c births NoDart (Becomes p.star p.tip) (Becomes q.star q.tip) (tells darts p.star p.tip q.star q.tip begins ends) a b p.relinked
      (subst (λ (n : ℕ). IsRelinked hook c n NoDart (Becomes q.star q.tip) b) (sym hung-births-one) q.relinked)

pub vertex-one : (k : Kind) (L : Links) (d : ℕ) → ((x : ℕ) → VertexDarts k L d x → x ≢ 0) → TellsInserted (VertexDarts k L d) (λ star. IsVertex k d star L)
vertex-one alpha L d darts = inserted-one alpha 0 (InCell alpha L 1 d) NoPairs L (alpha_vertex_can L d (darts d here))
vertex-one beta L d darts = split-one L (InCell beta L 1 d) (edge_set L d (darts d here))

pub edge-one : (k : Kind) (L : Links) (d e : ℕ) → (k ≡ beta → Laws k L) → (InCorner k L d e → ⊥) → AreEdgePaired k L d e
    → ((x : ℕ) → EdgeDarts k L d e x → x ≢ 0) → TellsInserted (EdgeDarts k L d e) (λ star. IsEdge k d e star L)
edge-one alpha L d e laws apart paired darts =
    inserted-one alpha 1 (AlphaEdgeDarts L d e) (AlphaEdgePairs L d e) L (alpha_edge_can L d e (darts d (inl here)) (darts e (inr here)) paired)
edge-one beta L d e laws apart paired darts = cut-one L (BetaEdgeLeads L d e) (edge_turning L (laws refl) d e paired apart)

pub face-one : (k : Kind) (L : Links) (path : List ℕ) → (k ≡ alpha → Laws k L) → IsClosedPath k L path → IsFacePaired k L path
    → ((x : ℕ) → FaceDarts k L path x → x ≢ 0) → TellsInserted (FaceDarts k L path) (λ star. IsFace k path star L)
face-one alpha L path laws closed paired darts =
    inserted-one alpha 2 (FaceDarts alpha L path) (FacePairs alpha L path) L
    (alpha_face_can L (laws refl) path (λ b h. let after = has_next path b h in (closed b after.0 after.1).0) paired.good (λ b h. darts b (b, h, here)))
face-one beta L path laws closed paired darts =
    inserted-one beta 2 (FaceDarts beta L path) (FacePairs beta L path) L (beta_face_can L path paired.good (λ b h. darts b (b, h, here)))

-- live darts are numbers from 1 on
pub counted-live : (rows : Rows) → (IsLive rows 0 → ⊥) → IsCounted (made rows) (IsLive rows)
counted-live rows nothing x h =
    let some : x ≢ 0 = λ e. nothing (subst (IsLive rows) e h) in
    let within = live-within rows x h in
    (omega arith, omega arith)

-- a map that is closed at a link which is its own inverse
module _ (k : Kind) (rows : Rows) (i : ℕ) (own : inverse k i ≡ i) (nothing : IsLive rows 0 → ⊥) (w : Laws k (links_of rows)) where
  counted : IsCounted (made rows) (IsLive rows)
  counted = counted-live rows nothing

  live : LeadsToLive (IsLive rows) (links_of rows)
  live = rows_lead_to_live k rows w

  dart : (x : ℕ) → IsLive rows x → x ≢ 0
  dart = live_dart (made rows) (IsLive rows) counted

  inserted : (keys : List ℕ) (star : ℕ → ℕ) (N : Links) → IsNumbered (IsOpen (IsLive rows) i (links_of rows)) keys (made rows) star
      → IsClosed k i (IsLive rows) star (links_of rows) N
      → IsInserted k i (IsOpen (IsLive rows) i (links_of rows)) (ClosingPair k i (IsLive rows) (links_of rows)) star (links_of rows) N
  inserted keys star N m b =
      closing_inserted k i own (IsLive rows) (links_of rows) w dart live (made rows) (rows_made rows) star
      (open_fresh k (links_of rows) w (IsLive rows) live (made rows) counted i keys star m) N b

  pub closed-one : TellsNumbered (IsOpen (IsLive rows) i (links_of rows)) (made rows) (λ star. IsClosed k i (IsLive rows) star (links_of rows))
  closed-one keys keys' star other m n N M b c =
      inserted-one k i (IsOpen (IsLive rows) i (links_of rows)) (ClosingPair k i (IsLive rows) (links_of rows)) (links_of rows)
      (closing_can k i own (IsLive rows) (links_of rows) w dart live (made rows) (rows_made rows)) star other
      (numbered-alike (IsOpen (IsLive rows) i (links_of rows)) (made rows) keys keys' star other m n) N M
      (inserted keys star N m b) (inserted keys' other M n c)
