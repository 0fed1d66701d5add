-- The faces of a map that can be told by its faces have no fault.
use Rattle.std.proofs.Common.{ℕ, ◌≡◌, ◌≢◌, ◌+◌, ◌-◌, ◌*◌, ◌<◌, ◌≤◌, ◌⊎◌, List, [], length, slice_index, slice_index_or, All, None, inl, inr, sym, ap, subst, ◌∙◌, arith}
use Rattle.std.proofs.lemmas.Bool.{cases_lt}
use Rattle.std.proofs.lemmas.List.{get_or_past}
use Rattle.map_defs.specs.Kind.{Kind, beta}
use Rattle.map_defs.specs.Links.{Links}
use Rattle.map_defs.specs.Laws.{Laws}
use Rattle.map_defs.specs.Rows.{Rows, made, made_max, IsLive, links_of, IsSound}
use Rattle.map_defs.specs.Polygon.{per_side}
use Rattle.map_defs.specs.Off.{Mesh}
use Rattle.map_defs.specs.MeshMap.{Side, sides_of, mesh_fault}
use Rattle.map_defs.specs.OffOfMap.{ListsCells}
use Rattle.link_laws.proofs.Pigeonhole.{pigeonhole}
use Rattle.edit_laws.proofs.RowWrites.{live-within}
use Rattle.mesh_laws.specs.Sides.{side_of}
use Rattle.reading_laws.specs.MeshFaults.{RepeatsCorner, HaveSamePoints, IsMeshFault, CanBeSewn}
use Rattle.reading_laws.proofs.MeshMet.{nothing-found, mesh-told}
use Rattle.reading_laws.proofs.Unordered.{no-fault-there}
use Rattle.off_laws.specs.ReadBack.{IsSimple, AreSidesSewn}
use Rattle.off_laws.specs.SideDarts.{AreSideDarts}
use Rattle.off_laws.proofs.RenumberedPlaces.{live-some}
use Rattle.off_laws.proofs.RenumberedPairs.{points-turned, side-one, same-sewn, joined-of}
use Rattle.off_laws.proofs.RenumberedDarts.{IsNumbered, number-one, numbered-dart}

-- a function that has at each place below n what is there
chosen : (P : ℕ → ℕ → Type 0) (n : ℕ) → ((p : ℕ) → p < n → (d : ℕ) × P p d) → (f : ℕ → ℕ) × ((p : ℕ) → p < n → P p (f p))
chosen P n each = ((λ p. (at p).0), λ p h. elim (at p).1 [ inl there ↦ there | inr past ↦ absurd (omega (arith, h, past)) ])
  where
    at : (p : ℕ) → (d : ℕ) × (P p d ⊎ (n ≤ p))
    at p = elim (cases_lt p n) [ inl h ↦ (let one = each p h in (one.0, inl one.1)) | inr past ↦ (0, inr past) ]

-- numbers from 1 to m, one to one, are at most m
few-numbers : (m count : ℕ) (P : ℕ → ℕ → Type 0) → ((p : ℕ) → p < count → (d : ℕ) × ((1 ≤ d) × (d ≤ m) × P p d)) → ((p q d : ℕ) → P p d → P q d → p ≡ q) → count ≤ m
few-numbers m count P each one = elim (cases_lt m count) [ inr few ↦ few | inl many ↦ absurd (meet many) ]
  where
    found : (f : ℕ → ℕ) × ((p : ℕ) → p < count → (1 ≤ f p) × (f p ≤ m) × P p (f p))
    found = chosen (λ p d. (1 ≤ d) × (d ≤ m) × P p d) count each

    meet : m < count → ⊥
    meet many =
        let f : ℕ → ℕ = found.0 in
        let twice = pigeonhole m (λ p. f p - 1) (λ p low. let h = found.1 p (omega (arith, low, many)) in omega (arith, h.0, h.1)) in
        let a = found.1 twice.0 (omega (arith, twice.2, twice.3, many)) in
        let b = found.1 twice.1 (omega (arith, twice.3, many)) in
        let same : f twice.0 ≡ f twice.1 = omega (arith, twice.4, a.0, b.0) in
        let equal = one twice.0 twice.1 (f twice.0) a.2 (subst (P twice.1) (sym same) b.2) in
        omega (arith, equal, twice.2)

module _ (k : Kind) (n : ℕ) (rows : Rows) (sound : IsSound k n rows) (w : Laws k (links_of rows)) (vertices : List ℕ) (listed : ListsCells k rows 0 vertices)
    (faces : List (List ℕ)) (darts : List ℕ) (s : AreSideDarts k (IsLive rows) (links_of rows) vertices faces darts) where
  abbrev L : Links
  L = links_of rows

  abbrev side : ℕ → Side
  side i = side_of (sides_of faces) i

  abbrev count : ℕ
  count = per_side k * length (sides_of faces)

  -- there are at most as many darts of sides as were made
  few : count ≤ made_max
  few =
      let low = few-numbers (made rows) count (λ p d. IsNumbered k (IsLive rows) L darts d (p + 1)) each one in
      let most = sound.few in
      omega (arith, low, most)
    where
      each : (p : ℕ) → p < count → (d : ℕ) × ((1 ≤ d) × (d ≤ made rows) × IsNumbered k (IsLive rows) L darts d (p + 1))
      each p h =
          let at = numbered-dart k n rows sound w vertices listed faces darts s (p + 1) (omega arith) (omega (arith, h)) in
          let some = live-some k n rows sound at.0 at.1 in
          let within = live-within rows at.0 at.1 in
          (at.0, (omega (arith, some), omega (arith, within), at.2))

      one : (p q d : ℕ) → IsNumbered k (IsLive rows) L darts d (p + 1) → IsNumbered k (IsLive rows) L darts d (q + 1) → p ≡ q
      one p q d a b = let same = number-one k n rows sound w vertices listed faces darts s d (p + 1) (q + 1) a b in omega (arith, same)

  once : All IsSimple faces → (f : ℕ) → RepeatsCorner (slice_index_or faces f []) → ⊥
  once simple f (i, j, lt, h, same) = elim (cases_lt f (length faces)) [
    | inl within ↦ simple f [] within i j lt h same
    | inr past ↦ (let none : length (slice_index_or faces f []) ≡ 0 = ap length (get_or_past faces f [] past) in absurd (omega (arith, none, h)))
  ]

  module _ (sewn : AreSidesSewn k (IsLive rows) L) where
    two : (p q r : ℕ) → p < q → q < r → r < length (sides_of faces) → HaveSamePoints (side p) (side r) → HaveSamePoints (side q) (side r) → ⊥
    two p q r first second h one other =
        let hr : r < length darts = omega (arith, h, s.counted) in
        let hq : q < length darts = omega (arith, hr, second) in
        let hp : p < length darts = omega (arith, hq, first) in
        let a = joined-of k n rows sound w vertices listed faces darts s sewn r p hr hp (λ e. omega (arith, e, first, second)) (points-turned (side p) (side r) one) in
        let b = joined-of k n rows sound w vertices listed faces darts s sewn r q hr hq (λ e. omega (arith, e, second)) (points-turned (side q) (side r) other) in
        let same = side-one k n rows sound w vertices listed faces darts s p q (L 2 (slice_index darts r)) hp hq a b in
        omega (arith, same, first)

    apart : k ≡ beta → (p q : ℕ) → p < q → q < length (sides_of faces) → HaveSamePoints (side p) (side q) → (side p).from ≢ (side q).from
    apart oriented p q lt h same from =
        let hq : q < length darts = omega (arith, h, s.counted) in
        let hp : p < length darts = omega (arith, hq, lt) in
        let to : (side p).to ≡ (side q).to = elim same [ inl a ↦ a.1 | inr a ↦ a.1 ∙ (sym from ∙ a.0) ] in
        let is = (same-sewn k n rows sound w vertices listed faces darts s sewn p q hp hq (λ e. omega (arith, e, lt)) from to).0 in
        absurd (cc (is, oriented))

    pub no-fault : All IsSimple faces → (mesh : Mesh) → mesh.faces ≡ faces → mesh_fault k mesh ≡ None
    no-fault simple mesh is = nothing-found (IsMeshFault k mesh) (mesh_fault k mesh) (mesh-told k mesh) (no-fault-there k mesh can)
      where
        can : CanBeSewn k mesh
        can = subst (λ (fs : List (List ℕ)). CanBeSewn k (record { points = mesh.points; faces = fs })) (sym is) (record { few = few; once = once simple; two = two; apart = apart })
