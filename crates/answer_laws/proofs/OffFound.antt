-- A map without an open 2-cell, whose 0-cells have points, has OFF text.
use Rattle.std.proofs.Common.{◌≡◌, ◌≢◌, ℕ, ◌+◌, ◌<◌, List, [], ◌∷◌, length, slice_index, Option, Some, None, Contains, refl, sym, ap, ◌∙◌, subst, inl, inr}
use Rattle.std.specs.List.{AllZip}
use Rattle.std.proofs.lemmas.List.{get_or_default}
use Rattle.map_defs.specs.Kind.{Kind, alpha, beta}
use Rattle.map_defs.specs.Links.{Links}
use Rattle.map_defs.specs.Laws.{Laws}
use Rattle.map_defs.specs.Rows.{Rows, IsLive, links_of, made}
use Rattle.map_defs.specs.LinkWords.{through}
use Rattle.map_defs.specs.Cells.{InOrbit, Leads, InCell, here, onward}
use Rattle.map_defs.specs.Walks.{Walk, stop, go}
use Rattle.map_defs.specs.Values.{Value}
use Rattle.map_defs.specs.OffOfMap.{OffRows, round_word, next_round, Passes, there, past, IsRound, IsOpen, IsCell, ListsCells, LiesIn, IsFaceOf, AreOffRows, HasOffText}
use Rattle.link_laws.proofs.Basics.{stable}
use Rattle.link_laws.proofs.CellFacts.{cell_back, orbit_bounded}
use Rattle.link_laws.proofs.LawFacts.{link_one}
use Rattle.link_laws.proofs.RowFacts.{rows_lead_to_live, rows_made}
use Rattle.link_laws.proofs.Walking.{leaves}
use Rattle.edit_laws.proofs.RowWrites.{live-within}
use Rattle.value_laws.proofs.MapValues.{cell_trans}
use Rattle.value_laws.proofs.Rising.{has_least, held_case, held_first, held_later, held_none}
use Rattle.value_laws.proofs.Touching.{cell_live}
use Rattle.answer_laws.specs.Answering.{NotNot}
use Rattle.answer_laws.proofs.Listed.{ascending}
use Rattle.answer_laws.proofs.Questions.{count_found}

-- a list beside another, where nothing that stands in it lacks a partner
zip_found : {B : Type 0} (R : ℕ → B → Type 0) (xs : List ℕ) → ((x : ℕ) → Contains xs x → NotNot ((y : B) × R x y)) → NotNot ((ys : List B) × AllZip R xs ys)
zip_found R [] each never = never ([], tt)
zip_found R (x ∷ xs) each never =
    each x (held_first x xs) (λ y. zip_found R xs (λ z h. each z (held_later x xs z h)) (λ ys. never (y.0 ∷ ys.0, (y.1, ys.1))))

point_found : (o : Option Value) → (o ≡ None → ⊥) → (v : Value) × (o ≡ Some v)
point_found None some = absurd (some refl)
point_found (Some v) some = (v, refl)

module _ (k : Kind) (rows : Rows) (laws : Laws k (links_of rows)) where
  abbrev L : Links
  L = links_of rows

  within : (i x : ℕ) → IsCell k rows i x → x < length rows
  within i x h = live-within rows x h.0

  cells_found : (i : ℕ) → NotNot ((cells : List ℕ) × ListsCells k rows i cells)
  cells_found i never =
      ascending (IsCell k rows i) (length rows) (within i) (λ found. never (found.0, record { members = found.2; ascending = found.1 }))

  -- each live dart lies in a cell that is listed
  place_found : (vertices : List ℕ) → ListsCells k rows 0 vertices → (x : ℕ) → IsLive rows x → NotNot ((place : ℕ) × LiesIn k L vertices x place)
  place_found vertices lists x live never =
      has_least (InCell k L 0 x) x here (λ m in_cell least.
      let cell : IsCell k rows 0 m = (
        cell_live k (IsLive rows) L L laws laws (IsLive rows) (rows_lead_to_live k rows laws) 0 x live in_cell,
        λ e h. least e (cell_trans k L 0 x m e in_cell h),
      ) in
      let at = (lists.members m).1 cell in
      let same : m ≡ slice_index vertices at.0 = sym at.2 ∙ get_or_default vertices at.0 m 0 at.1 in
      never (at.0, (at.1, subst (λ (v : ℕ). InCell k L 0 v x) same (cell_back k L laws 0 x m in_cell))))

  next_one : (kind : Kind) → Laws kind L → (x y : ℕ) → next_round kind L x ≢ 0 → next_round kind L x ≡ next_round kind L y → x ≡ y
  next_one alpha w x y some same =
      link_one alpha L w 0 x y (λ none. some (ap (L 1) none ∙ w.nil 1)) (link_one alpha L w 1 (L 0 x) (L 0 y) some same)
  next_one beta w x y some same = link_one beta L w 1 x y some same

  next_live : (kind : Kind) → Laws kind L → (x : ℕ) → next_round kind L x ≢ 0 → IsLive rows (next_round kind L x)
  next_live alpha w x some = rows_lead_to_live alpha rows w 1 (L 0 x) some
  next_live beta w x some = rows_lead_to_live beta rows w 1 x some

  -- the way round a 2-cell that is not open
  module _ (d : ℕ) (live : IsLive rows d) (closed : IsOpen k L d → ⊥) where
    abbrev Next : ℕ → ℕ
    Next = next_round k L

    abbrev On : ℕ → Type 0
    On x = InOrbit (Leads L (λ w. w ≡ round_word k)) d x

    abbrev Further : ℕ → Type 0
    Further x = (x ≢ d) × On x

    leads : (x : ℕ) → On x → Next x ≢ 0
    leads x on none = closed (x, on, none)

    step : (x : ℕ) → On x → On (Next x)
    step x on = onward on (round_word k, refl, refl, leads x on)

    on_live : (x : ℕ) → On x → IsLive rows x
    on_live x here = live
    on_live x (onward {x = u} {y = v} on s) =
        let e : Next u ≡ v = ap (λ w. through L w u) (sym s.1) ∙ s.2 in
        subst (IsLive rows) e (next_live k laws u (leads u on))

    passes : (x y : ℕ) → On x → Walk Further Next x y → (rest : List ℕ) × Passes Next d x rest × ((z : ℕ) → Contains rest z → On z)
    passes x y on (stop n) = ([], subst (λ z. Passes Next d z []) (sym (stable x d (λ apart. n (apart, on)))) there, λ z h. absurd (held_none z h))
    passes x y on (go c w) =
        let more = passes (Next x) y (step x on) w in (
          x ∷ more.0,
          past c.0 more.1,
          λ z h. elim (held_case x more.0 z h) [ inl e ↦ subst On e on | inr later ↦ more.2 z later ],
        )

    round_found : NotNot ((darts : List ℕ) × IsRound k L d darts × ((z : ℕ) → Contains darts z → IsLive rows z))
    round_found never =
        leaves Further Next (made rows + d) (Next d)
        (λ x c. orbit_bounded k L laws (made rows) (rows_made rows) (λ w. w ≡ round_word k) c.1)
        (λ x y c e f same. next_one k laws x y (leads x c.1) same)
        (λ x c same. c.0 (next_one k laws x d (leads x c.1) same))
        (λ y w.
        let way = passes (Next d) y (step d here) w in
        never (
          d ∷ way.0,
          (way.0, way.1, refl),
          λ z h. elim (held_case d way.0 z h) [ inl e ↦ subst (IsLive rows) e live | inr later ↦ on_live z (way.2 z later) ],
        ))

    face_found : (vertices : List ℕ) → ListsCells k rows 0 vertices → NotNot ((face : List ℕ) × IsFaceOf k L vertices d face)
    face_found vertices lists never =
        round_found (λ round.
        zip_found (LiesIn k L vertices) round.0 (λ x h. place_found vertices lists x (round.2 x h)) (λ face.
        never (face.0, (round.0, round.1, face.1))))

  pub off_found : (values : ℕ → Option Value) → HasOffText k rows values → NotNot ((off : OffRows) × AreOffRows k rows values off)
  off_found values has never =
      cells_found 0 (λ vertices.
      cells_found 2 (λ cells.
      zip_found (λ d point. values d ≡ Some point) vertices.0 (λ d h found. found (point_found (values d) (λ none. has.1 (d, (vertices.1.members d).0 h, none)))) (λ points.
      zip_found (IsFaceOf k L vertices.0) cells.0
      (λ d h. let cell = (cells.1.members d).0 h in face_found d cell.0 (λ free. has.0 (d, cell, free)) vertices.0 vertices.1) (λ faces.
      count_found (IsCell k rows 1) (length rows) (within 1) (λ edges.
      never (
        record { points = points.0; faces = faces.0; edges = edges.0 },
        record {
          vertices = vertices.0;
          vertices_listed = vertices.1;
          points = points.1;
          cells = cells.0;
          cells_listed = cells.1;
          faces = faces.1;
          edges = edges.1;
        },
      ))))))
