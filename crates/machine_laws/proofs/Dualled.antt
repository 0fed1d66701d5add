-- The dual leaves one content, and keeps what every state of the machine keeps.
use Rattle.std.proofs.Common.{◌≡◌, ◌≢◌, ℕ, ◌+◌, ◌-◌, ◌≤◌, List, length, Option, None, slice_index_or, sym, ap, ◌∙◌, subst, inl, inr, arith}
use Rattle.std.proofs.lemmas.Bool.{cases_lt}
use Rattle.std.proofs.lemmas.List.{length-reverse, get_or-reverse}
use Rattle.map_defs.specs.Kind.{Kind}
use Rattle.map_defs.specs.Laws.{Laws, IsLawful}
use Rattle.map_defs.specs.Rows.{IsLive, links_of, IsSound}
use Rattle.map_defs.specs.Cells.{InCell}
use Rattle.map_defs.specs.Values.{Rule}
use Rattle.map_defs.specs.Carry.{AreEqualOnCells}
use Rattle.machine_defs.specs.State.{Content, value_at, rule_at}
use Rattle.map_defs.specs.Dual.{IsDualable}
use Rattle.machine_defs.specs.Dualling.{IsDualOf}
use Rattle.machine_defs.specs.Kept.{IsLawfulContent}
use Rattle.link_laws.proofs.Told.{told_of_laws}
use Rattle.link_laws.proofs.SameRows.{same_rows}
use Rattle.dual_laws.proofs.DualLaws.{dual_laws, dual_cells, dual_one}
use Rattle.journal_laws.proofs.ContentFacts.{value-above, values-one, same-content}
use Rattle.machine_laws.proofs.Keeping.{laws-of, dead-at, sound-of}

module _ (c a b : Content) (p : IsDualOf c a) (q : IsDualOf c b) where
  pub dualled-one : a ≡ b
  dualled-one = same-content a b (p.kind ∙ sym q.kind) dims rows values (p.rules ∙ sym q.rules)
    where
      dims : a.dim ≡ b.dim
      dims = p.dim ∙ sym q.dim

      rows : a.rows ≡ b.rows
      rows = same_rows c.dim a.rows b.rows p.wide q.wide (p.long ∙ sym q.long)
          (λ d. ((λ h. (q.live d).1 ((p.live d).0 h)), (λ h. (p.live d).1 ((q.live d).0 h))))
          (λ i d h. dual_one c.kind c.dim (links_of c.rows) (links_of a.rows) (links_of b.rows) p.links q.links i d)

      values : a.values ≡ b.values
      values = values-one a b p.places q.places dims rows
          (λ i d within live. let low = subst (λ (n : ℕ). i ≤ n) p.dim within in p.values i d low ∙ sym (q.values i d low))

-- the dual of a content that has one
module _ (c : Content) (kept : IsLawfulContent c) (can : IsDualable c.kind c.dim (links_of c.rows) (IsLive c.rows)) (next : Content) (r : IsDualOf c next) where
  lawful : Laws c.kind (links_of next.rows)
  lawful = dual_laws c.dim c.rows kept.flat c.kind (links_of next.rows) (laws-of c kept) can r.links

  nothing : IsLive next.rows 0 → ⊥
  nothing live = dead-at c.rows kept.sound.nothing ((r.live 0).0 live)

  dart : (d : ℕ) → IsLive next.rows d → d ≢ 0
  dart d live zeroth = nothing (subst (IsLive next.rows) zeroth live)

  -- a cell of the dual is a cell of the map
  its-cell : (i x y : ℕ) → i ≤ c.dim → x ≢ 0 → InCell c.kind (links_of next.rows) i x y → InCell c.kind (links_of c.rows) (c.dim - i) x y
  its-cell i x y within some = (dual_cells c.dim c.rows kept.flat c.kind (links_of next.rows) kept.sound.wide (laws-of c kept) can r.links i x y within some).0

  equal : (i : ℕ) → AreEqualOnCells c.kind i (links_of next.rows) (IsLive next.rows) (value_at next i)
  equal i x y live cell = elim (cases_lt c.dim i) [
    | inl above ↦ value-above next r.places i x (rw r.dim above) ∙ sym (value-above next r.places i y (rw r.dim above))
    | inr within ↦ r.values i x within
        ∙ kept.equal (c.dim - i) x y ((r.live x).0 live) (its-cell i x y within (dart x live) cell) ∙ sym (r.values i y within)
  ]

  -- the rule of a dimension is that of the dimension which lies as far from the other end
  its-rule : (i : ℕ) → i ≤ c.dim → rule_at next i ≡ rule_at c (c.dim - i)
  its-rule i within =
      let place : length c.rules - 1 - i ≡ c.dim - i = omega (arith, kept.ruled) in
      ap (λ (rules : List (Option Rule)). slice_index_or rules i None) r.rules
      ∙ get_or-reverse c.rules i None (omega (arith, kept.ruled, within)) ∙ ap (rule_at c) place

  none : (i d : ℕ) → rule_at next i ≡ None → value_at next i d ≡ None
  none i d is = elim (cases_lt c.dim i) [
    | inl above ↦ value-above next r.places i d (rw r.dim above)
    | inr within ↦ r.values i d within ∙ kept.none (c.dim - i) d (sym (its-rule i within) ∙ is)
  ]

  sound : IsSound c.kind c.dim next.rows
  sound = sound-of c.kind c.dim next.rows lawful r.wide nothing (let few = kept.sound.few in omega (arith, r.long))

  ruled : length next.rules ≡ next.dim + 1
  ruled = ap (λ (rules : List (Option Rule)). length rules) r.rules ∙ length-reverse c.rules ∙ kept.ruled ∙ ap (λ (n : ℕ). n + 1) (sym r.dim)

  pub kept-dualled : IsLawfulContent next
  kept-dualled = record {
    flat = rw r.dim kept.flat;
    sound = subst (λ (k : Kind). IsSound k next.dim next.rows) (sym r.kind) (subst (λ (n : ℕ). IsSound c.kind n next.rows) (sym r.dim) sound);
    begun = omega (arith, r.long, kept.begun);
    lawful = subst (λ (k : Kind). IsLawful k (links_of next.rows)) (sym r.kind) (told_of_laws c.kind (links_of next.rows) lawful);
    places = r.places;
    ruled = ruled;
    equal = subst (λ (k : Kind). (i : ℕ) → AreEqualOnCells k i (links_of next.rows) (IsLive next.rows) (value_at next i)) (sym r.kind) equal;
    none = none;
  }
