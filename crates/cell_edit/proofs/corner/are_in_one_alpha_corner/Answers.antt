use Rattle.std.proofs.Common.{ℕ, ◌≢◌, ◌≤◌, ◌↔◌, Contains, lit<, sym, ◌∙◌, inl, inr, eqb-true}
use Rattle.std.proofs.lemmas.Bool.{false≢true, eq-eqb}
use Rattle.std.proofs.lemmas.Result.{IfOk-weaker}
use Rattle.map_defs.specs.Kind.{alpha}
use Rattle.map_defs.specs.Rows.{links_of}
use Rattle.map_defs.specs.Insertion.{IsCarrying}
use Rattle.link_laws.proofs.RowFacts.{rows_dimension}
use Rattle.cell_edit.proofs.AlongLinks.{listed-orbit, listed-low}
use Rattle.cell_edit.proofs.Premises.{live-dart}
use Rattle.cell_edit.proofs.OneSidedCorner.{one-sided-corner}
use Rattle.cell_edit.proofs.corner.are_in_one_alpha_corner.Goals as goal

pub returns-then-eq : goal.returns-then-eq
returns-then-eq g c =
    let rows = c.args.links.now.rows in
    let sound = c.see_sound.ensures.sound in
    let corner = one-sided-corner g.row.DIM (links_of rows) (rows_dimension g.row.DIM rows sound.wide) c.requires.laws c.args.one (c.is_on_one_side_alone.ensures c.if-is_on_one_side_alone.true) c.args.other in
    (λ same. corner.0 (inl (eqb-true _ _ (sym c.eq.ensures ∙ same))), λ _. c.if-eq.true)

pub returns-else-eq : goal.returns-else-eq
returns-else-eq g c =
    let rows = c.args.links.now.rows in
    let sound = c.see_sound.ensures.sound in
    let some : c.args.other ≢ 0 = live-dart alpha g.row.DIM rows sound c.args.other c.requires.other in
    let corner = one-sided-corner g.row.DIM (links_of rows) (rows_dimension g.row.DIM rows sound.wide) c.requires.laws c.args.one (c.is_on_one_side_alone.ensures c.if-is_on_one_side_alone.true) c.args.other in (
      λ next. corner.0 (inr (sym c.number_at.ensures ∙ (eqb-true _ _ next ∙ c.number.ensures.same), some)),
      λ among. elim (corner.1 among) [
        | inl same ↦ absurd (false≢true (sym c.if-eq.false ∙ (c.eq.ensures ∙ eq-eqb _ _ same)))
        | inr next ↦ eq-eqb _ _ (c.number_at.ensures ∙ (next.0 ∙ sym c.number.ensures.same))
      ],
    )

pub leads-requires : goal.leads-requires
leads-requires g c =
    let listed : (j : ℕ) → Contains c.in_ok-carrying.carrying.items j ↔ ((j ≤ g.row.DIM) × IsCarrying alpha 1 j) = rw c.dimension.ensures.dimension at c.in_ok-carrying.ensures in
    rw c.deref.ensures.value (lit< tt, listed-low g.row.DIM (IsCarrying alpha 1) c.in_ok-carrying.carrying.items listed)

pub returns : goal.returns
returns g c =
    let rows = c.args.links.now.rows in
    let listed : (j : ℕ) → Contains c.in_ok-carrying.carrying.items j ↔ ((j ≤ g.row.DIM) × IsCarrying alpha 1 j) = rw c.dimension.ensures.dimension at c.in_ok-carrying.ensures in
    let orbit = listed-orbit g.row.DIM (links_of rows) (rows_dimension g.row.DIM rows c.dimension.ensures.sound.wide) (IsCarrying alpha 1) c.in_ok-carrying.carrying.items listed c.args.one c.args.other in
    IfOk-weaker c.leads.result _ _
    (λ leads same. (λ true. orbit.0 (same.0 true), λ among. same.1 (orbit.1 among)))
    (rw c.deref.ensures.value at c.leads.ensures)
