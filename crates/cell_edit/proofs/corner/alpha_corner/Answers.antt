use Rattle.std.proofs.Common.{◌≡◌, ◌≢◌, Contains, inl, inr, refl, sym, ◌∙◌, subst}
use Rattle.std.proofs.lemmas.Bool.{false≢true}
use Rattle.std.proofs.lemmas.Result.{IfOk-weaker}
use Rattle.map_defs.specs.Rows.{links_of}
use Rattle.link_laws.proofs.RowFacts.{rows_dimension}
use Rattle.cell_edit.proofs.ListedDart.{one-corner, lone-dart, has-lone}
use Rattle.cell_edit.proofs.OneSidedCorner.{one-sided-corner}
use Rattle.cell_edit.proofs.corner.alpha_corner.Goals as goal

pub returns-then-not-is_on_one_side_alone-clause-members : goal.returns-then-not-is_on_one_side_alone-clause-members
returns-then-not-is_on_one_side_alone-clause-members g c =
    IfOk-weaker c.carried_darts.result _ _
    (λ darts same. λ x. let corner = one-corner (links_of c.args.links.now.rows) c.args.dart x in
    (λ has. corner.0 ((same x).0 has), λ among. (same x).1 (corner.1 among)))
    c.carried_darts.ensures.members

pub returns-in-Some-clause-members : goal.returns-in-Some-clause-members
returns-in-Some-clause-members g c =
    let rows = c.args.links.now.rows in
    let sound = c.see_sound.ensures.sound in
    let some : c.in-Some.other ≢ 0 = λ none. false≢true (sym (c.in-Some.ensures.free.1 (sym c.in-Some.ensures.linked ∙ none))) in
    let corner = one-sided-corner g.row.DIM (links_of rows) (rows_dimension g.row.DIM rows sound.wide) c.requires c.args.dart (c.is_on_one_side_alone.ensures c.if-not-is_on_one_side_alone.false) in
    IfOk-weaker c.both.result _ _
    (λ darts same. λ x. (
      λ has. elim ((same x).0 has) [
        | inl own ↦ (corner x).0 (inl own)
        | inr other ↦ (corner x).0 (inr (sym c.in-Some.ensures.linked ∙ sym other, λ none. some (sym other ∙ none)))
      ],
      λ among. elim ((corner x).1 among) [
        | inl own ↦ (same x).1 (inl own)
        | inr next ↦ (same x).1 (inr (sym next.0 ∙ sym c.in-Some.ensures.linked))
      ],
    ))
    c.both.ensures.members

pub returns-in-None-clause-members : goal.returns-in-None-clause-members
returns-in-None-clause-members g c =
    let rows = c.args.links.now.rows in
    let L = links_of rows in
    let sound = c.see_sound.ensures.sound in
    let none : L 1 c.args.dart ≡ 0 = c.in-None.ensures.free.0 refl in
    let corner = one-sided-corner g.row.DIM L (rows_dimension g.row.DIM rows sound.wide) c.requires c.args.dart (c.is_on_one_side_alone.ensures c.if-not-is_on_one_side_alone.false) in
    IfOk-weaker c.from_slice.result _ _
    (λ darts items. λ x. (
      λ has. (corner x).0 (inl (lone-dart c.args.dart x (subst (λ is. Contains is x) items has))),
      λ among. elim ((corner x).1 among) [
        | inl own ↦ rw items (has-lone c.args.dart x own)
        | inr next ↦ absurd (next.1 (sym next.0 ∙ none))
      ],
    ))
    c.from_slice.ensures.items
