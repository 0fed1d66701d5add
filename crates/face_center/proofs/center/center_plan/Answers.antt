use Rattle.std.proofs.Common.{lit<, refl, sym, ◌∙◌}
use Rattle.std.proofs.lemmas.Bool.{false≢true}
use Rattle.map_defs.specs.Cells.{InCell}
use Rattle.map_defs.specs.Rows.{links_of}
use Rattle.cell_edit.proofs.Premises.{all-live}
use Rattle.face_center.proofs.Hangable.{cell-live}
use Rattle.face_center.proofs.Plans.{centre-can, centre-plans}
use Rattle.face_center.proofs.center.center_plan.Goals as goal

pub are_closed-requires : goal.are_closed-requires
are_closed-requires g c = (
  lit< tt,
  rw c.deref.ensures.value
      (all-live c.args.links.now.rows (InCell g.K.Kind.kind (links_of c.args.links.now.rows) 2 c.args.dart) c.in_ok-darts.darts.items c.in_ok-darts.ensures.members
      (cell-live g.K.Kind.kind g.row.DIM c.args.links.now.rows c.see_sound.ensures.sound c.args.dart c.requires.dart)),
)

pub hanging_edit-requires : goal.hanging_edit-requires
hanging_edit-requires g c = (
  lit< tt,
  centre-can g.row.DIM c.args.links.now.rows c.args.dart c.requires.dart c.in_ok-darts.darts.items c.in_ok-darts.ensures.ascending g.K.Kind.kind
      c.see_sound.ensures.sound c.requires.laws c.in_ok-darts.ensures.members,
)

pub returns-then-not-are_closed : goal.returns-then-not-are_closed
returns-then-not-are_closed g c =
    let tells = rw c.deref.ensures.value at c.are_closed.ensures in
    (refl, λ closed. false≢true (sym c.if-not-are_closed.true ∙ tells.1 (λ x has. closed x ((c.in_ok-darts.ensures.members x).0 has))))

pub returns : goal.returns
returns g c =
    let tells = rw c.deref.ensures.value at c.are_closed.ensures in (
      λ x among. tells.0 c.if-not-are_closed.false x ((c.in_ok-darts.ensures.members x).1 among),
      centre-plans g.row.DIM c.args.links.now.rows c.args.dart c.requires.dart c.see_sound.ensures.low c.in_ok-darts.darts.items c.in_ok-darts.ensures.ascending c.in_ok-hanging_edit.field-0 g.K.Kind.kind
          c.see_sound.ensures.sound c.requires.laws c.in_ok-darts.ensures.members c.in_ok-hanging_edit.ensures,
    )
