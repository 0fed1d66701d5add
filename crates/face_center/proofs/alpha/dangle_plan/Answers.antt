use Rattle.std.proofs.Common.{lit<}
use Rattle.face_center.proofs.Plans.{alpha-dangle-can, alpha-dangles}
use Rattle.face_center.proofs.alpha.dangle_plan.Goals as goal

pub hanging_edit-requires : goal.hanging_edit-requires
hanging_edit-requires g c = (
  lit< tt,
  alpha-dangle-can g.row.DIM c.args.links.now.rows c.args.dart c.requires.dart c.in_ok-darts.darts.items c.in_ok-darts.ensures.ascending
      c.see_sound.ensures.sound c.in_ok-darts.ensures.members,
)

pub returns : goal.returns
returns g c = (
  tt,
  alpha-dangles g.row.DIM c.args.links.now.rows c.args.dart c.requires.dart c.see_sound.ensures.low c.in_ok-darts.darts.items c.in_ok-darts.ensures.ascending c.in_ok-hanging_edit.field-0
      c.see_sound.ensures.sound c.requires.laws c.in_ok-darts.ensures.members c.in_ok-hanging_edit.ensures,
)
