use Rattle.std.proofs.Common.{◌≢◌, lit<, ◌∙◌}
use Rattle.map_defs.specs.Rows.{links_of}
use Rattle.face_center.proofs.Hangable.{corner-can}
use Rattle.face_center.proofs.Plans.{beta-dangles}
use Rattle.face_center.proofs.beta.dangle_plan.Goals as goal

pub hanging_edit-requires : goal.hanging_edit-requires
hanging_edit-requires g c =
    let linked : links_of c.args.links.now.rows 0 c.args.dart ≢ 0 = λ none. c.if-number_at-eq0.false (c.number_at.ensures ∙ none) in (
      lit< tt,
      corner-can g.row.DIM c.args.links.now.rows c.see_sound.ensures.sound c.requires.laws c.args.dart c.requires.dart c.in_ok-darts.darts.items c.in_ok-darts.ensures.ascending linked c.in_ok-darts.ensures.members,
    )

pub returns : goal.returns
returns g c =
    let linked : links_of c.args.links.now.rows 0 c.args.dart ≢ 0 = λ none. c.if-number_at-eq0.false (c.number_at.ensures ∙ none) in (
      linked,
      beta-dangles g.row.DIM c.args.links.now.rows c.args.dart c.requires.dart c.see_sound.ensures.low c.in_ok-darts.darts.items c.in_ok-darts.ensures.ascending c.in_ok-hanging_edit.field-0
          c.see_sound.ensures.sound c.requires.laws linked c.in_ok-darts.ensures.members c.in_ok-hanging_edit.ensures,
    )
