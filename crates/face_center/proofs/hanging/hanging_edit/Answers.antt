use Rattle.std.proofs.Common.{lit<, refl, append-nil, arith}
use Rattle.cell_edit.proofs.Premises.{all-made}
use Rattle.face_center.proofs.hanging.hanging_edit.Goals as goal

pub new-stars-requires-clause-made : goal.new-stars-requires-clause-made
new-stars-requires-clause-made g c =
    rw c.made.ensures.made (all-made g.K.Kind.kind g.row.DIM c.args.links.now.rows c.made.ensures.sound c.args.darts.items c.requires.live)

pub hung_changes-requires : goal.hung_changes-requires
hung_changes-requires g c = rw (c.new-stars.ensures, c.made.ensures.made) (lit< tt, c.requires)

pub returns : goal.returns
returns g c =
    rw (c.births.ensures, c.new.ensures.items, c.new-stars.ensures, c.none.ensures.rows, append-nil c.in_ok-changes.changes.items)
    (record { deaths = refl; births = omega arith; writes = rw (c.new-stars.ensures, c.made.ensures.made) at c.in_ok-changes.ensures })
