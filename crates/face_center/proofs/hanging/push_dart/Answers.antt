use Rattle.std.proofs.Common.{◌+◌}
use Rattle.map_defs.specs.Rows.{links_of}
use Rattle.cell_edit.specs.Stars.{star_of}
use Rattle.face_center.specs.Hanging.{tip_of}
use Rattle.face_center.proofs.HungEntries.{hung-pushed}
use Rattle.face_center.proofs.HungPlaces.{old-new}
use Rattle.face_center.proofs.hanging.push_dart.Goals as goal

pub returns-clause-entries : goal.returns-clause-entries
returns-clause-entries g c =
    let rows = c.args.links.now.rows in
    let stars = c.args.stars.now in
    hung-pushed g.K.Kind.kind c.args.hanging (links_of rows) (star_of stars) (tip_of stars) c.args.dart (g.row.DIM + 1) c.args.changes.now.items c.push_old.new.changes.items c.push_new.new.changes.items
    (λ d t y z. old-new g.K.Kind.kind rows c.args.hanging stars c.requires.can (g.row.DIM + 1) c.args.dart d t y z c.requires.key)
    (c.push_old.ensures.entries (star_of stars) (tip_of stars) c.requires.begin c.requires.end) c.push_new.ensures.entries
