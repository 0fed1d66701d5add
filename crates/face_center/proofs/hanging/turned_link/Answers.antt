use Rattle.std.proofs.Common.{sym, ap, ◌∙◌}
use Rattle.map_defs.specs.Rows.{links_of}
use Rattle.face_center.specs.declared.hanging.Hanging.{Hanging}
use Rattle.face_center.specs.Hanging.{turning}
use Rattle.face_center.proofs.HungNeighbours.{turning-key}
use Rattle.face_center.proofs.hanging.turned_link.Goals as goal

pub edge_numbers-requires-clause-key : goal.edge_numbers-requires-clause-key
edge_numbers-requires-clause-key g c =
    turning-key g.K.Kind.kind c.args.links.now.rows c.args.hanging c.args.stars.now c.requires.can c.args.dart c.requires.key c.entry.result c.requires.general
    (c.entry.ensures ∙ c.requires.row 0 ∙ ap (λ (h : Hanging). links_of c.args.links.now.rows (turning h) c.args.dart) (sym c.in-Face.is))
