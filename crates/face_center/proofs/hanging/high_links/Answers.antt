use Rattle.std.proofs.Common.{◌∙◌}
use Rattle.face_center.proofs.HungNeighbours.{high-key}
use Rattle.face_center.proofs.hanging.high_links.Goals as goal

pub edge_numbers-begin-requires-clause-key : goal.edge_numbers-begin-requires-clause-key
edge_numbers-begin-requires-clause-key g c =
    high-key g.K.Kind.kind c.args.links.now.rows c.args.hanging c.args.stars.now c.requires.can c.args.dart c.requires.key c.entry.result c.args.at c.requires.low
    (c.entry.ensures ∙ c.requires.row c.args.at)
