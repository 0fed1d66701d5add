use Rattle.std.proofs.Common.{◌∙◌, arith}
use Rattle.face_center.proofs.HungNeighbours.{side-key}
use Rattle.face_center.proofs.hanging.side_links.Goals as goal

pub edge_numbers-requires-clause-key : goal.edge_numbers-requires-clause-key
edge_numbers-requires-clause-key g c =
    side-key g.K.Kind.kind c.args.links.now.rows c.args.hanging c.args.stars.now c.requires.can c.args.dart c.requires.key c.entry.result 1 (omega arith)
    c.requires.combinatorial c.in-Face.is (c.entry.ensures ∙ c.requires.row 1)

pub edge_numbers-requires-in-Face-clause-key : goal.edge_numbers-requires-in-Face-clause-key
edge_numbers-requires-in-Face-clause-key g c =
    side-key g.K.Kind.kind c.args.links.now.rows c.args.hanging c.args.stars.now c.requires.can c.args.dart c.requires.key c.entry-in-Face.result 0 (omega arith)
    c.requires.combinatorial c.in-Face.is (c.entry-in-Face.ensures ∙ c.requires.row 0)
