use Rattle.std.proofs.Common.{Contains, lit<}
use Rattle.std.proofs.lemmas.Result.{IfOk-weaker}
use Rattle.map_defs.specs.Rows.{links_of}
use Rattle.map_defs.specs.Cells.{InCell, InOrbit, Leads}
use Rattle.cell_walk.proofs.CellDarts.{AreWordsOf, words-within, words-turn, words-least, words-cell}
use Rattle.cell_walk.proofs.ListedCells.{lists-same}
use Rattle.cell_walk.proofs.whole_map.cell_lists.Goals as goal

pub orbit_lists-requires : goal.orbit_lists-requires
orbit_lists-requires g c =
    let are : AreWordsOf g.K.Kind.kind g.row.DIM c.args.dim c.deref.result.now = record { are = rw (c.deref.ensures.value, ← c.dimension.ensures.dimension) c.in_ok-words.ensures } in (
      lit< tt,
      (
        words-within g.K.Kind.kind g.row.DIM c.args.dim c.deref.result.now are,
        words-turn g.K.Kind.kind g.row.DIM c.args.dim c.args.links.now.rows c.deref.result.now c.dimension.ensures.sound are,
      ),
    )

pub returns-clause-members : goal.returns-clause-members
returns-clause-members g c =
    let are : AreWordsOf g.K.Kind.kind g.row.DIM c.args.dim c.deref.result.now = record { are = rw (c.deref.ensures.value, ← c.dimension.ensures.dimension) c.in_ok-words.ensures } in
    IfOk-weaker c.orbit_lists.result _ _
    (λ cells members d.
    let names = words-least g.K.Kind.kind g.row.DIM c.args.dim c.args.links.now.rows c.deref.result.now c.dimension.ensures.sound are d in
    (λ has. let s = (members d).0 has in (s.0, names.0 s.1), λ s. (members d).1 (s.0, names.1 s.1)))
    c.orbit_lists.ensures.members

pub returns-clause-darts : goal.returns-clause-darts
returns-clause-darts g c =
    let are : AreWordsOf g.K.Kind.kind g.row.DIM c.args.dim c.deref.result.now = record { are = rw (c.deref.ensures.value, ← c.dimension.ensures.dimension) c.in_ok-words.ensures } in
    IfOk-weaker c.orbit_lists.result _ _
    (λ cells lists. lists-same (InOrbit (Leads (links_of c.args.links.now.rows) (Contains c.deref.result.now))) (InCell g.K.Kind.kind (links_of c.args.links.now.rows) c.args.dim)
    cells.least.items cells.darts (words-cell g.K.Kind.kind g.row.DIM c.args.dim c.args.links.now.rows c.deref.result.now c.dimension.ensures.sound are) lists)
    c.orbit_lists.ensures.darts
