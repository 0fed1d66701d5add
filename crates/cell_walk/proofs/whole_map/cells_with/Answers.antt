use Rattle.std.proofs.Common.{ℕ, ◌↔◌, Contains, sym, subst, lit<}
use Rattle.std.proofs.lemmas.Result.{IfOk-weaker}
use Rattle.map_defs.specs.Rows.{links_of, IsLive}
use Rattle.map_defs.specs.Cells.{NamesCell}
use Rattle.cell_walk.proofs.CellDarts.{AreWordsOf, words-within, words-turn, words-least}
use Rattle.cell_walk.proofs.whole_map.cells_with.Goals as goal

pub least_darts-requires : goal.least_darts-requires
least_darts-requires g c =
    let are : AreWordsOf g.K.Kind.kind g.row.DIM c.args.dim c.deref.result.now = record { are = rw (c.deref.ensures.value, ← c.dimension-2.ensures.dimension) c.in_ok-words.ensures } in (
      lit< tt,
      (
        words-within g.K.Kind.kind g.row.DIM c.args.dim c.deref.result.now are,
        words-turn g.K.Kind.kind g.row.DIM c.args.dim c.args.links.now.rows c.deref.result.now c.dimension-2.ensures.sound are,
      ),
    )

pub returns-clause-members : goal.returns-clause-members
returns-clause-members g c =
    let are : AreWordsOf g.K.Kind.kind g.row.DIM c.args.dim c.deref.result.now = record { are = rw (c.deref.ensures.value, ← c.dimension-2.ensures.dimension) c.in_ok-words.ensures } in
    IfOk-weaker c.least_darts.result _ _
    (λ cells members d.
    let names = words-least g.K.Kind.kind g.row.DIM c.args.dim c.args.links.now.rows c.deref.result.now c.dimension-2.ensures.sound are d in
    (λ has. let s = (members d).0 has in (s.0, names.0 s.1), λ s. (members d).1 (s.0, names.1 s.1)))
    c.least_darts.ensures.members

pub returns-in-Some-clause-members : goal.returns-in-Some-clause-members
returns-in-Some-clause-members g c =
    subst (λ (dim : ℕ). (d : ℕ) → Contains c.in-Some.edges.items d ↔ (IsLive c.args.links.now.rows d × NamesCell g.K.Kind.kind (links_of c.args.links.now.rows) dim d))
    (sym c.if-dim-eq1.true) (rw c.in-Some.is at c.in_ok-edges.ensures.members)
