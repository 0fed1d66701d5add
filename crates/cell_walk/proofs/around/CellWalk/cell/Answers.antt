use Rattle.std.proofs.Common.{◌↔◌, ℕ, Contains, IfOk, lit<, subst}
use Rattle.std.proofs.lemmas.Result.{IfOk-weaker}
use Rattle.map_defs.specs.Rows.{links_of}
use Rattle.map_defs.specs.Cells.{InOrbit, Leads, InCell}
use Rattle.cell_walk.specs.CellCourses.{AreCellWays, IsCellCourse}
use Rattle.cell_walk.proofs.CellDarts.{AreWordsOf, words-within, words-cell}
use Rattle.cell_walk.proofs.CellRounds.{ways-within, ways-cell, course-words}
use Rattle.cell_walk.proofs.around.CellWalk.cell.Goals as goal

pub round-requires : goal.round-requires
round-requires g c =
    let ways : AreCellWays g.K.Kind.kind g.row.DIM c.self.inside.dim c.in-Round.ways = subst (IsCellCourse g.K.Kind.kind g.row.DIM c.self.inside.dim c.self.inside.words.items) c.in-Round.is c.self.invariant in
    (lit< tt, (ways-within g.K.Kind.kind g.row.DIM c.self.inside.dim c.in-Round.ways ways, ways.turns))

pub walked-requires : goal.walked-requires
walked-requires g c =
    let along = course-words g.K.Kind.kind g.row.DIM c.self.inside.dim c.self.inside.words.items c.self.inside.course c.in_default.not-Round c.self.invariant in
    let are : AreWordsOf g.K.Kind.kind g.row.DIM c.self.inside.dim c.self.inside.words.items = record { are = along.0 } in
    (lit< tt, rw c.deref.ensures.value (words-within g.K.Kind.kind g.row.DIM c.self.inside.dim c.self.inside.words.items are, along.1))

pub returns-in-Round-clause-members : goal.returns-in-Round-clause-members
returns-in-Round-clause-members g c =
    let ways : AreCellWays g.K.Kind.kind g.row.DIM c.self.inside.dim c.in-Round.ways = subst (IsCellCourse g.K.Kind.kind g.row.DIM c.self.inside.dim c.self.inside.words.items) c.in-Round.is c.self.invariant in
    subst (λ i. IfOk c.round.result (λ cell. (y : ℕ) → Contains cell.items y ↔ InCell g.K.Kind.kind (links_of c.args.links.now.rows) i c.args.dart y)) c.self.view_is
    (IfOk-weaker c.round.result _ _
    (λ cell members y.
    let same = ways-cell g.K.Kind.kind g.row.DIM c.self.inside.dim c.args.links.now.rows c.in-Round.ways c.see_sound.ensures.sound ways c.args.dart y in
    (λ has. same.0 ((members y).0 has), λ among. (members y).1 (same.1 among)))
    c.round.ensures.members)

pub returns-in_default-clause-members : goal.returns-in_default-clause-members
returns-in_default-clause-members g c =
    let along = course-words g.K.Kind.kind g.row.DIM c.self.inside.dim c.self.inside.words.items c.self.inside.course c.in_default.not-Round c.self.invariant in
    let are : AreWordsOf g.K.Kind.kind g.row.DIM c.self.inside.dim c.self.inside.words.items = record { are = along.0 } in
    subst (λ i. IfOk c.walked.result (λ cell. (y : ℕ) → Contains cell.items y ↔ InCell g.K.Kind.kind (links_of c.args.links.now.rows) i c.args.dart y)) c.self.view_is
    (IfOk-weaker c.walked.result (λ orbit. (y : ℕ) → Contains orbit.items y ↔ InOrbit (Leads (links_of c.args.links.now.rows) (Contains c.self.inside.words.items)) c.args.dart y) _
    (λ cell members y.
    let same = words-cell g.K.Kind.kind g.row.DIM c.self.inside.dim c.args.links.now.rows c.self.inside.words.items c.see_sound.ensures.sound are c.args.dart y in
    (λ has. same.0 ((members y).0 has), λ among. (members y).1 (same.1 among)))
    (rw c.deref.ensures.value at c.walked.ensures.members))
