use Rattle.std.proofs.Common.{ℕ, sym, subst, lit<}
use Rattle.map_defs.specs.Rows.{links_of}
use Rattle.cell_edit.specs.Bridging.{across, LeadsAcross}
use Rattle.cell_edit.proofs.Beyond.{none-unless}
use Rattle.cell_edit.proofs.WalkTurns.{walk-rest, walk-next, walk-free}
use Rattle.cell_edit.proofs.crossing.first_outside_from_within.Goals as goal

pub returns-in_default : goal.returns-in_default
returns-in_default g c =
    walk-free c.args.cell.now (across g.K.Kind.kind (links_of c.args.links.now.rows) c.args.link c.args.beside) c.args.from c.requires.from c.requires.darts
    (c.across.ensures.free.0 (none-unless c.across.result c.in_default.not-Some))

pub first_outside-requires : goal.first_outside-requires
first_outside-requires g c =
    let st : ℕ → ℕ = across g.K.Kind.kind (links_of c.args.links.now.rows) c.args.link c.args.beside in
    let rest = walk-rest c.args.cell.now st c.args.from c.requires.ends.0 c.requires.from c.requires.ends.1 in
    (lit< tt, (c.requires.ascending, (c.requires.darts, (c.in-Some.ensures.live, (c.requires.ends.0, subst (λ x. LeadsAcross g.K.Kind.kind (links_of c.args.links.now.rows) c.args.link c.args.beside c.args.cell.now x c.requires.ends.0) (sym c.in-Some.ensures.leads) rest)))))

pub returns : goal.returns
returns g c =
    walk-next c.args.cell.now (across g.K.Kind.kind (links_of c.args.links.now.rows) c.args.link c.args.beside) c.args.from c.in-Some.next c.first_outside.result c.requires.from c.in-Some.ensures.leads c.first_outside.ensures
