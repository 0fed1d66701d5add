use Rattle.std.proofs.Common.{ℕ, ◌≡◌, ◌+◌, sym, ◌∙◌, subst, arith}
use Rattle.std.proofs.lemmas.Bool.{false≢true}
use Rattle.map_defs.specs.Rows.{links_of}
use Rattle.cell_edit.proofs.Beyond.{none-unless}
use Rattle.cell_edit.proofs.WalkTurns.{IsOn, on-goes, on-ends, on-few}
use Rattle.beta_edit.specs.Crossing.{drawn_step}
use Rattle.beta_edit.proofs.crossing.walk_end.Goals as goal

pub returns-then-not-is_among-clause-end : goal.returns-then-not-is_among-clause-end
returns-then-not-is_among-clause-end g c =
    rw c.number.ensures.same
    (on-ends c.args.cell.now (drawn_step (links_of c.args.links.now.rows) c.args.beside c.args.link) c.args.from c.loop-turn._turn c.loop-turn.at c.loop-turn.invariant
    (λ has. false≢true (sym c.if-not-is_among.true ∙ c.is_among.ensures.1 has)))

pub returns-in_default-clause-end : goal.returns-in_default-clause-end
returns-in_default-clause-end g c =
    let st : ℕ → ℕ = drawn_step (links_of c.args.links.now.rows) c.args.beside c.args.link in
    let free : drawn_step (links_of c.args.links.now.rows) c.args.beside c.args.link c.loop-turn.at ≡ 0 = c.across.ensures.free.0 (none-unless c.across.result c.in_default.not-Some) in
    on-ends c.args.cell.now st c.args.from (c.loop-turn._turn + 1) 0
    (subst (IsOn c.args.cell.now st c.args.from (c.loop-turn._turn + 1)) free
    (on-goes c.args.cell.now st c.args.from c.loop-turn._turn c.loop-turn.at c.loop-turn.invariant (c.is_among.ensures.0 c.if-not-is_among.false)))
    c.requires.darts

pub loop-turn-preserved : goal.loop-turn-preserved
loop-turn-preserved g c =
    let st : ℕ → ℕ = drawn_step (links_of c.args.links.now.rows) c.args.beside c.args.link in
    subst (IsOn c.args.cell.now st c.args.from (c.loop-turn._turn + 1)) (sym c.in-Some.ensures.leads)
    (on-goes c.args.cell.now st c.args.from c.loop-turn._turn c.loop-turn.at c.loop-turn.invariant (c.is_among.ensures.0 c.if-not-is_among.false))

pub returns-clause-endless : goal.returns-clause-endless
returns-clause-endless g c = λ y walk.
    on-few c.args.cell.now (drawn_step (links_of c.args.links.now.rows) c.args.beside c.args.link) c.args.from c.loop-turn._turn c.loop-turn.at y
    (omega (arith, c.loop-turn-test.false)) c.loop-turn.invariant walk
