use Rattle.std.proofs.Common.{ℕ, ◌≡◌, ◌+◌, sym, ◌∙◌, subst, arith}
use Rattle.std.proofs.lemmas.Bool.{false≢true}
use Rattle.map_defs.specs.Rows.{links_of}
use Rattle.cell_edit.specs.Bridging.{across}
use Rattle.cell_edit.proofs.Beyond.{none-unless}
use Rattle.cell_edit.proofs.WalkTurns.{IsOn, on-begins, on-goes, on-ends, on-few}
use Rattle.cell_edit.proofs.crossing.first_outside.Goals as goal

pub loop-turn-init : goal.loop-turn-init
loop-turn-init g c = (on-begins c.args.cell.now (across g.K.Kind.kind (links_of c.args.links.now.rows) c.args.link c.args.beside) c.args.from, c.requires.live)

pub returns-then-not-is_among : goal.returns-then-not-is_among
returns-then-not-is_among g c =
    rw c.number.ensures.same
    (on-ends c.args.cell.now (across g.K.Kind.kind (links_of c.args.links.now.rows) c.args.link c.args.beside) c.args.from c.loop-turn._turn c.loop-turn.at c.loop-turn.invariant.0
    (λ has. false≢true (sym c.if-not-is_among.true ∙ c.is_among.ensures.1 has)))

pub returns-in_default : goal.returns-in_default
returns-in_default g c =
    let st : ℕ → ℕ = across g.K.Kind.kind (links_of c.args.links.now.rows) c.args.link c.args.beside in
    let free : across g.K.Kind.kind (links_of c.args.links.now.rows) c.args.link c.args.beside c.loop-turn.at ≡ 0 = c.across.ensures.free.0 (none-unless c.across.result c.in_default.not-Some) in
    on-ends c.args.cell.now st c.args.from (c.loop-turn._turn + 1) 0
    (subst (IsOn c.args.cell.now st c.args.from (c.loop-turn._turn + 1)) free
    (on-goes c.args.cell.now st c.args.from c.loop-turn._turn c.loop-turn.at c.loop-turn.invariant.0 (c.is_among.ensures.0 c.if-not-is_among.false)))
    c.requires.darts

pub loop-turn-preserved : goal.loop-turn-preserved
loop-turn-preserved g c =
    let st : ℕ → ℕ = across g.K.Kind.kind (links_of c.args.links.now.rows) c.args.link c.args.beside in (
      subst (IsOn c.args.cell.now st c.args.from (c.loop-turn._turn + 1)) (sym c.in-Some.ensures.leads)
          (on-goes c.args.cell.now st c.args.from c.loop-turn._turn c.loop-turn.at c.loop-turn.invariant.0 (c.is_among.ensures.0 c.if-not-is_among.false)),
      c.in-Some.ensures.live,
    )

pub unreachable-requires : goal.unreachable-requires
unreachable-requires g c =
    on-few c.args.cell.now (across g.K.Kind.kind (links_of c.args.links.now.rows) c.args.link c.args.beside) c.args.from c.loop-turn._turn c.loop-turn.at c.requires.ends.0 (omega (arith, c.loop-turn-test.false))
    c.loop-turn.invariant.0 c.requires.ends.1
