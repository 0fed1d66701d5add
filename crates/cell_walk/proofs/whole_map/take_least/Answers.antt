use Rattle.std.proofs.Common.{◌≢◌, Contains, sym, ◌∙◌, subst, arith}
use Rattle.std.proofs.lemmas.Bool.{false≢true}
use Rattle.std.proofs.lemmas.Result.{on_ok_weaker}
use Rattle.map_defs.specs.Cells.{Leads}
use Rattle.map_defs.specs.Rows.{links_of, IsLive}
use Rattle.cell_walk.specs.Marks.{IsMarked}
use Rattle.cell_walk.proofs.SurveyFacts.{surveyed-dead, surveyed-met, surveyed-least}
use Rattle.cell_walk.proofs.RowSteps.{rows-walkable}
use Rattle.cell_walk.proofs.whole_map.take_least.Goals as goal

pub returns-then-not-is_live-clause-surveyed : goal.returns-then-not-is_live-clause-surveyed
returns-then-not-is_live-clause-surveyed g c =
    let before = c.requires.before in (
      before.0,
      before.1,
      surveyed-dead (Leads (links_of c.args.links.now.rows) (Contains c.args.words.now)) (IsLive c.args.links.now.rows)
          (rows-walkable g.K.Kind.kind g.row.DIM c.args.links.now.rows (Contains c.args.words.now) c.requires.sound c.requires.turns)
          c.args.dart before.0 c.args.least.now.items
          (λ live. false≢true (sym c.if-not-is_live.true ∙ c.is_live.ensures.live.1 live)) before.2,
    )

pub returns-then-marks-number-clause-surveyed : goal.returns-then-marks-number-clause-surveyed
returns-then-marks-number-clause-surveyed g c =
    let before = c.requires.before in
    let real : c.args.dart ≢ 0 = λ none. absurd (omega (arith, c.number.ensures.same, c.number.ensures.some, none)) in
    let marked : IsMarked c.args.marks.now c.args.dart = subst (IsMarked c.args.marks.now) c.number.ensures.same c.if-marks-number.true in (
      before.0,
      before.1,
      surveyed-met (Leads (links_of c.args.links.now.rows) (Contains c.args.words.now)) (IsLive c.args.links.now.rows)
          (rows-walkable g.K.Kind.kind g.row.DIM c.args.links.now.rows (Contains c.args.words.now) c.requires.sound c.requires.turns)
          c.args.dart before.0 c.args.least.now.items ((before.1.told c.args.dart real).0 marked) before.2,
    )

pub returns-clause-places : goal.returns-clause-places
returns-clause-places g c = on_ok_weaker c.mark_orbit.result (λ more. more.places) c.mark_orbit.ensures

pub returns-clause-surveyed : goal.returns-clause-surveyed
returns-clause-surveyed g c = on_ok_weaker c.mark_orbit.result
    (λ more.
    let before = c.requires.before in
    let found = more.found before.0 before.1 in
    let real : c.args.dart ≢ 0 = λ none. absurd (omega (arith, c.number.ensures.same, c.number.ensures.some, none)) in
    let fresh : IsMarked c.args.marks.now c.args.dart → ⊥ = λ marked. false≢true (sym c.if-marks-number.false ∙ subst (IsMarked c.args.marks.now) (sym c.number.ensures.same) marked) in (
      found.0,
      found.1,
      rw c.in_ok-push.ensures.items
          (surveyed-least (Leads (links_of c.args.links.now.rows) (Contains c.args.words.now)) (IsLive c.args.links.now.rows)
          (rows-walkable g.K.Kind.kind g.row.DIM c.args.links.now.rows (Contains c.args.words.now) c.requires.sound c.requires.turns)
          c.args.dart before.0 c.args.least.now.items found.0 (c.is_live.ensures.live.0 c.if-not-is_live.false)
          (λ known. fresh ((before.1.told c.args.dart real).1 known)) (found.2 before.2.closed) before.2),
    ))
    c.mark_orbit.ensures
