use Rattle.std.proofs.Common.{◌≡◌, Contains, sym, subst}
use Rattle.std.proofs.lemmas.List.{take_all}
use Rattle.std.proofs.lemmas.List.Elements.{Contains-get_or}
use Rattle.std.specs.List.{AllZip}
use Rattle.map_defs.specs.Rows.{links_of}
use Rattle.map_defs.specs.Refusal as machine
use Rattle.map_defs.specs.OffOfMap.{ListsCells, IsRound, IsOpen, HasOpenFace}
use Rattle.off_text.proofs.Refusing.{refused-again}
use Rattle.off_text.proofs.RoundLists.{zip-more}
use Rattle.off_text.proofs.round.rounds_of.Goals as goal

pub loop-first-init : goal.loop-first-init
loop-first-init g c = rw c.new-rounds.ensures tt

pub loop-first-preserved : goal.loop-first-preserved
loop-first-preserved g c =
    zip-more (IsRound g.K.Kind.kind (links_of c.args.links.now.rows)) c.deref-first-items.result.now c.loop-first.first-index c.first-item.result c.loop-first.rounds c.push.new.self c.deref.result.now
    c.loop-first-test.true c.first-item.is c.in_ok-push.ensures.ok c.loop-first.invariant (subst (IsRound g.K.Kind.kind (links_of c.args.links.now.rows) c.first-item.result) (sym c.deref.ensures.value) c.in_ok-walk_round.ensures.round)

pub returns-clause-rounds : goal.returns-clause-rounds
returns-clause-rounds g c =
    let listed : ListsCells g.K.Kind.kind c.args.links.now.rows 2 c.in_ok-cells.cells.items = record { members = c.in_ok-cells.ensures.members; ascending = c.in_ok-cells.ensures.ascending } in (
      c.deref-first-items.result.now,
      subst (ListsCells g.K.Kind.kind c.args.links.now.rows 2) (sym c.deref-first-items.ensures.value) listed,
      subst (λ cells. AllZip (IsRound g.K.Kind.kind (links_of c.args.links.now.rows)) cells c.loop-first.rounds) (take_all c.loop-first.first-index c.deref-first-items.result.now c.loop-first-test.false) c.loop-first.invariant,
    )

pub returns-in_err-walk_round-clause-refused : goal.returns-in_err-walk_round-clause-refused
returns-in_err-walk_round-clause-refused g c =
    let among : Contains c.deref-first-items.result.now c.first-item.result = subst (Contains c.deref-first-items.result.now) (sym c.first-item.is) (Contains-get_or c.deref-first-items.result.now c.loop-first.first-index c.first-item.result c.loop-first-test.true) in
    let cell = (c.in_ok-cells.ensures.members c.first-item.result).0 (subst (λ cells. Contains cells c.first-item.result) c.deref-first-items.ensures.value among) in
    refused-again c.from_residual-in_err-walk_round.result c.in_err-walk_round.field-0.0
    (λ why. (why ≡ machine.NotClosed) × IsOpen g.K.Kind.kind (links_of c.args.links.now.rows) c.first-item.result)
    (λ why. (why ≡ machine.NotClosed) × HasOpenFace g.K.Kind.kind c.args.links.now.rows)
    c.from_residual-in_err-walk_round.ensures.1 (λ why known. (known.0, (c.first-item.result, cell, known.1))) c.in_err-walk_round.ensures.refused
