use Rattle.std.proofs.Common.{◌≢◌, sym, ◌∙◌, subst, eqb-true}
use Rattle.std.proofs.lemmas.Bool.{false≢true}
use Rattle.map_defs.specs.Rows.{links_of}
use Rattle.map_defs.specs.Cells.{here}
use Rattle.map_defs.specs.Insertion.{AreOnOneSide}
use Rattle.cell_edit.proofs.FaceSteps.{side-on}
use Rattle.cell_edit.proofs.near.is_near.Goals as goal
use Rattle.cell_edit.proofs.near.is_near.Goals.{then-eq-via-then-eq, then-eq-via-else-eq+then-eq-2}

pub loop-turn-init : goal.loop-turn-init
loop-turn-init g c = here

pub returns-in_default-link : goal.returns-in_default-link
returns-in_default-link g c = λ met.
    let L = links_of c.args.links.now.rows in
    let some : L c.args.first c.loop-turn.at ≢ 0 = λ none. false≢true (sym (c.in-Some.ensures.free.1 none)) in
    let between : AreOnOneSide L c.args.one c.in-Some.between = side-on L c.args.one c.loop-turn.at c.in-Some.between c.args.first c.requires.first c.in-Some.ensures.linked (λ none. some (sym c.in-Some.ensures.linked ∙ none)) c.loop-turn.invariant in
    subst (AreOnOneSide L c.args.one) (eqb-true _ _ (sym c.eq.ensures ∙ met)) between

pub returns-then-eq : goal.returns-then-eq
returns-then-eq g c = λ _.
    let L = links_of c.args.links.now.rows in
    let some : L c.args.first c.loop-turn.at ≢ 0 = λ none. false≢true (sym (c.in-Some.ensures.free.1 none)) in
    let between : AreOnOneSide L c.args.one c.in-Some.between = side-on L c.args.one c.loop-turn.at c.in-Some.between c.args.first c.requires.first c.in-Some.ensures.linked (λ none. some (sym c.in-Some.ensures.linked ∙ none)) c.loop-turn.invariant in
    let more : L c.args.second c.in-Some.between ≢ 0 = λ none. false≢true (sym (c.in-Some-link.ensures.free.1 none)) in
    let next : AreOnOneSide L c.args.one c.in-Some-link.next = side-on L c.args.one c.in-Some.between c.in-Some-link.next c.args.second c.requires.second c.in-Some-link.ensures.linked (λ none. more (sym c.in-Some-link.ensures.linked ∙ none)) between in
    elim c.then-eq.branch [
      | then-eq-via-then-eq w ↦ subst (AreOnOneSide L c.args.one) (eqb-true _ _ (sym c.eq-in-loop-turn.ensures ∙ w.if-eq.true)) between
      | then-eq-via-else-eq+then-eq-2 w ↦ subst (AreOnOneSide L c.args.one) (eqb-true _ _ (sym w.eq-else-eq.ensures ∙ w.if-eq-2.true)) next
    ]

pub loop-turn-preserved : goal.loop-turn-preserved
loop-turn-preserved g c =
    let L = links_of c.args.links.now.rows in
    let some : L c.args.first c.loop-turn.at ≢ 0 = λ none. false≢true (sym (c.in-Some.ensures.free.1 none)) in
    let between : AreOnOneSide L c.args.one c.in-Some.between = side-on L c.args.one c.loop-turn.at c.in-Some.between c.args.first c.requires.first c.in-Some.ensures.linked (λ none. some (sym c.in-Some.ensures.linked ∙ none)) c.loop-turn.invariant in
    let more : L c.args.second c.in-Some.between ≢ 0 = λ none. false≢true (sym (c.in-Some-link.ensures.free.1 none)) in
    side-on L c.args.one c.in-Some.between c.in-Some-link.next c.args.second c.requires.second c.in-Some-link.ensures.linked (λ none. more (sym c.in-Some-link.ensures.linked ∙ none)) between
