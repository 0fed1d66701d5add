use Rattle.std.proofs.Common.{◌≢◌, ◌∙◌, sym, subst, eqb-true}
use Rattle.std.proofs.lemmas.Bool.{false≢true}
use Rattle.map_defs.specs.LinkWords.{through}
use Rattle.map_defs.specs.Rows.{links_of}
use Rattle.map_defs.specs.Cells.{InCell, here, onward}
use Rattle.valued_map.proofs.settled.turns_to.Goals as goal

pub loop-turn-init : goal.loop-turn-init
loop-turn-init g c = here

pub returns-then-eq : goal.returns-then-eq
returns-then-eq g c = λ _.
    let L = links_of c.args.links.now.rows in
    let some : through L c.args.first c.loop-turn.at ≢ 0 = λ none. false≢true (sym (c.in-Some.ensures.free.1 none)) in
    let between : InCell g.K.Kind.kind L c.args.dim c.args.from c.in-Some.between =
    onward c.loop-turn.invariant (c.args.first, c.requires.first, sym c.in-Some.ensures.leads, λ none. some (sym c.in-Some.ensures.leads ∙ none)) in
    subst (InCell g.K.Kind.kind L c.args.dim c.args.from) (eqb-true _ _ (sym c.eq.ensures ∙ c.if-eq.true)) between

pub returns-then-eq-3 : goal.returns-then-eq-3
returns-then-eq-3 g c = λ _.
    let L = links_of c.args.links.now.rows in
    let some : through L c.args.first c.loop-turn.at ≢ 0 = λ none. false≢true (sym (c.in-Some.ensures.free.1 none)) in
    let more : through L c.args.second c.in-Some.between ≢ 0 = λ none. false≢true (sym (c.in-Some-follow.ensures.free.1 none)) in
    let between : InCell g.K.Kind.kind L c.args.dim c.args.from c.in-Some.between =
    onward c.loop-turn.invariant (c.args.first, c.requires.first, sym c.in-Some.ensures.leads, λ none. some (sym c.in-Some.ensures.leads ∙ none)) in
    let next : InCell g.K.Kind.kind L c.args.dim c.args.from c.in-Some-follow.next =
    onward between (c.args.second, c.requires.second, sym c.in-Some-follow.ensures.leads, λ none. more (sym c.in-Some-follow.ensures.leads ∙ none)) in
    subst (InCell g.K.Kind.kind L c.args.dim c.args.from) (eqb-true _ _ (sym c.eq-in-loop-turn-2.ensures ∙ c.if-eq-3.true)) next

pub loop-turn-preserved : goal.loop-turn-preserved
loop-turn-preserved g c =
    let L = links_of c.args.links.now.rows in
    let some : through L c.args.first c.loop-turn.at ≢ 0 = λ none. false≢true (sym (c.in-Some.ensures.free.1 none)) in
    let more : through L c.args.second c.in-Some.between ≢ 0 = λ none. false≢true (sym (c.in-Some-follow.ensures.free.1 none)) in
    let between : InCell g.K.Kind.kind L c.args.dim c.args.from c.in-Some.between =
    onward c.loop-turn.invariant (c.args.first, c.requires.first, sym c.in-Some.ensures.leads, λ none. some (sym c.in-Some.ensures.leads ∙ none)) in
    onward between (c.args.second, c.requires.second, sym c.in-Some-follow.ensures.leads, λ none. more (sym c.in-Some-follow.ensures.leads ∙ none))
