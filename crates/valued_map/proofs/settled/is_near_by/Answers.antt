use Rattle.std.proofs.Common.{◌≢◌, ◌∙◌, lit<, sym, subst, eqb-true, arith}
use Rattle.std.proofs.lemmas.Bool.{false≢true}
use Rattle.map_defs.specs.LinkWords.{through}
use Rattle.map_defs.specs.Rows.{links_of}
use Rattle.map_defs.specs.Cells.{InCell, here, onward}
use Rattle.value_laws.proofs.MapValues.{cell_trans}
use Rattle.valued_map.proofs.settled.is_near_by.Goals as goal

pub number_along-requires : goal.number_along-requires
number_along-requires g c = (lit< tt, (omega (arith, c.see_sound.ensures.high), (c.requires.row, ((c.requires.words c.args.first).0 c.requires.first).1)))

pub returns-then-eq : goal.returns-then-eq
returns-then-eq g c = λ _.
    let L = links_of c.args.links.now.rows in
    let some : through L c.args.first c.args.from ≢ 0 = λ none. false≢true (sym (c.in-Some.ensures.zero.1 (c.number_along.ensures ∙ none))) in
    let next : InCell g.K.Kind.kind L c.args.dim c.args.from c.in-Some.next =
    onward here (c.args.first, ((c.requires.words c.args.first).0 c.requires.first).0, sym (c.in-Some.ensures.same ∙ c.number_along.ensures), λ none. some (sym (c.in-Some.ensures.same ∙ c.number_along.ensures) ∙ none)) in
    subst (InCell g.K.Kind.kind L c.args.dim c.args.from) (eqb-true _ _ (sym c.eq.ensures ∙ c.if-eq.true)) next

pub returns-then-ne : goal.returns-then-ne
returns-then-ne g c = λ yes.
    let L = links_of c.args.links.now.rows in
    let some : through L c.args.first c.args.from ≢ 0 = λ none. false≢true (sym (c.in-Some.ensures.zero.1 (c.number_along.ensures ∙ none))) in
    let next : InCell g.K.Kind.kind L c.args.dim c.args.from c.in-Some.next =
    onward here (c.args.first, ((c.requires.words c.args.first).0 c.requires.first).0, sym (c.in-Some.ensures.same ∙ c.number_along.ensures), λ none. some (sym (c.in-Some.ensures.same ∙ c.number_along.ensures) ∙ none)) in
    cell_trans g.K.Kind.kind L c.args.dim c.args.from c.in-Some.next c.args.goal next (c.is_near_behind.ensures yes)
