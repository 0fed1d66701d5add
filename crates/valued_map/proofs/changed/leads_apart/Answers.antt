use Rattle.std.proofs.Common.{List, Contains, lit<, subst, sym, ◌∙◌, take_all, arith, ⊎_elim}
use Rattle.std.proofs.lemmas.Bool.{false≢true}
use Rattle.map_defs.specs.LinkWords.{LinkWord}
use Rattle.valued_map.specs.Changing.{IsApartAlong}
use Rattle.valued_map.proofs.Heads.{among-more, among-none}
use Rattle.valued_map.proofs.changed.leads_apart.Goals as goal

pub leads_to_another-requires : goal.leads_to_another-requires
leads_to_another-requires g c = (lit< tt, (lit< tt, (omega (arith, c.see_sound.ensures.high), (c.requires.row, (c.requires.id, c.requires.words c.word-item.result (c.loop-word.word-index, c.loop-word-test.true, sym c.word-item.is))))))

pub loop-word-init : goal.loop-word-init
loop-word-init g c = λ w here apart. among-none c.args.words.now w here

pub loop-word-preserved : goal.loop-word-preserved
loop-word-preserved g c = λ w here apart.
    ⊎_elim (λ before. c.loop-word.invariant w before apart)
    (λ same. false≢true (sym c.if-leads_to_another.false ∙ c.leads_to_another.ensures
    (subst (λ (v : LinkWord). IsApartAlong c.args.links.now.rows c.args.labels.now c.args.dim v c.args.dart) (sym same) apart)))
    (among-more c.args.words.now c.loop-word.word-index c.word-item.result w c.loop-word-test.true c.word-item.is here)

pub returns : goal.returns
returns g c = λ w here apart. absurd (c.loop-word.invariant w (subst (λ (ws : List LinkWord). Contains ws w) (sym (take_all c.loop-word.word-index c.args.words.now c.loop-word-test.false)) here) apart)
