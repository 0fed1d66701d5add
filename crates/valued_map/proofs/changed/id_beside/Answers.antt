use Rattle.std.proofs.Common.{List, ◌≡◌, ◌≢◌, None, Contains, lit<, sym, subst, take_all, arith, ⊎_elim, ◌∙◌}
use Rattle.map_defs.specs.LinkWords.{LinkWord, through}
use Rattle.map_defs.specs.Rows.{links_of}
use Rattle.store_defs.specs.Labelings.{id_of}
use Rattle.valued_map.proofs.Heads.{among-more, among-none}
use Rattle.valued_map.proofs.changed.id_beside.Goals as goal

pub id_along-id-requires : goal.id_along-id-requires
id_along-id-requires g c = (lit< tt, (lit< tt, (omega (arith, c.see_sound.ensures.high), (c.requires.row, c.requires.words c.word-item.result (c.loop-word.word-index, c.loop-word-test.true, sym c.word-item.is)))))

pub loop-word-init : goal.loop-word-init
loop-word-init g c = λ w here there. absurd (among-none c.args.words.now w here)

pub loop-word-preserved : goal.loop-word-preserved
loop-word-preserved g c = λ w here.
    ⊎_elim (λ before. c.loop-word.invariant w before)
    (λ same. subst (λ (v : LinkWord). through (links_of c.args.links.now.rows) v c.args.dart ≢ 0 → id_of c.args.labels.now c.args.dim (through (links_of c.args.links.now.rows) v c.args.dart) ≡ None) same
    (c.id_along-id.ensures.none (sym c.is_some.ensures ∙ c.if-is_some.false)))
    (among-more c.args.words.now c.loop-word.word-index c.word-item.result w c.loop-word-test.true c.word-item.is here)

pub returns-clause-none : goal.returns-clause-none
returns-clause-none g c = λ none w here. c.loop-word.invariant w (subst (λ (ws : List LinkWord). Contains ws w) (sym (take_all c.loop-word.word-index c.args.words.now c.loop-word-test.false)) here)
