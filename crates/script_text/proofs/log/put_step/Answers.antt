use Rattle.std.proofs.Common.{rules, ap, ◌∙◌, subst}
use Rattle.std.proofs.lemmas.Iterator.{YieldsList-from_slice, YieldsList-from_map_by}
use Rattle.std.proofs.lemmas.Iterator.Consumers.{YieldsList-from_chain, YieldsList-at}
use Rattle.std.proofs.lemmas.Iterator.Adapters.{YieldsList-from_once}
use Rattle.undo_journal.specs.contracts.step.Step.{the_view}
use Rattle.machine_defs.specs.LogText.{link_change_text, value_change_text, rule_change_text}
use Rattle.text_lines.specs.Writing.{WritesText}
use Rattle.text_lines.proofs.LineTexts.{YieldsList-seen}
use Rattle.script_text.specs.LogLines.{line_text}
use Rattle.script_text.proofs.LogTexts.{step-joined}
use Rattle.script_text.proofs.log.put_step.Goals as goal

pub returns-clause-written : goal.returns-clause-written
returns-clause-written g c =
    let w = c.put_lines.ensures.written _ (YieldsList-from_chain
    (YieldsList-at c.chain-lines.ensures.first (YieldsList-from_chain
    (YieldsList-at c.chain-4.ensures.first (YieldsList-from_chain
    (YieldsList-at c.chain-3.ensures.first (YieldsList-from_chain
    (YieldsList-at c.chain-2.ensures.first (YieldsList-from_chain
    (YieldsList-at c.chain.ensures.first (YieldsList-seen line_text (YieldsList-from_once _ c.once.ensures.item)))
    (YieldsList-at c.chain.ensures.second (YieldsList-seen line_text (YieldsList-from_once _ c.once-2.ensures.item)))
    c.chain.ensures.first_done c.chain.ensures.second_done))
    (YieldsList-at c.chain-2.ensures.second (YieldsList-seen line_text (YieldsList-from_once _ c.once-3.ensures.item)))
    c.chain-2.ensures.first_done c.chain-2.ensures.second_done))
    (YieldsList-at c.chain-3.ensures.second (YieldsList-from_map_by _ line_text link_change_text (YieldsList-at c.map.ensures.source (YieldsList-from_slice _ c.iter.ensures.rest)) c.map.ensures.closure (λ x r q k. search rules)))
    c.chain-3.ensures.first_done c.chain-3.ensures.second_done))
    (YieldsList-at c.chain-4.ensures.second (YieldsList-from_map_by _ line_text value_change_text (YieldsList-at c.map-2.ensures.source (YieldsList-from_slice _ c.iter-2.ensures.rest)) c.map-2.ensures.closure (λ x r q k. search rules)))
    c.chain-4.ensures.first_done c.chain-4.ensures.second_done))
    (YieldsList-at c.chain-lines.ensures.second (YieldsList-from_map_by _ line_text rule_change_text (YieldsList-at c.map-3.ensures.source (YieldsList-from_slice _ c.iter-3.ensures.rest)) c.map-3.ensures.closure (λ x r q k. search rules)))
    c.chain-lines.ensures.first_done c.chain-lines.ensures.second_done) in
    let whole = ap the_view c.step-inside.view_is ∙ c.step.view_is in
    rw (← whole)
    (subst (WritesText (g.S.Sink.written c.args.out.now) (g.S.Sink.written c.put_lines.new.out) c.put_lines.result) (step-joined c.args.number _)
    (rw (c.as_slice.ensures.value, c.deref.ensures.value, c.deref-2.ensures.value, c.deref-3.ensures.value) at w))
