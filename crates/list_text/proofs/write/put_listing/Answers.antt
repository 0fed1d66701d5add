use Rattle.std.proofs.Common.{rules, ◌≡◌, ℕ, List, [], ◌∷◌, ◌++◌, map, codes, ap, ap₂, ◌∙◌, subst}
use Rattle.std.specs.List.{concat}
use Rattle.std.proofs.lemmas.List.{append-nil}
use Rattle.machine_defs.specs.Listing.{Listing}
use Rattle.std.proofs.lemmas.Iterator.{YieldsList-from_slice, YieldsList-from_map_by}
use Rattle.std.proofs.lemmas.Iterator.Consumers.{YieldsList-from_chain, YieldsList-at}
use Rattle.std.proofs.lemmas.Iterator.Adapters.{YieldsList-from_once}
use Rattle.machine_defs.specs.Text.{ended, header_text, listing_text, row_text, rule_text, value_text, mark_text}
use Rattle.text_lines.specs.Writing.{WritesText}
use Rattle.text_lines.proofs.LineTexts.{YieldsList-seen, concat-append, concat-map}
use Rattle.list_text.specs.Lines.{line_text}
use Rattle.list_text.proofs.write.put_listing.Goals as goal

-- the listing, from its lines
joined : (l : Listing) → concat ((((((header_text l ∷ []) ++ map row_text l.rows) ++ map rule_text l.rules) ++ map value_text l.values) ++ map mark_text l.marks) ++ ended (codes "end") ∷ []) ≡ listing_text l
joined l =
    let head : List (List ℕ) = header_text l ∷ [] in
    concat-append ((((head ++ map row_text l.rows) ++ map rule_text l.rules) ++ map value_text l.values) ++ map mark_text l.marks) (ended (codes "end") ∷ [])
    ∙ ap₂ ◌++◌
    (concat-append (((head ++ map row_text l.rows) ++ map rule_text l.rules) ++ map value_text l.values) (map mark_text l.marks)
    ∙ ap₂ ◌++◌
    (concat-append ((head ++ map row_text l.rows) ++ map rule_text l.rules) (map value_text l.values)
    ∙ ap₂ ◌++◌
    (concat-append (head ++ map row_text l.rows) (map rule_text l.rules) ∙ ap₂ ◌++◌ (ap (λ (t : List ℕ). header_text l ++ t) (concat-map row_text l.rows)) (concat-map rule_text l.rules))
    (concat-map value_text l.values))
    (concat-map mark_text l.marks))
    (append-nil (ended (codes "end")))

pub returns-clause-written : goal.returns-clause-written
returns-clause-written g c =
    let w = c.put_lines.ensures.written _ (YieldsList-from_chain
    (YieldsList-at c.chain-lines.ensures.first (YieldsList-from_chain
    (YieldsList-at c.chain-4.ensures.first (YieldsList-from_chain
    (YieldsList-at c.chain-3.ensures.first (YieldsList-from_chain
    (YieldsList-at c.chain-2.ensures.first (YieldsList-from_chain
    (YieldsList-at c.chain.ensures.first (YieldsList-seen line_text (YieldsList-from_once _ c.once.ensures.item)))
    (YieldsList-at c.chain.ensures.second (YieldsList-from_map_by _ line_text row_text (YieldsList-at c.map.ensures.source (YieldsList-from_slice _ c.iter.ensures.rest)) c.map.ensures.closure (λ x r q k. search rules)))
    c.chain.ensures.first_done c.chain.ensures.second_done))
    (YieldsList-at c.chain-2.ensures.second (YieldsList-from_map_by _ line_text rule_text (YieldsList-at c.map-2.ensures.source (YieldsList-from_slice _ c.iter-2.ensures.rest)) c.map-2.ensures.closure (λ x r q k. search rules)))
    c.chain-2.ensures.first_done c.chain-2.ensures.second_done))
    (YieldsList-at c.chain-3.ensures.second (YieldsList-from_map_by _ line_text value_text (YieldsList-at c.map-3.ensures.source (YieldsList-from_slice _ c.iter-3.ensures.rest)) c.map-3.ensures.closure (λ x r q k. search rules)))
    c.chain-3.ensures.first_done c.chain-3.ensures.second_done))
    (YieldsList-at c.chain-4.ensures.second (YieldsList-from_map_by _ line_text mark_text (YieldsList-at c.map-4.ensures.source (YieldsList-from_slice _ c.iter-4.ensures.rest)) c.map-4.ensures.closure (λ x r q k. search rules)))
    c.chain-4.ensures.first_done c.chain-4.ensures.second_done))
    (YieldsList-at c.chain-lines.ensures.second (YieldsList-seen line_text (YieldsList-from_once _ c.once-2.ensures.item)))
    c.chain-lines.ensures.first_done c.chain-lines.ensures.second_done) in
    rw (← c.listing.view_is)
    (subst (WritesText (g.S.Sink.written c.args.out.now) (g.S.Sink.written c.put_lines.new.out) c.put_lines.result) (joined _)
    (rw (c.deref.ensures.value, c.deref-2.ensures.value, c.deref-3.ensures.value, c.deref-4.ensures.value, c.len.ensures, c.listing.inside.rows.ok.0, c.listing.invariant) at w))
