use Rattle.std.proofs.Common.{◌≡◌, sym, ◌∙◌}
use Rattle.std.proofs.lemmas.Bool.{false≢true}
use Rattle.map_defs.specs.Rows.{links_of}
use Rattle.cell_walk.proofs.ShortRings.{four-ring}
use Rattle.cell_walk.proofs.rounds.ring_of_four.Goals as goal

pub returns : goal.returns
returns g c =
    let L = links_of c.args.links.now.rows in
    let to_left : L c.args.one c.args.dart ≡ c.in_ok-left.left = sym (c.in_ok-row.ensures c.args.one) ∙ sym c.entry.ensures ∙ sym c.in_ok-left.ensures.same in
    let to_right : L c.args.other c.args.dart ≡ c.in_ok-right.right = sym (c.in_ok-row.ensures c.args.other) ∙ sym c.entry-2.ensures ∙ sym c.in_ok-right.ensures.same in
    let to_far : L c.args.other c.in_ok-left.left ≡ c.in_ok-far.far = sym (c.live_row.ensures c.args.other) ∙ sym c.entry-3.ensures ∙ sym c.in_ok-far.ensures.same in
    let also : L c.args.one c.in_ok-right.right ≡ c.in_ok-far.far = sym (c.live_row-2.ensures c.args.one) ∙ sym c.entry-4.ensures ∙ c.if-entry-number.false ∙ c.number.ensures.same in
    four-ring g.K.Kind.kind L c.see_sound.ensures.sound.back c.args.one c.args.other c.requires.own.0 c.requires.own.1
    c.args.dart c.in_ok-left.left c.in_ok-right.right c.in_ok-far.far to_left to_right to_far also
    (λ none. false≢true (sym (c.in_ok-left.ensures.zero.1 (sym c.in_ok-left.ensures.same ∙ none)))) (λ none. false≢true (sym (c.in_ok-right.ensures.zero.1 (sym c.in_ok-right.ensures.same ∙ none)))) (λ none. false≢true (sym (c.in_ok-far.ensures.zero.1 (sym c.in_ok-far.ensures.same ∙ none))))
