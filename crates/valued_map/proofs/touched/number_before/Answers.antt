use Rattle.std.proofs.Common.{◌≡◌, refl, sym, ap, ◌∙◌, rules}
use Rattle.map_defs.specs.Rows.{links_of, entry_of}
use Rattle.map_defs.specs.Edits.{Change}
use Rattle.valued_map.proofs.Rerouting.{stood, unchanged}
use Rattle.valued_map.proofs.touched.number_before.Goals as goal

pub returns-in_default : goal.returns-in_default
returns-in_default g c old led =
    let zero : c.args.number ≡ 0 = search rules in
    sym (ap (links_of old c.args.link) zero ∙ ap (λ o. entry_of o c.args.link) led.sound.nothing)

pub returns-in-Some-change_of : goal.returns-in-Some-change_of
returns-in-Some-change_of g c old led =
    let some = c.in-Some-change_of.ensures.some in
    ap (λ (b : Change). b.old) c.change.view_is
    ∙ stood g.K.Kind.kind g.row.DIM c.args.edit.now old c.args.links.now.rows led c.in-Some-change_of.change c.args.number c.args.link some.0 (some.1 ∙ c.in-Some.ensures.same) some.2

pub returns-in-None : goal.returns-in-None
returns-in-None g c old led =
    c.number_at.ensures ∙ unchanged g.K.Kind.kind g.row.DIM c.args.edit.now old c.args.links.now.rows led c.in-Some.dart c.args.link (c.in-None.ensures.none refl) ∙ ap (links_of old c.args.link) c.in-Some.ensures.same
