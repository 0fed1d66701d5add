use Rattle.std.proofs.Common.{◌≡◌, ◌∙◌, map, lit<}
use Rattle.std.proofs.lemmas.Result.{IfOk-weaker}
use Rattle.map_defs.specs.Rows.{links_of}
use Rattle.map_defs.specs.LinkWords.{one_link}
use Rattle.cell_edit.proofs.AlongLinks.{one-links-within, words-orbit}
use Rattle.cell_edit.proofs.along.leads.Goals as goal

pub reaches-requires : goal.reaches-requires
reaches-requires g c =
    let words : c.deref.result.now ≡ map one_link c.args.along.now = c.deref.ensures.value ∙ c.in_ok-words.ensures in
    rw words (lit< tt, one-links-within g.row.DIM c.args.along.now c.requires)

pub returns : goal.returns
returns g c =
    let words : c.deref.result.now ≡ map one_link c.args.along.now = c.deref.ensures.value ∙ c.in_ok-words.ensures in
    IfOk-weaker c.reaches.result _ _
    (λ reaches same. let orbit = words-orbit (links_of c.args.links.now.rows) c.args.along.now c.args.one c.args.other in
    (λ true. orbit.0 (same.0 true), λ among. same.1 (orbit.1 among)))
    (rw words at c.reaches.ensures)
