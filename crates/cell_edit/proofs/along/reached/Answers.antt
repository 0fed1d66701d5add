use Rattle.std.proofs.Common.{◌≡◌, ◌∙◌, map, lit<}
use Rattle.std.proofs.lemmas.Result.{IfOk-weaker}
use Rattle.map_defs.specs.Rows.{links_of}
use Rattle.map_defs.specs.LinkWords.{one_link}
use Rattle.cell_edit.proofs.AlongLinks.{one-links-within, words-orbit}
use Rattle.cell_edit.proofs.along.reached.Goals as goal

pub orbits_of-requires : goal.orbits_of-requires
orbits_of-requires g c =
    let words : c.deref.result.now ≡ map one_link c.args.along.now = c.deref.ensures.value ∙ c.in_ok-words.ensures in
    rw words (lit< tt, one-links-within g.row.DIM c.args.along.now c.requires)

pub returns-clause-members : goal.returns-clause-members
returns-clause-members g c =
    let words : c.deref.result.now ≡ map one_link c.args.along.now = c.deref.ensures.value ∙ c.in_ok-words.ensures in
    IfOk-weaker c.orbits_of.result _ _
    (λ orbits same. λ y. let orbit = words-orbit (links_of c.args.links.now.rows) c.args.along.now in
    (λ has. let from = (same y).0 has in (from.0, from.1, (orbit from.0 y).0 from.2), λ from. (same y).1 (from.0, from.1, (orbit from.0 y).1 from.2)))
    (rw words at c.orbits_of.ensures.members)
