use Rattle.std.proofs.Common.{◌≡◌, sym, ap, ◌∙◌, rules}
use Rattle.map_defs.specs.Rows.{links_of, entry_of}
use Rattle.valued_map.proofs.touched.number_now.Goals as goal

pub returns-in-None : goal.returns-in-None
returns-in-None g c =
    let zero : c.args.number ≡ 0 = search rules in
    sym (ap (links_of c.args.links.now.rows c.args.link) zero ∙ ap (λ o. entry_of o c.args.link) c.requires.sound.nothing)
