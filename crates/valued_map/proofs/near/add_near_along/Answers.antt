use Rattle.std.proofs.Common.{◌≡◌, ◌≢◌, Some}
use Rattle.map_defs.specs.LinkWords.{LinkWord}
use Rattle.map_defs.specs.Rows.{Rows, links_of}
use Rattle.map_defs.specs.Edits.{Change}
use Rattle.valued_map.proofs.Adding.{added-then, on-ok}
use Rattle.valued_map.proofs.near.add_near_along.Goals as goal

pub returns : goal.returns
returns g c =
    let rows : Rows = c.args.links.now.rows in
    let w : LinkWord = c.args.word in
    let b : Change = c.args.change in
    on-ok c.add_behind.result
    (added-then rows (λ x. (w.first ≡ b.link) × (x ≡ b.dart)) (λ x. (w.second ≡ Some b.link) × (links_of rows w.first x ≡ b.dart) × (b.dart ≢ 0))
    c.args.darts.now.items c.add_changed.new.darts.items c.add_behind.new.darts.items c.in_ok-add_changed.ensures)
    c.add_behind.ensures
