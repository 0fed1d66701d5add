use Rattle.std.proofs.Common.{◌≤◌, List, ap, sym, ◌∙◌, lit<}
use Rattle.map_defs.specs.Edits.{Change, unlinked}
use Rattle.link_rows.specs.BornRows.{rows_changes, led_back}
use Rattle.link_rows.proofs.BornChanges.{All-front, All-behind, unlinked-append}
use Rattle.link_rows.proofs.born.BornRows.free_links.Goals as goal

pub free_row_links-requires : goal.free_row_links-requires
free_row_links-requires g c =
    let led : List Change = led_back c.args.self.now.back c.args.self.now.first c.args.self.now.rows in
    let told : List Change = rows_changes c.args.self.now.first c.args.self.now.rows in
    (lit< tt, All-behind (λ (b : Change). b.link ≤ g.row.DIM) led told c.requires)

pub free_back_links-requires : goal.free_back_links-requires
free_back_links-requires g c =
    let led : List Change = led_back c.args.self.now.back c.args.self.now.first c.args.self.now.rows in
    let told : List Change = rows_changes c.args.self.now.first c.args.self.now.rows in
    (lit< tt, All-front (λ (b : Change). b.link ≤ g.row.DIM) led told c.requires)

pub returns-clause-rows : goal.returns-clause-rows
returns-clause-rows g c =
    let led : List Change = led_back c.args.self.now.back c.args.self.now.first c.args.self.now.rows in
    let told : List Change = rows_changes c.args.self.now.first c.args.self.now.rows in
    c.free_back_links.ensures.rows ∙ ap (unlinked led) c.free_row_links.ensures.rows ∙ sym (unlinked-append led told c.args.rows.now.rows)
