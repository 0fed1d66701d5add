use Rattle.std.proofs.Common.{◌≡◌, List, Contains, subst, rules}
use Rattle.std.proofs.lemmas.Result.{on_ok_weaker}
use Rattle.map_defs.specs.LinkWords.{LinkWord}
use Rattle.map_defs.specs.Rows.{Rows}
use Rattle.map_defs.specs.Edits.{Change}
use Rattle.valued_map.specs.Changing.{AreAdded}
use Rattle.valued_map.specs.Undoing.{IsNearChange}
use Rattle.valued_map.specs.Ways.{IsRaised}
use Rattle.valued_map.proofs.Adding.{added-then}
use Rattle.valued_map.proofs.restored_cells.add_near.Goals as goal

pub returns : goal.returns
returns g c =
    let rows : Rows = c.args.links.now.rows in
    let Words : LinkWord → Type 0 = Contains c.args.words.now in
    let changes : c.deref.result.now ≡ c.args.step.now.edit.changes = search rules in
    on_ok_weaker c.add_at_changes.result
    (λ second. added-then rows (IsRaised c.args.way c.args.step.now) (λ x. (b : Change) × Contains c.args.step.now.edit.changes b × IsNearChange Words rows b x) c.args.darts.now.items
    c.add_raised.new.darts.items c.add_at_changes.new.darts.items c.in_ok-add_raised.ensures
    (subst (λ (cs : List Change). AreAdded rows (λ x. (b : Change) × Contains cs b × IsNearChange Words rows b x) c.add_raised.new.darts.items c.add_at_changes.new.darts.items) changes second))
    c.add_at_changes.ensures
