use Rattle.std.proofs.Common.{◌≤◌, length, sym, ◌∙◌, arith}
use Rattle.std.proofs.lemmas.Bool.{false≢true}
use Rattle.map_defs.specs.Rows.{made}
use Rattle.map_close.specs.Boundary.{keys_from}
use Rattle.map_close.proofs.StarNumbers.{told-skip, told-push, told-few}
use Rattle.map_close.proofs.star_table.push_star.Goals as goal
use Rattle.map_close.proofs.star_table.push_star.Goals.{then-not-is_live-via-then-not-is_live, then-not-is_live-via-else-not-is_live+then-entry-ne0}

pub returns-then-not-is_live-clause-told : goal.returns-then-not-is_live-clause-told
returns-then-not-is_live-clause-told g c =
    let rows = c.args.links.now.rows in
    rw c.push_reserved.ensures.items
    (told-skip rows c.args.link c.args.dart c.args.next c.args.numbers.now.items
    (λ at. elim c.then-not-is_live.branch [
      | then-not-is_live-via-then-not-is_live w ↦ false≢true (sym w.if-not-is_live.true ∙ c.is_live.ensures.live.1 at.0)
      | then-not-is_live-via-else-not-is_live+then-entry-ne0 w ↦ w.if-entry-ne0.true (w.entry.ensures ∙ w.live_row.ensures c.args.link ∙ at.1)
    ]) c.requires.before)

pub overflow_add-result : goal.overflow_add-result
overflow_add-result g c =
    let few : length (keys_from 0 c.args.numbers.now.items) ≤ made c.args.links.now.rows =
    told-few c.args.links.now.rows c.args.link g.K.Kind.kind g.row.DIM c.args.dart c.args.next c.args.numbers.now.items c.see_sound.ensures.sound c.requires.before in
    omega (arith, few, c.requires.before.count, c.see_sound.ensures.sound.few)

pub returns-clause-told : goal.returns-clause-told
returns-clause-told g c =
    rw c.push_reserved-2.ensures.items
    (told-push c.args.links.now.rows c.args.link c.args.dart c.args.next c.args.numbers.now.items
    (c.is_live.ensures.live.0 c.if-not-is_live.false, sym (c.entry.ensures ∙ c.live_row.ensures c.args.link) ∙ c.if-entry-ne0.false) c.requires.before)
