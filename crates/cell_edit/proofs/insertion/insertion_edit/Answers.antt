use Rattle.std.proofs.Common.{◌≡◌, ◌++◌, append-nil, lit<}
use Rattle.cell_edit.specs.Stars.{Stars, star_of}
use Rattle.cell_edit.proofs.PairEntries.{pair_changes}
use Rattle.cell_edit.proofs.Premises.{all-made}
use Rattle.cell_edit.proofs.InsertionEdit.{ready-of, insertion-inserts}
use Rattle.cell_edit.proofs.insertion.insertion_edit.Goals as goal

pub new-stars-requires-clause-made : goal.new-stars-requires-clause-made
new-stars-requires-clause-made g c =
    rw c.made.ensures.made (all-made g.K.Kind.kind g.row.DIM c.args.links.now.rows c.made.ensures.sound c.args.darts.items c.requires.live)

pub carried_changes-requires : goal.carried_changes-requires
carried_changes-requires g c =
    let stars : Stars = record { keys = c.args.darts.items; made = c.made.result } in
    rw c.new-stars.ensures
    (lit< tt, (c.requires.link, (c.requires.insertable.own, ready-of g.K.Kind.kind c.args.links.now.rows c.args.link stars c.args.pairs.now c.made.ensures.made c.requires.live c.requires.insertable)))

pub push_pairs-requires-clause-among : goal.push_pairs-requires-clause-among
push_pairs-requires-clause-among g c = rw c.new-stars.ensures c.requires.among

pub returns : goal.returns
returns g c =
    let stars : Stars = record { keys = c.args.darts.items; made = c.made.result } in
    let grown : c.push_pairs.new.changes.items ≡ c.in_ok-changes.changes.items ++ pair_changes (star_of stars) c.args.pairs.now = rw c.new-stars.ensures at c.push_pairs.ensures in
    rw (c.births.ensures, c.new.ensures.items, c.none.ensures.rows, append-nil c.push_pairs.new.changes.items, grown, c.new-stars.ensures)
    (insertion-inserts g.K.Kind.kind g.row.DIM c.args.links.now.rows c.made.ensures.begun c.made.ensures.sound c.requires.laws c.args.link c.requires.link stars
    (ready-of g.K.Kind.kind c.args.links.now.rows c.args.link stars c.args.pairs.now c.made.ensures.made c.requires.live c.requires.insertable)
    c.requires.darts c.args.pairs.now c.requires.pairs c.requires.insertable c.in_ok-changes.changes.items (rw c.new-stars.ensures at c.in_ok-changes.ensures.entries))
