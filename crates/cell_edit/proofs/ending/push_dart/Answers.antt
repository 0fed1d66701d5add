use Rattle.std.proofs.Common.{ℕ, ◌+◌, lit<, arith}
use Rattle.std.proofs.lemmas.List.Elements.{All-contains}
use Rattle.map_defs.specs.Rows.{links_of, IsLive}
use Rattle.cell_edit.specs.Bridging.{IsEndingEntry, IsBridgeEntry}
use Rattle.cell_edit.proofs.Appending.{appends-then}
use Rattle.cell_edit.proofs.BridgeEntries.{dart-apart}
use Rattle.cell_edit.proofs.RowSize.{row-fits}
use Rattle.cell_edit.proofs.ending.push_dart.Goals as goal

pub live_row-row-requires : goal.live_row-row-requires
live_row-row-requires g c = (lit< tt, (row-fits g.row.DIM c.see_sound.ensures.high, All-contains (λ (d : ℕ). IsLive c.args.links.now.rows d) c.args.darts.now c.args.dart c.requires.can.live c.requires.key))

pub push_links-requires : goal.push_links-requires
push_links-requires g c = (omega arith, (row-fits g.row.DIM c.see_sound.ensures.high, (c.live_row-row.ensures, omega (arith, c.requires.room))))

pub push_bridge-requires : goal.push_bridge-requires
push_bridge-requires g c =
    (omega arith, (row-fits g.row.DIM c.see_sound.ensures.high, (c.requires.link, (c.requires.can, (c.requires.laws, (c.requires.key, (c.live_row-row.ensures, omega (arith, c.push_links.ensures.few, c.push_links.ensures.capacity, c.requires.room))))))))

pub returns-clause-entries : goal.returns-clause-entries
returns-clause-entries g c =
    appends-then (links_of c.args.links.now.rows) (IsEndingEntry (links_of c.args.links.now.rows) (g.row.DIM + 1) c.args.dart)
    (IsBridgeEntry g.K.Kind.kind (links_of c.args.links.now.rows) c.args.link c.args.beside c.args.darts.now c.args.dart)
    c.args.changes.now.items c.push_links.new.changes.items c.push_bridge.new.changes.items
    (λ d t y z e f. dart-apart g.K.Kind.kind (links_of c.args.links.now.rows) c.requires.laws c.args.link c.args.beside (g.row.DIM + 1) c.requires.can.own c.args.darts.now c.args.dart d t y z c.requires.key e f)
    c.push_links.ensures.entries c.push_bridge.ensures.entries
