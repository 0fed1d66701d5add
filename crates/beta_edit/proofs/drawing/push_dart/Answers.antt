use Rattle.map_defs.specs.Rows.{links_of}
use Rattle.beta_edit.proofs.DrawnEntries.{dart-more}
use Rattle.beta_edit.proofs.drawing.push_dart.Goals as goal

pub loop-link-preserved : goal.loop-link-preserved
loop-link-preserved g c =
    dart-more (links_of c.args.links.now.rows) c.args.beside c.args.darts.now c.args.dart c.loop-link.link c.args.changes.now.items c.loop-link.changes.items c.push_link.new.changes.items
    c.requires.dart c.loop-link.invariant c.in_ok-push_link.ensures
