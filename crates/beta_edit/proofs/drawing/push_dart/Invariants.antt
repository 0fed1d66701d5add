use Rattle.map_defs.specs.Rows.{links_of}
use Rattle.cell_edit.specs.Writing.{Appends}
use Rattle.beta_edit.specs.Drawing.{IsDartEntry}
use Rattle.beta_edit.proofs.drawing.push_dart.Given as goal

abbrev pub invariant-loop-link : goal.invariant-loop-link
invariant-loop-link g l = Appends (links_of l.links.rows) (IsDartEntry (links_of l.links.rows) l.beside l.darts l.link l.dart) l.initial.changes.items l.changes.items
