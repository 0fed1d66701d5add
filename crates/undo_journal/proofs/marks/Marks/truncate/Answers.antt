use Rattle.std.proofs.Common.{◌∙◌, take, ap}
use Rattle.undo_journal.specs.Entries.{placed_marks}
use Rattle.undo_journal.proofs.MarkFacts.{front_marks}
use Rattle.undo_journal.proofs.marks.Marks.truncate.Goals as goal

pub returns : goal.returns
returns c = ap placed_marks c.keep_first.ensures.entries ∙ front_marks c.self.inside.entries.items c.args.kept ∙ ap (take c.args.kept) c.self.view_is
