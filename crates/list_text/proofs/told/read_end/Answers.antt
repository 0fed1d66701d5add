use Rattle.std.proofs.Common.{rules}
use Rattle.list_text.specs.Views.{cursor_view}
use Rattle.list_text.proofs.Sections.{ended-more}
use Rattle.list_text.proofs.told.read_end.Goals as goal

pub returns-then-not-is_empty : goal.returns-then-not-is_empty
returns-then-not-is_empty c =
    rw c.bad-then-not-is_empty.ensures
    (ended-more (cursor_view c.args.cursor) c.in_ok-text.text.now c.in_ok-text.left.rest.now c.in_ok-text.left.line c.in_ok-text.ensures.line (search rules) (search rules))
