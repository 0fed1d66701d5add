-- What the program's own lines and answers stand for.
use Rattle.std.specs.Prelude.{ℕ, ◌≡◌, List, [], Option, Some, None}
use Rattle.std.specs.Borrow.{Bor}
use Rattle.machine_defs.specs.Script as machine
use Rattle.machine_defs.specs.Text as text
use Rattle.script_text.specs.Meanings.{reply_meaning, change_meaning}
use Rattle.off_text.specs.MapViews.{off_view}
use Rattle.script_text.specs.declared.line.Change.{Change}
use Rattle.map_run.specs.declared.answer.Answer.{Answer}
use Rattle.map_run.specs.declared.answer.Answer.TheVariants as given

-- the lines of a text, if there is one
abbrev pub lines_after : Option (Bor (List ℕ)) → List (List ℕ)
lines_after None = []
lines_after (Some text) = machine.lines_of text.now

abbrev pub answer_meaning : Answer → text.Reply
answer_meaning (given.Line reply) = reply_meaning reply
answer_meaning (given.Listing listing) = text.Shown listing
answer_meaning (given.Off rows) = text.Meshed (off_view rows)
answer_meaning (given.Log steps) = text.Logged steps.now

-- some words tell this change
unfoldable pub IsTold : Change → Type 0
IsTold change = (words : List (List ℕ)) × (machine.line_of words ≡ Some (change_meaning change))
