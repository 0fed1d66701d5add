-- The line of the machine that a `Line` stands for, and the reply that a `Reply` stands for.
use Rattle.std.specs.Prelude.{ℕ, ◌≡◌, ◌≢◌, List, [], None, Some}
use Rattle.std.specs.String.{string_bytes}
use Rattle.map_kind.specs.declared.refusal.Refused.{Refused}
use Rattle.map_kind.specs.declared.refusal.Refused.TheVariants as outcome
use Rattle.map_kind.specs.declared.refusal.Refusal.TheVariants as why
use Rattle.map_kind.specs.Refusals.{meaning}
use Rattle.machine_defs.specs.Script as machine
use Rattle.machine_defs.specs.Text as text
use Rattle.script_text.specs.declared.line.Line.{Line}
use Rattle.script_text.specs.declared.line.Line.TheVariants as told
use Rattle.script_text.specs.declared.line.Change.{Change}
use Rattle.script_text.specs.declared.line.Change.TheVariants as change
use Rattle.script_text.specs.declared.line.Question.{Question}
use Rattle.script_text.specs.declared.line.Question.TheVariants as question
use Rattle.script_text.specs.declared.reply.Reply.{Reply}
use Rattle.script_text.specs.declared.reply.Reply.TheVariants as given

abbrev pub change_meaning : Change → machine.Line
change_meaning (change.Polygon sides) = machine.Polygon sides
change_meaning change.Dart = machine.Dart
change_meaning (change.Del d) = machine.Del d
change_meaning (change.Sew i d e) = machine.Sew i d e
change_meaning (change.Unsew i d) = machine.Unsew i d
change_meaning (change.Vertex d) = machine.Vertex d
change_meaning (change.Edge d e) = machine.Edge d e
change_meaning (change.Face darts) = machine.Face darts.items
change_meaning (change.Remove i d) = machine.Remove i d
change_meaning (change.Contract i d) = machine.Contract i d
change_meaning change.Dual = machine.Dual
change_meaning (change.Close i) = machine.Close i
change_meaning (change.Dangle d) = machine.Dangle d
change_meaning (change.Center d) = machine.Center d
change_meaning (change.Rule i merge split) = machine.Rule i (string_bytes merge) (string_bytes split)
change_meaning (change.Set i d value) = machine.Set i d value
change_meaning (change.Clear i d) = machine.Clear i d
change_meaning (change.Mark name) = machine.Mark (string_bytes name)
change_meaning (change.Undo name) = machine.Undo (string_bytes name)
change_meaning (change.Redo name) = machine.Redo (string_bytes name)

abbrev pub question_meaning : Question → machine.Line
question_meaning (question.Log name) = machine.Log (string_bytes name)
question_meaning (question.Cell i d) = machine.Cell i d
question_meaning (question.Same i d e) = machine.Same i d e
question_meaning (question.Free i d) = machine.Free i d
question_meaning (question.Value i d) = machine.Value i d
question_meaning (question.Removable i d) = machine.Removable i d
question_meaning (question.Contractible i d) = machine.Contractible i d
question_meaning (question.Sewable i d e) = machine.Sewable i d e
question_meaning question.Off = machine.Off
question_meaning question.Count = machine.Count
question_meaning question.Show = machine.Show

abbrev pub line_meaning : Line → machine.Line
line_meaning (told.Change made) = change_meaning made
line_meaning (told.Question asked) = question_meaning asked

-- these words tell this line
abbrev pub Tell : List (List ℕ) → Line → Type 0
Tell words line = machine.line_of words ≡ Some (line_meaning line)

-- there are words, and they are outside the grammar
abbrev pub TellNothing : List (List ℕ) → Type 0
TellNothing words = (words ≢ []) × (machine.line_of words ≡ None)

-- A line is refused as Syntax alone, where its words are outside the grammar. Want of memory is free.
abbrev pub IsSyntax : List (List ℕ) → Refused → Type 0
IsSyntax words (outcome.Line refusal) = (refusal ≡ why.Syntax) × TellNothing words
IsSyntax words outcome.NoMemory = Unit {0}

abbrev pub reply_meaning : Reply → text.Reply
reply_meaning (given.Done done) = text.Done done.first done.count
reply_meaning (given.Truth answer) = text.Truth answer
reply_meaning (given.Cell darts) = text.Darts darts.items
reply_meaning (given.Count counts) = text.Counts counts.items
reply_meaning (given.Value value) = text.CellValue value
reply_meaning (given.No refusal) = text.Refused (meaning refusal)
