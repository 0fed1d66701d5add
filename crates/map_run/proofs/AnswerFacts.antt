-- How the program ends by a text that answers, which is known before any of it is written.
use Rattle.std.proofs.Common.{◌≡◌, ℕ, ◌≤◌, List, [], Option, Some, None, Result, Ok, Err, refl, inl, inr, lit≤}
use Rattle.map_io.specs.declared.sink.PutFault.{PutFault}
use Rattle.map_io.specs.declared.sink.PutFault.TheVariants.{Failed, NoMemory}
use Rattle.map_defs.specs.Values.{Hook}
use Rattle.machine_defs.specs.Outside.{Files}
use Rattle.machine_defs.specs.Program.{Command, TellsCommand, ProgramAnswer, told, CommandAnswer, CommandBegins, whole, lines, Outcome, answered, unwritten, no_memory}
use Rattle.text_lines.specs.Writing.{WritesText}
use Rattle.text_lines.proofs.WritingFacts.{Appended-nothing}
use Rattle.map_run.specs.Ending.{IsLast, WritesLast, put_status, AnswerEnd, done, cut_short, out_of_memory, EndsAnswer, IsRefused, EndsCall}

module _ (Answer : List ℕ → ℕ → Type 0) (rose : Type 0) (before after : Option (List ℕ)) (text : List ℕ) (status : ℕ) (answer : Answer text status) (small : status ≤ 4) where
  -- the text was written, or a front of it
  pub put-ends : (put : Result (Unit {0}) PutFault) → WritesText before after put text → (put ≡ Err Failed → rose) → EndsAnswer Answer rose before after (put_status status put)
  put-ends (Ok u) w fails = record { piece = w.piece; appended = w.appended; end = done (rw w.is.1 answer) small }
  put-ends (Err Failed) w fails = record { piece = w.piece; appended = w.appended; end = cut_short text status answer w.is (inl (refl, fails refl)) }
  put-ends (Err NoMemory) w fails = record { piece = w.piece; appended = w.appended; end = cut_short text status answer w.is.1 (inr (refl, w.is.0)) }

  -- the text is one line, which was written, or a front of it
  pub line-ends : (result : ℕ) → WritesLast before after rose text status result → EndsAnswer Answer rose before after result
  line-ends result w = record { piece = w.piece; appended = w.appended; end = go w.is }
    where
      go : IsLast rose text status result w.piece → AnswerEnd Answer rose result w.piece
      go (inl (same, is)) = done (rw (same, is) answer) (rw same small)
      go (inr (inl (six, rises, front))) = cut_short text status answer front (inl (six, rises))
      go (inr (inr (seven, none))) = out_of_memory seven none

-- the one line of a refusal, if there is one, is a text that answers
pub refused-ends : (Answer : List ℕ → ℕ → Type 0) (rose : Type 0) (before after : Option (List ℕ)) (line : Option (List ℕ)) (result : ℕ) → ((text : List ℕ) → line ≡ Some text → Answer text 3)
    → IsRefused before after rose line result → EndsAnswer Answer rose before after result
refused-ends Answer rose before after None result answers (seven, same) = record { piece = []; appended = rw same (Appended-nothing before); end = out_of_memory seven refl }
refused-ends Answer rose before after (Some line) result answers w = line-ends Answer rose before after line 3 (answers line refl) (lit≤ tt) result w

-- want of memory for the line of a refusal
pub unwritten-line : (before : Option (List ℕ)) (rose : Type 0) (line : Option (List ℕ)) → IsRefused before before rose line 7
unwritten-line before rose None = (refl, refl)
unwritten-line before rose (Some line) = record { piece = []; appended = Appended-nothing before; is = inr (inr (refl, refl)) }

-- an answer to one question is one to another
pub Ends-by : (Answer Other : List ℕ → ℕ → Type 0) (rose : Type 0) (before after : Option (List ℕ)) (status : ℕ) → ((text : List ℕ) (status : ℕ) → Answer text status → Other text status)
    → EndsAnswer Answer rose before after status → EndsAnswer Other rose before after status
Ends-by Answer Other rose before after status by e = record { piece = e.piece; appended = e.appended; end = go status e.piece e.end }
  where
    go : (status : ℕ) (piece : List ℕ) → AnswerEnd Answer rose status piece → AnswerEnd Other rose status piece
    go status piece (done answer small) = done (by piece status answer) small
    go status piece (cut_short text n answer front ends) = cut_short text n (by text n answer) front ends
    go status piece (out_of_memory seven none) = out_of_memory seven none

-- such a text answers a command that has written nothing before it is known
module _ (hook : Hook) (words : List (List ℕ)) (files : Files) (shelf_rose sink_rose : Type 0) (command : Command) (tells : TellsCommand words command) (begins : CommandBegins hook files command [])
    (Answer : List ℕ → ℕ → Type 0) (answers : (text : List ℕ) (status : ℕ) → Answer text status → CommandAnswer hook files command text status) where
  program-answers : (text : List ℕ) (status : ℕ) → Answer text status → ProgramAnswer hook words files text status
  program-answers text status answer = told command tells (answers text status answer)

  answer-outcome : (status : ℕ) (piece : List ℕ) → AnswerEnd Answer sink_rose status piece → Outcome hook words files shelf_rose sink_rose status piece
  answer-outcome status piece (done answer small) = answered small (program-answers piece status answer)
  answer-outcome status piece (cut_short text n answer front (inl (six, rose))) = unwritten six rose (inl (whole text n (program-answers text n answer) front))
  answer-outcome status piece (cut_short text n answer front (inr (seven, ends))) = no_memory seven ends (inl (whole text n (program-answers text n answer) front))
  answer-outcome status piece (out_of_memory seven none) = no_memory seven (inl none) (inl (lines command tells (rw none begins)))

  pub Ends-answer : (before after : Option (List ℕ)) (status : ℕ) → EndsAnswer Answer sink_rose before after status → EndsCall hook before after words files shelf_rose sink_rose status
  Ends-answer before after status e = record { text = e.piece; appended = e.appended; outcome = answer-outcome status e.piece e.end }
