-- What a line answers, from what its reply is.
use Rattle.std.proofs.Common.{◌≡◌, ◌≢◌, ℕ, List, [], ◌∷◌, Option, Some, None, Result, Ok, Err, Bool, true, false, ◌||◌, refl, sym, ◌∙◌, subst, inl, inr, IfOk, IfErr}
use Rattle.std.proofs.lemmas.List.{append-nil}
use Rattle.map_io.specs.declared.sink.PutFault.{PutFault}
use Rattle.map_io.specs.declared.sink.PutFault.TheVariants.{Failed, NoMemory}
use Rattle.machine_defs.specs.Outside.{IsFront}
use Rattle.map_defs.specs.Values.{Hook}
use Rattle.machine_defs.specs.State.{State}
use Rattle.machine_defs.specs.Script.{Line, line_of}
use Rattle.machine_defs.specs.Text.{Reply, Refused, reply_text, replies_text, is_refused, any_refused}
use Rattle.map_defs.specs.Refusal.{Syntax}
use Rattle.machine_defs.specs.Machine.{Step, Obeys, blank, obeyed, unread}
use Rattle.std.specs.declared.alloc.AllocError.{AllocError}
use Rattle.map_core.specs.Calls.{Does}
use Rattle.map_kind.specs.declared.done.Done.{Done}
use Rattle.map_kind.specs.declared.refusal.Refused as rust
use Rattle.map_kind.specs.declared.refusal.Refused.TheVariants as why
use Rattle.map_kind.specs.Refusals.{meaning}
use Rattle.machine_defs.specs.Text as text
use Rattle.script_text.specs.Meanings.{IsSyntax}
use Rattle.map_run.specs.Writing.{IsSaid, Says, SaysRefused, SaysMade, IsAnswered, AnswersLine}
use Rattle.text_lines.proofs.WritingFacts.{Appended-nothing}

one-reply : (reply : Reply) → reply_text reply ≡ replies_text (reply ∷ [])
one-reply reply = sym (append-nil (reply_text reply))

one-refused : (reply : Reply) → is_refused reply ≡ any_refused (reply ∷ [])
one-refused reply = or_false (is_refused reply)
  where
    or_false : (b : Bool) → b ≡ (b || false)
    or_false true = refl
    or_false false = refl

-- what a line answers, where it has one reply
answer-is : (hook : Hook) (s new : State) (words : List (List ℕ)) (reply : Reply) (result : Result Bool PutFault) (piece : List ℕ)
    → Obeys hook s words (reply ∷ []) new → IsSaid reply result piece → IsAnswered hook s new words result piece
answer-is hook s new words reply (Ok refused) piece obeys p =
    (reply ∷ [], obeys, p.0 ∙ one-reply reply, p.1 ∙ one-refused reply)
answer-is hook s new words reply (Err Failed) piece obeys p =
    (reply ∷ [], new, obeys, subst (IsFront piece) (one-reply reply) p)
answer-is hook s new words reply (Err NoMemory) piece obeys p =
    (p.0, inr (reply ∷ [], new, obeys, subst (IsFront piece) (one-reply reply) p.1))

said-line : (hook : Hook) (before after : Option (List ℕ)) (s new : State) (words : List (List ℕ)) (reply : Reply) (result : Result Bool PutFault)
    → Obeys hook s words (reply ∷ []) new → Says before after reply result → AnswersLine hook before after s new words result
said-line hook before after s new words reply result obeys p = record {
  piece = p.piece;
  appended = p.appended;
  is = answer-is hook s new words reply result p.piece obeys p.is;
}

-- a line that was read and obeyed
pub AnswersLine-told : (hook : Hook) (before after : Option (List ℕ)) (s new : State) (words : List (List ℕ)) (line : Line) (reply : Reply) (result : Result Bool PutFault)
    → line_of words ≡ Some line → Step hook s line reply new → Says before after reply result → AnswersLine hook before after s new words result
AnswersLine-told hook before after s new words line reply result told step said =
    said-line hook before after s new words reply result (obeyed line reply told step refl) said

-- a line outside the grammar
pub AnswersLine-unread : (hook : Hook) (before after : Option (List ℕ)) (s : State) (words : List (List ℕ)) (result : Result Bool PutFault)
    → words ≢ [] → line_of words ≡ None → Says before after (Refused Syntax) result → AnswersLine hook before after s s words result
AnswersLine-unread hook before after s [] result some none said = absurd (some refl)
AnswersLine-unread hook before after s (first ∷ more) result some none said =
    said-line hook before after s s (first ∷ more) (Refused Syntax) result (unread first more refl none refl refl) said

-- nothing is written, for want of memory
pub AnswersLine-nothing : (hook : Hook) (o : Option (List ℕ)) (s new : State) (words : List (List ℕ)) → AnswersLine hook o o s new words (Err NoMemory)
AnswersLine-nothing hook o s new words = record { piece = []; appended = Appended-nothing o; is = (inl refl, inl refl) }

-- a line that was read and obeyed, and whose answer was written if there was memory for one
pub AnswersLine-said : {A : Type 0} (meaning : A → Reply) (hook : Hook) (before after : Option (List ℕ)) (s new : State) (words : List (List ℕ)) (line : Line) (answer : Result A AllocError) (result : Result Bool PutFault)
    → line_of words ≡ Some line → IfOk answer (λ (told : A). Step hook s line (meaning told) new)
    → IfOk answer (λ (told : A). Says before after (meaning told) result)
    → IfErr answer (λ (fault : AllocError). (result ≡ Err NoMemory) × (after ≡ before))
    → AnswersLine hook before after s new words result
AnswersLine-said meaning hook before after s new words line (Ok told) result read step said unsaid =
    AnswersLine-told hook before after s new words line (meaning told) result read step said
AnswersLine-said meaning hook before after s new words line (Err fault) result read step said unsaid =
    rw (unsaid.0, unsaid.1) (AnswersLine-nothing hook before s new words)

-- a line without a word has no reply
pub AnswersLine-blank : (hook : Hook) (o : Option (List ℕ)) (s : State) (words : List (List ℕ)) → words ≡ [] → AnswersLine hook o o s s words (Ok false)
AnswersLine-blank hook o s words none = record { piece = []; appended = Appended-nothing o; is = ([], blank none refl refl, refl, refl) }

-- a line that was read and obeyed, and what it made was said, if there was memory for it
pub AnswersLine-made : (hook : Hook) (before after : Option (List ℕ)) (s new : State) (words : List (List ℕ)) (line : Line) (made : Result Done rust.Refused) (result : Result Bool PutFault)
    → line_of words ≡ Some line → Does hook s line made new → SaysMade before after made result → AnswersLine hook before after s new words result
AnswersLine-made hook before after s new words line (Ok done) result read does said =
    AnswersLine-told hook before after s new words line (text.Done done.first done.count) result read does said
AnswersLine-made hook before after s new words line (Err (why.Line refusal)) result read does said =
    AnswersLine-told hook before after s new words line (Refused (meaning refusal)) result read does said
AnswersLine-made hook before after s new words line (Err why.NoMemory) result read does said =
    rw (said.0, said.1) (AnswersLine-nothing hook before s new words)

-- a line that was not read
pub AnswersLine-refused : (hook : Hook) (before after : Option (List ℕ)) (s : State) (words : List (List ℕ)) (refused : rust.Refused) (result : Result Bool PutFault)
    → IsSyntax words refused → SaysRefused before after refused result → AnswersLine hook before after s s words result
AnswersLine-refused hook before after s words (why.Line refusal) result outside said =
    AnswersLine-unread hook before after s words result outside.1.0 outside.1.1 (rw outside.0 at said)
AnswersLine-refused hook before after s words why.NoMemory result outside said =
    rw (said.0, said.1) (AnswersLine-nothing hook before s s words)
