-- How the program ends, by what was fetched and written.
use Rattle.std.proofs.Common.{◌≡◌, ℕ, ◌≤◌, ◌⊎◌, List, [], Option, Some, None, Result, Ok, Err, Bool, true, false, cond, nat_lt, refl, sym, subst, inl, inr, arith, lit≤}
use Rattle.std.proofs.lemmas.List.{append-nil}
use Rattle.std.proofs.lemmas.Bool.{lt-ltb}
use Rattle.map_io.specs.declared.shelf.FetchFault.{FetchFault}
use Rattle.map_io.specs.declared.shelf.FetchFault.TheVariants as fetch
use Rattle.map_io.specs.declared.sink.PutFault.{PutFault}
use Rattle.map_io.specs.declared.sink.PutFault.TheVariants.{Failed, NoMemory}
use Rattle.map_defs.specs.Kind.{Kind}
use Rattle.map_defs.specs.Values.{Hook}
use Rattle.machine_defs.specs.Outside.{Files, held, Appended}
use Rattle.machine_defs.specs.State.{State, empty_state}
use Rattle.map_defs.specs.Off.{mesh_of}
use Rattle.machine_defs.specs.Loading.{refusal_line}
use Rattle.machine_defs.specs.Program.{Command, RunScript, TellsCommand, ProgramAnswer, told, ScriptAnswer, FileAnswer, MeshAnswer, CommandAnswer, IsFile, StartsFrom, Starts, whole, lines, Outcome, answered, unread, unwritten, no_memory, cannot_read, too_long}
use Rattle.map_run.specs.Going.{IsObeyed}
use Rattle.map_run.specs.Texts.{IsUnfetched, IsMeshOf, IsFirst, TextsEnd, refused, starved, obeyed, EndsTexts}
use Rattle.map_run.specs.Ending.{IsLast, WritesLast, EndsCall, EndsWhole, status_of}
use Rattle.map_run.proofs.StartFacts.{starts-nothing}
use Rattle.text_lines.proofs.WritingFacts.{Appended-nothing, Appended-then, IsFront-all, IsFront-nothing}

module _ (hook : Hook) (words : List (List ℕ)) (files : Files) (shelf_rose sink_rose : Type 0) where
  -- one line that is a whole answer
  last-outcome : (line : List ℕ) (status result : ℕ) (piece : List ℕ) → ProgramAnswer hook words files line status → status ≤ 4
      → IsLast sink_rose line status result piece → Outcome hook words files shelf_rose sink_rose result piece
  last-outcome line status result piece answers small (inl (same, text)) =
      answered (rw same small) (rw (same, text) answers)
  last-outcome line status result piece answers small (inr (inl (six, rose, front))) = unwritten six rose (inl (whole line status answers front))
  last-outcome line status result piece answers small (inr (inr (seven, none))) =
      no_memory seven (inl none) (inl (whole line status answers (rw none (IsFront-nothing line))))

  -- one line after a fetch that failed
  unread-outcome : (result : ℕ) (piece : List ℕ) → shelf_rose → IsLast sink_rose cannot_read 5 result piece → Outcome hook words files shelf_rose sink_rose result piece
  unread-outcome result piece shelf (inl (same, text)) = unread same shelf text
  unread-outcome result piece shelf (inr (inl (six, rose, front))) = unwritten six rose (inr (shelf, front))
  unread-outcome result piece shelf (inr (inr (seven, none))) = no_memory seven (inl none) (inr (shelf, rw none (IsFront-nothing cannot_read)))

  -- a command whose files were fetched
  module _ (k : Kind) (n : ℕ) (mesh : Option (List ℕ)) (script : List ℕ) (tells : TellsCommand words (RunScript k n mesh script))
      (bytes : Option (List ℕ)) (text : List ℕ) (mesh-is : IsMeshOf files mesh bytes) (script-is : IsFile files script text) where
    -- the mesh is refused
    refused-answers : (mesh' : Option (List ℕ)) (bytes' line : List ℕ) → IsMeshOf files mesh' (Some bytes') → refusal_line k (mesh_of bytes') ≡ Some line
        → CommandAnswer hook files (RunScript k n mesh' script) line 3
    refused-answers None bytes' line is refusal = absurd (cc (is))
    refused-answers (Some name) bytes' line is refusal =
        subst (λ (o : Option (List ℕ)). FileAnswer o (λ m. FileAnswer (held files script) (MeshAnswer hook k n m)) line 3) (sym is.0)
        (inr (is.1, subst (λ (o : Option (List ℕ)). FileAnswer o (MeshAnswer hook k n bytes') line 3) (sym script-is.0) (inr (script-is.1, inl (refusal, refl)))))

    -- the script is obeyed
    obeyed-answers : (mesh' : Option (List ℕ)) (bytes' : Option (List ℕ)) (start : State) (piece : List ℕ) (status : ℕ) → IsMeshOf files mesh' bytes' → IsFirst k n bytes' start
        → ScriptAnswer hook start text piece status → CommandAnswer hook files (RunScript k n mesh' script) piece status
    obeyed-answers None None start piece status is first answer =
        subst (λ (o : Option (List ℕ)). FileAnswer o (ScriptAnswer hook (empty_state k n)) piece status) (sym script-is.0)
        (inr (script-is.1, subst (λ (s : State). ScriptAnswer hook s text piece status) first answer))
    obeyed-answers None (Some bytes') start piece status is first answer = absurd (cc (is))
    obeyed-answers (Some name) None start piece status is first answer = absurd is
    obeyed-answers (Some name) (Some bytes') start piece status is first answer =
        subst (λ (o : Option (List ℕ)). FileAnswer o (λ m. FileAnswer (held files script) (MeshAnswer hook k n m)) piece status) (sym is.0)
        (inr (is.1, subst (λ (o : Option (List ℕ)). FileAnswer o (MeshAnswer hook k n bytes') piece status) (sym script-is.0) (inr (script-is.1, inr (start, first, answer)))))

    starts-from : (mesh' : Option (List ℕ)) (bytes' : Option (List ℕ)) (start : State) → IsMeshOf files mesh' bytes' → IsFirst k n bytes' start → StartsFrom files k n mesh' start
    starts-from None None start is first = first
    starts-from None (Some bytes') start is first = absurd (cc (is))
    starts-from (Some name) None start is first = absurd is
    starts-from (Some name) (Some bytes') start is first = (bytes', is, first)

    obeyed-outcome : (start : State) (obeyed : Result Bool PutFault) (piece : List ℕ) → IsFirst k n bytes start
        → (obeyed ≡ Err Failed → sink_rose) → IsObeyed hook start text obeyed piece → Outcome hook words files shelf_rose sink_rose (status_of obeyed) piece
    obeyed-outcome start (Ok false) piece first rose p = answered (lit≤ tt) (told (RunScript k n mesh script) tells (obeyed-answers mesh bytes start piece 0 mesh-is first p))
    obeyed-outcome start (Ok true) piece first rose p = answered (lit≤ tt) (told (RunScript k n mesh script) tells (obeyed-answers mesh bytes start piece 1 mesh-is first p))
    obeyed-outcome start (Err Failed) piece first rose p =
        unwritten refl (rose refl) (inl (lines (RunScript k n mesh script) tells (start, text, starts-from mesh bytes start mesh-is first, script-is, p)))
    obeyed-outcome start (Err NoMemory) piece first rose p =
        no_memory refl p.0 (inl (lines (RunScript k n mesh script) tells (start, text, starts-from mesh bytes start mesh-is first, script-is, p.1)))

    texts-outcome : (status : ℕ) (piece : List ℕ) → TextsEnd hook k n bytes text sink_rose status piece → Outcome hook words files shelf_rose sink_rose status piece
    texts-outcome status piece (refused bytes' line is refusal last) =
        last-outcome line 3 status piece (told (RunScript k n mesh script) tells
        (refused-answers mesh bytes' line (subst (λ (o : Option (List ℕ)). IsMeshOf files mesh o) is mesh-is) refusal)) (lit≤ tt) last
    texts-outcome status piece (starved seven none) =
        no_memory seven (inl none) (inl (subst (Starts hook words files) (sym none) (starts-nothing hook words files k n script mesh tells)))
    texts-outcome status piece (obeyed start result first is p rose) =
        subst (λ (n : ℕ). Outcome hook words files shelf_rose sink_rose n piece) (sym is) (obeyed-outcome start result piece first rose p)

  -- what was kept back is handed on
  flushed-outcome : (sink_rose' : Type 0) (status : ℕ) (piece : List ℕ) → (sink_rose → sink_rose') → Outcome hook words files shelf_rose sink_rose status piece
      → Outcome hook words files shelf_rose sink_rose' status piece
  flushed-outcome sink_rose' status piece grows (answered small answers) = answered small answers
  flushed-outcome sink_rose' status piece grows (unread five shelf text) = unread five shelf text
  flushed-outcome sink_rose' status piece grows (unwritten six rose cut) = unwritten six (grows rose) cut
  flushed-outcome sink_rose' status piece grows (no_memory seven ends cut) = no_memory seven ends cut

  -- or cannot be handed on
  unflushed-outcome : (sink_rose' : Type 0) (status : ℕ) (piece : List ℕ) → sink_rose' → Outcome hook words files shelf_rose sink_rose status piece
      → Outcome hook words files shelf_rose sink_rose' (cond (nat_lt status 6) 6 status) piece
  unflushed-outcome sink_rose' status piece rose (answered small answers) =
      let below = lt-ltb status 6 (omega arith) in
      rw below (unwritten refl rose (inl (whole piece status answers (IsFront-all piece))))
  unflushed-outcome sink_rose' status piece rose (unread five shelf text) =
      rw five (unwritten refl rose (inr (shelf, rw text (IsFront-all cannot_read))))
  unflushed-outcome sink_rose' status piece rose (unwritten six old cut) = rw six (unwritten refl rose cut)
  unflushed-outcome sink_rose' status piece rose (no_memory seven ends cut) = rw seven (no_memory refl ends cut)

  -- without a fault the answer is the whole one, or there was no memory
  complete-outcome : (status : ℕ) (piece : List ℕ) → (shelf_rose → ⊥) → (sink_rose → ⊥) → Outcome hook words files shelf_rose sink_rose status piece
      → (status ≡ 7) ⊎ ProgramAnswer hook words files piece status
  complete-outcome status piece no_shelf no_sink (answered small answers) = inr answers
  complete-outcome status piece no_shelf no_sink (unread five shelf text) = absurd (no_shelf shelf)
  complete-outcome status piece no_shelf no_sink (unwritten six rose cut) = absurd (no_sink rose)
  complete-outcome status piece no_shelf no_sink (no_memory seven ends cut) = inl seven

pub Ends-last : (hook : Hook) (before after : Option (List ℕ)) (words : List (List ℕ)) (files : Files) (shelf_rose sink_rose : Type 0) (line : List ℕ) (status result : ℕ)
    → ProgramAnswer hook words files line status → status ≤ 4 → WritesLast before after sink_rose line status result → EndsCall hook before after words files shelf_rose sink_rose result
Ends-last hook before after words files shelf_rose sink_rose line status result answers small w = record {
  text = w.piece;
  appended = w.appended;
  outcome = last-outcome hook words files shelf_rose sink_rose line status result w.piece answers small w.is;
}

pub Ends-unread : (hook : Hook) (before after : Option (List ℕ)) (words : List (List ℕ)) (files : Files) (shelf_rose sink_rose : Type 0) (result : ℕ)
    → shelf_rose → WritesLast before after sink_rose cannot_read 5 result → EndsCall hook before after words files shelf_rose sink_rose result
Ends-unread hook before after words files shelf_rose sink_rose result shelf w = record {
  text = w.piece;
  appended = w.appended;
  outcome = unread-outcome hook words files shelf_rose sink_rose result w.piece shelf w.is;
}

pub Ends-nothing : (hook : Hook) (o : Option (List ℕ)) (words : List (List ℕ)) (files : Files) (shelf_rose sink_rose : Type 0)
    → Starts hook words files [] → EndsCall hook o o words files shelf_rose sink_rose 7
Ends-nothing hook o words files shelf_rose sink_rose starts = record {
  text = [];
  appended = Appended-nothing o;
  outcome = no_memory refl (inl refl) (inl starts);
}

-- a file was not fetched
pub Ends-unfetched : (hook : Hook) (command : Command) (before after : Option (List ℕ)) (words : List (List ℕ)) (files : Files) (shelf_rose sink_rose : Type 0)
    (fault : FetchFault) (result : ℕ) → TellsCommand words command → Starts hook words files [] → IsUnfetched files command fault → (fault ≡ fetch.Failed → shelf_rose)
    → (fault ≡ fetch.Failed → WritesLast before after sink_rose cannot_read 5 result) → ((seen : ℕ) → fault ≡ fetch.TooLong seen → WritesLast before after sink_rose too_long 4 result)
    → (fault ≡ fetch.NoMemory → (result ≡ 7) × (after ≡ before)) → EndsCall hook before after words files shelf_rose sink_rose result
Ends-unfetched hook command before after words files shelf_rose sink_rose fetch.Failed result tells starts unfetched rose failed long memory =
    Ends-unread hook before after words files shelf_rose sink_rose result (rose refl) (failed refl)
Ends-unfetched hook command before after words files shelf_rose sink_rose (fetch.TooLong seen) result tells starts unfetched rose failed long memory =
    Ends-last hook before after words files shelf_rose sink_rose too_long 4 result (told command tells (unfetched hook)) (lit≤ tt) (long seen refl)
Ends-unfetched hook command before after words files shelf_rose sink_rose fetch.NoMemory result tells starts unfetched rose failed long memory =
    let end = memory refl in rw (end.0, end.1) (Ends-nothing hook before words files shelf_rose sink_rose starts)

pub Ends-texts : (hook : Hook) (k : Kind) (n : ℕ) (mesh : Option (List ℕ)) (script : List ℕ) (words : List (List ℕ)) (files : Files) (before after : Option (List ℕ)) (shelf_rose sink_rose : Type 0) (status : ℕ)
    (bytes : Option (List ℕ)) (text : List ℕ) → TellsCommand words (RunScript k n mesh script) → IsMeshOf files mesh bytes × IsFile files script text
    → EndsTexts hook k n bytes text sink_rose before after status → EndsCall hook before after words files shelf_rose sink_rose status
Ends-texts hook k n mesh script words files before after shelf_rose sink_rose status bytes text tells are e = record {
  text = e.piece;
  appended = e.appended;
  outcome = texts-outcome hook words files shelf_rose sink_rose k n mesh script tells bytes text are.0 are.1 status e.piece e.end;
}

pub Ends-flushed : (hook : Hook) (before middle after : Option (List ℕ)) (words : List (List ℕ)) (files : Files) (shelf_rose sink_rose sink_rose' : Type 0) (status : ℕ)
    → (sink_rose → sink_rose') → EndsCall hook before middle words files shelf_rose sink_rose status → Appended middle after []
    → EndsCall hook before after words files shelf_rose sink_rose' status
Ends-flushed hook before middle after words files shelf_rose sink_rose sink_rose' status grows e kept = record {
  text = e.text;
  appended = subst (Appended before after) (append-nil e.text) (Appended-then before middle after e.text [] e.appended kept);
  outcome = flushed-outcome hook words files shelf_rose sink_rose sink_rose' status e.text grows e.outcome;
}

pub Ends-unflushed : (hook : Hook) (before middle after : Option (List ℕ)) (words : List (List ℕ)) (files : Files) (shelf_rose sink_rose sink_rose' : Type 0) (status : ℕ)
    → sink_rose' → EndsCall hook before middle words files shelf_rose sink_rose status → Appended middle after []
    → EndsCall hook before after words files shelf_rose sink_rose' (cond (nat_lt status 6) 6 status)
Ends-unflushed hook before middle after words files shelf_rose sink_rose sink_rose' status rose e kept = record {
  text = e.text;
  appended = subst (Appended before after) (append-nil e.text) (Appended-then before middle after e.text [] e.appended kept);
  outcome = unflushed-outcome hook words files shelf_rose sink_rose sink_rose' status e.text rose e.outcome;
}

pub EndsWhole-from : (hook : Hook) (before after : Option (List ℕ)) (words : List (List ℕ)) (files : Files) (shelf_rose sink_rose : Type 0) (status : ℕ)
    → (shelf_rose → ⊥) → (sink_rose → ⊥) → EndsCall hook before after words files shelf_rose sink_rose status → (status ≡ 7) ⊎ EndsWhole hook before after words files status
EndsWhole-from hook before after words files shelf_rose sink_rose status no_shelf no_sink e =
    elim (complete-outcome hook words files shelf_rose sink_rose status e.text no_shelf no_sink e.outcome) [
      | inl seven ↦ inl seven
      | inr answers ↦ inr (record { text = e.text; appended = e.appended; answers = answers })
    ]
