-- What a command answers that is made of one listing, by what was fetched and read.
use Rattle.std.proofs.Common.{◌≡◌, ℕ, List, [], Option, Some, Err, refl, sym, subst, inl, inr}
use Rattle.map_io.specs.Fetched.{IsFetched}
use Rattle.map_io.specs.declared.shelf.FetchFault.{FetchFault}
use Rattle.map_io.specs.declared.shelf.FetchFault.TheVariants as fetch
use Rattle.map_defs.specs.Values.{Hook}
use Rattle.machine_defs.specs.Outside.{Files, held}
use Rattle.machine_defs.specs.Auditing.{fault_line}
use Rattle.machine_defs.specs.ListingForm.{ListingFault}
use Rattle.machine_defs.specs.ListingFaults.{Reads}
use Rattle.machine_defs.specs.Program.{Command, TellsCommand, CommandAnswer, CommandBegins, FileAnswer, IsFile, too_long, file_limit}
use Rattle.list_text.specs.Meanings.{IsReadAs}
use Rattle.list_text.specs.declared.fault.ListFault.{ListFault}
use Rattle.list_text.specs.declared.fault.ListFault.TheVariants as fault
use Rattle.map_run.specs.Audits.{line_of}
use Rattle.map_run.specs.Ending.{EndsAnswer, EndsCall}
use Rattle.map_run.specs.Texts.{IsUnfetched}
use Rattle.map_run.proofs.AnswerFacts.{Ends-answer}

-- the line of a fault that was read
pub fault-line : (bytes : List ℕ) (f : ListFault) → IsReadAs bytes (Err f) → (line : List ℕ) → line_of f ≡ Some line
    → (found : ListingFault) × Reads bytes (Err found) × (line ≡ fault_line found)
fault-line bytes (fault.Bad at what) reads line is = (_, reads, (let same = is in cc))
fault-line bytes fault.NoMemory reads line is = absurd (cc (is))

-- a command of one file, of which these are the answers to its bytes
module _ (files : Files) (name : List ℕ) (command : Command) (Answer : List ℕ → List ℕ → ℕ → Type 0)
    (answers : (hook : Hook) (text : List ℕ) (status : ℕ) → FileAnswer (held files name) Answer text status → CommandAnswer hook files command text status) where
  -- a listing that is too long was not fetched
  pub unfetched-file : (f : FetchFault) → IsFetched (Some files) name file_limit (Err f) → IsUnfetched files command f
  unfetched-file (fetch.TooLong seen) fetched = λ hook.
      let file = fetched.1 in
      answers hook too_long 4 (subst (λ (o : Option (List ℕ)). FileAnswer o Answer too_long 4) (sym file.1) (inl (file.2, refl, refl)))
  unfetched-file fetch.Failed fetched = tt
  unfetched-file fetch.NoMemory fetched = tt

  -- the listing was fetched and answered
  pub Ends-file : (hook : Hook) (bytes : List ℕ) (words : List (List ℕ)) (before after : Option (List ℕ)) (shelf_rose sink_rose : Type 0) (status : ℕ)
      → TellsCommand words command → CommandBegins hook files command [] → IsFile files name bytes → EndsAnswer (Answer bytes) sink_rose before after status
      → EndsCall hook before after words files shelf_rose sink_rose status
  Ends-file hook bytes words before after shelf_rose sink_rose status tells begins is e =
      Ends-answer hook words files shelf_rose sink_rose command tells begins (Answer bytes)
      (λ text status' answer. answers hook text status' (subst (λ (o : Option (List ℕ)). FileAnswer o Answer text status') (sym is.0) (inr (is.1, answer)))) before after status e
