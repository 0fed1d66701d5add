-- What an audit answers, by what was read of its listing.
use Rattle.std.proofs.Common.{◌≡◌, ℕ, List, ◌++◌, Ok, Err, refl, ap, inl, inr}
use Rattle.machine_defs.specs.Listing.{Listing}
use Rattle.machine_defs.specs.Auditing.{AuditAnswer, AreListingCounts}
use Rattle.machine_defs.specs.ListingFaults.{Reads}
use Rattle.std.proofs.lemmas.List.{append-nil}
use Rattle.machine_defs.specs.Text.{Shown, Counts, reply_text, replies_text}
use Rattle.list_text.specs.Meanings.{IsReadAs}
use Rattle.list_text.specs.declared.fault.ListFault.{ListFault}
use Rattle.map_run.proofs.ListingFacts.{fault-line}
use Rattle.map_run.specs.Audits.{shows, IsCounted}

-- the line of the fault that was found is the whole answer
pub refused-answer : (bytes : List ℕ) (f : ListFault) → IsReadAs bytes (Err f) → IsCounted bytes (Err f)
refused-answer bytes f reads line is = let found = fault-line bytes f reads line is in inl (found.0, found.1, found.2, refl)

-- the text of a listing and its counts
pub shown-text : (l : Listing) (counts : List ℕ) → replies_text (shows l counts) ≡ reply_text (Shown l) ++ reply_text (Counts counts)
shown-text l counts = ap (λ (t : List ℕ). reply_text (Shown l) ++ t) (append-nil (reply_text (Counts counts)))

-- the listing and its counts are the whole answer
pub shown-answer : (bytes : List ℕ) (l : Listing) (counts : List ℕ) → Reads bytes (Ok l) → AreListingCounts l counts → AuditAnswer bytes (replies_text (shows l counts)) 0
shown-answer bytes l counts reads are = inr (l, counts, reads, are, refl, refl)
