-- What the audit of a listing answers.
use Rattle.std.specs.Prelude.{ℕ, ◌≡◌, List, [], ◌∷◌, Option, Some, None, Result, Ok, Err, Vec}
use Rattle.std.specs.declared.alloc.Global.{Global}
use Rattle.machine_defs.specs.Listing.{Listing}
use Rattle.machine_defs.specs.ListingFaults.{Reads}
use Rattle.machine_defs.specs.Text.{Reply, Shown, Counts}
use Rattle.machine_defs.specs.Auditing.{AreListingCounts, AuditAnswer, fault_line}
use Rattle.list_text.specs.Meanings.{meaning}
use Rattle.list_text.specs.declared.fault.ListFault.{ListFault}
use Rattle.list_text.specs.declared.fault.ListFault.TheVariants as fault

-- the line that tells of a fault; want of memory has none
abbrev pub line_of : ListFault → Option (List ℕ)
line_of (fault.Bad line what) = Some (fault_line (record { line = line; what = meaning what }))
line_of fault.NoMemory = None

-- what an audit shows: the listing, and the counts of its map
abbrev pub shows : Listing → List ℕ → List Reply
shows listing counts = Shown listing ∷ Counts counts ∷ []

-- the listing of the text and its counts; or its fault
abbrev pub IsCounted : List ℕ → Result (Listing × Vec ℕ Global) ListFault → Type 0
IsCounted bytes (Ok x) = Reads bytes (Ok x.0) × AreListingCounts x.0 x.1.items
IsCounted bytes (Err f) = (line : List ℕ) → line_of f ≡ Some line → AuditAnswer bytes line 3
