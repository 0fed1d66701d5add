-- What the audit of a listing answers: its text written again and the counts of its map, or the line that names its first
-- fault. Source: this project's.
use Rattle.std.specs.Prelude.{ℕ, ◌≡◌, ◌⊎◌, List, [], ◌∷◌, ◌++◌, length, Ok, Err, codes}
use Rattle.map_defs.specs.Counts.{AreCountsAmong}
use Rattle.machine_defs.specs.Listing.{Listing}
use Rattle.machine_defs.specs.ListingForm.{ListingFault, ListingWhat, Form, Order, Laws, Values}
use Rattle.machine_defs.specs.ListingFaults.{HasRow, links_in, Reads}
use Rattle.machine_defs.specs.Text.{Shown, Counts, replies_text, ended, spaced}

abbrev pub fault_name : ListingWhat → List ℕ
fault_name Form = codes "Form"
fault_name Order = codes "Order"
fault_name Laws = codes "Laws"
fault_name Values = codes "Values"

abbrev pub fault_line : ListingFault → List ℕ
fault_line fault = ended (codes "listing line" ++ spaced fault.line ++ 32 ∷ fault_name fault.what)

-- the counts of the map that a listing tells
abbrev pub AreListingCounts : Listing → List ℕ → Type 0
AreListingCounts l counts = AreCountsAmong l.kind l.dim (HasRow l.rows) (length l.rows) (links_in l.rows) counts

-- the text and the status for the bytes of a listing
abbrev pub AuditAnswer : List ℕ → List ℕ → ℕ → Type 0
AuditAnswer bytes text status =
    ((fault : ListingFault) × Reads bytes (Err fault) × (text ≡ fault_line fault) × (status ≡ 3))
    ⊎ ((listing : Listing) × (counts : List ℕ) × Reads bytes (Ok listing) × AreListingCounts listing counts
    × (text ≡ replies_text (Shown listing ∷ Counts counts ∷ [])) × (status ≡ 0))
