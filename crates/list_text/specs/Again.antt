-- That a listing that is read is written again as it stood.
use Rattle.std.specs.Prelude.{ℕ, ◌≡◌, List, Ok}
use Rattle.machine_defs.specs.Listing.{Listing}
use Rattle.machine_defs.specs.ListingForm.{Told, told}
use Rattle.machine_defs.specs.ListingFaults.{Reads}
use Rattle.machine_defs.specs.Text.{listing_text}

-- a text of version 2 that is read is the text of its listing, byte for byte
abbrev pub IsWrittenAgain : Type 0
IsWrittenAgain = (bytes : List ℕ) (t : Told) (l : Listing) → told bytes ≡ Ok t → t.version ≡ 2 → Reads bytes (Ok l) → listing_text l ≡ bytes
