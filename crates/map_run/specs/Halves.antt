-- What the half of a listing answers.
use Rattle.std.specs.Prelude.{ℕ, ◌≡◌, ◌++◌, List, Option, Some, Result, Ok, Err, codes, option_map}
use Rattle.machine_defs.specs.Listing.{Listing}
use Rattle.machine_defs.specs.ListingFaults.{HasRow, links_in}
use Rattle.machine_defs.specs.Halving.{MapHalfAnswer, orient_line}
use Rattle.machine_defs.specs.Text.{listing_text, numbers_text}
use Rattle.orient_half.specs.declared.fault.OrientFault.{OrientFault}
use Rattle.orient_half.specs.Told.{told}
use Rattle.map_run.specs.declared.half.HalfListing.{HalfListing}

-- the text and the status for a listing that was read
abbrev pub ListingHalfAnswer : Listing → List ℕ → ℕ → Type 0
ListingHalfAnswer l = MapHalfAnswer l.kind l.dim (HasRow l.rows) (links_in l.rows)

-- the line that says why there is no half; want of memory has none
abbrev pub orient_line_of : OrientFault → Option (List ℕ)
orient_line_of fault = option_map orient_line (told fault)

-- the text of a half answers for the listing; or the line that says why there is none does
abbrev pub IsHalved : Listing → Result HalfListing OrientFault → Type 0
IsHalved l (Ok half) = ListingHalfAnswer l (listing_text half.listing ++ numbers_text (codes "from") half.origins.items) 0
IsHalved l (Err fault) = (line : List ℕ) → orient_line_of fault ≡ Some line → ListingHalfAnswer l line 3
