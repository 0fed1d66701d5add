-- The faults of laws and of values of what the lines of a text tell.
use Rattle.std.specs.Prelude.{ℕ, ◌≡◌, ◌+◌, ◌-◌, ◌<◌, ◌≤◌, ◌^◌, length, All}
use Rattle.map_defs.specs.Rows.{made_max}
use Rattle.machine_defs.specs.Listing.{Listing}
use Rattle.machine_defs.specs.ListingForm as text
use Rattle.machine_defs.specs.ListingFaults.{IsLawfulRow, IsRuleOf, IsValueOf, IsFirstWithout, listing_meant}
use Rattle.list_text.specs.Letters.{IsLetter}
use Rattle.row_laws.specs.Rows.{IsMadeRow, AreRows}
use Rattle.list_text.specs.declared.told.Told.{Told}
use Rattle.list_text.specs.declared.fault.ListFault.{ListFault}
use Rattle.list_text.specs.declared.fault.ListFault.TheVariants.{Bad}
use Rattle.list_text.specs.declared.fault.ListWhat.TheVariants.{Laws, Values}

-- what holds of all that the lines of a text tell
pub record IsTold (told : Told) : Type 0 where
  pub letter : IsLetter told.header.letter
  pub low : 2 ≤ told.header.dim
  pub dim : told.header.dim ≤ 4
  pub made : told.header.made ≤ made_max
  pub rows : AreRows told.header.dim told.rows.items
  pub within : All (IsMadeRow told.header.made) told.rows.items
  pub few : length told.rows.items + length told.rules.items + length told.values.items < 2 ^ 32 - 2

-- a law fails first at the dart of this row
abbrev pub IsLawsFault : text.Told → ListFault → Type 0
IsLawsFault t fault = (place : ℕ) × IsFirstWithout (IsLawfulRow t.listing) t.listing.rows place × (fault ≡ Bad (place + 2) Laws)

-- this rule is the first that no map has
abbrev pub IsRulesFault : text.Told → ListFault → Type 0
IsRulesFault t fault = (place : ℕ) × IsFirstWithout (IsRuleOf t.listing) t.listing.rules place × (fault ≡ Bad (length t.listing.rows + place + 2) Values)

-- this value is the first that no map has
abbrev pub IsValuesFault : text.Told → ListFault → Type 0
IsValuesFault t fault = (place : ℕ) × IsFirstWithout (IsValueOf (listing_meant t)) t.listing.values place
    × (fault ≡ Bad (length t.listing.rows + length t.listing.rules + place + 2) Values)

-- What holds of every listing that was read: its dimension is offered, no more darts were made than may be, its rows ascend,
-- are those of darts that were made and as long as they should be, and keep the laws of maps.
pub record IsSoundListing (l : Listing) : Type 0 where
  pub low : 2 ≤ l.dim
  pub high : l.dim ≤ 4
  pub made : l.made ≤ made_max
  pub rows : AreRows l.dim l.rows
  pub within : All (IsMadeRow l.made) l.rows
  pub lawful : All (IsLawfulRow l) l.rows
  pub few : length l.rows < 2 ^ 32 - 2
