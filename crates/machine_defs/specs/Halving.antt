-- What the command `half` answers to a listing: the listing of the oriented half of a generalized map, or of the double of
-- a combinatorial map, and the darts that it is made from; or the line that says why there is none. Source: this project's.
use Rattle.std.specs.Prelude.{ℕ, ◌≡◌, ◌⊎◌, ◌+◌, List, [], ◌++◌, length, Ok, Err, codes}
use Rattle.map_defs.specs.Kind.{Kind, alpha, beta}
use Rattle.map_defs.specs.Links.{Links}
use Rattle.map_defs.specs.Rows.{Rows, links_of, made}
use Rattle.half_defs.specs.Orientation.{Sign, IsPositive, OrientFault, Boundary, Folded, Odd, HasFault, IsOriented}
use Rattle.half_defs.specs.Halves.{AreOrigins, IsHalf, IsDouble, HasDarts}
use Rattle.machine_defs.specs.Listing.{Listing, live_rows_from}
use Rattle.machine_defs.specs.ListingForm.{ListingFault}
use Rattle.machine_defs.specs.ListingFaults.{HasRow, links_in, Reads}
use Rattle.machine_defs.specs.Text.{listing_text, numbers_text, ended, spaced}
use Rattle.machine_defs.specs.Auditing.{fault_line}

-- a boundary; a fold, with its dart and its link; an odd walk, with the dart that it starts from
abbrev pub orient_line : OrientFault → List ℕ
orient_line Boundary = ended (codes "half Boundary")
orient_line (Folded d i) = ended (codes "half Folded" ++ spaced d ++ spaced i)
orient_line (Odd d links) = ended (codes "half odd" ++ spaced d)

-- the listing of a map that has rows alone
abbrev pub listing_of_rows : Kind → ℕ → Rows → Listing
listing_of_rows kind n rows = record {
  kind = kind;
  dim = n;
  made = made rows;
  rows = live_rows_from 0 rows;
  rules = [];
  values = [];
  marks = [];
}

-- the listing of the new map, and then the old darts that its darts stand for, by their ranks
abbrev pub half_text : Kind → ℕ → Rows → List ℕ → List ℕ
half_text kind n rows origins = listing_text (listing_of_rows kind n rows) ++ numbers_text (codes "from") origins

-- the text tells the half of a generalized map of dimension n
pub record TellsHalf (n : ℕ) (Live : ℕ → Type 0) (L : Links) (text : List ℕ) : Type 0 where
  pub signs : List Sign
  pub origins : List ℕ
  pub rows : Rows
  pub oriented : IsOriented n Live L signs
  pub positive : AreOrigins (IsPositive signs) origins
  pub darts : HasDarts n (length origins) rows
  pub half : IsHalf n L origins (links_of rows)
  pub told : text ≡ half_text beta n rows origins

-- the text tells the double of a combinatorial map of dimension n
pub record TellsDouble (n : ℕ) (Live : ℕ → Type 0) (L : Links) (text : List ℕ) : Type 0 where
  pub origins : List ℕ
  pub rows : Rows
  pub live : AreOrigins Live origins
  pub darts : HasDarts n (length origins + length origins) rows
  pub double : IsDouble n L origins (links_of rows)
  pub told : text ≡ half_text alpha n rows origins

-- the text and the status for a map, by its kind: a combinatorial map always has a double
abbrev pub MapHalfAnswer : Kind → ℕ → (ℕ → Type 0) → Links → List ℕ → ℕ → Type 0
MapHalfAnswer alpha n Live L text status =
    ((fault : OrientFault) × HasFault n Live L fault × (text ≡ orient_line fault) × (status ≡ 3))
    ⊎ (TellsHalf n Live L text × (status ≡ 0))
MapHalfAnswer beta n Live L text status = TellsDouble n Live L text × (status ≡ 0)

-- the text and the status for the bytes of a listing
abbrev pub HalfAnswer : List ℕ → List ℕ → ℕ → Type 0
HalfAnswer bytes text status =
    ((fault : ListingFault) × Reads bytes (Err fault) × (text ≡ fault_line fault) × (status ≡ 3))
    ⊎ ((listing : Listing) × Reads bytes (Ok listing)
    × MapHalfAnswer listing.kind listing.dim (HasRow listing.rows) (links_in listing.rows) text status)
