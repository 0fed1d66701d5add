-- Whether a listing whose lines have their form is that of a map, and what reading a text answers. Source: the laws of
-- maps, and this project's format.
use Rattle.std.specs.Prelude.{ℕ, ◌≡◌, ◌≢◌, ◌+◌, ◌<◌, ◌≤◌, ◌==◌, ◌↔◌, List, [], ◌∷◌, ◌++◌, length, map, filter, Option, Some, None, IsSome, All, Any, Result, Ok, Err, if◌then◌else◌}
use Rattle.std.specs.List.{list_any, range_with_len}
use Rattle.map_defs.specs.Kind.{Kind, inverse, IsDistant}
use Rattle.map_defs.specs.Links.{Links}
use Rattle.map_defs.specs.Rows.{entry_of}
use Rattle.map_defs.specs.Cells.{NamesCell}
use Rattle.map_defs.specs.Values.{First, Copied}
use Rattle.machine_defs.specs.Listing.{ListRow, ListRule, ListValue, Listing}
use Rattle.machine_defs.specs.ListingForm.{ListingFault, Laws, Values, Told, told}

-- the row of a dart, if it has one
abbrev pub row_in : List ListRow → ℕ → Option (List ℕ)
row_in [] d = None
row_in (row ∷ rows) d = if row.dart == d then Some row.links else row_in rows d

abbrev pub HasRow : List ListRow → ℕ → Type 0
HasRow rows d = IsSome (row_in rows d)

-- the links that the rows tell
abbrev pub links_in : List ListRow → Links
links_in rows i d = entry_of (row_in rows d) i

-- The laws of maps, as far as they speak of link i of dart d, which leads to e.
pub record KeepsLaws (k : Kind) (rows : List ListRow) (i d e : ℕ) : Type 0 where
  -- e is a live dart
  pub live : HasRow rows e
  -- the inverse link leads back
  pub back : links_in rows (inverse k i) e ≡ d
  -- a link that is its own inverse leads to another dart
  pub apart : inverse k i ≡ i → e ≢ d
  -- the two ends of the link are alike free at each higher distant link
  pub free_alike : (j : ℕ) → IsDistant k i j → i < j → (links_in rows j d ≡ 0) ↔ (links_in rows j e ≡ 0)
  -- and where they are not free, the square of the two links closes
  pub square : (j : ℕ) → IsDistant k i j → i < j → links_in rows j d ≢ 0 → links_in rows (inverse k i) (links_in rows j d) ≡ links_in rows j e

-- each link of d that is not free keeps them
abbrev pub IsLawful : Kind → List ListRow → ℕ → Type 0
IsLawful k rows d = (i : ℕ) → links_in rows i d ≢ 0 → KeepsLaws k rows i d (links_in rows i d)

abbrev pub IsLawfulRow : Listing → ListRow → Type 0
IsLawfulRow l row = IsLawful l.kind l.rows row.dart

-- a rule is one of the map's dimensions
abbrev pub IsRuleOf : Listing → ListRule → Type 0
IsRuleOf l rule = rule.dim ≤ l.dim

-- a value is that of a cell, of a dimension that has a rule
pub record IsValueOf (l : Listing) (v : ListValue) : Type 0 where
  pub within : v.dim ≤ l.dim
  pub ruled : Any (λ (rule : ListRule). rule.dim ≡ v.dim) l.rules
  pub live : HasRow l.rows v.dart
  pub least : NamesCell l.kind (links_in l.rows) v.dim v.dart

-- the first of these without P is that behind so many others
pub record IsFirstWithout {A : Type 0} (P : A → Type 0) (xs : List A) (place : ℕ) : Type 0 where
  pub before : List A
  pub first : A
  pub behind : List A
  pub parts : xs ≡ before ++ first ∷ behind
  pub all : All P before
  pub fails : P first → ⊥
  pub counted : length before ≡ place

-- the rule that version 1 means by a value: cells that join keep the first value, and each piece of a cell gets it whole
abbrev pub first_copy : ℕ → ListRule
first_copy i = record { dim = i; rule = record { merge = First; split = Copied } }

-- a rule for each dimension from 0 to n that has a value
abbrev pub rules_of_values : ℕ → List ListValue → List ListRule
rules_of_values n values = map first_copy (filter (λ (i : ℕ). list_any (λ (v : ListValue). v.dim == i) values) (range_with_len 0 (n + 1)))

-- the rules that the lines tell, or in version 1 mean
abbrev pub rules_meant : Told → List ListRule
rules_meant t = if t.version == 1 then rules_of_values t.listing.dim t.listing.values else t.listing.rules

abbrev pub listing_meant : Told → Listing
listing_meant t = record { kind = t.listing.kind; dim = t.listing.dim; made = t.listing.made; rows = t.listing.rows; rules = rules_meant t; values = t.listing.values; marks = t.listing.marks }

-- What reading a text answers: the first fault of form or order in its lines, or the first row at whose dart a law fails, or
-- the first `rule` or `val` line that no map has, in this order; or the listing. Lines count from 1: the rows stand behind
-- the header, then the rules, then the values.
pub data Reads (text : List ℕ) (answer : Result Listing ListingFault) : Type 0 where
  unformed : (fault : ListingFault) → told text ≡ Err fault → answer ≡ Err fault → Reads text answer
  unlawful : (t : Told) (place : ℕ) → told text ≡ Ok t → IsFirstWithout (IsLawfulRow t.listing) t.listing.rows place
      → answer ≡ Err (record { line = place + 2; what = Laws }) → Reads text answer
  unruled : (t : Told) (place : ℕ) → told text ≡ Ok t → All (IsLawfulRow t.listing) t.listing.rows
      → IsFirstWithout (IsRuleOf t.listing) t.listing.rules place
      → answer ≡ Err (record { line = length t.listing.rows + place + 2; what = Values }) → Reads text answer
  unvalued : (t : Told) (place : ℕ) → told text ≡ Ok t → All (IsLawfulRow t.listing) t.listing.rows
      → All (IsRuleOf t.listing) t.listing.rules → IsFirstWithout (IsValueOf (listing_meant t)) t.listing.values place
      → answer ≡ Err (record { line = length t.listing.rows + length t.listing.rules + place + 2; what = Values }) → Reads text answer
  read : (t : Told) → told text ≡ Ok t → All (IsLawfulRow t.listing) t.listing.rows
      → All (IsRuleOf t.listing) t.listing.rules → All (IsValueOf (listing_meant t)) t.listing.values
      → answer ≡ Ok (listing_meant t) → Reads text answer
