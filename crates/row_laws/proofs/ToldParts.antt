-- The reader of a listing, part by part: what goes on behind each word of the header, and behind each section.
use Rattle.std.specs.Prelude.{ℕ, List, [], Option, Result, Ok}
use Rattle.map_defs.specs.Kind.{Kind}
use Rattle.map_defs.specs.Rows.{made_max}
use Rattle.map_defs.specs.Off.{◌>>=◌}
use Rattle.machine_defs.specs.Script as script
use Rattle.machine_defs.specs.Listing.{ListRow, ListRule, ListValue}
use Rattle.machine_defs.specs.ListingLines.{Header, numeral_within, kind_named}
use Rattle.machine_defs.specs.ListingForm.{ListingFault, Unread, rows_read, rules_read, values_read, marks_read, ended, Told, listing_told}
use Rattle.row_laws.proofs.RowsRead.{some}

abbrev pub header_with : ℕ → Kind → ℕ → ℕ → ℕ → Header
header_with v k n m l = record { version = v; kind = k; dim = n; made = m; live = l }

abbrev pub told_live : List ℕ → ℕ → Kind → ℕ → ℕ → Option Header
told_live live v k n m = script.◌>>=◌ (numeral_within 0 m live) (λ l. some (header_with v k n m l))

abbrev pub told_made : List ℕ → List ℕ → ℕ → Kind → ℕ → Option Header
told_made made live v k n = script.◌>>=◌ (numeral_within 0 made_max made) (λ m. told_live live v k n m)

abbrev pub told_dim : List ℕ → List ℕ → List ℕ → ℕ → Kind → Option Header
told_dim dim made live v k = script.◌>>=◌ (numeral_within 2 4 dim) (λ n. told_made made live v k n)

abbrev pub told_kind : List ℕ → List ℕ → List ℕ → List ℕ → ℕ → Option Header
told_kind kind dim made live v = script.◌>>=◌ (kind_named kind) (λ k. told_dim dim made live v k)

abbrev pub given : Told → Result Told ListingFault
given t = Ok t

abbrev pub after_marks : Header → List ListRow → List ListRule → List ListValue → List (List ℕ) × Unread → Result Told ListingFault
after_marks h rows rules values marks = ended marks.1 >>= λ done. given (listing_told h rows rules values marks.0)

abbrev pub after_values : Header → List ListRow → List ListRule → List ListValue × Unread → Result Told ListingFault
after_values h rows rules values = marks_read h.version values.1 >>= after_marks h rows rules values.0

abbrev pub after_rules : Header → List ListRow → List ListRule × Unread → Result Told ListingFault
after_rules h rows rules = values_read rules.1 >>= after_values h rows rules.0

abbrev pub after_rows : Header → List ListRow × Unread → Result Told ListingFault
after_rows h rows = rules_read h.version rows.1 >>= after_rules h rows.0

abbrev pub after_header : Header × Unread → Result Told ListingFault
after_header h = rows_read h.0.dim h.0.made h.0.live [] h.1 >>= after_rows h.0
