-- The rows of a listing that is read are those of a lawful map.
use Rattle.std.proofs.Common.{◌≡◌, ℕ, List, [], ◌∙◌, Ok, sym, subst, arith}
use Rattle.std.specs.Prelude.{All}
use Rattle.map_defs.specs.Links.{LeadsToLive, HasDimension}
use Rattle.map_defs.specs.Laws.{Laws}
use Rattle.machine_defs.specs.Listing.{ListRow, Listing}
use Rattle.machine_defs.specs.Script.{lines_of}
use Rattle.machine_defs.specs.ListingForm.{Unread, unread, header_read, rows_read, Told, told_left}
use Rattle.machine_defs.specs.ListingFaults.{HasRow, links_in, IsLawfulRow, listing_meant, Reads, unformed, unlawful, unruled, unvalued, read}
use Rattle.row_laws.specs.Rows.{IsRow, AreRows}
use Rattle.row_laws.proofs.RowsRead.{ok_is, went_on, rows_read-are, no_rows}
use Rattle.row_laws.proofs.RowsAt.{link-above}
use Rattle.row_laws.proofs.RowPlaces.{dart-at, place-of}
use Rattle.row_laws.proofs.ToldParts.{after_rows, after_header}
use Rattle.row_laws.proofs.RowBytes.{listing-kept}
use Rattle.row_laws.proofs.LawfulRows.{keeps, listed-laws}

pub record IsListedMap (l : Listing) : Type 0 where
  pub laws : Laws l.kind (links_in l.rows)
  pub live : LeadsToLive (HasRow l.rows) (links_in l.rows)
  pub dimension : HasDimension l.dim (links_in l.rows)
  pub nothing : HasRow l.rows 0 → ⊥

-- the rows of what is told ascend, and are those of darts with all entries
told-rows : (left : Unread) (t : Told) → told_left left ≡ Ok t → AreRows t.listing.dim t.listing.rows
unfolding told_left
told-rows left t h =
    let header = went_on (header_read left) after_header t h in
    let rows = went_on (rows_read header.0.0.dim header.0.0.made header.0.0.live [] header.0.1) (after_rows header.0.0) t header.2 in
    let kept = listing-kept header.0.0 rows.0 t rows.2 in
    let are = rows_read-are header.0.0.dim header.0.0.made header.0.0.live [] header.0.1 rows.0 (no_rows header.0.0.dim) rows.1 in
    subst (AreRows t.listing.dim) (sym kept.0) (subst (λ (n : ℕ). AreRows n rows.0.0) (sym kept.1) are)

-- 0 is the dart of none of them
no-zero : (n : ℕ) (rows : List ListRow) → AreRows n rows → HasRow rows 0 → ⊥
no-zero n rows are has =
    let place = place-of rows 0 has in
    let at = dart-at rows place.0 place.1 in
    let some = (subst (IsRow n) at.1 (are.each place.0 at.0 place.1)).0 in
    let none : at.0.dart ≡ 0 = sym at.2 ∙ place.2 in
    omega (arith, some, none)

told-map : (l : Listing) → AreRows l.dim l.rows → All (IsLawfulRow l) l.rows → IsListedMap l
told-map l are lawful =
    let none = no-zero l.dim l.rows are in
    record {
      laws = listed-laws l.kind l.rows none lawful;
      live = λ i d linked. (keeps l.kind l.rows none lawful i d linked).live;
      dimension = λ i d high. link-above l.dim l.rows i d are.each high;
      nothing = none;
    }

pub listed-map : (text : List ℕ) (l : Listing) → Reads text (Ok l) → IsListedMap l
listed-map text l (unformed fault e is) = absurd cc
listed-map text l (unlawful t place e first is) = absurd cc
listed-map text l (unruled t place e all first is) = absurd cc
listed-map text l (unvalued t place e all rules first is) = absurd cc
listed-map text l (read t e all rules values is) =
    let same : l ≡ listing_meant t = ok_is l (listing_meant t) is in
    subst IsListedMap (sym same) (told-map (listing_meant t) (told-rows (unread 0 (lines_of text)) t e) all)
