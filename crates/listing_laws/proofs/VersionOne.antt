-- What a listing of version 1 is read as.
use Rattle.std.proofs.Common.{◌≡◌, ℕ, ◌==◌, List, [], Result, Ok, Err, cond, refl, sym, ap, ◌∙◌, subst}
use Rattle.map_defs.specs.Off.{◌>>=◌}
use Rattle.machine_defs.specs.Listing.{ListRow, ListRule, ListValue, Listing}
use Rattle.machine_defs.specs.ListingLines.{Header}
use Rattle.machine_defs.specs.ListingForm.{ListingFault, Unread, unread, Told, told, told_left, listing_told, header_read, rows_read, rules_read, values_read, marks_read, ended}
use Rattle.machine_defs.specs.ListingFaults.{Reads, unformed, unlawful, unruled, unvalued, read, listing_meant, rules_of_values}
use Rattle.machine_defs.specs.Script.{lines_of}
use Rattle.row_laws.proofs.RowsRead.{went_on}
use Rattle.row_laws.proofs.ToldParts.{given, after_marks, after_values, after_rules, after_rows, after_header}

abbrev ok : {A : Type 0} → A → Result A ListingFault
ok x = Ok x

ok-one : {A : Type 0} (x y : A) → ok x ≡ ok y → x ≡ y
ok-one x y h = cc

-- version 1 has no lines of marks
no-marks : (left : Unread) (x : List (List ℕ) × Unread) (version : ℕ) → version ≡ 1 → marks_read version left ≡ Ok x → x.0 ≡ []
no-marks left x version one h =
    let same : Ok ([], left) ≡ Ok x = subst (λ (v : ℕ). marks_read v left ≡ Ok x) one h in
    ap (λ (p : List (List ℕ) × Unread). p.0) (sym (ok-one ([], left) x same))

unmarked : (left : Unread) (t : Told) → told_left left ≡ Ok t → t.version ≡ 1 → t.listing.marks ≡ []
unfolding told_left
unmarked left t h one =
    let header = went_on (header_read left) after_header t h in
    let rows = went_on (rows_read header.0.0.dim header.0.0.made header.0.0.live [] header.0.1) (after_rows header.0.0) t header.2 in
    let rules = went_on (rules_read header.0.0.version rows.0.1) (after_rules header.0.0 rows.0.0) t rows.2 in
    let values = went_on (values_read rules.0.1) (after_values header.0.0 rows.0.0 rules.0.0) t rules.2 in
    let marks = went_on (marks_read header.0.0.version values.0.1) (after_marks header.0.0 rows.0.0 rules.0.0 values.0.0) t values.2 in
    let done = went_on (ended marks.0.1) (λ done. given (listing_told header.0.0 rows.0.0 rules.0.0 values.0.0 marks.0.0)) t marks.2 in
    let same : listing_told header.0.0 rows.0.0 rules.0.0 values.0.0 marks.0.0 ≡ t = ok-one (listing_told header.0.0 rows.0.0 rules.0.0 values.0.0 marks.0.0) t done.2 in
    let version : header.0.0.version ≡ 1 = ap (λ (x : Told). x.version) same ∙ one in
    ap (λ (x : Told). x.listing.marks) (sym same) ∙ no-marks values.0.1 marks.0 header.0.0.version version marks.1

-- the listing of these lines, with rules and marks
abbrev with_rules : Listing → List ListRule → List (List ℕ) → Listing
with_rules l rules marks = record { kind = l.kind; dim = l.dim; made = l.made; rows = l.rows; rules = rules; values = l.values; marks = marks }

meant : (t : Told) → t.version ≡ 1 → t.listing.marks ≡ [] → listing_meant t ≡ with_rules t.listing (rules_of_values t.listing.dim t.listing.values) []
meant t one none =
    ap (λ (rules : List ListRule). with_rules t.listing rules t.listing.marks) (at t.version one)
    ∙ ap (λ (marks : List (List ℕ)). with_rules t.listing (rules_of_values t.listing.dim t.listing.values) marks) none
  where
    at : (n : ℕ) → n ≡ 1 → cond (n == 1) (rules_of_values t.listing.dim t.listing.values) t.listing.rules ≡ rules_of_values t.listing.dim t.listing.values
    at n e = rw e refl

pub rules-given : (text : List ℕ) (t : Told) (l : Listing) → told text ≡ Ok t → t.version ≡ 1 → Reads text (Ok l)
    → l ≡ with_rules t.listing (rules_of_values t.listing.dim t.listing.values) []
rules-given text t l tells one (unformed fault e is) = absurd (cc (is))
rules-given text t l tells one (unlawful u place e first is) = absurd (cc (is))
rules-given text t l tells one (unruled u place e all first is) = absurd (cc (is))
rules-given text t l tells one (unvalued u place e all rules first is) = absurd (cc (is))
rules-given text t l tells one (read u e all rules values is) =
    let same : u ≡ t = ok-one u t (sym e ∙ tells) in
    ok-one l (listing_meant u) is ∙ ap listing_meant same ∙ meant t one (unmarked (unread 0 (lines_of text)) t tells one)
