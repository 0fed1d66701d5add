-- How many lines are read.
use Rattle.std.proofs.Common.{◌≡◌, ℕ, zero, suc, ◌+◌, ◌==◌, Bool, true, false, cond, codes, List, [], ◌∷◌, ◌++◌, length, drop, Result, Ok, sym, ap, ◌∙◌, arith}
use Rattle.std.specs.List.{starts_with}
use Rattle.std.proofs.lemmas.List.{length-append}
use Rattle.map_defs.specs.Off.{◌>>=◌}
use Rattle.machine_defs.specs.Listing.{ListRow, ListRule, ListValue}
use Rattle.machine_defs.specs.ListingLines.{Header, header_of, row_of, rule_of, value_of, words_between}
use Rattle.machine_defs.specs.ListingForm.{ListingWhat, ListingFault, Unread, unread, line_of, next_line, on_line, formed, put, put_row, put_rule, put_value, last_of, rises, is_row_below, is_rule_below, is_value_below, taken, row_taken, rule_taken, value_taken, rows_read, all_read, rules_read, values_read, header_read}
use Rattle.row_laws.proofs.RowsRead.{ok_is, went_on, on_line-is}

put-adds : {A : Type 0} (ordered : Bool) (known more : List A) (x : A) → put ordered known x ≡ Ok more → length more ≡ length known + 1
put-adds true known more x h = rw (sym (ok_is (known ++ x ∷ []) more h)) (length-append known (x ∷ []))
put-adds false known more x h = absurd cc

-- each line adds one
abbrev pub Adds : {A : Type 0} → (List A → List ℕ → Result (List A) ListingWhat) → Type 0
Adds {A} take = (known more : List A) (text : List ℕ) → take known text ≡ Ok more → length more ≡ length known + 1

pub row-adds : (n made : ℕ) → Adds (row_taken n made)
row-adds n made known more text h =
    let row = went_on (formed (row_of n made text)) (put_row known) more h in
    put-adds (rises is_row_below (last_of known) row.0) known more row.0 row.2

pub rule-adds : Adds rule_taken
rule-adds known more text h =
    let rule = went_on (formed (rule_of (words_between text))) (put_rule known) more h in
    put-adds (rises is_rule_below (last_of known) rule.0) known more rule.0 rule.2

pub value-adds : Adds value_taken
value-adds known more text h =
    let v = went_on (formed (value_of (words_between text))) (put_value known) more h in
    put-adds (rises is_value_below (last_of known) v.0) known more v.0 v.2

line-next : (line : ℕ) (pieces : List (List ℕ)) (x : List ℕ × Unread) → line_of line pieces ≡ Ok x → x.1.line ≡ line + 1
line-next line [] x h = absurd cc
line-next line (text ∷ []) x h = absurd cc
line-next line (text ∷ next ∷ others) x h = ap (λ (p : List ℕ × Unread). p.1.line) (sym (ok_is (text, unread (line + 1) (next ∷ others)) x h))

abbrev pair : {A : Type 0} → List A → Unread → Result (List A × Unread) ListingFault
pair more left = Ok (more, left)

-- a line that is taken is counted
pub taken-counted : {A : Type 0} (take : List A → List ℕ → Result (List A) ListingWhat) (count : ℕ) (known : List A) (left : Unread) (x : List A × Unread) → Adds take → taken take count known left ≡ Ok x
    → (x.1.line ≡ left.line + 1) × (length x.0 ≡ length known + 1)
unfolding taken
taken-counted take count known left x adds h =
    let line = went_on (next_line left) (λ line. on_line line.1.line (take known (drop count line.0)) >>= λ more. pair more line.1) x h in
    let more = went_on (on_line line.0.1.line (take known (drop count line.0.0))) (λ more. pair more line.0.1) x line.2 in
    let same = sym (ok_is (more.0, line.0.1) x more.2) in
    let told = on_line-is line.0.1.line (take known (drop count line.0.0)) more.0 more.1 in
    (ap (λ (p : List _ × Unread). p.1.line) same ∙ line-next left.line left.pieces line.0 line.1, ap (λ (p : List _ × Unread). length p.0) same ∙ adds known more.0 (drop count line.0.0) told)

pub rows-counted : (n made owed : ℕ) (known : List ListRow) (left : Unread) (x : List ListRow × Unread) → rows_read n made owed known left ≡ Ok x → x.1.line + length known ≡ left.line + length x.0
rows-counted n made zero known left x h =
    let same = sym (ok_is (known, left) x h) in
    let line : x.1.line ≡ left.line = ap (λ (p : List ListRow × Unread). p.1.line) same in
    let items : length x.0 ≡ length known = ap (λ (p : List ListRow × Unread). length p.0) same in
    omega arith
rows-counted n made (suc owed) known left x h =
    let more = went_on (taken (row_taken n made) 0 known left) (λ more. rows_read n made owed more.0 more.1) x h in
    let one = taken-counted (row_taken n made) 0 known left more.0 (row-adds n made) more.1 in
    let rest = rows-counted n made owed more.0.0 more.0.1 x more.2 in
    let a = one.0 in
    let b = one.1 in
    omega (arith, a, b, rest)

pub section-counted : {A : Type 0} (front : List ℕ) (take : List A → List ℕ → Result (List A) ListingWhat) (known : List A) (line : ℕ) (pieces : List (List ℕ)) (x : List A × Unread) → Adds take
    → all_read front take known line pieces ≡ Ok x → x.1.line + length known ≡ line + length x.0
section-counted {A = A} front take known line [] x adds h =
    let same = sym (ok_is (known, unread line []) x h) in
    let last : x.1.line ≡ line = ap (λ (p : List A × Unread). p.1.line) same in
    let items : length x.0 ≡ length known = ap (λ (p : List A × Unread). length p.0) same in
    omega arith
section-counted {A = A} front take known line (text ∷ others) x adds h =
    at (starts_with ◌==◌ text front) h (λ more e. section-counted front take more (line + 1) others x adds e)
  where
    at : (b : Bool) → cond b (taken take (length front) known (unread line (text ∷ others)) >>= λ more. all_read front take more.0 (line + 1) others) (pair known (unread line (text ∷ others))) ≡ Ok x
        → ((more : List A) → all_read front take more (line + 1) others ≡ Ok x → x.1.line + length more ≡ line + 1 + length x.0) → x.1.line + length known ≡ line + length x.0
    at true h below =
        let more = went_on (taken take (length front) known (unread line (text ∷ others))) (λ more. all_read front take more.0 (line + 1) others) x h in
        let one = taken-counted take (length front) known (unread line (text ∷ others)) more.0 adds more.1 in
        let b = one.1 in
        let rest = below more.0.0 more.2 in
        omega (arith, b, rest)
    at false h below =
        let same = sym (ok_is (known, unread line (text ∷ others)) x h) in
        let last : x.1.line ≡ line = ap (λ (p : List A × Unread). p.1.line) same in
        let items : length x.0 ≡ length known = ap (λ (p : List A × Unread). length p.0) same in
        omega arith

pub rules-counted : (version : ℕ) (left : Unread) (x : List ListRule × Unread) → rules_read version left ≡ Ok x → x.1.line ≡ left.line + length x.0
rules-counted version left x h = at (version == 1) h
  where
    at : (b : Bool) → cond b (pair [] left) (all_read (codes "rule ") rule_taken [] left.line left.pieces) ≡ Ok x → x.1.line ≡ left.line + length x.0
    at true h =
        let same = sym (ok_is ([], left) x h) in
        let last : x.1.line ≡ left.line = ap (λ (p : List ListRule × Unread). p.1.line) same in
        let items : length x.0 ≡ 0 = ap (λ (p : List ListRule × Unread). length p.0) same in
        omega arith
    at false h = let e = section-counted (codes "rule ") rule_taken [] left.line left.pieces x rule-adds h in omega (arith, e)

pub values-counted : (left : Unread) (x : List ListValue × Unread) → values_read left ≡ Ok x → x.1.line ≡ left.line + length x.0
values-counted left x h = let e = section-counted (codes "val ") value_taken [] left.line left.pieces x value-adds h in omega (arith, e)

abbrev headed : Header → Unread → Result (Header × Unread) ListingFault
headed header left = Ok (header, left)

-- the header is one line
pub header-counted : (left : Unread) (x : Header × Unread) → header_read left ≡ Ok x → x.1.line ≡ left.line + 1
unfolding header_read
header-counted left x h =
    let line = went_on (next_line left) (λ line. on_line line.1.line (formed (header_of (words_between line.0))) >>= λ header. headed header line.1) x h in
    let header = went_on (on_line line.0.1.line (formed (header_of (words_between line.0.0)))) (λ header. headed header line.0.1) x line.2 in
    ap (λ (p : Header × Unread). p.1.line) (sym (ok_is (header.0, line.0.1) x header.2)) ∙ line-next left.line left.pieces line.0 line.1
