-- A listing of version 2 that is read is written again byte for byte.
use Rattle.std.proofs.Common.{◌≡◌, ℕ, zero, suc, ◌+◌, ◌==◌, Bool, true, false, not, cond, codes, List, [], ◌∷◌, ◌++◌, length, drop, Result, Ok, refl, sym, ap, ◌∙◌, subst, arith, append_assoc, append-nil}
use Rattle.std.specs.List.{flat_map, starts_with, join_with_byte, list_any}
use Rattle.std.specs.Str.{bytes_eq}
use Rattle.std.proofs.lemmas.List.{length-append}
use Rattle.std.proofs.lemmas.List.Splits.{join_with_byte-slice_split}
use Rattle.map_defs.specs.Kind.{letter}
use Rattle.map_defs.specs.Off.{◌>>=◌}
use Rattle.machine_defs.specs.Script.{lines_of, name}
use Rattle.machine_defs.specs.Listing.{ListRow, ListRule, ListValue, Listing}
use Rattle.machine_defs.specs.ListingLines.{Header, header_of, row_of, rule_of, value_of, words_between}
use Rattle.machine_defs.specs.ListingForm.{ListingWhat, ListingFault, Form, Unread, unread, bad, line_of, next_line, on_line, formed, put, put_row, put_rule, put_value, put_mark, last_of, rises, is_row_below, is_rule_below, is_value_below, taken, row_taken, rule_taken, value_taken, mark_taken, rows_read, all_read, rules_read, values_read, marks_read, header_read, closed, ended, Told, listing_told, told_left, told}
use Rattle.machine_defs.specs.ListingFaults.{unformed, unlawful, unruled, unvalued, read, rules_meant, listing_meant}
use Rattle.machine_defs.specs.Text as written
use Rattle.machine_defs.specs.Text.{header_line, row_text, rule_text, value_text, mark_text, listing_text}
use Rattle.list_text.specs.Again.{IsWrittenAgain}
use Rattle.row_laws.proofs.RowsRead.{ok_is, went_on, formed-is, on_line-is}
use Rattle.row_laws.proofs.SpelledWords.{same-bytes, name-is, begins-so}
use Rattle.row_laws.proofs.ToldParts.{given, after_marks, after_values, after_rules, after_rows, after_header}
use Rattle.list_text.proofs.LinesAgain.{header-line, row-line, rule-line, value-line}

-- what is left, as a text
abbrev text_left : Unread → List ℕ
text_left left = join_with_byte 10 left.pieces

line-text : (line : ℕ) (pieces : List (List ℕ)) (x : List ℕ × Unread) → line_of line pieces ≡ Ok x → join_with_byte 10 pieces ≡ x.0 ++ 10 ∷ text_left x.1
line-text line [] x h = absurd cc
line-text line (rest ∷ []) x h = absurd cc
line-text line (text ∷ next ∷ others) x h = ap (λ (p : List ℕ × Unread). p.0 ++ 10 ∷ text_left p.1) (ok_is (text, unread (line + 1) (next ∷ others)) x h)

put-is : {A : Type 0} (ordered : Bool) (known more : List A) (x : A) → put ordered known x ≡ Ok more → more ≡ known ++ x ∷ []
put-is true known more x h = sym (ok_is (known ++ x ∷ []) more h)
put-is false known more x h = absurd cc

-- what stands behind the front of a line adds one, which writes the line
abbrev Writes : {A : Type 0} → List ℕ → (List A → List ℕ → Result (List A) ListingWhat) → (A → List ℕ) → Type 0
Writes {A} front take text = (known more : List A) (rest : List ℕ) → take known rest ≡ Ok more → (x : A) × (more ≡ known ++ x ∷ []) × (front ++ rest ++ 10 ∷ [] ≡ text x)

row-writes : (n made : ℕ) → Writes [] (row_taken n made) row_text
row-writes n made known more rest h =
    let row = went_on (formed (row_of n made rest)) (put_row known) more h in
    (row.0, put-is (rises is_row_below (last_of known) row.0) known more row.0 row.2, row-line n made rest row.0 (formed-is (row_of n made rest) row.0 row.1))

rule-writes : Writes (codes "rule ") rule_taken rule_text
rule-writes known more rest h =
    let rule = went_on (formed (rule_of (words_between rest))) (put_rule known) more h in
    (rule.0, put-is (rises is_rule_below (last_of known) rule.0) known more rule.0 rule.2, rule-line rest rule.0 (formed-is (rule_of (words_between rest)) rule.0 rule.1))

value-writes : Writes (codes "val ") value_taken value_text
value-writes known more rest h =
    let v = went_on (formed (value_of (words_between rest))) (put_value known) more h in
    (v.0, put-is (rises is_value_below (last_of known) v.0) known more v.0 v.2, value-line rest v.0 (formed-is (value_of (words_between rest)) v.0 v.1))

mark-writes : Writes (codes "mark ") mark_taken mark_text
mark-writes known more rest h =
    let m = went_on (formed (name rest)) (put_mark known) more h in
    let is : rest ≡ m.0 = name-is rest m.0 (formed-is (name rest) m.0 m.1) in
    (m.0, put-is (not (list_any (bytes_eq m.0) known)) known more m.0 m.2, ap (λ (xs : List ℕ). codes "mark " ++ xs ++ 10 ∷ []) is)

abbrev pair : {A : Type 0} → A → Unread → Result (A × Unread) ListingFault
pair x left = Ok (x, left)

-- one line that begins so
taken-writes : {A : Type 0} (front : List ℕ) (take : List A → List ℕ → Result (List A) ListingWhat) (text : A → List ℕ) (known : List A) (left : Unread) (x : List A × Unread) → Writes front take text
    → ((line : List ℕ × Unread) → next_line left ≡ Ok line → line.0 ≡ front ++ drop (length front) line.0) → taken take (length front) known left ≡ Ok x
    → (y : A) × (x.0 ≡ known ++ y ∷ []) × (text_left left ≡ text y ++ text_left x.1)
unfolding taken
taken-writes {A = A} front take text known left x writes begins h =
    let line = went_on (next_line left) (λ line. on_line line.1.line (take known (drop (length front) line.0)) >>= λ more. pair more line.1) x h in
    let more = went_on (on_line line.0.1.line (take known (drop (length front) line.0.0))) (λ more. pair more line.0.1) x line.2 in
    let same = sym (ok_is (more.0, line.0.1) x more.2) in
    let one = writes known more.0 (drop (length front) line.0.0) (on_line-is line.0.1.line (take known (drop (length front) line.0.0)) more.0 more.1) in
    let whole : line.0.0 ++ 10 ∷ [] ≡ text one.0 = ap (λ (xs : List ℕ). xs ++ 10 ∷ []) (begins line.0 line.1) ∙ one.2 in
    let items : x.0 ≡ known ++ one.0 ∷ [] = ap (λ (p : List A × Unread). p.0) same ∙ one.1 in
    let rest : x.1 ≡ line.0.1 = ap (λ (p : List A × Unread). p.1) same in (
      one.0,
      items,
      line-text left.line left.pieces line.0 line.1
          ∙ (sym (append_assoc line.0.0 (10 ∷ []) (text_left line.0.1)) ∙ (ap (λ (xs : List ℕ). xs ++ text_left line.0.1) whole ∙ ap (λ (u : Unread). text one.0 ++ text_left u) (sym rest))),
    )

abbrev Written : {A : Type 0} → (A → List ℕ) → List A → List ℕ → List A × Unread → Type 0
Written {A} text known before x = (more : List A) × (x.0 ≡ known ++ more) × (before ≡ flat_map text more ++ text_left x.1)

none-written : {A : Type 0} (text : A → List ℕ) (known : List A) (left : Unread) (x : List A × Unread) → pair known left ≡ Ok x → Written text known (text_left left) x
none-written {A = A} text known left x h =
    let same = sym (ok_is (known, left) x h) in
    ([], ap (λ (p : List A × Unread). p.0) same ∙ sym (append-nil known), ap (λ (p : List A × Unread). text_left p.1) (sym same))

one-written : {A : Type 0} (text : A → List ℕ) (known middle : List A) (y : A) (before between : List ℕ) (x : List A × Unread) → middle ≡ known ++ y ∷ [] → before ≡ text y ++ between
    → Written text middle between x → Written text known before x
one-written text known middle y before between x items front more = (
  y ∷ more.0,
  more.1 ∙ (ap (λ (m : List _). m ++ more.0) items ∙ append_assoc known (y ∷ []) more.0),
  front ∙ (ap (λ (xs : List ℕ). text y ++ xs) more.2 ∙ sym (append_assoc (text y) (flat_map text more.0) (text_left x.1))),
)

rows-written : (n made owed : ℕ) (known : List ListRow) (left : Unread) (x : List ListRow × Unread) → rows_read n made owed known left ≡ Ok x → Written row_text known (text_left left) x
rows-written n made zero known left x h = none-written row_text known left x h
rows-written n made (suc owed) known left x h =
    let more = went_on (taken (row_taken n made) 0 known left) (λ more. rows_read n made owed more.0 more.1) x h in
    let one = taken-writes [] (row_taken n made) row_text known left more.0 (row-writes n made) (λ line e. refl) more.1 in
    one-written row_text known more.0.0 one.0 (text_left left) (text_left more.0.1) x one.1 one.2 (rows-written n made owed more.0.0 more.0.1 x more.2)

rows-long : (n made owed : ℕ) (known : List ListRow) (left : Unread) (x : List ListRow × Unread) → rows_read n made owed known left ≡ Ok x → length x.0 ≡ length known + owed
rows-long n made zero known left x h =
    let same : length x.0 ≡ length known = ap (λ (p : List ListRow × Unread). length p.0) (sym (ok_is (known, left) x h)) in
    omega arith
rows-long n made (suc owed) known left x h =
    let more = went_on (taken (row_taken n made) 0 known left) (λ more. rows_read n made owed more.0 more.1) x h in
    let one = taken-writes [] (row_taken n made) row_text known left more.0 (row-writes n made) (λ line e. refl) more.1 in
    let rest = rows-long n made owed more.0.0 more.0.1 x more.2 in
    let long : length more.0.0 ≡ length known + 1 = ap length one.1 ∙ length-append known (one.0 ∷ []) in
    omega (arith, rest, long)

next-is : (line : ℕ) (piece : List ℕ) (rest : List (List ℕ)) (l : List ℕ × Unread) → line_of line (piece ∷ rest) ≡ Ok l → l.1.pieces ≡ rest
next-is line piece [] l e = absurd cc
next-is line piece (next ∷ rest) l e = ap (λ (p : List ℕ × Unread). p.1.pieces) (sym (ok_is (piece, unread (line + 1) (next ∷ rest)) l e))

left-is : {A : Type 0} (count : ℕ) (take : List A → List ℕ → Result (List A) ListingWhat) (known : List A) (line : ℕ) (piece : List ℕ) (others : List (List ℕ)) (more : List A × Unread)
    → taken take count known (unread line (piece ∷ others)) ≡ Ok more → more.1.pieces ≡ others
unfolding taken
left-is {A = A} count take known line piece others more e =
    let l = went_on (next_line (unread line (piece ∷ others))) (λ l. on_line l.1.line (take known (drop count l.0)) >>= λ m. pair m l.1) more e in
    let m = went_on (on_line l.0.1.line (take known (drop count l.0.0))) (λ m. pair m l.0.1) more l.2 in
    ap (λ (p : List A × Unread). p.1.pieces) (sym (ok_is (m.0, l.0.1) more m.2)) ∙ next-is line piece others l.0 l.1

section-written : {A : Type 0} (front : List ℕ) (take : List A → List ℕ → Result (List A) ListingWhat) (text : A → List ℕ) (known : List A) (line : ℕ) (pieces : List (List ℕ)) (x : List A × Unread) → Writes front take text
    → all_read front take known line pieces ≡ Ok x → Written text known (join_with_byte 10 pieces) x
section-written front take text known line [] x writes h = none-written text known (unread line []) x h
section-written {A = A} front take text known line (piece ∷ others) x writes h =
    at (starts_with ◌==◌ piece front) refl h (λ middle e. section-written front take text middle (line + 1) others x writes e)
  where
    begins : starts_with ◌==◌ piece front ≡ true → (rest : List (List ℕ)) (l : List ℕ × Unread) → line_of line (piece ∷ rest) ≡ Ok l → l.0 ≡ front ++ drop (length front) l.0
    begins is [] l e = absurd cc
    begins is (next ∷ rest) l e =
        let same : piece ≡ l.0 = ap (λ (p : List ℕ × Unread). p.0) (ok_is (piece, unread (line + 1) (next ∷ rest)) l e) in
        subst (λ (t : List ℕ). t ≡ front ++ drop (length front) t) same (begins-so front piece is)

    at : (b : Bool) → starts_with ◌==◌ piece front ≡ b
        → cond b (taken take (length front) known (unread line (piece ∷ others)) >>= λ more. all_read front take more.0 (line + 1) others) (pair known (unread line (piece ∷ others))) ≡ Ok x
        → ((middle : List A) → all_read front take middle (line + 1) others ≡ Ok x → Written text middle (join_with_byte 10 others) x) → Written text known (join_with_byte 10 (piece ∷ others)) x
    at true is h below =
        let more = went_on (taken take (length front) known (unread line (piece ∷ others))) (λ more. all_read front take more.0 (line + 1) others) x h in
        let one = taken-writes front take text known (unread line (piece ∷ others)) more.0 writes (begins is others) more.1 in
        one-written text known more.0.0 one.0 (join_with_byte 10 (piece ∷ others)) (join_with_byte 10 others) x one.1
        (one.2 ∙ ap (λ (ps : List (List ℕ)). text one.0 ++ join_with_byte 10 ps) (left-is (length front) take known line piece others more.0 more.1)) (below more.0.0 more.2)
    at false is h below = none-written text known (unread line (piece ∷ others)) x h

rules-written : (left : Unread) (x : List ListRule × Unread) → rules_read 2 left ≡ Ok x → Written rule_text [] (text_left left) x
rules-written left x h = section-written (codes "rule ") rule_taken rule_text [] left.line left.pieces x rule-writes h

marks-written : (left : Unread) (x : List (List ℕ) × Unread) → marks_read 2 left ≡ Ok x → Written mark_text [] (text_left left) x
marks-written left x h = section-written (codes "mark ") mark_taken mark_text [] left.line left.pieces x mark-writes h

values-written : (left : Unread) (x : List ListValue × Unread) → values_read left ≡ Ok x → Written value_text [] (text_left left) x
values-written left x h = section-written (codes "val ") value_taken value_text [] left.line left.pieces x value-writes h

header-written : (left : Unread) (x : Header × Unread) → header_read left ≡ Ok x → x.0.version ≡ 2 → text_left left ≡ header_line (letter x.0.kind) x.0.dim x.0.made x.0.live ++ text_left x.1
unfolding header_read
header-written left x h v =
    let line = went_on (next_line left) (λ line. on_line line.1.line (formed (header_of (words_between line.0))) >>= λ header. pair header line.1) x h in
    let header = went_on (on_line line.0.1.line (formed (header_of (words_between line.0.0)))) (λ header. pair header line.0.1) x line.2 in
    let same = ok_is (header.0, line.0.1) x header.2 in
    let told = formed-is (header_of (words_between line.0.0)) header.0 (on_line-is line.0.1.line (formed (header_of (words_between line.0.0))) header.0 header.1) in
    let two : header.0.version ≡ 2 = ap (λ (p : Header × Unread). p.0.version) same ∙ v in
    let text : line.0.0 ++ 10 ∷ [] ≡ header_line (letter header.0.kind) header.0.dim header.0.made header.0.live =
    ap (λ (xs : List ℕ). xs ++ 10 ∷ []) (sym (join_with_byte-slice_split 32 line.0.0)) ∙ header-line (words_between line.0.0) header.0 told two in
    line-text left.line left.pieces line.0 line.1
    ∙ (sym (append_assoc line.0.0 (10 ∷ []) (text_left line.0.1)) ∙ (ap (λ (xs : List ℕ). xs ++ text_left line.0.1) text ∙ ap (λ (p : Header × Unread). header_line (letter p.0.kind) p.0.dim p.0.made p.0.live ++ text_left p.1) same))

closed-is : (line : ℕ) (pieces : List (List ℕ)) (u : Unit {0}) → closed line pieces ≡ Ok u → join_with_byte 10 pieces ≡ []
closed-is line [] u h = absurd cc
closed-is line ([] ∷ []) u h = refl
closed-is line ([] ∷ piece ∷ others) u h = absurd cc
closed-is line ((b ∷ bs) ∷ others) u h = absurd cc

ended-written : (left : Unread) (u : Unit {0}) → ended left ≡ Ok u → text_left left ≡ written.ended (codes "end")
unfolding ended
ended-written left u h =
    let line = went_on (next_line left) (λ line. cond (bytes_eq line.0 (codes "end")) (closed line.1.line line.1.pieces) (bad line.1.line Form)) u h in
    at line.0 (bytes_eq line.0.0 (codes "end")) refl line.2 (line-text left.line left.pieces line.0 line.1)
  where
    at : (line : List ℕ × Unread) (b : Bool) → bytes_eq line.0 (codes "end") ≡ b → cond b (closed line.1.line line.1.pieces) (bad line.1.line Form) ≡ Ok u → text_left left ≡ line.0 ++ 10 ∷ text_left line.1
        → text_left left ≡ written.ended (codes "end")
    at line true is h text = text ∙ (ap (λ (xs : List ℕ). xs ++ 10 ∷ text_left line.1) (same-bytes line.0 (codes "end") is) ∙ ap (λ (xs : List ℕ). codes "end" ++ 10 ∷ xs) (closed-is line.1.line line.1.pieces u h))
    at line false is h text = absurd cc

together : (text a b c d e f t1 t2 t3 t4 t5 : List ℕ) → text ≡ a ++ t1 → t1 ≡ b ++ t2 → t2 ≡ c ++ t3 → t3 ≡ d ++ t4 → t4 ≡ e ++ t5 → t5 ≡ f → text ≡ a ++ b ++ c ++ d ++ e ++ f
together text a b c d e f t1 t2 t3 t4 t5 h1 h2 h3 h4 h5 h6 = rw (h1, h2, h3, h4, h5, h6) (simp append_assoc refl)

told-written : (left : Unread) (t : Told) → told_left left ≡ Ok t → t.version ≡ 2 → text_left left ≡ listing_text t.listing
unfolding told_left
told-written left t h v =
    let header = went_on (header_read left) after_header t h in
    let rows = went_on (rows_read header.0.0.dim header.0.0.made header.0.0.live [] header.0.1) (after_rows header.0.0) t header.2 in
    let rules = went_on (rules_read header.0.0.version rows.0.1) (after_rules header.0.0 rows.0.0) t rows.2 in
    let values = went_on (values_read rules.0.1) (after_values header.0.0 rows.0.0 rules.0.0) t rules.2 in
    let marks = went_on (marks_read header.0.0.version values.0.1) (after_marks header.0.0 rows.0.0 rules.0.0 values.0.0) t values.2 in
    let done = went_on (ended marks.0.1) (λ done. given (listing_told header.0.0 rows.0.0 rules.0.0 values.0.0 marks.0.0)) t marks.2 in
    let same = ok_is (listing_told header.0.0 rows.0.0 rules.0.0 values.0.0 marks.0.0) t done.2 in
    let two : header.0.0.version ≡ 2 = ap (λ (x : Told). x.version) same ∙ v in
    let long = rows-long header.0.0.dim header.0.0.made header.0.0.live [] header.0.1 rows.0 rows.1 in
    let live : header.0.0.live ≡ length rows.0.0 = omega (arith, long) in
    let rr = rows-written header.0.0.dim header.0.0.made header.0.0.live [] header.0.1 rows.0 rows.1 in
    let ur = rules-written rows.0.1 rules.0 (ap (λ (n : ℕ). rules_read n rows.0.1) (sym two) ∙ rules.1) in
    let vr = values-written rules.0.1 values.0 values.1 in
    let mr = marks-written values.0.1 marks.0 (ap (λ (n : ℕ). marks_read n values.0.1) (sym two) ∙ marks.1) in
    subst (λ (x : Told). text_left left ≡ listing_text x.listing) same
    (together (text_left left) (header_line (letter header.0.0.kind) header.0.0.dim header.0.0.made (length rows.0.0)) (flat_map row_text rows.0.0) (flat_map rule_text rules.0.0) (flat_map value_text values.0.0)
    (flat_map mark_text marks.0.0) (written.ended (codes "end"))
    (text_left header.0.1) (text_left rows.0.1) (text_left rules.0.1) (text_left values.0.1) (text_left marks.0.1)
    (header-written left header.0 header.1 two ∙ ap (λ (n : ℕ). header_line (letter header.0.0.kind) header.0.0.dim header.0.0.made n ++ text_left header.0.1) live)
    (all row_text (text_left header.0.1) rows.0 rr) (all rule_text (text_left rows.0.1) rules.0 ur) (all value_text (text_left rules.0.1) values.0 vr) (all mark_text (text_left values.0.1) marks.0 mr)
    (ended-written marks.0.1 done.0 done.1))
  where
    all : {A : Type 0} (text : A → List ℕ) (before : List ℕ) (x : List A × Unread) → Written text [] before x → before ≡ flat_map text x.0 ++ text_left x.1
    all text before x w = w.2 ∙ ap (λ (xs : List _). flat_map text xs ++ text_left x.1) (sym w.1)

meant-is : (t : Told) → t.version ≡ 2 → listing_meant t ≡ t.listing
meant-is t v = ap (λ (rules : List ListRule). listing_with t rules) (at t.version v)
  where
    listing_with : Told → List ListRule → Listing
    listing_with t rules = record { kind = t.listing.kind; dim = t.listing.dim; made = t.listing.made; rows = t.listing.rows; rules = rules; values = t.listing.values; marks = t.listing.marks }

    at : (n : ℕ) → n ≡ 2 → cond (n == 1) (rules_meant (record { version = 1; listing = t.listing })) t.listing.rules ≡ t.listing.rules
    at n e = rw e refl

pub written-again : IsWrittenAgain
written-again bytes t l told v (unformed fault e is) = absurd cc
written-again bytes t l told v (unlawful u place e first is) = absurd cc
written-again bytes t l told v (unruled u place e all first is) = absurd cc
written-again bytes t l told v (unvalued u place e all rules first is) = absurd cc
written-again bytes t l told v (read u e all rules values is) =
    let one : u ≡ t = ok_is u t (sym e ∙ told) in
    let whole : join_with_byte 10 (lines_of bytes) ≡ listing_text t.listing = told-written (unread 0 (lines_of bytes)) t told v in
    let meant : l ≡ t.listing = ok_is l (listing_meant u) is ∙ (ap listing_meant one ∙ meant-is t v) in
    ap listing_text meant ∙ (sym whole ∙ join_with_byte-slice_split 10 bytes)
