-- Each line of a listing, from what it tells.
use Rattle.std.proofs.Common.{◌≡◌, ℕ, zero, suc, ◌+◌, ◌<◌, ◌==◌, ◌&&◌, nat_le, Bool, true, false, cond, codes, ℤ, List, [], ◌∷◌, ◌++◌, length, get_or, Some, None, refl, sym, ap, ◌∙◌, arith, inl, inr, append_assoc, append-nil}
use Rattle.std.specs.Fmt.{decimal, signed_decimal}
use Rattle.std.specs.List.{flat_map, position_or_len, before_first, after_first, join_with_byte}
use Rattle.std.specs.Str.{bytes_eq}
use Rattle.std.proofs.lemmas.Bool.{cases_lt, eqb-true}
use Rattle.std.proofs.lemmas.List.{drop_all}
use Rattle.std.proofs.lemmas.List.Sums.{split_at_first, passes_at_first}
use Rattle.std.proofs.lemmas.List.Splits.{join_with_byte-slice_split}
use Rattle.map_defs.specs.Kind.{Kind, alpha, beta, letter}
use Rattle.map_defs.specs.Rows.{made_max}
use Rattle.map_defs.specs.RuleNames.{merge_name, split_name, listed_merge, listed_split}
use Rattle.map_defs.specs.Values.{Value, Merge, Split}
use Rattle.machine_defs.specs.Script.{◌>>=◌, numeral, integer, name, value}
use Rattle.machine_defs.specs.Listing.{ListRow, ListRule, ListValue}
use Rattle.machine_defs.specs.ListingLines.{Header, is_colon, words_between, numeral_within, kind_named, header_of, entries, entries_behind, row_of, rule_of, value_of}
use Rattle.machine_defs.specs.Text.{spaced, spaced_signed, header_line, row_text, rule_text, value_text}
use Rattle.row_laws.proofs.RowsRead.{some, some_is, went_on_some, row_with}
use Rattle.row_laws.proofs.ToldParts.{header_with, told_live, told_made, told_dim, told_kind}
use Rattle.row_laws.proofs.SpelledWords.{numeral-is, integer-is, name-is, listed-merge-is, listed-split-is, two-is, same-bytes, behind_spaces, join-first}

within-is : (low high : ℕ) (word : List ℕ) (n : ℕ) → numeral_within low high word ≡ Some n → word ≡ decimal n
within-is low high word n h =
    let m = went_on_some (numeral word) (λ m. cond (nat_le low m && nat_le m high) (some m) None) n h in
    numeral-is word n (m.1 ∙ ap some (at (nat_le low m.0 && nat_le m.0 high) m.0 m.2))
  where
    at : (b : Bool) (m : ℕ) → cond b (some m) None ≡ Some n → m ≡ n
    at true m h = some_is m n h
    at false m h = absurd cc

kind-is : (word : List ℕ) (k : Kind) → kind_named word ≡ Some k → word ≡ letter k ∷ []
kind-is word k h = at (bytes_eq word (codes "g")) (bytes_eq word (codes "c")) refl refl h
  where
    at : (a b : Bool) → bytes_eq word (codes "g") ≡ a → bytes_eq word (codes "c") ≡ b → cond a (some alpha) (cond b (some beta) None) ≡ Some k → word ≡ letter k ∷ []
    at true b is e h = rw (sym (some_is alpha k h)) (same-bytes word (codes "g") is)
    at false true is e h = rw (sym (some_is beta k h)) (same-bytes word (codes "c") e)
    at false false is e h = absurd cc

-- the text that words make
abbrev joined : List (List ℕ) → List ℕ
joined words = join_with_byte 32 words

header-text : (first version kind dim made live : List ℕ) (k : Kind) (n m l : ℕ) → first ≡ codes "cellmap" → version ≡ codes "2" → kind ≡ letter k ∷ [] → dim ≡ decimal n → made ≡ decimal m → live ≡ decimal l
    → joined (first ∷ version ∷ kind ∷ dim ∷ made ∷ live ∷ []) ++ 10 ∷ [] ≡ header_line (letter k) n m l
header-text first version kind dim made live k n m l a b c d e f =
    rw (a, b, c, d, e, f) (ap (λ (xs : List ℕ). codes "cellmap 2 " ++ letter k ∷ 32 ∷ (xs ++ 10 ∷ [])) (sym (append_assoc (decimal n) (spaced m) (spaced l))))

pub header-line : (words : List (List ℕ)) (h : Header) → header_of words ≡ Some h → h.version ≡ 2 → joined words ++ 10 ∷ [] ≡ header_line (letter h.kind) h.dim h.made h.live
header-line [] h e v = absurd cc
header-line (a ∷ []) h e v = absurd cc
header-line (a ∷ b ∷ []) h e v = absurd cc
header-line (a ∷ b ∷ c ∷ []) h e v = absurd cc
header-line (a ∷ b ∷ c ∷ d ∷ []) h e v = absurd cc
header-line (a ∷ b ∷ c ∷ d ∷ f ∷ []) h e v = absurd cc
header-line (first ∷ version ∷ kind ∷ dim ∷ made ∷ live ∷ more ∷ others) h e v = absurd cc
header-line (first ∷ version ∷ kind ∷ dim ∷ made ∷ live ∷ []) h e v = at (bytes_eq first (codes "cellmap")) refl e
  where
    at : (b : Bool) → bytes_eq first (codes "cellmap") ≡ b → cond b (numeral_within 1 2 version >>= told_kind kind dim made live) None ≡ Some h
        → joined (first ∷ version ∷ kind ∷ dim ∷ made ∷ live ∷ []) ++ 10 ∷ [] ≡ header_line (letter h.kind) h.dim h.made h.live
    at true is e =
        let a = went_on_some (numeral_within 1 2 version) (told_kind kind dim made live) h e in
        let b = went_on_some (kind_named kind) (told_dim dim made live a.0) h a.2 in
        let c = went_on_some (numeral_within 2 4 dim) (told_made made live a.0 b.0) h b.2 in
        let d = went_on_some (numeral_within 0 made_max made) (told_live live a.0 b.0 c.0) h c.2 in
        let f = went_on_some (numeral_within 0 d.0 live) (λ l. some (header_with a.0 b.0 c.0 d.0 l)) h d.2 in
        let same : h ≡ header_with a.0 b.0 c.0 d.0 f.0 = sym (some_is (header_with a.0 b.0 c.0 d.0 f.0) h f.2) in
        let two : a.0 ≡ 2 = ap (λ (x : Header). x.version) (sym same) ∙ v in
        rw same (header-text first version kind dim made live b.0 c.0 d.0 f.0 (same-bytes first (codes "cellmap") is) (within-is 1 2 version a.0 a.1 ∙ (ap decimal two ∙ sym two-is)) (kind-is kind b.0 b.1) (within-is 2 4 dim c.0 c.1)
        (within-is 0 made_max made d.0 d.1) (within-is 0 d.0 live f.0 f.1))
    at false is e = absurd cc

entries-text : (made count : ℕ) (words : List (List ℕ)) (es : List ℕ) → entries made count words ≡ Some es → behind_spaces words ≡ flat_map spaced es
entries-text made zero [] es h = rw (sym (some_is [] es h)) refl
entries-text made zero (word ∷ words) es h = absurd cc
entries-text made (suc count) [] es h = absurd cc
entries-text made (suc count) (word ∷ words) es h =
    let first = went_on_some (numeral_within 0 made word) (λ e. entries made count words >>= λ others. some (e ∷ others)) es h in
    let more = went_on_some (entries made count words) (λ others. some (first.0 ∷ others)) es first.2 in
    let is : es ≡ first.0 ∷ more.0 = sym (some_is (first.0 ∷ more.0) es more.2) in
    ap (λ (w : List ℕ). 32 ∷ (w ++ behind_spaces words)) (within-is 0 made word first.0 first.1)
    ∙ (ap (λ (rest : List ℕ). spaced first.0 ++ rest) (entries-text made count words more.0 more.1) ∙ ap (flat_map spaced) (sym is))

-- at least one entry stands behind a colon
behind-text : (made count : ℕ) (words : List (List ℕ)) (es : List ℕ) → entries_behind made count words ≡ Some es → joined words ≡ flat_map spaced es
behind-text made count [] es h = absurd cc
behind-text made count (first ∷ words) es h = at (length first == 0) refl h
  where
    empty : (xs : List ℕ) → length xs ≡ 0 → xs ≡ []
    empty [] h = refl
    empty (x ∷ xs) h = absurd (omega arith)

    at : (b : Bool) → (length first == 0) ≡ b → cond b (entries made count words) None ≡ Some es → joined (first ∷ words) ≡ flat_map spaced es
    at true is h = join-first first words ∙ (ap (λ (xs : List ℕ). xs ++ behind_spaces words) (empty first (eqb-true (length first) 0 is)) ∙ entries-text made count words es h)
    at false is h = absurd cc

-- a line with something behind a colon has the colon
cut-at : (line : List ℕ) → position_or_len is_colon line < length line → line ≡ before_first is_colon line ++ 58 ∷ after_first is_colon line
cut-at line h =
    let colon : get_or line (position_or_len is_colon line) 0 ≡ 58 = eqb-true (get_or line (position_or_len is_colon line) 0) 58 (passes_at_first is_colon line 0 h) in
    split_at_first is_colon line 0 h ∙ ap (λ (b : ℕ). before_first is_colon line ++ b ∷ after_first is_colon line) colon

none-behind : (made n : ℕ) (es : List ℕ) → entries_behind made (n + 1) (words_between []) ≡ Some es → ⊥
none-behind made n es h =
    let e : n + 1 ≡ suc n = omega arith in
    let none : entries_behind made (suc n) (words_between []) ≡ Some es = rw e at h in
    absurd cc

pub row-line : (n made : ℕ) (line : List ℕ) (row : ListRow) → row_of n made line ≡ Some row → line ++ 10 ∷ [] ≡ row_text row
row-line n made line row h =
    let dart = went_on_some (numeral_within 1 made (before_first is_colon line)) (λ d. entries_behind made (n + 1) (words_between (after_first is_colon line)) >>= λ links. some (row_with d links)) row h in
    let links = went_on_some (entries_behind made (n + 1) (words_between (after_first is_colon line))) (λ links. some (row_with dart.0 links)) row dart.2 in
    let is : row ≡ row_with dart.0 links.0 = sym (some_is (row_with dart.0 links.0) row links.2) in
    elim (cases_lt (position_or_len is_colon line) (length line)) [
      | inl within ↦
          let behind : after_first is_colon line ≡ flat_map spaced links.0 = sym (join_with_byte-slice_split 32 (after_first is_colon line)) ∙ behind-text made (n + 1) (words_between (after_first is_colon line)) links.0 links.1 in
          let text : line ≡ decimal dart.0 ++ 58 ∷ flat_map spaced links.0 =
          cut-at line within ∙ (ap (λ (xs : List ℕ). xs ++ 58 ∷ after_first is_colon line) (within-is 1 made (before_first is_colon line) dart.0 dart.1) ∙ ap (λ (xs : List ℕ). decimal dart.0 ++ 58 ∷ xs) behind) in
          rw is (ap (λ (xs : List ℕ). xs ++ 10 ∷ []) text ∙ simp append_assoc refl)
      | inr past ↦
          let nothing : after_first is_colon line ≡ [] = drop_all (position_or_len is_colon line + 1) line (omega arith) in
          absurd (none-behind made n links.0 (ap (λ (xs : List ℕ). entries_behind made (n + 1) (words_between xs)) (sym nothing) ∙ links.1))
    ]

rule-spelled : (i merge split : List ℕ) (n : ℕ) (m : Merge) (s : Split) → i ≡ decimal n → merge ≡ merge_name m → split ≡ split_name s
    → codes "rule " ++ joined (i ∷ merge ∷ split ∷ []) ++ 10 ∷ [] ≡ rule_text (record { dim = n; rule = record { merge = m; split = s } })
rule-spelled i merge split n m s a b c =
    rw (a, b, c) (ap (λ (xs : List ℕ). codes "rule " ++ (xs ++ 10 ∷ [])) (sym (append_assoc (decimal n) (32 ∷ merge_name m) (32 ∷ split_name s))))

abbrev rule_with : ℕ → List ℕ → List ℕ → ListRule
rule_with n m s = record { dim = n; rule = record { merge = listed_merge m; split = listed_split s } }

rule-words : (words : List (List ℕ)) (r : ListRule) → rule_of words ≡ Some r → codes "rule " ++ joined words ++ 10 ∷ [] ≡ rule_text r
rule-words [] r h = absurd cc
rule-words (a ∷ []) r h = absurd cc
rule-words (a ∷ b ∷ []) r h = absurd cc
rule-words (a ∷ b ∷ c ∷ d ∷ others) r h = absurd cc
rule-words (i ∷ merge ∷ split ∷ []) r h =
    let n = went_on_some (numeral i) (λ n. name merge >>= λ m. name split >>= λ s. some (rule_with n m s)) r h in
    let m = went_on_some (name merge) (λ m. name split >>= λ s. some (rule_with n.0 m s)) r n.2 in
    let s = went_on_some (name split) (λ s. some (rule_with n.0 m.0 s)) r m.2 in
    let is = sym (some_is (rule_with n.0 m.0 s.0) r s.2) in
    rule-spelled i merge split n.0 (listed_merge m.0) (listed_split s.0) (numeral-is i n.0 n.1) (name-is merge m.0 m.1 ∙ listed-merge-is m.0)
    (name-is split s.0 s.1 ∙ listed-split-is s.0) ∙ ap rule_text (sym is)

pub rule-line : (text : List ℕ) (r : ListRule) → rule_of (words_between text) ≡ Some r → codes "rule " ++ text ++ 10 ∷ [] ≡ rule_text r
rule-line text r h = ap (λ (xs : List ℕ). codes "rule " ++ xs ++ 10 ∷ []) (sym (join_with_byte-slice_split 32 text)) ∙ rule-words (words_between text) r h

three-spelled : (a b c : List ℕ) (x y z : ℤ) → a ≡ signed_decimal x → b ≡ signed_decimal y → c ≡ signed_decimal z
    → behind_spaces (a ∷ b ∷ c ∷ []) ≡ spaced_signed x ++ (spaced_signed y ++ spaced_signed z)
three-spelled a b c x y z h g f = rw (h, g, f) (ap (λ (xs : List ℕ). spaced_signed x ++ (spaced_signed y ++ xs)) (append-nil (spaced_signed z)))

value-three : (words : List (List ℕ)) (v : Value) → value words ≡ Some v → behind_spaces words ≡ spaced_signed v.a ++ (spaced_signed v.b ++ spaced_signed v.c)
value-three [] v h = absurd cc
value-three (a ∷ []) v h = absurd cc
value-three (a ∷ b ∷ []) v h = absurd cc
value-three (a ∷ b ∷ c ∷ d ∷ others) v h = absurd cc
value-three (a ∷ b ∷ c ∷ []) v h =
    let x = went_on_some (integer a) (λ x. integer b >>= λ y. integer c >>= λ z. some (record { a = x; b = y; c = z })) v h in
    let y = went_on_some (integer b) (λ y. integer c >>= λ z. some (record { a = x.0; b = y; c = z })) v x.2 in
    let z = went_on_some (integer c) (λ z. some (record { a = x.0; b = y.0; c = z })) v y.2 in
    let is = sym (some_is (record { a = x.0; b = y.0; c = z.0 }) v z.2) in
    three-spelled a b c x.0 y.0 z.0 (integer-is a x.0 x.1) (integer-is b y.0 y.1) (integer-is c z.0 z.1)
    ∙ ap (λ (w : Value). spaced_signed w.a ++ (spaced_signed w.b ++ spaced_signed w.c)) (sym is)

five : (a b c d e : List ℕ) → (((a ++ b) ++ c) ++ d) ++ e ≡ a ++ (b ++ (c ++ (d ++ e)))
five a b c d e = append_assoc ((a ++ b) ++ c) d e ∙ (append_assoc (a ++ b) c (d ++ e) ∙ append_assoc a b (c ++ (d ++ e)))

value-spelled : (i d rest : List ℕ) (n m : ℕ) (v : Value) → i ≡ decimal n → d ≡ decimal m → rest ≡ spaced_signed v.a ++ (spaced_signed v.b ++ spaced_signed v.c)
    → codes "val " ++ (i ++ ((32 ∷ d) ++ rest)) ++ 10 ∷ [] ≡ value_text (record { dim = n; dart = m; value = v })
value-spelled i d rest n m v a b c =
    rw (a, b, c) (ap (λ (xs : List ℕ). codes "val " ++ (xs ++ 10 ∷ [])) (sym (five (decimal n) (spaced m) (spaced_signed v.a) (spaced_signed v.b) (spaced_signed v.c))))

value-words : (words : List (List ℕ)) (v : ListValue) → value_of words ≡ Some v → codes "val " ++ joined words ++ 10 ∷ [] ≡ value_text v
value-words [] v h = absurd cc
value-words (a ∷ []) v h = absurd cc
value-words (i ∷ d ∷ words) v h =
    let n = went_on_some (numeral i) (λ n. numeral d >>= λ m. value words >>= λ g. some (record { dim = n; dart = m; value = g })) v h in
    let m = went_on_some (numeral d) (λ m. value words >>= λ g. some (record { dim = n.0; dart = m; value = g })) v n.2 in
    let g = went_on_some (value words) (λ g. some (record { dim = n.0; dart = m.0; value = g })) v m.2 in
    let is = sym (some_is (record { dim = n.0; dart = m.0; value = g.0 }) v g.2) in
    ap (λ (xs : List ℕ). codes "val " ++ xs ++ 10 ∷ []) (join-first i (d ∷ words))
    ∙ (value-spelled i d (behind_spaces words) n.0 m.0 g.0 (numeral-is i n.0 n.1) (numeral-is d m.0 m.1) (value-three words g.0 g.1) ∙ ap value_text (sym is))

pub value-line : (text : List ℕ) (v : ListValue) → value_of (words_between text) ≡ Some v → codes "val " ++ text ++ 10 ∷ [] ≡ value_text v
value-line text v h = ap (λ (xs : List ℕ). codes "val " ++ xs ++ 10 ∷ []) (sym (join_with_byte-slice_split 32 text)) ∙ value-words (words_between text) v h
