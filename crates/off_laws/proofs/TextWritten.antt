-- The lines of the text of points and faces, and that all their words are plain.
use Rattle.std.proofs.Common.{◌≡◌, ℕ, suc, ◌^◌, ◌<◌, ◌≤◌, not, true, false, All, List, [], ◌∷◌, ◌++◌, length, map, codes, ℤ, pos, negsuc, refl, sym, ap, ap₂, ◌∙◌, arith, append_assoc, append-nil}
use Rattle.std.specs.Prelude.{FitsSigned, slice_index_or}
use Rattle.std.specs.List.{flat_map}
use Rattle.std.specs.Char.{is_ascii_digit, is_ascii_graphic}
use Rattle.std.specs.Fmt.{decimal, signed_decimal}
use Rattle.std.specs.Int.{w64}
use Rattle.std.proofs.lemmas.Bool.{and_from}
use Rattle.std.proofs.lemmas.Bool.Decides.{nat_tests}
use Rattle.std.proofs.lemmas.Fmt.{decimal_nonempty}
use Rattle.std.proofs.lemmas.Grind.{flat_map-append}
use Rattle.std.proofs.lemmas.List.Elements.{All-nil, All-cons, All-append, All-map, All-weaker}
use Rattle.map_defs.specs.Values.{Value, IsRepresentable}
use Rattle.map_defs.specs.TextWords.{is_comment_sign}
use Rattle.map_defs.specs.OffOfMap.{OffRows}
use Rattle.machine_defs.specs.TextLines.{spaced, ended}
use Rattle.machine_defs.specs.OffText.{off_text, off_counts_text, off_point_text, off_face_text}
use Rattle.off_laws.specs.ReadBack.{IsReadable}
use Rattle.off_laws.proofs.BytesWritten.{all-weaker}
use Rattle.off_laws.proofs.NumbersWritten.{decimal-digits, long-word}
use Rattle.off_laws.proofs.LinesWritten.{is_plain, IsPlain, Words, ArePlain, behind_spaces, line_text}
use Rattle.off_laws.proofs.RowsWritten.{lines_text}

-- the words of the first line, of the counts, of a point, and of a face
abbrev pub off_words : Words
off_words = record { first = codes "OFF"; others = [] }

abbrev pub counts_words : OffRows → Words
counts_words off = record { first = decimal (length off.points); others = decimal (length off.faces) ∷ decimal off.edges ∷ [] }

abbrev pub point_words : Value → Words
point_words v = record { first = signed_decimal v.a; others = signed_decimal v.b ∷ signed_decimal v.c ∷ [] }

abbrev pub face_words : List ℕ → Words
face_words corners = record { first = decimal (length corners); others = map decimal corners }

-- the lines of the text
abbrev pub off_lines : OffRows → List Words
off_lines off = off_words ∷ counts_words off ∷ (map point_words off.points ++ map face_words off.faces)

-- three words with a space between them, corners, and lines that are told by a list
three-words : (x y z : List ℕ) → x ++ 32 ∷ y ++ 32 ∷ z ≡ x ++ behind_spaces (y ∷ z ∷ [])
three-words x y z = append_assoc x (32 ∷ y) (32 ∷ z) ∙ ap (λ (end : List ℕ). x ++ 32 ∷ (y ++ 32 ∷ end)) (sym (append-nil z))

corners-spaced : (corners : List ℕ) → flat_map spaced corners ≡ behind_spaces (map decimal corners)
corners-spaced [] = refl
corners-spaced (v ∷ corners) = ap (λ (text : List ℕ). 32 ∷ (decimal v ++ text)) (corners-spaced corners)

mapped-text : {A : Type 0} (text : A → List ℕ) (words : A → Words) → ((x : A) → text x ≡ ended (line_text (words x))) → (xs : List A) → flat_map text xs ≡ lines_text (map words xs)
mapped-text text words same [] = refl
mapped-text text words same (x ∷ xs) = ap₂ (λ (one more : List ℕ). one ++ more) (same x) (mapped-text text words same xs)

-- the text is that of its lines
pub text-written : (off : OffRows) → off_text off ≡ lines_text (off_lines off)
text-written off =
    let counted : off_counts_text (length off.points) (length off.faces) off.edges ≡ ended (line_text (counts_words off)) =
    ap ended (three-words (decimal (length off.points)) (decimal (length off.faces)) (decimal off.edges)) in
    let points : flat_map off_point_text off.points ≡ lines_text (map point_words off.points) =
    mapped-text off_point_text point_words (λ v. ap ended (three-words (signed_decimal v.a) (signed_decimal v.b) (signed_decimal v.c))) off.points in
    let faces : flat_map off_face_text off.faces ≡ lines_text (map face_words off.faces) =
    mapped-text off_face_text face_words (λ corners. ap (λ (text : List ℕ). ended (decimal (length corners) ++ text)) (corners-spaced corners)) off.faces in
    ap (λ (text : List ℕ). ended (codes "OFF") ++ text)
    (ap₂ (λ (one two : List ℕ). one ++ two) (ap₂ (λ (one two : List ℕ). one ++ two) counted points) faces
    ∙ append_assoc (ended (line_text (counts_words off))) (lines_text (map point_words off.points)) (lines_text (map face_words off.faces))
    ∙ ap (λ (text : List ℕ). ended (line_text (counts_words off)) ++ text) (sym (flat_map-append (λ (words : Words). ended (line_text words)) (map point_words off.points) (map face_words off.faces))))

-- numbers are plain words
digit-plain : (b : ℕ) → is_ascii_digit b ≡ true → is_plain b ≡ true
digit-plain b digit =
    let graphic : is_ascii_graphic b ≡ true = grind (arith, nat_tests) in
    let other : is_comment_sign b ≡ false = grind (arith, nat_tests) in
    and_from (is_ascii_graphic b) (not (is_comment_sign b)) graphic (ap not other)

decimal-plain : (n : ℕ) → n < 2 ^ 64 → IsPlain (decimal n)
decimal-plain n small = record {
  some = long-word (decimal n) (decimal_nonempty n small);
  plain = all-weaker is_ascii_digit is_plain digit-plain (decimal n) (decimal-digits n small);
}

signed-plain : (z : ℤ) → FitsSigned w64 z → IsPlain (signed_decimal z)
signed-plain (pos n) fits = decimal-plain n (omega (arith, fits.sfits))
signed-plain (negsuc n) fits = record { some = long-word (45 ∷ decimal (suc n)) (omega arith); plain = (decimal-plain (suc n) (omega (arith, fits.sfits))).plain }

two-plain : (x y : List ℕ) → IsPlain x → IsPlain y → All IsPlain (x ∷ y ∷ [])
two-plain x y one two = All-cons IsPlain x (y ∷ []) one (All-cons IsPlain y [] two (All-nil IsPlain))

point-plain : (v : Value) → IsRepresentable v → ArePlain (point_words v)
point-plain v fits = record {
  first = signed-plain v.a fits.0;
  others = two-plain (signed_decimal v.b) (signed_decimal v.c) (signed-plain v.b fits.1) (signed-plain v.c fits.2);
}

face-plain : (points : ℕ) (corners : List ℕ) → points < 2 ^ 32 → length corners ≤ 65536 → All (λ v. v < points) corners → ArePlain (face_words corners)
face-plain points corners few short within = record {
  first = decimal-plain (length corners) (omega arith);
  others = All-map IsPlain decimal corners (All-weaker (λ (v : ℕ). v < points) (λ (v : ℕ). IsPlain (decimal v)) (λ v low. decimal-plain v (omega arith)) corners within);
}

-- all words of the text are plain
pub off-plain : (off : OffRows) → IsReadable off → All ArePlain (off_lines off)
off-plain off readable =
    let counted : ArePlain (counts_words off) = record {
      first = decimal-plain (length off.points) (omega (arith, readable.few_points));
      others =
          two-plain (decimal (length off.faces)) (decimal off.edges) (decimal-plain (length off.faces) (omega (arith, readable.few_faces)))
          (decimal-plain off.edges (omega (arith, readable.few_edges)));
    } in
    let points : All ArePlain (map point_words off.points) =
    All-map ArePlain point_words off.points (All-weaker IsRepresentable (λ (v : Value). ArePlain (point_words v)) point-plain off.points readable.held) in
    let faces : All ArePlain (map face_words off.faces) =
    All-map ArePlain face_words off.faces
    (λ k d within. face-plain (length off.points) (slice_index_or off.faces k d) readable.few_points (readable.sides k d within).1 (readable.corners k d within)) in
    let header : ArePlain off_words = record { first = record { some = refl; plain = refl }; others = All-nil IsPlain } in
    All-cons ArePlain off_words (counts_words off ∷ (map point_words off.points ++ map face_words off.faces)) header
    (All-cons ArePlain (counts_words off) (map point_words off.points ++ map face_words off.faces) counted
    (All-append ArePlain (map point_words off.points) (map face_words off.faces) points faces))
