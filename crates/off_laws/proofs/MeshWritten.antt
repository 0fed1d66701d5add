-- The text of points and faces tells the mesh of these points and faces.
use Rattle.std.proofs.Common.{◌≡◌, ℕ, zero, suc, ◌+◌, ◌^◌, ◌<◌, ◌≤◌, nat_lt, nat_le, true, false, All, List, [], ◌∷◌, ◌++◌, length, map, take, Some, Result, Ok, refl, sym, ap, ap₂, subst, ◌∙◌, arith, take_all, length-append}
use Rattle.std.specs.Prelude.{slice_get}
use Rattle.std.specs.List.{list_all}
use Rattle.std.specs.Option.{option_map}
use Rattle.std.specs.Fmt.{decimal, signed_decimal}
use Rattle.std.proofs.lemmas.Bool.{and_from, le-leb}
use Rattle.std.proofs.lemmas.Bool.Decides.{nat_tests}
use Rattle.std.proofs.lemmas.List.{length-map}
use Rattle.std.proofs.lemmas.List.Elements.{All-head, All-tail}
use Rattle.std.proofs.lemmas.Option.{slice_get-map, slice_get_within, get_or_from_slice_get}
use Rattle.map_defs.specs.Values.{Value, IsRepresentable}
use Rattle.map_defs.specs.TextWords.{value_of}
use Rattle.map_defs.specs.Off.{What, NoHeader, Short, Row, lines_of, rows_from, is_below, is_side_count, counts, point, face}
use Rattle.map_defs.specs.OffOfMap.{OffRows}
use Rattle.machine_defs.specs.OffText.{off_text}
use Rattle.reading_laws.specs.MeshTexts.{rows_of, read_at, behind_off, below, IsMeshText}
use Rattle.off_laws.specs.ReadBack.{IsReadable, mesh_told}
use Rattle.off_laws.proofs.NumbersWritten.{value-decimal, decimal-below, signed-coordinate}
use Rattle.off_laws.proofs.LinesWritten.{Words}
use Rattle.off_laws.proofs.RowsWritten.{rows_written, rows-read, length-rows, row-read}
use Rattle.off_laws.proofs.TextWritten.{off_words, counts_words, point_words, face_words, off_lines, text-written, off-plain}

-- what is read of each line
counts-read : (points faces edges : ℕ) → points < 2 ^ 32 → faces < 2 ^ 32 → edges < 2 ^ 32
    → counts (decimal points) (decimal faces ∷ decimal edges ∷ []) ≡ Ok (record { points = points; faces = faces })
counts-read points faces edges p f e =
    let one = decimal-below (2 ^ 32) points (omega arith) p in
    let two = decimal-below (2 ^ 32) faces (omega arith) f in
    let three = decimal-below (2 ^ 32) edges (omega arith) e in
    rw (one, two, three) (ap₂ (λ (m n : ℕ). Ok (record { points = m; faces = n })) (value-decimal points (omega arith)) (value-decimal faces (omega arith)))

point-read : (v : Value) → IsRepresentable v → point (signed_decimal v.a) (signed_decimal v.b ∷ signed_decimal v.c ∷ []) ≡ Ok v
unfolding point
point-read v fits =
    let a = signed-coordinate v.a fits.0 in
    let b = signed-coordinate v.b fits.1 in
    let c = signed-coordinate v.c fits.2 in
    rw (a, b, c) refl

corners-below : (points : ℕ) (corners : List ℕ) → points < 2 ^ 32 → All (λ v. v < points) corners → list_all (is_below points) (map decimal corners) ≡ true
corners-below points [] few within = refl
corners-below points (v ∷ corners) few within =
    let low : v < points = All-head (λ v. v < points) v corners within in
    and_from (is_below points (decimal v)) (list_all (is_below points) (map decimal corners)) (decimal-below points v (omega arith) low)
    (corners-below points corners few (All-tail (λ v. v < points) v corners within))

corners-valued : (points : ℕ) (corners : List ℕ) → points < 2 ^ 32 → All (λ v. v < points) corners → map value_of (map decimal corners) ≡ corners
corners-valued points [] few within = refl
corners-valued points (v ∷ corners) few within =
    let low : v < points = All-head (λ v. v < points) v corners within in
    ap₂ (λ (first : ℕ) (others : List ℕ). first ∷ others) (value-decimal v (omega arith)) (corners-valued points corners few (All-tail (λ v. v < points) v corners within))

face-read : (points : ℕ) (corners : List ℕ) → points < 2 ^ 32 → 3 ≤ length corners → length corners ≤ 65536 → All (λ v. v < points) corners
    → face points (decimal (length corners)) (map decimal corners) ≡ Ok corners
face-read points corners few long short within =
    let count : List ℕ = decimal (length corners) in
    let value : value_of count ≡ length corners = value-decimal (length corners) (omega arith) in
    let below : is_below 65537 count ≡ true = decimal-below 65537 (length corners) (omega arith) (omega arith) in
    let sides : nat_le 3 (value_of count) ≡ true = ap (nat_le 3) value ∙ le-leb 3 (length corners) long in
    let counted : is_side_count count ≡ true = and_from (is_below 65537 count) (nat_le 3 (value_of count)) below sides in
    let same = length-map corners decimal in
    let enough : nat_lt (length (map decimal corners)) (length corners) ≡ false = grind (arith, nat_tests) in
    let whole : take (length corners) (map decimal corners) ≡ map decimal corners = take_all (length corners) (map decimal corners) (omega arith) in
    let all = corners-below points corners few within in
    rw (counted, value, enough, whole, all) (ap (λ (found : List ℕ). Ok found) (corners-valued points corners few within))

-- what stands at a place of two lists, one behind the other
slice_get-front : {A : Type 0} (xs ys : List A) (j : ℕ) (x : A) → slice_get xs j ≡ Some x → slice_get (xs ++ ys) j ≡ Some x
slice_get-front [] ys j x is = absurd (cc (is))
slice_get-front (first ∷ xs) ys zero x is = is
slice_get-front (first ∷ xs) ys (suc j) x is = slice_get-front xs ys j x is

slice_get-back : {A : Type 0} (xs ys : List A) (j : ℕ) → slice_get (xs ++ ys) (length xs + j) ≡ slice_get ys j
slice_get-back [] ys j = ap (slice_get ys) (omega arith)
slice_get-back (first ∷ xs) ys j = let e : suc (length xs) + j ≡ suc (length xs + j) = omega arith in rw e (slice_get-back xs ys j)

-- what holds of each element holds of one that is found
All-there : {A : Type 0} (P : A → Type 0) (xs : List A) (j : ℕ) (x : A) → All P xs → slice_get xs j ≡ Some x → P x
All-there P xs j x all is = subst P (get_or_from_slice_get xs j x x is) (all j x (slice_get_within xs j x is))

module _ (off : OffRows) (readable : IsReadable off) where
  -- the rows of the text are the lines that were written
  rows-are : rows_of (off_text off) ≡ rows_written 1 (off_lines off)
  rows-are = ap (λ (text : List ℕ). rows_from 1 (lines_of text)) (text-written off) ∙ rows-read 1 (off_lines off) (off-plain off readable)

  read-there : {A : Type 0} (missing : What) (read : List ℕ → List (List ℕ) → Result A What) (p : ℕ) (words : Words) → slice_get (off_lines off) p ≡ Some words
      → read_at missing read (rows_of (off_text off)) p ≡ read words.first words.others
  read-there missing read p words is = ap (λ (rows : List Row). read_at missing read rows p) rows-are ∙ row-read missing read 1 (off_lines off) p words (off-plain off readable) is

  point-there : (j : ℕ) (v : Value) → slice_get off.points j ≡ Some v → slice_get (off_lines off) (1 + 1 + j) ≡ Some (point_words v)
  point-there j v is =
      let place : 1 + 1 + j ≡ suc (suc j) = omega arith in
      rw place (slice_get-front (map point_words off.points) (map face_words off.faces) j (point_words v) (slice_get-map point_words off.points j ∙ ap (option_map point_words) is))

  face-there : (j : ℕ) (corners : List ℕ) → slice_get off.faces j ≡ Some corners → slice_get (off_lines off) (1 + 1 + length off.points + j) ≡ Some (face_words corners)
  face-there j corners is =
      let place : 1 + 1 + length off.points + j ≡ suc (suc (length (map point_words off.points) + j)) = omega (arith, length-map off.points point_words) in
      rw place (slice_get-back (map point_words off.points) (map face_words off.faces) j ∙ slice_get-map face_words off.faces j ∙ ap (option_map face_words) is)

  points-told : (j : ℕ) (v : Value) → slice_get off.points j ≡ Some v → read_at Short point (rows_of (off_text off)) (1 + 1 + j) ≡ Ok v
  points-told j v is = read-there Short point (1 + 1 + j) (point_words v) (point-there j v is) ∙ point-read v (All-there IsRepresentable off.points j v readable.held is)

  faces-told : (j : ℕ) (corners : List ℕ) → slice_get off.faces j ≡ Some corners
      → read_at Short (face (length off.points)) (rows_of (off_text off)) (1 + 1 + length off.points + j) ≡ Ok corners
  faces-told j corners is =
      let sides = All-there (λ (face : List ℕ). (3 ≤ length face) × (length face ≤ 65536)) off.faces j corners readable.sides is in
      read-there Short (face (length off.points)) (1 + 1 + length off.points + j) (face_words corners) (face-there j corners is)
      ∙ face-read (length off.points) corners readable.few_points sides.0 sides.1 (All-there (λ (face : List ℕ). All (λ v. v < length off.points) face) off.faces j corners readable.corners is)

  -- each row is read as what it was written from
  pub mesh-written : IsMeshText (off_text off) (mesh_told off)
  mesh-written = record {
    place = 1;
    counted = below refl (read-there NoHeader behind_off 0 off_words refl)
        (sym (read-there Short counts 1 (counts_words off) refl ∙ counts-read (length off.points) (length off.faces) off.edges readable.few_points readable.few_faces readable.few_edges));
    points = points-told;
    faces = faces-told;
    ended = ap length rows-are ∙ length-rows 1 (off_lines off)
        ∙ (let tails = length-append (map point_words off.points) (map face_words off.faces) in
        let points = length-map off.points point_words in
        let faces = length-map off.faces face_words in
        omega arith);
  }
