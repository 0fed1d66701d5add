-- The faces of a mesh that is read are faces of its points.
use Rattle.std.proofs.Common.{◌≡◌, ℕ, zero, suc, ◌^◌, ◌<◌, ◌≤◌, nat_lt, nat_le, Bool, true, false, cond, ◌&&◌, List, [], ◌∷◌, length, get_or, take, map, Result, Ok, Err, refl, sym, ap, subst, ◌∙◌, arith}
use Rattle.std.specs.Prelude.{All, IfOk, codes}
use Rattle.std.specs.Str.{bytes_eq}
use Rattle.std.specs.List.{list_all}
use Rattle.std.proofs.lemmas.Bool.{and_parts, ltb-true, ltb-false, leb-true}
use Rattle.std.proofs.lemmas.List.{length-map, length-take}
use Rattle.std.proofs.lemmas.List.Elements.{All-nil, All-cons}
use Rattle.map_defs.specs.TextWords.{value_of}
use Rattle.map_defs.specs.Off.{What, TextFault, Short, BadIndex, BadFace, BadCounts, ◌>>=◌, Left, Row, Mesh, Counts, next, on_line, line_read, is_natural, is_below, three, counts, counts_of, counts_behind, header, corners, is_side_count, face, point, many, ended, checked, mesh_left, mesh_of, left_of, lines_of, NoHeader, HasFaces}
use Rattle.off_text.specs.declared.mesh.Mesh as told
use Rattle.off_text.specs.declared.fault.OffFault.{OffFault}
use Rattle.off_text.specs.Meanings.{mesh_view, Gives}

-- the value of a step that did not fail
bind_ok : {A B E : Type 0} (r : Result A E) (f : A → Result B E) (y : B) → (r >>= f) ≡ Ok y → (x : A) × (r ≡ Ok x) × (f x ≡ Ok y)
bind_ok (Ok x) f y e = (x, refl, e)
bind_ok (Err d) f y e = absurd cc

-- a test that did not fail
guard_ok : {A E : Type 0} (b : Bool) (d : E) (r : Result A E) (y : A) → cond b r (Err d) ≡ Ok y → (b ≡ true) × (r ≡ Ok y)
guard_ok true d r y e = (refl, e)
guard_ok false d r y e = absurd cc

guard_no : {A E : Type 0} (b : Bool) (d : E) (r : Result A E) (y : A) → cond b (Err d) r ≡ Ok y → (b ≡ false) × (r ≡ Ok y)
guard_no true d r y e = absurd cc
guard_no false d r y e = (refl, e)

abbrev good : {A E : Type 0} → A → Result A E
good x = Ok x

ok_is : {A E : Type 0} (x y : A) → good {E = E} x ≡ good {E = E} y → x ≡ y
ok_is x y e = cc

on_line_ok : {A : Type 0} (line : ℕ) (r : Result A What) (y : A) → on_line line r ≡ Ok y → r ≡ Ok y
on_line_ok line (Ok x) y e = ap (λ (z : _). Ok z) (ok_is x y e)
on_line_ok line (Err what) y e = absurd cc

-- what is read of one line comes from a reader of words
line_ok : {A : Type 0} (read : List ℕ → List (List ℕ) → Result A What) (left : Left) (x : A) (rest : Left) → line_read read left ≡ Ok (x, rest)
    → (first : List ℕ) × (others : List (List ℕ)) × (read first others ≡ Ok x)
unfolding line_read
line_ok read left x rest e =
    let row = bind_ok (next Short left) (λ row. on_line row.0.line (read row.0.first row.0.others) >>= λ x. Ok (x, row.1)) (x, rest) e in
    let told = bind_ok (on_line row.0.0.line (read row.0.0.first row.0.0.others)) (λ x. Ok (x, row.0.1)) (x, rest) row.2 in
    let same : told.0 ≡ x = ap (λ (p : _ × Left). p.0) (ok_is (told.0, row.0.1) (x, rest) told.2) in
    (row.0.0.first, row.0.0.others, on_line_ok row.0.0.line (read row.0.0.first row.0.0.others) x (told.1 ∙ ap (λ (z : _). Ok z) same))

-- as many things are read as are told, each by its reader
many_ok : {A : Type 0} (one : Left → Result (A × Left) TextFault) (n : ℕ) (left : Left) (xs : List A) (rest : Left) → many one n left ≡ Ok (xs, rest) → length xs ≡ n
many_ok one zero left xs rest e = ap (λ (p : List _ × Left). length p.0) (sym (ok_is ([], left) (xs, rest) e))
many_ok one (suc n) left xs rest e =
    let first = bind_ok (one left) (λ x. many one n x.1 >>= λ ys. Ok (x.0 ∷ ys.0, ys.1)) (xs, rest) e in
    let more = bind_ok (many one n first.0.1) (λ ys. Ok (first.0.0 ∷ ys.0, ys.1)) (xs, rest) first.2 in
    ap (λ (p : List _ × Left). length p.0) (sym (ok_is (first.0.0 ∷ more.0.0, more.0.1) (xs, rest) more.2)) ∙ ap suc (many_ok one n first.0.1 more.0.0 more.0.1 more.1)

many_all : {A : Type 0} (P : A → Type 0) (one : Left → Result (A × Left) TextFault) → ((left : Left) (x : A) (rest : Left) → one left ≡ Ok (x, rest) → P x)
    → (n : ℕ) (left : Left) (xs : List A) (rest : Left) → many one n left ≡ Ok (xs, rest) → All P xs
many_all P one each zero left xs rest e = subst (All P) (ap (λ (p : List _ × Left). p.0) (ok_is ([], left) (xs, rest) e)) (All-nil P)
many_all P one each (suc n) left xs rest e =
    let first = bind_ok (one left) (λ x. many one n x.1 >>= λ ys. Ok (x.0 ∷ ys.0, ys.1)) (xs, rest) e in
    let more = bind_ok (many one n first.0.1) (λ ys. Ok (first.0.0 ∷ ys.0, ys.1)) (xs, rest) first.2 in
    subst (All P) (ap (λ (p : List _ × Left). p.0) (ok_is (first.0.0 ∷ more.0.0, more.0.1) (xs, rest) more.2))
    (All-cons P first.0.0 more.0.0 (each left first.0.0 first.0.1 first.1) (many_all P one each n first.0.1 more.0.0 more.0.1 more.1))

-- words that write numbers below a bound
below_all : (points : ℕ) (words : List (List ℕ)) → list_all (is_below points) words ≡ true → All (λ (v : ℕ). v < points) (map value_of words)
below_all points [] h = All-nil (λ (v : ℕ). v < points)
below_all points (word ∷ words) h =
    let both = and_parts (is_below points word) (list_all (is_below points) words) h in
    let number = and_parts (is_natural word) (nat_lt (value_of word) points) both.0 in
    All-cons (λ (v : ℕ). v < points) (value_of word) (map value_of words) (ltb-true (value_of word) points number.1) (below_all points words both.1)

corners_ok : (points k : ℕ) (words : List (List ℕ)) (xs : List ℕ) → corners points k words ≡ Ok xs → (length xs ≡ k) × All (λ (v : ℕ). v < points) xs
corners_ok points k words xs e =
    let long = guard_no (nat_lt (length words) k) Short _ xs e in
    let each = guard_ok (list_all (is_below points) (take k words)) BadIndex (Ok (map value_of (take k words))) xs long.1 in
    let enough : k ≤ length words = ltb-false (length words) k long.0 in
    let is : map value_of (take k words) ≡ xs = ok_is (map value_of (take k words)) xs each.1 in
    (ap length (sym is) ∙ (length-map (take k words) value_of ∙ omega (arith, length-take k words)), subst (All (λ (v : ℕ). v < points)) is (below_all points (take k words) each.0))

-- the corners of a face: as many as there may be, and each a point
pub record IsFace (count : ℕ) (xs : List ℕ) : Type 0 where
  pub sides : (3 ≤ length xs) × (length xs ≤ 65536)
  pub points : All (λ (v : ℕ). v < count) xs

face_ok : (points : ℕ) (first : List ℕ) (others : List (List ℕ)) (xs : List ℕ) → face points first others ≡ Ok xs → IsFace points xs
face_ok points first others xs e =
    let count = guard_ok (is_side_count first) BadFace (corners points (value_of first) others) xs e in
    let bounds = and_parts (is_below 65537 first) (nat_le 3 (value_of first)) count.0 in
    let high = ltb-true (value_of first) 65537 (and_parts (is_natural first) (nat_lt (value_of first) 65537) bounds.0).1 in
    let low = leb-true 3 (value_of first) bounds.1 in
    let read = corners_ok points (value_of first) others xs count.1 in
    record { sides = (omega (arith, read.0), omega (arith, read.0)); points = read.1 }

-- the header tells numbers that 32 bits hold
counts_ok : (first : List ℕ) (others : List (List ℕ)) (c : Counts) → counts first others ≡ Ok c → c.faces < 2 ^ 32
counts_ok first others c e = of_three (three first others) e
  where
    of_three : (r : Result (List ℕ × List ℕ × List ℕ) What) → counts_of r ≡ Ok c → c.faces < 2 ^ 32
    of_three (Ok x) e =
        let g = guard_ok (is_below (2 ^ 32) x.0 && is_below (2 ^ 32) x.1 && is_below (2 ^ 32) x.2) BadCounts (Ok (record { points = value_of x.0; faces = value_of x.1 })) c e in
        let both = and_parts (is_below (2 ^ 32) x.0 && is_below (2 ^ 32) x.1) (is_below (2 ^ 32) x.2) g.0 in
        let second = and_parts (is_below (2 ^ 32) x.0) (is_below (2 ^ 32) x.1) both.0 in
        let low = ltb-true (value_of x.1) (2 ^ 32) (and_parts (is_natural x.1) (nat_lt (value_of x.1) (2 ^ 32)) second.1).1 in
        subst (λ (n : ℕ). n < 2 ^ 32) (ap (λ (k : Counts). k.faces) (ok_is (record { points = value_of x.0; faces = value_of x.1 }) c g.1)) low
    of_three (Err what) e = absurd cc

header_ok : (left : Left) (c : Counts) (rest : Left) → header left ≡ Ok (c, rest) → c.faces < 2 ^ 32
unfolding header
header_ok left c rest e =
    let row = bind_ok (next NoHeader left) _ (c, rest) e in
    let named = guard_ok (bytes_eq row.0.0.first (codes "OFF")) (record { line = row.0.0.line; what = NoHeader }) (counts_behind row.0.0.line row.0.0.others row.0.1) (c, rest) row.2 in
    of_others row.0.0.others row.0.0.line row.0.1 named.1
  where
    of_others : (others : List (List ℕ)) (line : ℕ) (left : Left) → counts_behind line others left ≡ Ok (c, rest) → c.faces < 2 ^ 32
    of_others [] line left e = let h = line_ok counts left c rest e in counts_ok h.0 h.1 c h.2
    of_others (first ∷ others) line left e =
        let h = bind_ok (on_line line (counts first others)) (λ (x : Counts). Ok (x, left)) (c, rest) e in
        let same : h.0 ≡ c = ap (λ (p : Counts × Left). p.0) (ok_is (h.0, left) (c, rest) h.2) in
        counts_ok first others c (on_line_ok line (counts first others) c (h.1 ∙ ap (λ (z : Counts). Ok z) same))

mesh_ok : (left : Left) (mesh : Mesh) → mesh_left left ≡ Ok mesh → HasFaces mesh
unfolding mesh_left
mesh_ok left mesh e =
    let counted = bind_ok (header left) _ mesh e in
    let points = bind_ok (many (line_read point) counted.0.0.points counted.0.1) _ mesh counted.2 in
    let faces = bind_ok (many (line_read (face counted.0.0.points)) counted.0.0.faces points.0.1) _ mesh points.2 in
    let is : record { points = points.0.0; faces = faces.0.0 } ≡ mesh = of_rows faces.0.1.rows (record { points = points.0.0; faces = faces.0.0 }) faces.2 in
    let low = header_ok left counted.0.0 counted.0.1 counted.1 in
    let many_points : length points.0.0 ≡ counted.0.0.points = many_ok (line_read point) counted.0.0.points counted.0.1 points.0.0 points.0.1 points.1 in
    let many_faces : length faces.0.0 ≡ counted.0.0.faces = many_ok (line_read (face counted.0.0.points)) counted.0.0.faces points.0.1 faces.0.0 faces.0.1 faces.1 in
    let each = many_all (IsFace counted.0.0.points) (line_read (face counted.0.0.points))
    (λ l x r h. let told = line_ok (face counted.0.0.points) l x r h in face_ok counted.0.0.points told.0 told.1 x told.2)
    counted.0.0.faces points.0.1 faces.0.0 faces.0.1 faces.1 in
    subst HasFaces is (record {
      few = omega arith;
      sides = λ k z h. (each k z h).sides;
      points = λ k z h. subst (λ (n : ℕ). All (λ (v : ℕ). v < n) (get_or faces.0.0 k z)) (sym many_points) (each k z h).points;
    })
  where
    of_rows : (rows : List Row) (made : Mesh) → ended made rows ≡ Ok mesh → made ≡ mesh
    of_rows [] made e = ok_is made mesh e
    of_rows (row ∷ rows) made e = let h = bind_ok (checked row) _ mesh e in absurd cc

-- What is read has faces of its points.
pub read_ok : (bytes : List ℕ) (r : Result told.Mesh OffFault) → Gives mesh_view r (mesh_of bytes) → IfOk r (λ mesh. HasFaces (mesh_view mesh))
read_ok bytes (Ok mesh) h = mesh_ok (left_of 0 (lines_of bytes)) (mesh_view mesh) h
read_ok bytes (Err fault) h = tt
