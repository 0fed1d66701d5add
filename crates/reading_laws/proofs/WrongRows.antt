-- What is wrong at a place, behind the counts.
use Rattle.std.proofs.Common.{◌≡◌, ℕ, ◌+◌, ◌<◌, ◌≤◌, ◌⊎◌, List, ◌∷◌, length, Option, Some, None, Result, Ok, Err, refl, sym, ap, subst, ◌∙◌, inl, inr, arith}
use Rattle.std.specs.Prelude.{slice_get}
use Rattle.std.proofs.lemmas.Option.{slice_get_within}
use Rattle.map_defs.specs.Off.{What, Short, NoHeader, Row, Counts, counts, point, face}
use Rattle.reading_laws.specs.MeshTexts.{read_row, read_at, behind_off, nothing, AreCounts, no_header, beside, below, IsWrong, of_counts, of_point, of_face, of_more}
use Rattle.reading_laws.proofs.HeadRead.{one-counts}

-- what is read stands there
pub read-within : {A : Type 0} (missing : What) (read : List ℕ → List (List ℕ) → Result A What) (rows : List Row) (p : ℕ) (x : A) → read_at missing read rows p ≡ Ok x → p < length rows
read-within {A = A} missing read rows p x e = at (slice_get rows p) refl e
  where
    at : (o : Option Row) → slice_get rows p ≡ o → read_row missing read o ≡ Ok x → p < length rows
    at None is e = absurd (cc (e))
    at (Some row) is e = slice_get_within rows p row is

pub counts-within : (rows : List Row) (p : ℕ) (c : Counts) → AreCounts rows p (Ok c) → p < length rows
counts-within rows p c (no_header what at head is) = absurd (cc (is))
counts-within rows p c (beside first others at head is) = subst (λ (q : ℕ). q < length rows) (sym at) (read-within NoHeader behind_off rows 0 (first ∷ others) head)
counts-within rows p c (below at head is) = subst (λ (q : ℕ). q < length rows) (sym at) (read-within Short counts rows 1 c (sym is))

module _ (rows : List Row) (n : ℕ) (c : Counts) where
  -- a row of a point is wrong, or of a face, or one that is too many
  abbrev pub IsWrongBehind : ℕ → What → Type 0
  IsWrongBehind p what =
      ((n < p) × (p ≤ n + c.points) × (read_at Short point rows p ≡ Err what))
      ⊎ (((n + c.points < p) × (p ≤ n + c.points + c.faces) × (read_at Short (face c.points) rows p ≡ Err what))
      ⊎ ((n + c.points + c.faces < p) × (p < length rows) × (read_at Short nothing rows p ≡ Err what)))

  pub one-behind : (p : ℕ) (x y : What) → IsWrongBehind p x → IsWrongBehind p y → x ≡ y
  one-behind p x y (inl (low, high, e)) (inl (down, up, f)) = cc
  one-behind p x y (inl (low, high, e)) (inr (inl (down, up, f))) = absurd (omega arith)
  one-behind p x y (inl (low, high, e)) (inr (inr (down, up, f))) = absurd (omega arith)
  one-behind p x y (inr (inl (low, high, e))) (inl (down, up, f)) = absurd (omega arith)
  one-behind p x y (inr (inl (low, high, e))) (inr (inl (down, up, f))) = cc
  one-behind p x y (inr (inl (low, high, e))) (inr (inr (down, up, f))) = absurd (omega arith)
  one-behind p x y (inr (inr (low, high, e))) (inl (down, up, f)) = absurd (omega arith)
  one-behind p x y (inr (inr (low, high, e))) (inr (inl (down, up, f))) = absurd (omega arith)
  one-behind p x y (inr (inr (low, high, e))) (inr (inr (down, up, f))) = cc

  pub wrong-behind : AreCounts rows n (Ok c) → (p : ℕ) (what : What) → IsWrong rows p what → IsWrongBehind p what
  wrong-behind counted p what (of_counts other) = let same = one-counts rows n p (Ok c) (Err what) counted other in absurd (cc (same.1))
  wrong-behind counted p what (of_point d m other low high e) =
      let same = one-counts rows n m (Ok c) (Ok d) counted other in
      let is : c ≡ d = cc (same.1) in
      let points = ap (λ (k : Counts). k.points) is in
      inl (omega (arith, same.0), omega (arith, same.0, points), e)
  wrong-behind counted p what (of_face d m other low high e) =
      let same = one-counts rows n m (Ok c) (Ok d) counted other in
      let is : c ≡ d = cc (same.1) in
      let points = ap (λ (k : Counts). k.points) is in
      let faces = ap (λ (k : Counts). k.faces) is in
      inr (inl (omega (arith, same.0, points), omega (arith, same.0, points, faces), ap (λ (m : ℕ). read_at Short (face m) rows p) points ∙ e))
  wrong-behind counted p what (of_more d m other low high e) =
      let same = one-counts rows n m (Ok c) (Ok d) counted other in
      let is : c ≡ d = cc (same.1) in
      let points = ap (λ (k : Counts). k.points) is in
      let faces = ap (λ (k : Counts). k.faces) is in
      inr (inr (omega (arith, same.0, points, faces), high, e))

-- what is wrong before the counts is wrong with them
pub wrong-counts : (rows : List Row) (n : ℕ) (read : Result Counts What) → AreCounts rows n read → (p : ℕ) (what : What) → IsWrong rows p what → n ≤ p
wrong-counts rows n read counted p what (of_counts other) = let same = one-counts rows n p read (Err what) counted other in omega (arith, same.0)
wrong-counts rows n read counted p what (of_point d m other low high e) = let same = one-counts rows n m read (Ok d) counted other in omega (arith, same.0)
wrong-counts rows n read counted p what (of_face d m other low high e) = let same = one-counts rows n m read (Ok d) counted other in omega (arith, same.0)
wrong-counts rows n read counted p what (of_more d m other low high e) = let same = one-counts rows n m read (Ok d) counted other in omega (arith, same.0)

-- one thing is wrong at a place
pub one-wrong : (rows : List Row) (p : ℕ) (x y : What) → IsWrong rows p x → IsWrong rows p y → x ≡ y
one-wrong rows p x y (of_counts counted) bad = at bad
  where
    at : IsWrong rows p y → x ≡ y
    at (of_counts other) = let same = one-counts rows p p (Err x) (Err y) counted other in cc (same.1)
    at (of_point d m other low high e) = let same = one-counts rows p m (Err x) (Ok d) counted other in absurd (cc (same.1))
    at (of_face d m other low high e) = let same = one-counts rows p m (Err x) (Ok d) counted other in absurd (cc (same.1))
    at (of_more d m other low high e) = let same = one-counts rows p m (Err x) (Ok d) counted other in absurd (cc (same.1))
one-wrong rows p x y (of_point c n counted low high e) bad = one-behind rows n c p x y (inl (low, high, e)) (wrong-behind rows n c counted p y bad)
one-wrong rows p x y (of_face c n counted low high e) bad = one-behind rows n c p x y (inr (inl (low, high, e))) (wrong-behind rows n c counted p y bad)
one-wrong rows p x y (of_more c n counted low high e) bad = one-behind rows n c p x y (inr (inr (low, high, e))) (wrong-behind rows n c counted p y bad)
