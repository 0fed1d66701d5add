-- A text tells one mesh or has one fault.
use Rattle.std.proofs.Common.{◌≡◌, ℕ, ◌+◌, List, length, get_or, Some, Result, Ok, Err, sym, ap, ap₂, subst, ◌∙◌, inl, inr, arith}
use Rattle.std.specs.Prelude.{slice_get}
use Rattle.std.proofs.lemmas.Bool.{cases_order}
use Rattle.std.proofs.lemmas.List.{same_lists}
use Rattle.std.proofs.lemmas.Option.{slice_get-get_or}
use Rattle.map_defs.specs.Values.{Value}
use Rattle.map_defs.specs.Off.{Mesh, What, Short, TextFault, Row, Counts, lines_of, point, face, mesh_of}
use Rattle.reading_laws.specs.MeshTexts.{rows_of, read_at, line_of, IsWrong, IsMeshText, HasFault}
use Rattle.reading_laws.proofs.RowsRead.{not-wrong}
use Rattle.reading_laws.proofs.HeadRead.{one-counts}
use Rattle.reading_laws.proofs.WrongRows.{IsWrongBehind, wrong-behind, one-wrong}
use Rattle.reading_laws.proofs.TextRead.{TextTold, text-told}

abbrev read_as : {A : Type 0} → A → Result A What
read_as x = Ok x

same-read : {A : Type 0} (x y : A) → read_as x ≡ read_as y → x ≡ y
same-read x y e = cc

-- rows that are read as two lists
as-one-list : {A : Type 0} (read : List ℕ → List (List ℕ) → Result A What) (rows : List Row) (p : ℕ) (xs ys : List A) → length xs ≡ length ys
    → ((j : ℕ) (x : A) → slice_get xs j ≡ Some x → read_at Short read rows (p + j) ≡ Ok x) → ((j : ℕ) (y : A) → slice_get ys j ≡ Some y → read_at Short read rows (p + j) ≡ Ok y) → xs ≡ ys
as-one-list read rows p xs ys long one two =
    same_lists xs ys long
    (λ k d h.
    same-read (get_or xs k d) (get_or ys k d) (sym (one k (get_or xs k d) (slice_get-get_or xs k d h)) ∙ two k (get_or ys k d) (slice_get-get_or ys k d (omega arith))))

module _ (text : List ℕ) where
  abbrev rows : List Row
  rows = rows_of text

  pub one-mesh : (x y : Mesh) → IsMeshText text x → IsMeshText text y → x ≡ y
  one-mesh x y one two =
      let cx : Counts = record { points = length x.points; faces = length x.faces } in
      let cy : Counts = record { points = length y.points; faces = length y.faces } in
      let same = one-counts rows one.place two.place (Ok cx) (Ok cy) one.counted two.counted in
      let counts : cx ≡ cy = same-read cx cy same.1 in
      let points-long : length x.points ≡ length y.points = ap (λ (c : Counts). c.points) counts in
      let faces-long : length x.faces ≡ length y.faces = ap (λ (c : Counts). c.faces) counts in
      let points : x.points ≡ y.points = as-one-list point rows (one.place + 1) x.points y.points points-long one.points
      (λ j v e. ap (λ (p : ℕ). read_at Short point rows (p + 1 + j)) same.0 ∙ two.points j v e) in
      let faces : x.faces ≡ y.faces = as-one-list (face (length x.points)) rows (one.place + 1 + length x.points) x.faces y.faces faces-long one.faces
      (λ j v e. ap₂ (λ (p m : ℕ). read_at Short (face m) rows (p + 1 + m + j)) same.0 points-long ∙ two.faces j v e) in
      ap₂ (λ (ps : List Value) (fs : List (List ℕ)). record { points = ps; faces = fs }) points faces

  pub one-fault : (x y : TextFault) → HasFault text x → HasFault text y → x ≡ y
  one-fault x y one two = elim (cases_order one.place two.place) [
    | inl same ↦
        let what : x.what ≡ y.what = one-wrong rows two.place x.what y.what (subst (λ (p : ℕ). IsWrong rows p x.what) same one.wrong) two.wrong in
        let line : x.line ≡ y.line = one.line ∙ (ap (λ (p : ℕ). line_of (length (lines_of text)) (slice_get rows p)) same ∙ sym two.line) in
        ap₂ (λ (l : ℕ) (w : What). record { line = l; what = w }) line what
    | inr (inl below) ↦ absurd (two.first one.place x.what below one.wrong)
    | inr (inr above) ↦ absurd (one.first two.place y.what above two.wrong)
  ]

  pub no-fault : (mesh : Mesh) (fault : TextFault) → IsMeshText text mesh → HasFault text fault → ⊥
  no-fault mesh fault told bad = wrong (wrong-behind rows told.place (record { points = length mesh.points; faces = length mesh.faces }) told.counted bad.place fault.what bad.wrong)
    where
      wrong : IsWrongBehind rows told.place (record { points = length mesh.points; faces = length mesh.faces }) bad.place fault.what → ⊥
      wrong (inl (low, high, e)) = not-wrong point rows (told.place + 1) bad.place fault.what mesh.points told.points (omega arith) (omega arith) e
      wrong (inr (inl (low, high, e))) =
          not-wrong (face (length mesh.points)) rows (told.place + 1 + length mesh.points) bad.place fault.what mesh.faces told.faces (omega arith) (omega arith) e
      wrong (inr (inr (low, high, e))) = let end = told.ended in omega arith

  -- The mesh that is read is the one that the text tells, and the fault that is found is the one that it has.
  pub mesh-is-told : (mesh : Mesh) → mesh_of text ≡ Ok mesh → IsMeshText text mesh
  mesh-is-told mesh e = subst (TextTold text) e (text-told text)

  pub fault-is-there : (fault : TextFault) → mesh_of text ≡ Err fault → HasFault text fault
  fault-is-there fault e = subst (TextTold text) e (text-told text)

  pub told-is-read : (mesh : Mesh) → IsMeshText text mesh → mesh_of text ≡ Ok mesh
  told-is-read mesh told = at (mesh_of text) (text-told text)
    where
      at : (r : Result Mesh TextFault) → TextTold text r → r ≡ Ok mesh
      at (Ok other) is = ap (λ (m : Mesh). Ok m) (one-mesh other mesh is told)
      at (Err fault) bad = absurd (no-fault mesh fault told bad)

  pub fault-is-found : (fault : TextFault) → HasFault text fault → mesh_of text ≡ Err fault
  fault-is-found fault bad = at (mesh_of text) (text-told text)
    where
      at : (r : Result Mesh TextFault) → TextTold text r → r ≡ Err fault
      at (Ok mesh) is = absurd (no-fault mesh fault is bad)
      at (Err other) is = ap (λ (f : TextFault). Err f) (one-fault other fault is bad)
