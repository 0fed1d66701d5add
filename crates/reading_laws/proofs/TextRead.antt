-- What is read of a text is what it tells, or its fault.
use Rattle.std.proofs.Common.{◌≡◌, ℕ, zero, suc, ◌+◌, ◌<◌, ◌≤◌, Bool, true, false, List, [], ◌∷◌, length, get_or, drop, Some, Result, Ok, Err, refl, sym, ap, ap₂, subst, ◌∙◌, inl, inr, arith}
use Rattle.std.specs.Prelude.{slice_get}
use Rattle.std.specs.List.{list_all}
use Rattle.std.proofs.lemmas.List.{length-drop}
use Rattle.std.proofs.lemmas.Option.{slice_get-get_or, slice_get_within}
use Rattle.map_defs.specs.TextWords.{is_text}
use Rattle.map_defs.specs.Values.{Value}
use Rattle.map_defs.specs.Off.{Mesh, What, Short, Extra, NotText, TextFault, Row, Left, Counts, ◌>>=◌, lines_of, left_of, line_read, many, point, face, header, ended, mesh_left, mesh_of}
use Rattle.reading_laws.specs.MeshTexts.{rows_of, read_row, read_at, line_of, nothing, AreCounts, of_counts, of_point, of_face, of_more, IsMeshText, HasFault}
use Rattle.reading_laws.proofs.RowsRead.{AreRead, IsStopped, ManyTold, many-told, not-wrong, slice_get-drop}
use Rattle.reading_laws.proofs.HeadRead.{HeadTold, head-told}
use Rattle.reading_laws.proofs.WrongRows.{read-within, counts-within, IsWrongBehind, wrong-behind, wrong-counts}

-- rows that are read are there
are-there : {A : Type 0} (read : List ℕ → List (List ℕ) → Result A What) (rows : List Row) (last p n : ℕ) (xs : List A) (rest : Left) → AreRead read rows last p n xs rest → p ≤ length rows → p + n ≤ length rows
are-there read rows last p zero xs rest r h = omega arith
are-there read rows last p (suc n) [] rest r h = absurd (omega (arith, r.1))
are-there read rows last p (suc n) (x ∷ xs) rest r h =
    let within = read-within Short read rows (p + n) (get_or (x ∷ xs) n x) (r.2 n (get_or (x ∷ xs) n x) (slice_get-get_or (x ∷ xs) n x (omega (arith, r.1)))) in
    omega (arith, within)

module _ (text : List ℕ) where
  abbrev rows : List Row
  rows = rows_of text

  abbrev last : ℕ
  last = length (lines_of text)

  abbrev pub TextTold : Result Mesh TextFault → Type 0
  TextTold (Ok mesh) = IsMeshText text mesh
  TextTold (Err fault) = HasFault text fault

  module _ (c : Counts) (n : ℕ) (counted : AreCounts rows n (Ok c)) where
    -- a row of a point is wrong
    in-points : (fault : TextFault) → IsStopped point rows last (n + 1) c.points fault → HasFault text fault
    in-points fault (q, low, high, wrong, line, none) = record {
      place = q;
      wrong = of_point c n counted (omega arith) (omega arith) wrong;
      line = line;
      first = λ r other below is. before r other below (wrong-behind rows n c counted r other is);
    }
      where
        before : (r : ℕ) (other : What) → r < q → IsWrongBehind rows n c r other → ⊥
        before r other below (inl (l, h, e)) = none r other (omega arith) below e
        before r other below (inr (inl (l, h, e))) = omega arith
        before r other below (inr (inr (l, h, e))) = omega arith

    module _ (points : List Value) (after : Left) (points-read : AreRead point rows last (n + 1) c.points points after) where
      -- a row of a face is wrong
      in-faces : (fault : TextFault) → IsStopped (face c.points) rows last (n + 1 + c.points) c.faces fault → HasFault text fault
      in-faces fault (q, low, high, wrong, line, none) = record {
        place = q;
        wrong = of_face c n counted (omega arith) (omega arith) wrong;
        line = line;
        first = λ r other below is. before r other below (wrong-behind rows n c counted r other is);
      }
        where
          before : (r : ℕ) (other : What) → r < q → IsWrongBehind rows n c r other → ⊥
          before r other below (inl (l, h, e)) = not-wrong point rows (n + 1) r other points points-read.2 (omega arith) (omega (arith, points-read.1)) e
          before r other below (inr (inl (l, h, e))) = none r other (omega arith) below e
          before r other below (inr (inr (l, h, e))) = omega arith

      module _ (faces : List (List ℕ)) (rest : Left) (faces-read : AreRead (face c.points) rows last (n + 1 + c.points) c.faces faces rest) where
        abbrev mesh : Mesh
        mesh = record { points = points; faces = faces }

        abbrev end : ℕ
        end = n + 1 + c.points + c.faces

        all-there : end ≤ length rows
        all-there =
            are-there (face c.points) rows last (n + 1 + c.points) c.faces faces rest faces-read
            (are-there point rows last (n + 1) c.points points after points-read (let h = counts-within rows n c counted in omega (arith, h)))

        none-before : (r : ℕ) (other : What) → r < end → IsWrongBehind rows n c r other → ⊥
        none-before r other below (inl (l, h, e)) = not-wrong point rows (n + 1) r other points points-read.2 (omega arith) (omega (arith, points-read.1)) e
        none-before r other below (inr (inl (l, h, e))) = not-wrong (face c.points) rows (n + 1 + c.points) r other faces faces-read.2 (omega arith) (omega (arith, faces-read.1)) e
        none-before r other below (inr (inr (l, h, e))) = omega arith

        -- a row follows the last face
        one-more : (row : Row) (what : What) → slice_get rows end ≡ Some row → read_row Short nothing (Some row) ≡ Err what → HasFault text (record { line = row.line; what = what })
        one-more row what is e = record {
          place = end;
          wrong = of_more c n counted (omega arith) (slice_get_within rows end row is) (ap (read_row Short nothing) is ∙ e);
          line = ap (line_of last) (sym is);
          first = λ r other below is. none-before r other below (wrong-behind rows n c counted r other is);
        }

        at-end : (others : List Row) → drop end rows ≡ others → TextTold (ended mesh others)
        at-end [] is = record {
          place = n;
          counted = subst (λ (k : Counts). AreCounts rows n (Ok k)) told counted;
          points = points-read.2;
          faces = λ j x e. ap (λ (m : ℕ). read_at Short (face m) rows (n + 1 + m + j)) points-read.1 ∙ faces-read.2 j x e;
          ended = omega (arith, all-there, length-drop end rows, ap length is, points-read.1, faces-read.1);
        }
          where
            made : Counts
            made = record { points = length points; faces = length faces }

            told : c ≡ made
            told = ap₂ (λ (p f : ℕ). record { points = p; faces = f }) (sym points-read.1) (sym faces-read.1)
        at-end (row ∷ others) is = at (list_all is_text (row.first ∷ row.others)) refl
          where
            found : slice_get rows end ≡ Some row
            found = ap (slice_get rows) (omega arith) ∙ (sym (slice_get-drop end 0 rows) ∙ ap (λ (rs : List Row). slice_get rs 0) is)

            at : (b : Bool) → list_all is_text (row.first ∷ row.others) ≡ b → TextTold (ended mesh (row ∷ others))
            at true e = rw e (one-more row Extra found (rw e refl))
            at false e = rw e (one-more row NotText found (rw e refl))

        ends-told : TextTold (ended mesh rest.rows)
        ends-told = subst (λ (l : Left). TextTold (ended mesh l.rows)) (sym faces-read.0) (at-end (drop (n + 1 + c.points + c.faces) rows) refl)

      faces-told : (r : Result (List (List ℕ) × Left) TextFault) → ManyTold (face c.points) rows last (n + 1 + c.points) c.faces r
          → TextTold (r >>= λ faces. ended (record { points = points; faces = faces.0 }) faces.1.rows)
      faces-told (Ok (faces, rest)) are = ends-told faces rest are
      faces-told (Err fault) stopped = in-faces fault stopped

    points-told : (r : Result (List Value × Left) TextFault) → ManyTold point rows last (n + 1) c.points r
        → TextTold (r >>= λ points. (many (line_read (face c.points)) c.faces points.1 >>= λ faces. ended (record { points = points.0; faces = faces.0 }) faces.1.rows))
    points-told (Ok (points, after)) are =
        faces-told points after are (many (line_read (face c.points)) c.faces after)
        (subst (λ (l : Left). ManyTold (face c.points) rows last (n + 1 + c.points) c.faces (many (line_read (face c.points)) c.faces l)) (sym are.0) (many-told (face c.points) rows last c.faces (n + 1 + c.points)))
    points-told (Err fault) stopped = in-points fault stopped

  whole-told : (r : Result (Counts × Left) TextFault) → HeadTold rows last r
      → TextTold (r >>= λ counted. (many (line_read point) counted.0.points counted.1 >>= λ points. (many (line_read (face counted.0.points)) counted.0.faces points.1 >>= λ faces. ended (record { points = points.0; faces = faces.0 }) faces.1.rows)))
  whole-told (Ok (c, rest)) (n, counted, is) =
      points-told c n counted (many (line_read point) c.points rest)
      (subst (λ (l : Left). ManyTold point rows last (n + 1) c.points (many (line_read point) c.points l)) (sym is) (many-told point rows last c.points (n + 1)))
  whole-told (Err fault) (n, counted, line) = record {
    place = n;
    wrong = of_counts counted;
    line = line;
    first = λ q other below is. let low = wrong-counts rows n (Err fault.what) counted q other is in absurd (omega (arith, low));
  }

  -- What is read of a text is the mesh that it tells, or its fault.
  pub text-told : TextTold (mesh_of text)
  unfolding mesh_left
  text-told =
      let start : left_of 0 (lines_of text) ≡ record { rows = rows; last = last } = ap (λ (m : ℕ). record { rows = rows; last = m }) (omega arith) in
      rw start (whole-told (header (record { rows = rows; last = last })) (head-told rows last))
