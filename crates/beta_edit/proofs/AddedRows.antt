-- Rows of new darts, added one behind another, by the entries that they tell, and beside the changes of old darts.
use Rattle.std.proofs.Common.{ℕ, ◌≡◌, ◌+◌, ◌-◌, ◌<◌, ◌≤◌, ◌⊎◌, ◌↔◌, List, [], ◌∷◌, ◌++◌, length, take, get_or, Contains, refl, sym, ap, ◌∙◌, subst, inl, inr, arith}
use Rattle.std.specs.Prelude.{Option, None, slice_index, slice_index_or, slice_set}
use Rattle.std.proofs.lemmas.Bool.{cases_lt}
use Rattle.std.proofs.lemmas.List.{take_all, take_more, length-append, get_or_append_left, get_or-append_right}
use Rattle.std.proofs.lemmas.List.Elements.{Contains-append_left, Contains-push, Contains-push_cases}
use Rattle.std.proofs.Math.Seq.{set-append_seam}
use Rattle.map_defs.specs.Links.{Links}
use Rattle.map_defs.specs.Edits.{Change}
use Rattle.link_rows.specs.BornRows.{NewRows, led_back, rows_changes}
use Rattle.link_rows.proofs.BornChanges.{led-none}
use Rattle.cell_edit.specs.Writing.{WritesEntries, Appends, IsRowEntry}
use Rattle.cell_edit.proofs.RowEntries.{rows-write}
use Rattle.cell_edit.proofs.Appending.{each-more}
use Rattle.cell_edit.proofs.Writings.{writes-append, writes-same}
use Rattle.beta_edit.specs.Growing.{AddsRow}
use Rattle.beta_edit.specs.Entries.{IsNewEntry}

-- ---- the row that stands behind the others is that of the next dart
module _ (rows : List (List ℕ)) (row : List ℕ) where
  row_last : slice_index_or (rows ++ row ∷ []) (length rows) [] ≡ row
  row_last =
      let here : length rows - length rows ≡ 0 = omega arith in
      get_or-append_right rows (row ∷ []) (length rows) (length rows) [] refl (omega arith) ∙ ap (λ p. slice_index_or (row ∷ []) p []) here

  -- and it can be replaced
  pub row-replaced : (p : ℕ) (f : List ℕ → List ℕ) → p ≡ length rows → slice_set (rows ++ row ∷ []) p (f (slice_index_or (rows ++ row ∷ []) p [])) ≡ rows ++ f row ∷ []
  row-replaced p f at =
      ap (λ q. slice_set (rows ++ row ∷ []) q (f (slice_index_or (rows ++ row ∷ []) q []))) at
      ∙ ap (λ r. slice_set (rows ++ row ∷ []) (length rows) (f r)) row_last
      ∙ set-append_seam rows row [] (f row)

  module _ (first d t y : ℕ) where
    to : IsRowEntry first (rows ++ row ∷ []) d t y → IsRowEntry first rows d t y ⊎ IsNewEntry (slice_index row) (first + length rows) d t y
    to (p, low, is, new, some) = elim (cases_lt p (length rows)) [
      | inl below ↦ inl (p, below, is, new ∙ ap (λ (r : List ℕ). slice_index r t) (get_or_append_left rows (row ∷ []) [] p below), some)
      | inr past ↦ (
          let at : p ≡ length rows = omega (arith, length-append rows (row ∷ [])) in
          inr (
            is ∙ ap (λ q. first + q) at,
            new ∙ ap (λ q. slice_index (slice_index_or (rows ++ row ∷ []) q []) t) at ∙ ap (λ (r : List ℕ). slice_index r t) row_last,
            some,
          ))
    ]

    from : IsRowEntry first rows d t y ⊎ IsNewEntry (slice_index row) (first + length rows) d t y → IsRowEntry first (rows ++ row ∷ []) d t y
    from (inl (p, low, is, new, some)) = (
      p,
      omega (arith, length-append rows (row ∷ []), low),
      is,
      new ∙ sym (ap (λ (r : List ℕ). slice_index r t) (get_or_append_left rows (row ∷ []) [] p low)),
      some,
    )
    from (inr (is, new, some)) = (length rows, omega (arith, length-append rows (row ∷ [])), is, new ∙ sym (ap (λ (r : List ℕ). slice_index r t) row_last), some)

-- the entries of rows, where one was added that has these links
row-added : (link : ℕ → ℕ) (old new : NewRows) (first s d t y : ℕ) → s ≡ first + length old.rows → AddsRow link old new
    → IsRowEntry first new.rows d t y ↔ (IsRowEntry first old.rows d t y ⊎ IsNewEntry link s d t y)
row-added link old new first s d t y is (row, added, links) = (λ e. turn (to old.rows row first d t y (subst (λ rs. IsRowEntry first rs d t y) grown e)), λ e. subst (λ rs. IsRowEntry first rs d t y) (sym grown) (from old.rows row first d t y (back e)))
  where
    grown : new.rows ≡ old.rows ++ row ∷ []
    grown = ap (λ (r : NewRows). r.rows) added

    turn : IsRowEntry first old.rows d t y ⊎ IsNewEntry (slice_index row) (first + length old.rows) d t y → IsRowEntry first old.rows d t y ⊎ IsNewEntry link s d t y
    turn (inl e) = inl e
    turn (inr e) = inr (e.0 ∙ sym is, e.1 ∙ links t, e.2)

    back : IsRowEntry first old.rows d t y ⊎ IsNewEntry link s d t y → IsRowEntry first old.rows d t y ⊎ IsNewEntry (slice_index row) (first + length old.rows) d t y
    back (inl e) = inl e
    back (inr e) = inr (e.0 ∙ is, e.1 ∙ sym (links t), e.2)

-- ---- for each of a list the changes of old darts, and the row of a new one
module _ {X : Type 0} where
  abbrev pub AreOf : (X → ℕ → ℕ → ℕ → Type 0) → List X → ℕ → ℕ → ℕ → Type 0
  AreOf E xs d t y = (x : X) × Contains xs x × E x d t y

  -- ---- the entries of the first of the list, and of one more
  module _ (E : X → ℕ → ℕ → ℕ → Type 0) (xs : List X) (p : ℕ) (x : X) (low : p < length xs) (at : x ≡ get_or xs p x) where
    more : take (p + 1) xs ≡ take p xs ++ x ∷ []
    more = take_more xs p x low ∙ ap (λ (e : X). take p xs ++ e ∷ []) (sym at)

    before : (d t y : ℕ) → AreOf E (take p xs) d t y → AreOf E (take (p + 1) xs) d t y
    before d t y e = (e.0, subst (λ us. Contains us e.0) (sym more) (Contains-append_left (take p xs) (x ∷ []) e.0 e.1), e.2)

    here : (d t y : ℕ) → E x d t y → AreOf E (take (p + 1) xs) d t y
    here d t y e = (x, subst (λ us. Contains us x) (sym more) (Contains-push (take p xs) x), e)

    which : (d t y : ℕ) → AreOf E (take (p + 1) xs) d t y → AreOf E (take p xs) d t y ⊎ E x d t y
    which d t y e = last (Contains-push_cases (take p xs) x e.0 (subst (λ us. Contains us e.0) more e.1))
      where
        last : Contains (take p xs) e.0 ⊎ (x ≡ e.0) → AreOf E (take p xs) d t y ⊎ E x d t y
        last (inl has) = inl (e.0, has, e.2)
        last (inr is) = inr (subst (λ u. E u d t y) (sym is) e.2)

    -- where it has none
    none_more : ((d t y : ℕ) → E x d t y → ⊥) → (d t y : ℕ) → AreOf E (take p xs) d t y ↔ AreOf E (take (p + 1) xs) d t y
    none_more none d t y = (before d t y, λ e. old (which d t y e))
      where
        old : AreOf E (take p xs) d t y ⊎ E x d t y → AreOf E (take p xs) d t y
        old (inl e) = e
        old (inr e) = absurd (none d t y e)

    -- rows that tell those of the first, and then those of one more
    each_added : (told added one : ℕ → ℕ → ℕ → Type 0) → ((d t y : ℕ) → added d t y ↔ (told d t y ⊎ one d t y)) → ((d t y : ℕ) → one d t y ↔ E x d t y)
        → ((d t y : ℕ) → told d t y ↔ AreOf E (take p xs) d t y) → (d t y : ℕ) → added d t y ↔ AreOf E (take (p + 1) xs) d t y
    each_added told added one adds same firsts d t y = (λ e. to_new ((adds d t y).0 e), λ e. (adds d t y).1 (from_new (which d t y e)))
      where
        to_new : told d t y ⊎ one d t y → AreOf E (take (p + 1) xs) d t y
        to_new (inl e) = before d t y ((firsts d t y).0 e)
        to_new (inr e) = here d t y ((same d t y).0 e)

        from_new : AreOf E (take p xs) d t y ⊎ E x d t y → told d t y ⊎ one d t y
        from_new (inl e) = inl ((firsts d t y).1 e)
        from_new (inr e) = inr ((same d t y).1 e)

  module _ (L : Links) (Old New : X → ℕ → ℕ → ℕ → Type 0) (xs : List X) (first width : ℕ) where
    -- The changes write the entries of old darts of the first p of the list, and the rows, so many of this width, tell those of
    -- the new darts, which are numbered on from the first.
    pub record HasGrown (p count : ℕ) (cs : List Change) (born : NewRows) : Type 0 where
      pub writes : WritesEntries L (AreOf Old (take p xs)) cs
      pub begins : born.first ≡ first
      pub wide : born.width ≡ width
      pub back : born.back ≡ None
      pub long : length born.rows ≡ count
      pub tells : (d t y : ℕ) → IsRowEntry first born.rows d t y ↔ AreOf New (take p xs) d t y

    module _ (p count : ℕ) (x : X) (cs : List Change) (born : NewRows) (low : p < length xs) (at : x ≡ get_or xs p x) (has : HasGrown p count cs born) where
      -- one more of the list has no entries
      pub grown-skip : ((d t y : ℕ) → Old x d t y → ⊥) → ((d t y : ℕ) → New x d t y → ⊥) → HasGrown (p + 1) count cs born
      grown-skip old new = record {
        writes = writes-same L (AreOf Old (take p xs)) (AreOf Old (take (p + 1) xs)) cs (none_more Old xs p x low at old) has.writes;
        begins = has.begins;
        wide = has.wide;
        back = has.back;
        long = has.long;
        tells = λ d t y. let more = none_more New xs p x low at new d t y in ((λ e. more.0 ((has.tells d t y).0 e)), λ e. (has.tells d t y).1 (more.1 e));
      }

      -- it has changes, and a row with these links of the next new dart, which is s
      pub grown-more : (link : ℕ → ℕ) (s : ℕ) (ds : List Change) (now : NewRows) → s ≡ first + count
          → ((u : X) → Contains (take p xs) u → (d t y z : ℕ) → Old u d t y → Old x d t z → ⊥) → Appends L (Old x) cs ds
          → AddsRow link born now → ((d t y : ℕ) → IsNewEntry link s d t y ↔ New x d t y) → HasGrown (p + 1) (count + 1) ds now
      grown-more link s ds now next apart appends adds same = record {
        writes = each-more L Old xs p x cs ds low at apart has.writes appends;
        begins = ap (λ (r : NewRows). r.first) adds.1 ∙ has.begins;
        wide = ap (λ (r : NewRows). r.width) adds.1 ∙ has.wide;
        back = ap (λ (r : NewRows). r.back) adds.1 ∙ has.back;
        long = ap (λ (r : NewRows). length r.rows) adds.1 ∙ length-append born.rows (adds.0 ∷ []) ∙ ap (λ n. n + 1) has.long;
        tells = each_added New xs p x low at (IsRowEntry first born.rows) (IsRowEntry first now.rows) (IsNewEntry link s)
            (λ d t y. row-added link born now first s d t y (next ∙ ap (λ n. first + n) (sym has.long)) adds) same has.tells;
      }

    -- all of the list are done
    pub grown-all : (p count : ℕ) (cs : List Change) (born : NewRows) → length xs ≤ p → ((t d : ℕ) → first ≤ d → L t d ≡ 0) → ((d t y : ℕ) → AreOf Old xs d t y → d < first)
        → HasGrown p count cs born → WritesEntries L (AreOf (λ x d t y. Old x d t y ⊎ New x d t y) xs) (cs ++ (led_back born.back born.first born.rows ++ rows_changes born.first born.rows))
    grown-all p count cs born past free made has =
        subst (WritesEntries L (AreOf (λ x d t y. Old x d t y ⊎ New x d t y) xs)) (sym told)
        (writes-same L (λ d t y. AreOf Old xs d t y ⊎ IsRowEntry first born.rows d t y) (AreOf (λ x d t y. Old x d t y ⊎ New x d t y) xs) (cs ++ rows_changes first born.rows)
        (λ d t y. (to_both d t y, from_both d t y))
        (writes-append L (AreOf Old xs) (IsRowEntry first born.rows) cs (rows_changes first born.rows) (λ d t y z e f. let low = made d t y e in omega (arith, low, f.2))
        (subst (λ (us : List X). WritesEntries L (AreOf Old us) cs) all has.writes) (rows-write L first born.rows free)))
      where
        -- no old dart leads back by them
        told : cs ++ (led_back born.back born.first born.rows ++ rows_changes born.first born.rows) ≡ cs ++ rows_changes first born.rows
        told =
            ap (λ (b : Option ℕ). cs ++ (led_back b born.first born.rows ++ rows_changes born.first born.rows)) has.back
            ∙ ap (λ (bs : List Change). cs ++ (bs ++ rows_changes born.first born.rows)) (led-none born.first born.rows)
            ∙ ap (λ (f : ℕ). cs ++ rows_changes f born.rows) has.begins

        all : take p xs ≡ xs
        all = take_all p xs past

        tells : (d t y : ℕ) → IsRowEntry first born.rows d t y ↔ AreOf New xs d t y
        tells d t y = subst (λ us. IsRowEntry first born.rows d t y ↔ AreOf New us d t y) all (has.tells d t y)

        to_both : (d t y : ℕ) → AreOf Old xs d t y ⊎ IsRowEntry first born.rows d t y → AreOf (λ x d t y. Old x d t y ⊎ New x d t y) xs d t y
        to_both d t y (inl e) = (e.0, e.1, inl e.2)
        to_both d t y (inr e) = let f = (tells d t y).0 e in (f.0, f.1, inr f.2)

        from_both : (d t y : ℕ) → AreOf (λ x d t y. Old x d t y ⊎ New x d t y) xs d t y → AreOf Old xs d t y ⊎ IsRowEntry first born.rows d t y
        from_both d t y (x, has_x, inl e) = inl (x, has_x, e)
        from_both d t y (x, has_x, inr e) = inr ((tells d t y).1 (x, has_x, e))
