-- The rows of the new darts, and the changes by which open darts are joined to these: together they write what a closing asks.
use Rattle.std.proofs.Common.{ℕ, zero, suc, ◌≡◌, ◌≢◌, ◌+◌, ◌<◌, ◌≤◌, ◌⊎◌, List, [], ◌∷◌, ◌++◌, length, slice_index, Contains, refl, sym, ap, ap₂, ◌∙◌, subst, inl, inr, arith}
use Rattle.std.specs.Prelude.{Option, Some, map, slice_index_or, slice_set}
use Rattle.std.proofs.lemmas.Bool.{cases_lt, cases_eq, ne_eqb}
use Rattle.std.proofs.lemmas.List.{get_or_append_left, get_or_at, length-set, get_or-set_same, get_or-set_other, length_push}
use Rattle.map_defs.specs.Kind.{Kind}
use Rattle.map_defs.specs.Links.{Links}
use Rattle.map_defs.specs.Edits.{Change}
use Rattle.map_defs.specs.Rows.{Rows, links_of, IsSound}
use Rattle.insert_laws.proofs.Paths.{held_at, held_is}
use Rattle.cell_edit.specs.Stars.{Stars, star_of}
use Rattle.cell_edit.specs.Writing.{WritesEntries, IsLinkEntry, IsRowEntry}
use Rattle.cell_edit.proofs.Beyond.{unmade-free}
use Rattle.cell_edit.proofs.Premises.{live-dart}
use Rattle.cell_edit.proofs.StarNumbers.{rises, star-found}
use Rattle.cell_edit.proofs.Writings.{writes-none, writes-one, writes-append, writes-same}
use Rattle.link_rows.specs.BornRows.{NewRows, back_changes, led_back, rows_changes}
use Rattle.map_close.specs.NewLinks.{IsNewLink, IsNewRow, AreClosingEntries, CanClose, IsClosedBelow}
use Rattle.cell_edit.proofs.RowEntries.{within-row, rows-write}
use Rattle.map_close.proofs.NewLinkFacts.{link-one}
use Rattle.map_close.proofs.OpenFacts.{key-live, key-free, key-made, star-above, rounds}
use Rattle.map_close.proofs.StarNumbers.{star-key}

-- one more number of the row of a new dart
pub new-put : (k : Kind) (n i : ℕ) (L : Links) (star : ℕ → ℕ) (x : ℕ) (row : List ℕ) (at z : ℕ) → at < n + 1 → length row ≡ n + 1 → ((t : ℕ) → t < at → IsNewLink k i L star x t (slice_index row t))
    → IsNewLink k i L star x at z → (length (slice_set row at z) ≡ n + 1) × ((t : ℕ) → t < at + 1 → IsNewLink k i L star x t (slice_index (slice_set row at z) t))
new-put k n i L star x row at z low long tells link = (length-set row at z ∙ long, λ t within. put t within (cases_lt t at))
  where
    put : (t : ℕ) → t < at + 1 → (t < at) ⊎ (at ≤ t) → IsNewLink k i L star x t (slice_index (slice_set row at z) t)
    put t within (inl less) = subst (IsNewLink k i L star x t) (sym (get_or-set_other row at t z 0 (λ e. omega arith))) (tells t less)
    put t within (inr more) =
        let same : at ≡ t = omega arith in
        subst (λ u. IsNewLink k i L star x u (slice_index (slice_set row at z) u)) same
        (subst (IsNewLink k i L star x at) (sym (get_or-set_same row at z 0 (omega (arith, long)))) link)

-- ---- the changes of the open darts
-- the changes by which link i of each of these darts becomes its new dart
abbrev joinings : ℕ → (ℕ → ℕ) → List ℕ → List Change
joinings i star keys = map (λ x. record { dart = x; link = i; old = 0; new = star x }) keys

-- the entries of these darts, whose links i become their new darts
abbrev AreJoined : ℕ → (ℕ → ℕ) → List ℕ → ℕ → ℕ → ℕ → Type 0
AreJoined i star keys d t y = (x : ℕ) × Contains keys x × IsLinkEntry x i (star x) d t y

module _ (L : Links) (i : ℕ) (star : ℕ → ℕ) where
  abbrev IsFirst : ℕ → ℕ → ℕ → ℕ → Type 0
  IsFirst x d t y = (d ≡ x) × (t ≡ i) × (y ≡ star x)

  joinings-write : (keys : List ℕ) → ((x : ℕ) → Contains keys x → (L i x ≡ 0) × (star x ≢ 0)) → ((p q : ℕ) → p < q → q < length keys → slice_index keys p ≢ slice_index keys q)
      → WritesEntries L (AreJoined i star keys) (joinings i star keys)
  joinings-write [] free once = writes-none L (AreJoined i star []) (λ d t y e. omega (arith, e.1.1))
  joinings-write (x ∷ keys) free once =
      writes-same L (λ d t y. IsFirst x d t y ⊎ AreJoined i star keys d t y) (AreJoined i star (x ∷ keys)) (joinings i star (x ∷ keys)) (λ d t y. (to d t y, from d t y))
      (writes-append L (IsFirst x) (AreJoined i star keys) (record { dart = x; link = i; old = 0; new = star x } ∷ []) (joinings i star keys)
      (λ d t y z e f. once 0 (suc f.1.0) (omega arith) (omega (arith, f.1.1)) (sym e.0 ∙ f.2.0 ∙ sym (held_is keys f.0 f.1)))
      (writes-one L (record { dart = x; link = i; old = 0; new = star x }) (sym here.0))
      (joinings-write keys (λ u has. free u (later u has)) (λ p q less low. once (suc p) (suc q) (omega arith) (omega arith))))
    where
      here : (L i x ≡ 0) × (star x ≢ 0)
      here = free x (0, omega arith, refl)

      later : (u : ℕ) → Contains keys u → Contains (x ∷ keys) u
      later u has = (suc has.0, omega (arith, has.1), has.2)

      to : (d t y : ℕ) → IsFirst x d t y ⊎ AreJoined i star keys d t y → AreJoined i star (x ∷ keys) d t y
      to d t y (inl e) = (x, (0, omega arith, refl), (e.0, e.1, e.2, λ none. here.1 (sym e.2 ∙ none)))
      to d t y (inr e) = (e.0, later e.0 e.1, e.2)

      from : (d t y : ℕ) → AreJoined i star (x ∷ keys) d t y → IsFirst x d t y ⊎ AreJoined i star keys d t y
      from d t y (u, (zero, low, is), e) = inl (e.0 ∙ sym is, e.1, e.2 ∙ ap star (sym is))
      from d t y (u, (suc p, low, is), e) = inr (u, (p, omega arith, is), e)

-- rows that name these darts at link i lead them back to the new darts
rows-lead-back : (i : ℕ) (star : ℕ → ℕ) (keys : List ℕ) (d : ℕ) (born : List (List ℕ)) → length born ≡ length keys
    → ((p : ℕ) → p < length born → (slice_index (slice_index_or born p []) i ≡ slice_index keys p) × (slice_index keys p ≢ 0) × (star (slice_index keys p) ≡ d + p))
    → back_changes i d born ≡ joinings i star keys
rows-lead-back i star [] d [] long each = refl
rows-lead-back i star (x ∷ keys) d [] long each = absurd (omega (arith, long))
rows-lead-back i star [] d (row ∷ born) long each = absurd (omega (arith, long))
rows-lead-back i star (x ∷ keys) d (row ∷ born) long each =
    let here : (slice_index row i ≡ x) × (x ≢ 0) × (star x ≡ d + 0) = each 0 (omega arith) in
    let new : d ≡ star x = omega (arith, here.2) in
    rw (ne_eqb (slice_index row i) 0 (λ none. here.1 (sym here.0 ∙ none)))
    (ap₂ (λ (c : Change) (cs : List Change). c ∷ cs)
    (ap₂ (λ (a : ℕ) (b : ℕ). let c : Change = record { dart = a; link = i; old = 0; new = b } in c) here.0 new)
    (rows-lead-back i star keys (d + 1) born (omega (arith, long))
    (λ p low. let on = each (suc p) (omega arith) in (on.0, on.1, omega (arith, on.2)))))

led-back-some : (i d : ℕ) (born : List (List ℕ)) → led_back (Some i) d born ≡ back_changes i d born
led-back-some i d [] = refl
led-back-some i d (row ∷ born) = refl

module _ (k : Kind) (n : ℕ) (rows : Rows) (sound : IsSound k n rows) (i : ℕ) (stars : Stars) (can : CanClose k rows i stars) where
  abbrev L : Links
  L = links_of rows

  abbrev star : ℕ → ℕ
  star = star_of stars

  above : (x : ℕ) → Contains stars.keys x → stars.made < star x
  above = star-above k n rows sound i stars can

  -- ---- both write the entries of the closing
  module _ (born : List (List ℕ)) (all : length born ≡ length stars.keys)
      (tells : (p : ℕ) → p < length born → IsNewRow k n i L star (slice_index stars.keys p) (slice_index_or born p [])) where
    to : (d t y : ℕ) → AreJoined i star stars.keys d t y ⊎ IsRowEntry (stars.made + 1) born d t y → AreClosingEntries k i L star (n + 1) stars.keys d t y
    to d t y (inl e) = (e.0, e.1, inl e.2)
    to d t y (inr (p, low, dart, is, some)) =
        let x : ℕ = slice_index stars.keys p in
        let row = tells p low in
        let found : star x ≡ stars.made + 1 + p = star-found stars x p can.ascending (omega (arith, all)) refl in
        let within : t < n + 1 = let at = within-row (slice_index_or born p []) t (λ none. some (is ∙ none)) in omega (arith, row.0) in
        (x, held_at stars.keys p (omega (arith, all)), inr (dart ∙ sym found, within, subst (IsNewLink k i L star x t) (sym is) (row.1 t (omega arith)), some))

    from : (d t y : ℕ) → AreClosingEntries k i L star (n + 1) stars.keys d t y → AreJoined i star stars.keys d t y ⊎ IsRowEntry (stars.made + 1) born d t y
    from d t y (x, has, inl e) = inl (x, has, e)
    from d t y (x, has, inr (dart, within, link, some)) =
        let p : ℕ = has.0 in
        let low : p < length born = omega (arith, has.1, all) in
        let at : slice_index stars.keys p ≡ x = held_is stars.keys x has in
        let found : star x ≡ stars.made + 1 + p = star-found stars x p can.ascending has.1 at in
        let row : IsNewRow k n i L star x (slice_index_or born p []) = subst (λ u. IsNewRow k n i L star u (slice_index_or born p [])) at (tells p low) in
        let one : y ≡ slice_index (slice_index_or born p []) t =
        link-one k i can.own L star x (rounds k n rows sound i stars can x has) t y (slice_index (slice_index_or born p []) t) link (row.1 t (omega arith)) in
        inr (p, low, dart ∙ found, one, some)

    closing-writes : WritesEntries L (AreClosingEntries k i L star (n + 1) stars.keys) (joinings i star stars.keys ++ rows_changes (stars.made + 1) born)
    closing-writes =
        writes-same L (λ d t y. AreJoined i star stars.keys d t y ⊎ IsRowEntry (stars.made + 1) born d t y) (AreClosingEntries k i L star (n + 1) stars.keys)
        (joinings i star stars.keys ++ rows_changes (stars.made + 1) born) (λ d t y. (to d t y, from d t y))
        (writes-append L (AreJoined i star stars.keys) (IsRowEntry (stars.made + 1) born) (joinings i star stars.keys) (rows_changes (stars.made + 1) born)
        (λ d t y z e f. let low = key-made k n rows sound i stars can e.0 e.1 in omega (arith, e.2.0, f.2))
        (joinings-write L i star stars.keys (λ x has. (key-free k n rows sound i stars can x has, λ none. omega (arith, above x has)))
        (λ p q less low same. omega (arith, rises stars.keys can.ascending p q less low)))
        (rows-write L (stars.made + 1) born (λ t d low. unmade-free rows t d (omega (arith, can.made)))))

  module _ (d : ℕ) (born : NewRows) (before : IsClosedBelow k n rows i stars d born) where
    pub closed-skip : star d ≡ 0 → IsClosedBelow k n rows i stars (d + 1) born
    closed-skip none = record {
      first = before.first;
      width = before.width;
      back = before.back;
      few = before.few;
      below = λ p low. let less = before.below p low in omega arith;
      from = λ p more low. next p low (before.from p more low);
      tells = before.tells;
    }
      where
        next : (p : ℕ) → p < length stars.keys → d ≤ slice_index stars.keys p → d + 1 ≤ slice_index stars.keys p
        next p low least = elim (cases_eq d (slice_index stars.keys p)) [
          | inl same ↦ absurd (let high = above (slice_index stars.keys p) (held_at stars.keys p low) in let free : star (slice_index stars.keys p) ≡ 0 = ap star (sym same) ∙ none in omega (arith, free))
          | inr other ↦ omega (arith, other)
        ]

    -- the next of the open darts is this dart
    key_at : star d ≢ 0 → (length born.rows < length stars.keys) × (slice_index stars.keys (length born.rows) ≡ d)
    key_at some = at (cases_lt has.0 (length born.rows)) (cases_lt (length born.rows) has.0)
      where
        has : Contains stars.keys d
        has = star-key stars d some

        is : slice_index stars.keys has.0 ≡ d
        is = held_is stars.keys d has

        at : (has.0 < length born.rows) ⊎ (length born.rows ≤ has.0) → (length born.rows < has.0) ⊎ (has.0 ≤ length born.rows)
            → (length born.rows < length stars.keys) × (slice_index stars.keys (length born.rows) ≡ d)
        at (inl less) c = absurd (omega (arith, before.below has.0 less, is))
        at (inr more) (inl above) =
            absurd (omega (arith, rises stars.keys can.ascending (length born.rows) has.0 above has.1, before.from (length born.rows) (omega arith) (omega (arith, has.1)), is))
        at (inr more) (inr below) = let same : has.0 ≡ length born.rows = omega arith in (omega (arith, has.1), ap (slice_index stars.keys) (sym same) ∙ is)

    pub few-rows : star d ≢ 0 → length born.rows < length stars.keys
    few-rows some = (key_at some).0

    pub closed-push : (row : List ℕ) → star d ≢ 0 → IsNewRow k n i L star d row
        → IsClosedBelow k n rows i stars (d + 1) (record born { rows = born.rows ++ row ∷ [] })
    closed-push row some new = record {
      first = before.first;
      width = before.width;
      back = before.back;
      few = omega (arith, length_push born.rows row, next.0);
      below = λ p low. below p (cases_lt p (length born.rows)) low;
      from = λ p more low. let high = rises stars.keys can.ascending (length born.rows) p (omega (arith, length_push born.rows row)) low in omega (arith, next.1);
      tells = λ p low. told p (cases_lt p (length born.rows)) low;
    }
      where
        next : (length born.rows < length stars.keys) × (slice_index stars.keys (length born.rows) ≡ d)
        next = key_at some

        last : (p : ℕ) → length born.rows ≤ p → p < length (born.rows ++ row ∷ []) → p ≡ length born.rows
        last p more low = omega (arith, length_push born.rows row)

        below : (p : ℕ) → (p < length born.rows) ⊎ (length born.rows ≤ p) → p < length (born.rows ++ row ∷ []) → slice_index stars.keys p < d + 1
        below p (inl less) low = omega (arith, before.below p less)
        below p (inr more) low = let same = ap (slice_index stars.keys) (last p more low) in omega (arith, same, next.1)

        told : (p : ℕ) → (p < length born.rows) ⊎ (length born.rows ≤ p) → p < length (born.rows ++ row ∷ []) → IsNewRow k n i L star (slice_index stars.keys p) (slice_index_or (born.rows ++ row ∷ []) p [])
        told p (inl less) low = subst (IsNewRow k n i L star (slice_index stars.keys p)) (sym (get_or_append_left born.rows (row ∷ []) [] p less)) (before.tells p less)
        told p (inr more) low =
            let same : p ≡ length born.rows = last p more low in
            subst (λ u. IsNewRow k n i L star u (slice_index_or (born.rows ++ row ∷ []) p [])) (sym (ap (slice_index stars.keys) same ∙ next.1))
            (subst (IsNewRow k n i L star d) (sym (get_or_at born.rows row [] [] p (sym same))) new)

    -- past the darts that were made, all are closed
    pub closed-ends : i ≤ n → stars.made < d
        → WritesEntries L (AreClosingEntries k i L star (n + 1) stars.keys) (led_back born.back born.first born.rows ++ rows_changes born.first born.rows)
    closed-ends within past =
        subst (WritesEntries L (AreClosingEntries k i L star (n + 1) stars.keys)) (sym same) (closing-writes born.rows all before.tells)
      where
        all : length born.rows ≡ length stars.keys
        all = elim (cases_lt (length born.rows) (length stars.keys)) [
          | inl less ↦ absurd (omega (arith, before.from (length born.rows) (omega arith) less, key-made k n rows sound i stars can (slice_index stars.keys (length born.rows)) (held_at stars.keys (length born.rows) less)))
          | inr more ↦ (let few = before.few in omega arith)
        ]

        key : (p : ℕ) → p < length born.rows → Contains stars.keys (slice_index stars.keys p)
        key p low = held_at stars.keys p (omega (arith, all))

        each : (p : ℕ) → p < length born.rows
            → (slice_index (slice_index_or born.rows p []) i ≡ slice_index stars.keys p) × (slice_index stars.keys p ≢ 0) × (star (slice_index stars.keys p) ≡ stars.made + 1 + p)
        each p low = (
          ((before.tells p low).1 i within).own refl,
          live-dart k n rows sound (slice_index stars.keys p) (key-live k n rows sound i stars can (slice_index stars.keys p) (key p low)),
          star-found stars (slice_index stars.keys p) p can.ascending (omega (arith, all)) refl,
        )

        same : led_back born.back born.first born.rows ++ rows_changes born.first born.rows ≡ joinings i star stars.keys ++ rows_changes (stars.made + 1) born.rows
        same =
            ap (λ (b : Option ℕ). led_back b born.first born.rows ++ rows_changes born.first born.rows) before.back
            ∙ ap (λ (f : ℕ). led_back (Some i) f born.rows ++ rows_changes f born.rows) before.first
            ∙ ap (λ (cs : List Change). cs ++ rows_changes (stars.made + 1) born.rows)
            (led-back-some i (stars.made + 1) born.rows ∙ rows-lead-back i star stars.keys (stars.made + 1) born.rows all each)
