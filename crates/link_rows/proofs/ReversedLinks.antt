-- The rows of a generalized map, each turned round: link i becomes link n - i.
use Rattle.std.proofs.Common.{◌≡◌, ◌≢◌, ℕ, ◌+◌, ◌-◌, ◌≤◌, ◌↔◌, List, length, get_or, map, reverse, Option, Some, None, is_some, refl, sym, ap, subst, ◌∙◌, inl, inr, arith}
use Rattle.std.specs.Prelude.{option_map}
use Rattle.std.proofs.lemmas.Bool.{cases_lt}
use Rattle.std.proofs.lemmas.List.{length-map, length-reverse, get_or-reverse}
use Rattle.std.proofs.Math.ListN.{get_or-map}
use Rattle.map_defs.specs.Kind.{alpha}
use Rattle.map_defs.specs.Rows.{Rows, row_at, links_of, entry_of, IsLive, AreWide, IsSound}
use Rattle.link_laws.proofs.RowFacts.{rows_dimension}

-- the rows, each turned round
abbrev pub turned : Rows → Rows
turned rows = map (option_map reverse) rows

turned-row : (rows : Rows) (d : ℕ) → row_at (turned rows) d ≡ option_map reverse (row_at rows d)
turned-row rows d = get_or-map (option_map reverse) rows d None

some-turned : (o : Option (List ℕ)) → is_some (option_map reverse o) ≡ is_some o
some-turned None = refl
some-turned (Some row) = refl

some-turned-lives : (rows : Rows) (d : ℕ) → is_some (row_at (turned rows) d) ≡ is_some (row_at rows d)
some-turned-lives rows d = ap is_some (turned-row rows d) ∙ some-turned (row_at rows d)

pub turned-live : (rows : Rows) (d : ℕ) → IsLive (turned rows) d ↔ IsLive rows d
turned-live rows d = (λ h. sym (some-turned-lives rows d) ∙ h, λ h. some-turned-lives rows d ∙ h)

module _ (n : ℕ) (rows : Rows) (wide : AreWide n rows) where
  entry-turned : (o : Option (List ℕ)) (i : ℕ) → ((row : List ℕ) → o ≡ Some row → length row ≡ n + 1) → i ≤ n
      → entry_of (option_map reverse o) i ≡ entry_of o (n - i)
  entry-turned None i long low = refl
  entry-turned (Some row) i long low =
      let is : length row ≡ n + 1 = long row refl in
      let at : length row - 1 - i ≡ n - i = omega arith in
      get_or-reverse row i 0 (omega arith) ∙ ap (λ (j : ℕ). get_or row j 0) at

  pub turned-links : (i d : ℕ) → i ≤ n → links_of (turned rows) i d ≡ links_of rows (n - i) d
  turned-links i d low = ap (λ (o : Option (List ℕ)). entry_of o i) (turned-row rows d) ∙ entry-turned (row_at rows d) i (wide d) low

  wide-if : (o : Option (List ℕ)) (row : List ℕ) → ((row : List ℕ) → o ≡ Some row → length row ≡ n + 1) → option_map reverse o ≡ Some row → length row ≡ n + 1
  wide-if None row long is = absurd (let e : None ≡ Some row = is in cc)
  wide-if (Some old) row long is = let e : reverse old ≡ row = cc in ap length (sym e) ∙ length-reverse old ∙ long old refl

  turned-wide : AreWide n (turned rows)
  turned-wide d row is = wide-if (row_at rows d) row (wide d) (sym (turned-row rows d) ∙ is)

  -- a link that is not free is one up to n
  low-link : (i d : ℕ) → links_of (turned rows) i d ≢ 0 → i ≤ n
  low-link i d linked = elim (cases_lt n i) [
    | inl above ↦ absurd (linked (rows_dimension n (turned rows) turned-wide i d above))
    | inr low ↦ low
  ]

pub turned-sound : (n : ℕ) (rows : Rows) → IsSound alpha n rows → IsSound alpha n (turned rows)
turned-sound n rows sound = record {
  nothing = turned-row rows 0 ∙ ap (option_map reverse) sound.nothing;
  live = λ i x linked.
      let is : links_of (turned rows) i x ≡ links_of rows (n - i) x = turned-links n rows sound.wide i x (low-link n rows sound.wide i x linked) in
      (turned-live rows (links_of (turned rows) i x)).1 (subst (IsLive rows) (sym is) (sound.live (n - i) x (λ none. linked (is ∙ none))));
  back = λ i x linked.
      let low : i ≤ n = low-link n rows sound.wide i x linked in
      let is : links_of (turned rows) i x ≡ links_of rows (n - i) x = turned-links n rows sound.wide i x low in
      turned-links n rows sound.wide i (links_of (turned rows) i x) low ∙ ap (links_of rows (n - i)) is
      ∙ sound.back (n - i) x (λ none. linked (is ∙ none));
  wide = turned-wide n rows sound.wide;
  few = omega (arith, length-map rows (option_map reverse), sound.few);
}
