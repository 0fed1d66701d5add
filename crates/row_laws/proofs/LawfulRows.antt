-- Rows that are lawful dart by dart tell the links of a map.
use Rattle.std.proofs.Common.{◌≡◌, ◌≢◌, ℕ, List, Option, Some, None, IsSome, refl, sym, ap, ◌∙◌, subst}
use Rattle.std.specs.Prelude.{All}
use Rattle.map_defs.specs.Kind.{Kind, inverse}
use Rattle.map_defs.specs.Rows.{entry_of}
use Rattle.map_defs.specs.Laws as laws
use Rattle.link_laws.proofs.Basics.{inverse_twice}
use Rattle.link_laws.proofs.Told.{laws_of_told}
use Rattle.machine_defs.specs.Listing.{ListRow}
use Rattle.machine_defs.specs.ListingFaults.{row_in, HasRow, links_in, KeepsLaws, IsLawful}
use Rattle.row_laws.proofs.RowPlaces.{place-of, lawful-at}

-- a dart with a link has a row
linked-row : (rows : List ListRow) (i d : ℕ) → links_in rows i d ≢ 0 → HasRow rows d
linked-row rows i d linked = at (row_in rows d) linked
  where
    at : (o : Option (List ℕ)) → entry_of o i ≢ 0 → IsSome o
    at None linked = absurd (linked refl)
    at (Some row) linked = refl

module _ (k : Kind) (rows : List ListRow) (nothing : HasRow rows 0 → ⊥) (lawful : All (λ (row : ListRow). IsLawful k rows row.dart) rows) where
  -- each link that is not free keeps the laws
  pub keeps : (i d : ℕ) → links_in rows i d ≢ 0 → KeepsLaws k rows i d (links_in rows i d)
  keeps i d linked =
      let place = place-of rows d (linked-row rows i d linked) in
      subst (IsLawful k rows) place.2 (lawful-at k rows rows lawful place.0 place.1) i linked

  back-to : (i d e : ℕ) → e ≢ 0 → links_in rows i d ≡ e → links_in rows (inverse k i) e ≡ d
  back-to i d e some is = ap (links_in rows (inverse k i)) (sym is) ∙ (keeps i d (λ none. some (sym is ∙ none))).back

  told : laws.IsLawful k (links_in rows)
  told = record {
    nothing = λ i. free i (row_in rows 0) nothing;
    back = λ i d e dart other. (
      back-to i d e other,
      λ is. ap (λ (j : ℕ). links_in rows j d) (sym (inverse_twice k i)) ∙ back-to (inverse k i) e d dart is,
    );
    apart = λ i d own dart same. (keeps i d (λ none. dart (sym same ∙ none))).apart own same;
    free_alike = λ i j d c far low other is. rw is at ((keeps i d (λ none. other (sym is ∙ none))).free_alike j far low);
    square = λ i j d c far low other is linked. rw is at ((keeps i d (λ none. other (sym is ∙ none))).square j far low linked);
  }
    where
      free : (i : ℕ) (o : Option (List ℕ)) → (IsSome o → ⊥) → entry_of o i ≡ 0
      free i None none = refl
      free i (Some row) none = absurd (none refl)

  pub listed-laws : laws.Laws k (links_in rows)
  listed-laws = laws_of_told k (links_in rows) told
