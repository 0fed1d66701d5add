-- The links of a listing's map: those of its rows, where the darts that have none are buried.
use Rattle.std.proofs.Common.{◌≡◌, ◌≢◌, ℕ, ◌+◌, ◌<◌, ◌≤◌, ◌↔◌, List, [], length, get_or, set, take, Option, Some, None, IsSome, refl, sym, ap, ◌∙◌, subst, inl, inr, arith}
use Rattle.std.specs.Prelude.{All}
use Rattle.std.specs.List.{AllPairs}
use Rattle.std.proofs.lemmas.Bool.{cases_lt, false≢true}
use Rattle.std.proofs.lemmas.List.{get_or_past}
use Rattle.std.proofs.lemmas.List.Elements.{All-contains, All-take, Contains-get_or}
use Rattle.std.proofs.lemmas.List.Kept.{AllPairs-from_increasing}
use Rattle.map_defs.specs.Kind.{Kind}
use Rattle.map_defs.specs.Laws.{Laws}
use Rattle.map_defs.specs.Rows.{Rows, made, row_at, links_of, entry_of, IsLive, AreWide, IsSound}
use Rattle.map_defs.specs.Edits.{Edit, after_edit, Fits}
use Rattle.link_laws.proofs.RowFacts.{rows_lead_to_live}
use Rattle.edit_laws.proofs.RowWrites.{births-links}
use Rattle.edit_laws.proofs.EditPlain.{births-fit}
use Rattle.edit_laws.proofs.EditSound.{length-after, after-sound}
use Rattle.edit_laws.proofs.EditLinks.{links-else, ended, lives-on}
use Rattle.edit_laws.proofs.KeptLaws.{laws-same}
use Rattle.machine_defs.specs.Listing.{ListRow, Listing}
use Rattle.machine_defs.specs.ListingFaults.{row_in, HasRow, links_in, IsLawful}
use Rattle.row_laws.specs.Rows.{IsRow, IsMadeRow}
use Rattle.list_text.specs.Judging.{IsSoundListing}
use Rattle.list_text.specs.Spread.{AreSpread, AreUnlisted}
use Rattle.list_text.proofs.SpreadRows.{row-made, row-none, spread-more, spread-live, spread-wide, spread-links}
use Rattle.row_laws.proofs.LawfulRows.{listed-laws}

-- these darts end
abbrev pub deaths_edit : List ℕ → Edit
deaths_edit ds = record { births = 0; deaths = ds; changes = [] }

-- the end of live darts whose links are free fits
deaths-fit : (k : Kind) (n : ℕ) (rows : Rows) (ds : List ℕ) → IsSound k n rows → All (IsLive rows) ds → AllPairs (λ (c d : ℕ). c ≢ d) ds → All (λ (d : ℕ). (i : ℕ) → links_of rows i d ≡ 0) ds
    → Fits k n rows (deaths_edit ds)
deaths-fit k n rows ds sound live once free = record {
  darts = λ p z h. absurd (omega arith);
  links = λ p z h. absurd (omega arith);
  stands = λ p z h. absurd (omega arith);
  once = λ i j z h l. absurd (omega arith);
  back = (births-fit k n 0 rows sound).back;
  living = live;
  ends = once;
  free = λ p z h i. births-links n 0 rows i (get_or ds p z) ∙ free p z h i;
}

-- links that keep the laws are sound
laws-sound : (k : Kind) (n : ℕ) (rows : Rows) → Laws k (links_of rows) → row_at rows 0 ≡ None → AreWide n rows → made rows ≤ 4194304 → IsSound k n rows
laws-sound k n rows laws nothing wide few = record { nothing = nothing; live = rows_lead_to_live k rows laws; back = laws.back; wide = wide; few = few }

-- the rows of a listing are put at their places one after the other
module _ (n : ℕ) (l : Listing) (sound : IsSoundListing l) (dim : l.dim ≡ n) where
  each : All (IsRow n) l.rows
  each = subst (λ (m : ℕ). All (IsRow m) l.rows) dim sound.rows.each

  -- the row at a place is one of a live dart, and the other rows are as long
  pub row-fits : (p : ℕ) (row : ListRow) (R : Rows) → p < length l.rows → row ≡ get_or l.rows p row → AreSpread n l.made (take p l.rows) R
      → IsLive R row.dart × AreWide n R × (length row.links ≡ n + 1)
  row-fits p row R low is spread =
      let fits : IsRow n row = subst (IsRow n) (sym is) (each p row low) in
      let within : IsMadeRow l.made row = subst (IsMadeRow l.made) (sym is) (sound.within p row low) in
      (spread-live n l.made (take p l.rows) R spread row.dart fits.0 within, spread-wide n l.made (take p l.rows) R (All-take (IsRow n) p l.rows each) spread, fits.1)

  pub row-more : (p : ℕ) (row : ListRow) (R : Rows) → p < length l.rows → row ≡ get_or l.rows p row → AreSpread n l.made (take p l.rows) R
      → AreSpread n l.made (take (p + 1) l.rows) (set R row.dart (Some row.links))
  row-more p row R low is spread = spread-more n l.made l.rows p row R (record { ascending = sound.rows.ascending; each = each }) sound.within low is spread

module _ (k : Kind) (n : ℕ) (l : Listing) (sound : IsSoundListing l) (kind : l.kind ≡ k) (dim : l.dim ≡ n) (R : Rows) (spread : AreSpread n l.made l.rows R) where
  rows : All (IsRow n) l.rows
  rows = each n l sound dim

  same : (i d : ℕ) → links_of R i d ≡ links_in l.rows i d
  same = spread-links n l.made l.rows R rows sound.within spread

  listed : Laws k (links_in l.rows)
  listed = listed-laws k l.rows (λ has. let some = (row-made n l.made l.rows 0 rows sound.within has).0 in omega (arith, some))
      (subst (λ (kind : Kind). All (λ (row : ListRow). IsLawful kind l.rows row.dart) l.rows) kind sound.lawful)

  pub spread-sound : IsSound k n R
  spread-sound = laws-sound k n R (laws-same k (links_in l.rows) (links_of R) same listed) spread.nothing (spread-wide n l.made l.rows R rows spread)
      (let long = spread.long in let few = sound.made in omega (arith, long, few))

  module _ (ds : List ℕ) (unlisted : AreUnlisted l.rows (l.made + 1) ds) where
    free : (d : ℕ) → (HasRow l.rows d → ⊥) → (i : ℕ) → links_of R i d ≡ 0
    free d none i = same i d ∙ ap (λ (o : Option (List ℕ)). entry_of o i) (row-none l.rows d none)

    without : (p z : ℕ) → p < length ds → (0 < get_or ds p z) × (get_or ds p z < l.made + 1) × (HasRow l.rows (get_or ds p z) → ⊥)
    without p z h = (unlisted.members (get_or ds p z)).0 (Contains-get_or ds p z h)

    pub unlisted-fit : Fits k n R (deaths_edit ds)
    unlisted-fit = deaths-fit k n R ds spread-sound
        (λ p z h. let dead = without p z h in spread-live n l.made l.rows R spread (get_or ds p z) dead.0 (omega (arith, dead.1)))
        (λ i j z low within same. let less = AllPairs-from_increasing ds unlisted.ascending i j z low within in omega (arith, less, same))
        (λ p z h. free (get_or ds p z) (without p z h).2)

    pub listed-made : made (after_edit n (deaths_edit ds) R) ≡ l.made
    listed-made = let long = length-after n (deaths_edit ds) R in let all = spread.long in omega (arith, long, all)

    pub listed-links : (i d : ℕ) → links_of (after_edit n (deaths_edit ds) R) i d ≡ links_in l.rows i d
    listed-links i d = links-else k n R (deaths_edit ds) spread-sound unlisted-fit i d (λ p z h. absurd (omega arith)) ∙ same i d

    pub listed-lawful : Laws k (links_of (after_edit n (deaths_edit ds) R))
    listed-lawful = laws-same k (links_in l.rows) (links_of (after_edit n (deaths_edit ds) R)) listed-links listed

    nothing : row_at (after_edit n (deaths_edit ds) R) 0 ≡ None
    nothing =
        let long = spread.long in
        let few = sound.made in
        (after-sound k n R (deaths_edit ds) (omega (arith, long)) spread-sound unlisted-fit (omega (arith, long, few))).nothing

    pub listed-live : (d : ℕ) → IsLive (after_edit n (deaths_edit ds) R) d ↔ HasRow l.rows d
    listed-live d = (forth, back)
      where
        buried : (HasRow l.rows d → ⊥) → row_at (after_edit n (deaths_edit ds) R) d ≡ None
        buried none = elim (cases_lt l.made d) [
          | inl high ↦ let long = length-after n (deaths_edit ds) R in let all = spread.long in get_or_past (after_edit n (deaths_edit ds) R) d None (omega (arith, long, all))
          | inr low ↦ elim (cases_lt 0 d) [
            | inl some ↦ All-contains (λ (e : ℕ). row_at (after_edit n (deaths_edit ds) R) e ≡ None) ds d (ended k n R (deaths_edit ds) spread-sound unlisted-fit) ((unlisted.members d).1 (some, omega arith, none))
            | inr least ↦ let e : d ≡ 0 = omega arith in rw e nothing
          ]
        ]

        forth : IsLive (after_edit n (deaths_edit ds) R) d → HasRow l.rows d
        forth live = at (row_in l.rows d) refl
          where
            at : (o : Option (List ℕ)) → row_in l.rows d ≡ o → IsSome o
            at (Some row) is = refl
            at None is = absurd (false≢true (rw (buried (λ has. false≢true (rw is at has))) at live))

        back : HasRow l.rows d → IsLive (after_edit n (deaths_edit ds) R) d
        back has =
            let low = row-made n l.made l.rows d rows sound.within has in
            lives-on k n R (deaths_edit ds) spread-sound unlisted-fit d (spread-live n l.made l.rows R spread d low.0 low.1)
            (λ p z h is. (without p z h).2 (subst (HasRow l.rows) is has))
