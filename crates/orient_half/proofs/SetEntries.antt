-- Rows whose entries are set dart by dart, and link by link.
use Rattle.std.proofs.Common.{◌≡◌, ◌≢◌, ℕ, zero, suc, ◌+◌, ◌<◌, ◌≤◌, ◌⊎◌, List, [], ◌∷◌, length, Option, Some, None, is_some, IsSome, refl, sym, ap, ◌∙◌, subst, inl, inr, arith}
use Rattle.std.specs.Prelude.{option_map, slice_set}
use Rattle.std.proofs.lemmas.Bool.{cases_lt, false≢true}
use Rattle.std.proofs.lemmas.List.{length-set, get_or-set_same}
use Rattle.map_defs.specs.Kind.{Kind, inverse}
use Rattle.map_defs.specs.Rows.{Rows, row_at, links_of, entry_of, IsLive, AreWide, made_max, IsSound}
use Rattle.map_defs.specs.Edits.{with_births, with_entry}
use Rattle.link_laws.proofs.RowFacts.{live_or_free, linked_live}
use Rattle.edit_laws.proofs.RowWrites.{row-same, links-untouched, live-entry, wide-entry, births-wide, births-new, live-within}
use Rattle.edit_laws.proofs.EditSound.{length-births}
use Rattle.half_defs.specs.Halves.{HasDarts}
use Rattle.orient_half.specs.Entries.{AreSetUpTo}

-- rows of darts that were just made
born-darts : (n m : ℕ) → HasDarts n m (with_births n m (None ∷ []))
born-darts n m = record {
  made = omega (arith, length-births n m (None ∷ []));
  live = λ d. (within d, λ low. ap is_some (births-new n m (None ∷ []) d low.0 (omega arith)));
  wide = births-wide n m (None ∷ []) (λ x row h. absurd (nothing x h));
}
  where
    nothing : {row : List ℕ} (x : ℕ) → row_at (None ∷ []) x ≡ Some row → ⊥
    nothing zero h = absurd cc
    nothing (suc x) h = absurd cc

    within : (d : ℕ) → IsLive (with_births n m (None ∷ [])) d → (1 ≤ d) × (d ≤ m)
    within zero lives = absurd (false≢true lives)
    within (suc d) lives = (omega arith, omega (arith, live-within (with_births n m (None ∷ [])) (suc d) lives, length-births n m (None ∷ [])))

pub set-none : (n m : ℕ) (IsEntry : ℕ → ℕ → ℕ → Type 0) → AreSetUpTo n m IsEntry 1 0 (with_births n m (None ∷ []))
set-none n m IsEntry = record {
  darts = born-darts n m;
  before = λ j e low some less. absurd (omega arith);
  here = λ j less. absurd (omega arith);
}

entry-darts : (n m d i to : ℕ) (rows : Rows) → HasDarts n m rows → HasDarts n m (with_entry rows d i to)
entry-darts n m d i to rows has = record {
  made = let long : length (with_entry rows d i to) ≡ length rows = length-set rows d _ in let old = has.made in omega (arith, long, old);
  live = λ e. (λ lives. (has.live e).0 (sym (live-entry rows d i to e) ∙ lives), λ within. live-entry rows d i to e ∙ (has.live e).1 within);
  wide = wide-entry n rows d i to has.wide;
}

written : (n d i to : ℕ) (rows : Rows) → IsLive rows d → AreWide n rows → i ≤ n → links_of (with_entry rows d i to) i d ≡ to
written n d i to rows lives wide low = at (row_at rows d) refl lives
  where
    at : (o : Option (List ℕ)) → row_at rows d ≡ o → IsSome o → links_of (with_entry rows d i to) i d ≡ to
    at None e some = absurd (false≢true some)
    at (Some row) e some =
        let long = wide d row e in
        ap (λ (p : Option (List ℕ)). entry_of p i) (row-same rows d i to ∙ ap (option_map (λ (r : List ℕ). slice_set r i to)) e) ∙ get_or-set_same row i to 0 (omega (arith, long))

-- one entry more
pub set-more : (n m : ℕ) (IsEntry : ℕ → ℕ → ℕ → Type 0) (d i to : ℕ) (rows : Rows) → 1 ≤ d → d ≤ m → i ≤ n → IsEntry i d to
    → AreSetUpTo n m IsEntry d i rows → AreSetUpTo n m IsEntry d (i + 1) (with_entry rows d i to)
set-more n m IsEntry d i to rows one within low entry are = record {
  darts = entry-darts n m d i to rows are.darts;
  before = λ j e high some less. subst (IsEntry j e) (sym (links-untouched rows d i to e j (λ same _. absurd (omega arith)))) (are.before j e high some less);
  here = λ j less. elim (cases_lt j i) [
    | inl below ↦ subst (IsEntry j d) (sym (links-untouched rows d i to d j (λ _ same. absurd (omega arith)))) (are.here j below)
    | inr above ↦
        let same : i ≡ j = omega arith in
        subst (λ (k : ℕ). IsEntry k d (links_of (with_entry rows d i to) k d)) same
        (subst (IsEntry i d) (sym (written n d i to rows ((are.darts.live d).1 (one, within)) are.darts.wide low)) entry)
  ];
}

-- all entries of a dart
pub set-dart : (n m : ℕ) (IsEntry : ℕ → ℕ → ℕ → Type 0) (d i : ℕ) (rows : Rows) → n < i → AreSetUpTo n m IsEntry d i rows → AreSetUpTo n m IsEntry (d + 1) 0 rows
set-dart n m IsEntry d i rows past are = record {
  darts = are.darts;
  before = λ j e high some less. elim (cases_lt e d) [
    | inl below ↦ are.before j e high some below
    | inr above ↦
        let same : d ≡ e = omega arith in
        subst (λ (x : ℕ). IsEntry j x (links_of rows j x)) same (are.here j (omega arith))
  ];
  here = λ j less. absurd (omega arith);
}

module _ (n m : ℕ) (rows : Rows) (has : HasDarts n m rows) where
  -- no other darts have links
  pub free-outside : (i d : ℕ) → ((1 ≤ d) × (d ≤ m) → ⊥) → links_of rows i d ≡ 0
  free-outside i d outside = at (live_or_free rows d)
    where
      at : IsLive rows d ⊎ ((IsLive rows d → ⊥) × ((j : ℕ) → links_of rows j d ≡ 0)) → links_of rows i d ≡ 0
      at (inl lives) = absurd (outside ((has.live d).0 lives))
      at (inr free) = free.1 i

  pub linked-within : (i d : ℕ) → links_of rows i d ≢ 0 → (1 ≤ d) × (d ≤ m)
  linked-within i d linked = (has.live d).0 (linked_live rows i d linked)

  nothing-at : (o : Option (List ℕ)) → (IsSome o → ⊥) → o ≡ None
  nothing-at None dead = refl
  nothing-at (Some row) dead = absurd (dead refl)

  -- rows whose links lead back are sound
  pub sound-rows : (k : Kind) → m ≤ made_max → ((i d : ℕ) → links_of rows i d ≢ 0 → links_of rows (inverse k i) (links_of rows i d) ≡ d) → IsSound k n rows
  sound-rows k few back = record {
    nothing = nothing-at (row_at rows 0) (λ lives. let low = ((has.live 0).0 lives).0 in omega arith);
    live = λ i d linked. linked_live rows (inverse k i) (links_of rows i d) (λ none. let low = (linked-within i d linked).0 in let zeroth : d ≡ 0 = sym (back i d linked) ∙ none in omega arith);
    back = back;
    wide = has.wide;
    few = let same = has.made in omega arith;
  }
