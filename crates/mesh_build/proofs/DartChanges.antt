-- The changes of the links of darts, dart by dart.
use Rattle.std.proofs.Common.{◌≡◌, ◌≤◌, ℕ, Bool, zero, suc, ◌+◌, ◌-◌, ◌++◌, List, [], ◌∷◌, Option, Some, None, refl, sym, ap, ap₂, subst, ◌∙◌, append_assoc, arith}
use Rattle.std.specs.Prelude.{IfSome}
use Rattle.std.specs.List.{flat_map, range_with_len}
use Rattle.std.proofs.lemmas.List.{append-nil}
use Rattle.map_defs.specs.Kind.{Kind}
use Rattle.map_defs.specs.Rows.{Rows, IsSound}
use Rattle.map_defs.specs.Edits.{Change, with_births, linked, after_edit}
use Rattle.map_defs.specs.MeshMap.{Side}
use Rattle.edit_laws.proofs.EditSteps.{linked-append}
use Rattle.edit_laws.proofs.EditSound.{after-sound}
use Rattle.mesh_laws.specs.Sides.{kind_of, IsSewn}
use Rattle.mesh_laws.specs.SideLinks.{Entries, entry_changes, dart_entries, dart_count, mesh_changes, mesh_edit}
use Rattle.mesh_laws.proofs.LiveDarts.{none-sound}
use Rattle.mesh_laws.proofs.MadeMesh.{fits-of}

flat_map-range_more : {A : Type 0} (f : ℕ → List A) (a n : ℕ) → flat_map f (range_with_len a (n + 1)) ≡ flat_map f (range_with_len a n) ++ f (a + n)
flat_map-range_more f a zero = append-nil (f a) ∙ ap f (omega arith)
flat_map-range_more f a (suc n) =
    let e : suc n + 1 ≡ suc (n + 1) = omega arith in
    let front : List _ = flat_map f (range_with_len (a + 1) n) in
    rw e (ap (λ (xs : List _). f a ++ xs) (flat_map-range_more f (a + 1) n) ∙ (sym (append_assoc (f a) front (f (a + 1 + n))) ∙ ap (λ (m : ℕ). (f a ++ front) ++ f m) (omega arith)))

-- a dart that has a number is that number
pub some-is : (o : Option ℕ) (m n : ℕ) → o ≡ Some m → IfSome o (λ dart. dart ≡ n) → m ≡ n
some-is o m n e h = subst (λ (p : Option ℕ). IfSome p (λ dart. dart ≡ n)) e h

module _ (k : Kind) (sides : List Side) (partners : List (Option ℕ)) where
  -- the changes of the darts below d
  abbrev pub changes_below : ℕ → List Change
  changes_below d = flat_map (mesh_changes k sides partners) (range_with_len 1 (d - 1))

  pub changes-more : (d dart : ℕ) (entries : Entries) → 1 ≤ d → dart ≡ d → entries ≡ dart_entries k sides partners d → changes_below (d + 1) ≡ changes_below d ++ entry_changes dart entries
  changes-more d dart entries low same told =
      let f : ℕ → List Change = mesh_changes k sides partners in
      let one : d + 1 - 1 ≡ d - 1 + 1 = omega arith in
      let at : 1 + (d - 1) ≡ d = omega arith in
      ap (λ (m : ℕ). flat_map f (range_with_len 1 m)) one ∙ (flat_map-range_more f 1 (d - 1)
      ∙ ap (λ (xs : List Change). changes_below d ++ xs) (ap f at ∙ sym (ap₂ entry_changes same told)))

  -- the links of the darts below d
  abbrev pub rows_below : ℕ → ℕ → ℕ → Rows
  rows_below n darts d = linked (changes_below d) (with_births n darts (None ∷ []))

  pub rows-more : (n darts d dart : ℕ) (entries : Entries) (old new : Rows) → 1 ≤ d → dart ≡ d → entries ≡ dart_entries k sides partners d
      → new ≡ linked (entry_changes dart entries) old → old ≡ rows_below n darts d → new ≡ rows_below n darts (d + 1)
  rows-more n darts d dart entries old new low same told on below =
      on ∙ (ap (linked (entry_changes dart entries)) below
      ∙ (sym (linked-append (changes_below d) (entry_changes dart entries) (with_births n darts (None ∷ [])))
      ∙ ap (λ (cs : List Change). linked cs (with_births n darts (None ∷ []))) (sym (changes-more d dart entries low same told))))

-- all darts were looked at
pub rows-all : (k : Kind) (sides : List Side) (partners : List (Option ℕ)) (n darts d : ℕ) (rows : Rows) → darts ≡ dart_count k sides → d ≡ darts + 1 → rows ≡ rows_below k sides partners n darts d
    → rows ≡ after_edit n (mesh_edit k sides partners) (None ∷ [])
rows-all k sides partners n darts d rows all last below =
    let f : ℕ → List Change = mesh_changes k sides partners in
    let number : d - 1 ≡ dart_count k sides = omega arith in
    below ∙ (ap (λ (m : ℕ). linked (flat_map f (range_with_len 1 m)) (with_births n darts (None ∷ []))) number
    ∙ ap (λ (m : ℕ). linked (flat_map f (range_with_len 1 (dart_count k sides))) (with_births n m (None ∷ []))) all)

pub made-sound : (o : Bool) (k : Kind) (n : ℕ) (sides : List Side) (partners : List (Option ℕ)) → k ≡ kind_of o → 2 ≤ n → IsSewn o sides partners → dart_count (kind_of o) sides ≤ 4194304
    → IsSound k n (after_edit n (mesh_edit (kind_of o) sides partners) (None ∷ []))
made-sound o k n sides partners kind dim sewn few =
    after-sound k n (None ∷ []) (mesh_edit (kind_of o) sides partners) (omega arith) (none-sound k n)
    (fits-of o k n sides partners (mesh_edit (kind_of o) sides partners) kind dim sewn refl) (omega (arith, few))
