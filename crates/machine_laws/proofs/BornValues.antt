-- New darts behind the old ones: the values are carried, and a listing shows the same.
use Rattle.std.proofs.Common.{ℕ, ◌≡◌, ◌<◌, ◌≤◌, List, [], length, Option, Some, None, Contains, IsSome, inl, inr, refl, sym, subst, ◌∙◌, arith}
use Rattle.std.proofs.lemmas.Bool.{cases_lt}
use Rattle.map_defs.specs.Links.{Links}
use Rattle.map_defs.specs.Laws.{Laws}
use Rattle.map_defs.specs.Rows.{IsLive, links_of}
use Rattle.map_defs.specs.Cells.{InCell, NamesCell}
use Rattle.map_defs.specs.Touched.{IsOldCell}
use Rattle.map_defs.specs.Values.{Value, Hook, Meaning, Sum, Share, KeepsWhole, IsRepresentable}
use Rattle.map_defs.specs.Carry.{IsCarried, AreCarried, IsValuedWith, known}
use Rattle.map_defs.specs.Totals.{sum_share}
use Rattle.machine_defs.specs.State.{Content, with_born, value_at}
use Rattle.machine_defs.specs.Kept.{IsLawfulContent}
use Rattle.machine_defs.specs.Listing.{ListValue, ListsValues}
use Rattle.link_laws.proofs.RowFacts.{rows_lead_to_live}
use Rattle.edit_laws.proofs.RowWrites.{live-within}
use Rattle.value_laws.proofs.Rising.{held_none}
use Rattle.value_laws.proofs.Rules.{keeps_whole}
use Rattle.value_laws.proofs.Touching.{cell_live}
use Rattle.value_laws.proofs.MapValues.{kept_is_carried}
use Rattle.machine_laws.proofs.Keeping.{laws-of}
use Rattle.machine_laws.proofs.CellsTold.{cell-told}
use Rattle.machine_laws.proofs.ValueLists.{one-listing}
use Rattle.machine_laws.proofs.Born as born_rows

-- what is dealt out to one piece is the value, whatever the hook does
pub share-whole : (hook : Hook) → KeepsWhole (sum_share hook)
share-whole hook = keeps_whole (record { host = plain; names = []; named = λ name. plain }) (record { merge = Sum; split = Share })
    (record { host = λ v held. refl; named = λ name known v held. refl })
  where
    plain : Meaning
    plain = record { merged = λ x y. x; share = λ v k p. Some v }

module _ (c : Content) (kept : IsLawfulContent c) (born : List (List ℕ)) (after : IsLawfulContent (with_born c born)) where
  abbrev next : Content
  next = with_born c born

  abbrev L : Links
  L = links_of c.rows

  abbrev N : Links
  N = links_of next.rows

  old-laws : Laws c.kind L
  old-laws = laws-of c kept

  new-laws : Laws c.kind N
  new-laws = laws-of next after

  to-old : (i x y : ℕ) → x < length c.rows → InCell c.kind N i x y → InCell c.kind L i x y
  to-old i x y h cell = (born_rows.old-cell c.kind L N (length c.rows) kept.begun (born_rows.old-link c kept born after.sound new-laws) (born_rows.below c kept born after.sound new-laws) new-laws i x y h cell).0

  to-new : (i x y : ℕ) → x < length c.rows → InCell c.kind L i x y → InCell c.kind N i x y
  to-new i x y h cell = (born_rows.kept-cell c.kind L N (length c.rows) kept.begun (born_rows.old-link c kept born after.sound new-laws) (born_rows.below c kept born after.sound new-laws) new-laws i x y h cell).0

  stays-new : (i x y : ℕ) → length c.rows ≤ x → InCell c.kind N i x y → length c.rows ≤ y
  stays-new = born_rows.new-cell c.kind L N (length c.rows) kept.begun (born_rows.old-link c kept born after.sound new-laws) (born_rows.below c kept born after.sound new-laws) new-laws

  -- no value changes
  value-same : (i d : ℕ) → value_at next i d ≡ value_at c i d
  value-same i d = elim (cases_lt d (length c.rows)) [
    | inl under ↦ born_rows.old-value c kept born after.sound new-laws i d under
    | inr over ↦ born_rows.new-value c kept born after.sound new-laws i d over
        ∙ sym (kept.places.none i d (λ live. (let low = live-within c.rows d live in omega arith)))
  ]

  -- a cell of an old dart is the old one
  old-there : (i d : ℕ) → d < length c.rows → IsLive next.rows d → IsOldCell c.kind i L (IsLive c.rows) N d
  old-there i d h live = record {
    lived = λ x cell. cell_live c.kind (IsLive c.rows) L L old-laws old-laws (IsLive c.rows) (rows_lead_to_live c.kind c.rows old-laws) i d lives (to-old i d x h cell);
    same = λ x. (to-old i d x h, to-new i d x h);
  }
    where
      lives : IsLive c.rows d
      lives = subst (λ (o : Option (List ℕ)). IsSome o) (born_rows.old-row c kept born after.sound new-laws d h) live

  module _ (rule : Meaning) (i : ℕ) where
    abbrev Carries : ℕ → Option Value → Type 0
    Carries = IsCarried rule (λ x. known (value_at c i x)) (λ x. IsLive c.rows x × IsLive next.rows x) (IsValuedWith c.kind i L (value_at c i)) (InCell c.kind N i)

    -- a cell of new darts has no piece of an old one
    none-carried : (d : ℕ) → length c.rows ≤ d → Carries d None
    none-carried d over = record {
      pieces = [];
      are = record {
        ascending = λ k h. absurd (omega arith);
        members = λ m. ((λ h. absurd (held_none m h)), λ h. absurd (let low = live-within c.rows m h.0.live.0 in let high = stays-new i d m over h.1 in omega arith));
      };
      parts = [];
      even = refl;
      each = λ at h. absurd (omega arith);
      is = refl;
    }

    pub born-carried : KeepsWhole rule → ((d : ℕ) (v : Value) → value_at c i d ≡ Some v → IsRepresentable v)
        → AreCarried c.kind i rule L (IsLive c.rows) (value_at c i) N (IsLive next.rows) (value_at next i)
    born-carried whole held d live = elim (cases_lt d (length c.rows)) [
      | inl under ↦ subst (Carries d) (sym (value-same i d))
          (kept_is_carried c.kind i rule L N (IsLive c.rows) (IsLive next.rows) old-laws new-laws (rows_lead_to_live c.kind next.rows new-laws)
          (value_at c i) (kept.equal i) d (held d) live (old-there i d under live) whole (inl (cell-told c.kind c.dim next.rows after.sound new-laws i d)))
      | inr over ↦ subst (Carries d) (sym (born_rows.new-value c kept born after.sound new-laws i d over)) (none-carried d over)
    ]

  -- a cell with a value is named by the same dart
  named-on : (i d : ℕ) → d < length c.rows → NamesCell c.kind L i d → NamesCell c.kind N i d
  named-on i d h names e cell = names e (to-old i d e h cell)

  named-back : (i d : ℕ) → d < length c.rows → NamesCell c.kind N i d → NamesCell c.kind L i d
  named-back i d h names e cell = names e (to-new i d e h cell)

  valued-old : (i d : ℕ) (v : Value) → value_at c i d ≡ Some v → d < length c.rows
  valued-old i d v is = elim (cases_lt d (length c.rows)) [
    | inl under ↦ under
    | inr over ↦ absurd (let none = kept.places.none i d (λ live. (let low = live-within c.rows d live in omega arith)) in cc (is, none))
  ]

  lists-on : (values : List ListValue) → ListsValues c values → ListsValues next values
  lists-on values lists = record { members = λ v. (to v, from v); ordered = lists.ordered }
    where
      to : (v : ListValue) → Contains values v → (value_at next v.dim v.dart ≡ Some v.value) × NamesCell c.kind N v.dim v.dart
      to v h = let there = (lists.members v).0 h in
          (value-same v.dim v.dart ∙ there.0, named-on v.dim v.dart (valued-old v.dim v.dart v.value there.0) there.1)

      from : (v : ListValue) → (value_at next v.dim v.dart ≡ Some v.value) × NamesCell c.kind N v.dim v.dart → Contains values v
      from v h =
          let is : value_at c v.dim v.dart ≡ Some v.value = sym (value-same v.dim v.dart) ∙ h.0 in
          (lists.members v).1 (is, named-back v.dim v.dart (valued-old v.dim v.dart v.value is) h.1)

  pub born-listed : (values others : List ListValue) → ListsValues c values → ListsValues next others → values ≡ others
  born-listed values others lists lists' = one-listing next values others (lists-on values lists) lists'
