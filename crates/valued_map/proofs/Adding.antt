-- Darts that are added to those that an edit touched.
use Rattle.std.proofs.Common.{ℕ, ◌≡◌, ◌⊎◌, ◌+◌, ◌<◌, inl, inr, refl, sym, ap, subst, ◌∙◌, List, [], ◌∷◌, ◌++◌, length, Contains, Option, Some, None, IsSome, Result, Ok, Err}
use Rattle.std.specs.Prelude.{All, OnOk}
use Rattle.std.proofs.lemmas.Bool.{false≢true}
use Rattle.std.proofs.lemmas.List.Elements.{Contains-append_left, Contains-push, Contains-push_cases}
use Rattle.map_defs.specs.Kind.{Kind}
use Rattle.map_defs.specs.Rows.{Rows, IsLive, links_of, row_at}
use Rattle.map_defs.specs.Edits.{Change, Edit, IsLed, after_edit, with_changes, with_births, buried}
use Rattle.edit_laws.proofs.RowWrites.{births-old}
use Rattle.edit_laws.proofs.EditSteps.{linked-live, buried-none}
use Rattle.edit_laws.proofs.EditSound.{length-after}
use Rattle.edit_laws.proofs.EditLinks.{links-else}
use Rattle.valued_map.specs.Changing.{AreAdded}

pub added-none : (rows : Rows) (Wanted : ℕ → Type 0) (xs : List ℕ) → ((x : ℕ) → Wanted x → IsLive rows x → ⊥) → AreAdded rows Wanted xs xs
added-none rows Wanted xs none = record { kept = λ x h. h; live = λ x h. inl h; all = λ x w h. absurd (none x w h) }

-- what follows where there was memory
pub on-ok : {E P Q : Type 0} (r : Result (Unit {0}) E) → (P → Q) → OnOk r P → OnOk r Q
on-ok (Ok u) f h = f h
on-ok (Err e) f h = h

-- a live dart is added, and no other is wanted
pub added-one : (rows : Rows) (Wanted : ℕ → Type 0) (xs ys : List ℕ) (d : ℕ) → ys ≡ xs ++ d ∷ [] → IsLive rows d → ((x : ℕ) → Wanted x → x ≡ d) → AreAdded rows Wanted xs ys
added-one rows Wanted xs ys d pushed alive only = subst (AreAdded rows Wanted xs) (sym pushed) (record {
  kept = λ x h. Contains-append_left xs (d ∷ []) x h;
  live = λ x h. (elim (Contains-push_cases xs d x h) [ inl before ↦ inl before | inr same ↦ inr (subst (IsLive rows) same alive) ]);
  all = λ x w h. subst (Contains (xs ++ d ∷ [])) (sym (only x w)) (Contains-push xs d);
})

pub added-then : (rows : Rows) (Wanted Other : ℕ → Type 0) (xs ys zs : List ℕ) → AreAdded rows Wanted xs ys → AreAdded rows Other ys zs → AreAdded rows (λ x. Wanted x ⊎ Other x) xs zs
added-then rows Wanted Other xs ys zs a b = record {
  kept = λ x h. b.kept x (a.kept x h);
  live = λ x h. (elim (b.live x h) [ inl before ↦ a.live x before | inr live ↦ inr live ]);
  all = λ x w h. (elim w [ inl one ↦ b.kept x (a.all x one h) | inr two ↦ b.all x two h ]);
}

pub added-told : (rows : Rows) (Wanted Other : ℕ → Type 0) (xs ys : List ℕ) → ((x : ℕ) → Other x → IsLive rows x → Wanted x) → AreAdded rows Wanted xs ys → AreAdded rows Other xs ys
added-told rows Wanted Other xs ys told a = record { kept = a.kept; live = a.live; all = λ x w h. a.all x (told x w h) h }

-- a dart that lives when others have ended lived before
buried-live : (ds : List ℕ) (rows : Rows) (x : ℕ) → IsLive (buried ds rows) x → IsLive rows x
buried-live ds rows x live = go (row_at rows x) refl
  where
    go : (o : Option (List ℕ)) → row_at rows x ≡ o → IsLive rows x
    go None e = absurd (false≢true (subst (λ (o : Option (List ℕ)). IsSome o) (buried-none ds rows x e) live))
    go (Some row) e = subst (λ (o : Option (List ℕ)). IsSome o) (sym e) refl

module _ (k : Kind) (n : ℕ) (e : Edit) (old new : Rows) (led : IsLed k n e old new) where
  pub long : length new ≡ length old + e.births
  long = ap length (sym led.after) ∙ length-after n e old

  -- a dart that lives after an edit lived before, or was born
  pub lived : (x : ℕ) → IsLive new x → x < length old → IsLive old x
  lived x live within =
      let there : IsLive (after_edit n e old) x = subst (λ (r : Rows). IsLive r x) (sym led.after) live in
      let linked : IsLive (with_changes n e old) x = buried-live e.deaths (with_changes n e old) x there in
      let born : IsLive (with_births n e.births old) x = sym (linked-live e.changes (with_births n e.births old) x) ∙ linked in
      subst (λ (o : Option (List ℕ)). IsSome o) (births-old n e.births old x within) born

  pub same-else : (i x : ℕ) → All (λ (c : Change). x ≡ c.dart → i ≡ c.link → ⊥) e.changes → links_of new i x ≡ links_of old i x
  same-else i x none = ap (λ (r : Rows). links_of r i x) (sym led.after) ∙ links-else k n old e led.sound led.fits i x none
