-- An edit as a log has it is the difference of the rows before and after the edit.
use Rattle.std.proofs.Common.{◌≡◌, ◌≢◌, ℕ, zero, suc, ◌<◌, ◌⊎◌, List, [], ◌∷◌, None, is_some, refl, sym, ap, ◌∙◌, subst, inl, inr, arith, Contains}
use Rattle.std.specs.Prelude.{All}
use Rattle.std.proofs.lemmas.Bool.{cases_eq, false≢true}
use Rattle.std.proofs.lemmas.List.Elements.{All-contains}
use Rattle.map_defs.specs.Kind.{Kind}
use Rattle.map_defs.specs.Rows.{Rows, row_at, links_of, IsLive, IsSound}
use Rattle.map_defs.specs.Edits.{Change, Edit, after_edit, Fits}
use Rattle.machine_defs.specs.Difference.{IsLinkBefore}
use Rattle.edit_laws.proofs.EditLinks.{links-at, links-else, ended, lives-on}
use Rattle.edit_laws.proofs.EditSound.{length-after}
use Rattle.journal_laws.specs.Ordering.{IsRowsDifference}
use Rattle.journal_laws.proofs.EditOrder.{Names, named-or-not}
use Rattle.valued_map.specs.Told.{IsSorted}

-- a number is in a list or not
held-or-not : (ds : List ℕ) (x : ℕ) → Contains ds x ⊎ All (λ (d : ℕ). x ≢ d) ds
held-or-not [] x = inr (λ k z h. absurd (omega arith))
held-or-not (d ∷ ds) x = on (cases_eq d x) (held-or-not ds x)
  where
    none : (x ≢ d) → All (λ (c : ℕ). x ≢ c) ds → All (λ (c : ℕ). x ≢ c) (d ∷ ds)
    none first rest zero z h = first
    none first rest (suc k) z h = rest k z (omega arith)

    on : (d ≡ x) ⊎ (d ≡ x → ⊥) → Contains ds x ⊎ All (λ (c : ℕ). x ≢ c) ds → Contains (d ∷ ds) x ⊎ All (λ (c : ℕ). x ≢ c) (d ∷ ds)
    on (inl same) rest = inl (zero, omega arith, same)
    on (inr other) (inl (k, h, e)) = inl (suc k, omega arith, e)
    on (inr other) (inr rest) = inr (none (λ e. other (sym e)) rest)

change_of : ℕ → ℕ → ℕ → ℕ → Change
change_of dart link old new = record { dart = dart; link = link; old = old; new = new }

same-change : (b c : Change) → b.dart ≡ c.dart → b.link ≡ c.link → b.old ≡ c.old → b.new ≡ c.new → b ≡ c
unfolding change_of
same-change b c dart link old new =
    let one : b ≡ change_of b.dart b.link b.old b.new = refl in
    let other : c ≡ change_of c.dart c.link c.old c.new = refl in
    cc

module _ (k : Kind) (n : ℕ) (rows : Rows) (e sorted : Edit) (sound : IsSound k n rows) (fits : Fits k n rows e) (order : IsSorted e sorted) where
  ended-is : (d : ℕ) → Contains e.deaths d → IsLive rows d × (IsLive (after_edit n e rows) d → ⊥)
  ended-is d held = (
    All-contains (IsLive rows) e.deaths d fits.living held,
    λ live. false≢true (sym (ap is_some (All-contains (λ (d : ℕ). row_at (after_edit n e rows) d ≡ None) e.deaths d (ended k n rows e sound fits) held)) ∙ live),
  )

  is-ended : (d : ℕ) → IsLive rows d × (IsLive (after_edit n e rows) d → ⊥) → Contains e.deaths d
  is-ended d (lived, dead) = elim (held-or-not e.deaths d) [
    | inl held ↦ held
    | inr none ↦ absurd (dead (lives-on k n rows e sound fits d lived none))
  ]

  old-is : (c : Change) → Contains e.changes c → links_of rows c.link c.dart ≡ c.old
  old-is c held = All-contains (λ (c : Change). links_of rows c.link c.dart ≡ c.old) e.changes c fits.stands held

  new-is : (c : Change) → Contains e.changes c → links_of (after_edit n e rows) c.link c.dart ≡ c.new
  new-is c held = All-contains (λ (c : Change). links_of (after_edit n e rows) c.link c.dart ≡ c.new) e.changes c (links-at k n rows e sound fits) held

  is-change : (c : Change) → (c.old ≡ links_of rows c.link c.dart) × (c.new ≡ links_of (after_edit n e rows) c.link c.dart) × (c.old ≢ c.new)
      → Contains e.changes c
  is-change c (old, new, differ) = on (named-or-not e.changes c.link c.dart)
    where
      on : Names e.changes c.link c.dart ⊎ All (λ (b : Change). c.dart ≡ b.dart → c.link ≡ b.link → ⊥) e.changes → Contains e.changes c
      on (inl (b, held, dart, link)) =
          let same : b ≡ c = same-change b c dart link
          (sym (old-is b held) ∙ ap (λ (j : ℕ). links_of rows j b.dart) link ∙ ap (links_of rows c.link) dart ∙ sym old)
          (sym (new-is b held) ∙ ap (λ (j : ℕ). links_of (after_edit n e rows) j b.dart) link ∙ ap (links_of (after_edit n e rows) c.link) dart ∙ sym new) in
          subst (Contains e.changes) same held
      on (inr none) = absurd (differ (old ∙ sym (links-else k n rows e sound fits c.link c.dart none) ∙ sym new))

  pub sorted-difference : IsRowsDifference rows (after_edit n e rows) sorted
  sorted-difference = record {
    born = omega (arith, length-after n e rows, order.births);
    ended = λ d. ((λ h. ended-is d ((order.deaths d).0 h)), λ h. (order.deaths d).1 (is-ended d h));
    ended_ascending = order.ended_ascending;
    links = λ c. (
      (λ h. let held = (order.changes c).0 h in (sym (old-is c held.0), sym (new-is c held.0), held.1)),
      λ h. (order.changes c).1 (is-change c h, h.2),
    );
    links_ordered = order.links_ordered;
  }

-- where an edit changes nothing, nothing is sorted
no-member : {X : Type 0} (x : X) → Contains [] x → ⊥
no-member x h = absurd (let lt : h.0 < 0 = h.1 in omega arith)

pub sorted-nothing : (rows : Rows) (sorted : Edit) → IsSorted (record { births = 0; deaths = []; changes = [] }) sorted → IsRowsDifference rows rows sorted
sorted-nothing rows sorted order = record {
  born = omega (arith, order.births);
  ended = λ d. ((λ h. absurd (no-member d ((order.deaths d).0 h))), λ h. absurd (h.1 h.0));
  ended_ascending = order.ended_ascending;
  links = λ c. ((λ h. absurd (no-member c ((order.changes c).0 h).0)), λ h. absurd (h.2 (h.0 ∙ sym h.1)));
  links_ordered = order.links_ordered;
}

-- the order of links joins
pub before-joins : (b c d : Change) → IsLinkBefore b c → IsLinkBefore c d → IsLinkBefore b d
before-joins b c d (inl h) (inl k) = inl (omega arith)
before-joins b c d (inl h) (inr k) = inl (let e = k.0 in omega arith)
before-joins b c d (inr h) (inl k) = inl (let e = h.0 in omega arith)
before-joins b c d (inr h) (inr k) = inr (h.0 ∙ k.0, let p = h.1 in let q = k.1 in omega arith)
