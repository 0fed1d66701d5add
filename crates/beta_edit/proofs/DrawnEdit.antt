-- The edit that writes the entries of darts that end: it fits, draws the links across them, and keeps the laws.
use Rattle.std.proofs.Common.{ℕ, ◌≡◌, ◌≢◌, ◌+◌, ◌<◌, ◌≤◌, List, Option, get_or, Contains, is_some, refl, sym, ap, ◌∙◌, subst, inl, inr, arith}
use Rattle.std.specs.Prelude.{All}
use Rattle.std.specs.List.{AllPairs}
use Rattle.std.proofs.lemmas.Bool.{cases_lt}
use Rattle.std.proofs.lemmas.List.Kept.{AllPairs-from_increasing}
use Rattle.std.proofs.lemmas.List.Elements.{All-contains, Contains-get_or}
use Rattle.map_defs.specs.Kind.{beta, inverse}
use Rattle.map_defs.specs.Links.{Links}
use Rattle.map_defs.specs.Laws.{Laws}
use Rattle.map_defs.specs.Rows.{Rows, links_of, IsLive, IsSound}
use Rattle.map_defs.specs.Edits.{Change, Edit, with_births, with_changes, after_edit, Fits}
use Rattle.map_defs.specs.Walks.{stop}
use Rattle.link_laws.proofs.Basics.{same_or_not, inverse_twice, inverse_within}
use Rattle.link_laws.proofs.LawFacts.{dart_of_link}
use Rattle.link_laws.proofs.Walking.{walk_one}
use Rattle.link_laws.proofs.RowFacts.{rows_dimension}
use Rattle.edit_laws.proofs.RowWrites.{births-links, births-wide, births-old, live-within}
use Rattle.edit_laws.proofs.EditLinks.{touched, untouched, links-changed}
use Rattle.cell_edit.specs.Writing.{WritesEntries}
use Rattle.cell_edit.specs.Removing.{PlansEnding}
use Rattle.cell_edit.proofs.Premises.{live-dart}
use Rattle.cell_edit.proofs.WalkTurns.{listed-told}
use Rattle.beta_edit.specs.Crossing.{drawn_step, DrawsTo}
use Rattle.beta_edit.specs.Drawing.{IsDrawn, CanBeDrawn, IsCellEntry}

-- the same links are drawn too
pub drawn-same : (C : ℕ → Type 0) (Step : ℕ → ℕ → ℕ) (L M N : Links) → ((t x : ℕ) → N t x ≡ M t x) → IsDrawn C Step L M → IsDrawn C Step L N
drawn-same C Step L M N same b = record {
  gone = λ x t h. same t x ∙ b.gone x t h;
  nothing = λ t. same t 0 ∙ b.nothing t;
  lands = λ x y t n w. same t x ∙ b.lands x y t n w;
}

module _ (n : ℕ) (two : 2 ≤ n) (rows : Rows) (sound : IsSound beta n rows) (w : Laws beta (links_of rows)) (beside : Option ℕ) (keys : List ℕ) (can : CanBeDrawn rows beside keys)
    (cs : List Change) (writes : WritesEntries (links_of rows) (IsCellEntry (links_of rows) beside keys (n + 1) keys) cs) where
  edit : Edit
  edit = record { births = 0; deaths = keys; changes = cs }

  abbrev IsEntry : ℕ → ℕ → ℕ → Type 0
  IsEntry d t y = IsCellEntry (links_of rows) beside keys (n + 1) keys d t y

  key_live : (x : ℕ) → Contains keys x → IsLive rows x
  key_live x has = All-contains (λ (d : ℕ). IsLive rows d) keys x can.live has

  key_dart : (x : ℕ) → Contains keys x → x ≢ 0
  key_dart x has = live-dart beta n rows sound x (key_live x has)

  each : (P : Change → Type 0) → ((c : Change) → IsEntry c.dart c.link c.new → c.old ≡ links_of rows c.link c.dart → P c) → All P cs
  each P f p z h = let e = (writes.same (get_or cs p z)).0 (Contains-get_or cs p z h) in f (get_or cs p z) e.0 e.1

  old_live : (d : ℕ) → IsLive rows d → IsLive (with_births n 0 rows) d
  old_live d live = ap is_some (births-old n 0 rows d (live-within rows d live)) ∙ live

  lives : (d t y : ℕ) → IsEntry d t y → IsLive (with_births n 0 rows) d
  lives d t y (x, has, (s, low, (some, inl e))) = old_live d (subst (IsLive rows) (sym e.0) (key_live x has))
  lives d t y (x, has, (s, low, (some, inr e))) = old_live d (subst (IsLive rows) (sym e.0) (sound.live s x some))

  inside : (d t y : ℕ) → IsEntry d t y → t ≤ n
  inside d t y (x, has, (s, low, (some, inl e))) = omega (arith, e.1, low)
  inside d t y (x, has, (s, low, (some, inr e))) = subst (λ r. r ≤ n) (sym e.2) (inverse_within beta n s two (omega arith))

  -- each entry is the link after the changes, and all other links are as before
  written : (d t y : ℕ) → IsEntry d t y → links_of (with_changes n edit rows) t d ≡ y
  unfolding edit
  written d t y e =
      let c : Change = record { dart = d; link = t; old = links_of rows t d; new = y } in
      let has : Contains cs c = (writes.same c).1 (e, refl) in
      All-contains (λ (b : Change). links_of (with_changes n edit rows) b.link b.dart ≡ b.new) cs c
      (touched n cs (with_births n 0 rows) (births-wide n 0 rows sound.wide)
      (each (λ b. IsLive (with_births n 0 rows) b.dart) (λ b f o. lives b.dart b.link b.new f)) (each (λ b. b.link ≤ n) (λ b f o. inside b.dart b.link b.new f)) writes.once) has

  left : (d t : ℕ) → ((y : ℕ) → IsEntry d t y → ⊥) → links_of (with_changes n edit rows) t d ≡ links_of rows t d
  unfolding edit
  left d t none =
      untouched cs (with_births n 0 rows) t d (each (λ b. d ≡ b.dart → t ≡ b.link → ⊥) (λ b f o dart link. none b.new (rw (dart, link) f)))
      ∙ births-links n 0 rows t d

  -- ---- the links of a dart that ends
  none_ending : (x t y : ℕ) → Contains keys x → links_of rows t x ≡ 0 → IsEntry x t y → ⊥
  none_ending x t y has free (u, had, (s, low, (some, inl e))) = some (ap (links_of rows s) (sym e.0) ∙ ap (λ r. links_of rows r x) (sym e.1) ∙ free)
  none_ending x t y has free (u, had, (s, low, (some, inr e))) = e.1 has

  gone : (x t : ℕ) → Contains keys x → links_of (with_changes n edit rows) t x ≡ 0
  gone x t has = elim (same_or_not (links_of rows t x) 0) [
    | inl free ↦ left x t (λ y e. none_ending x t y has free e) ∙ free
    | inr some ↦ elim (cases_lt n t) [
      | inl above ↦ absurd (some (rows_dimension n rows sound.wide t x above))
      | inr within ↦ written x t 0 (x, has, (t, omega arith, (some, inl (refl, refl, refl))))
    ]
  ]

  -- ---- 0
  none_nothing : (t y : ℕ) → IsEntry 0 t y → ⊥
  none_nothing t y (u, had, (s, low, (some, inl e))) = key_dart u had (sym e.0)
  none_nothing t y (u, had, (s, low, (some, inr e))) = some (sym e.0)

  nothing : (t : ℕ) → links_of (with_changes n edit rows) t 0 ≡ 0
  nothing t = left 0 t (λ y e. none_nothing t y e) ∙ w.nil t

  -- ---- the links of a remaining dart
  -- link t leads to a remaining dart, and stays
  none_beside : (x t y : ℕ) → (Contains keys x → ⊥) → (Contains keys (links_of rows t x) → ⊥) → IsEntry x t y → ⊥
  none_beside x t y out beyond (u, had, (s, low, (some, inl e))) = out (subst (Contains keys) (sym e.0) had)
  none_beside x t y out beyond (u, had, (s, low, (some, inr e))) = beyond (subst (Contains keys) (sym back) had)
    where
      back : links_of rows t x ≡ u
      back = ap (λ r. links_of rows r x) e.2 ∙ ap (links_of rows (inverse beta s)) e.0 ∙ w.back s u some

  -- it leads to a dart that ends, and is drawn across
  entry : (x t y : ℕ) → (Contains keys x → ⊥) → Contains keys (links_of rows t x) → DrawsTo (links_of rows) beside t keys (links_of rows t x) y → IsEntry x t y
  entry x t y out has walk = (links_of rows t x, has, (inverse beta t, omega (arith, low), (some, inr (sym back, out, sym (inverse_twice beta t), walk))))
    where
      linked : links_of rows t x ≢ 0
      linked = key_dart (links_of rows t x) has

      back : links_of rows (inverse beta t) (links_of rows t x) ≡ x
      back = w.back t x linked

      some : links_of rows (inverse beta t) (links_of rows t x) ≢ 0
      some free = dart_of_link beta (links_of rows) w t x linked (sym back ∙ free)

      low : inverse beta t ≤ n
      low = elim (cases_lt n (inverse beta t)) [
        | inl above ↦ absurd (some (rows_dimension n rows sound.wide (inverse beta t) (links_of rows t x) above))
        | inr within ↦ within
      ]

  lands : (x y t : ℕ) → (Contains keys x → ⊥) → DrawsTo (links_of rows) beside t keys (links_of rows t x) y → links_of (with_changes n edit rows) t x ≡ y
  lands x y t out walk = elim (listed-told keys (links_of rows t x)) [
    | inl has ↦ written x t y (entry x t y out has walk)
    | inr beyond ↦ left x t (λ z e. none_beside x t z out beyond e) ∙ walk_one (stop beyond) walk
  ]

  drawn : IsDrawn (Contains keys) (drawn_step (links_of rows) beside) (links_of rows) (links_of (with_changes n edit rows))
  drawn = record { gone = gone; nothing = nothing; lands = lands }

  rises-apart : AllPairs (λ (c d : ℕ). c ≢ d) keys
  rises-apart p q z less within e = let h : get_or keys p z < get_or keys q z = AllPairs-from_increasing keys can.ascending p q z less within in omega arith

  fits : Fits beta n rows edit
  unfolding edit
  fits = record {
    darts = each (λ b. IsLive (with_births n 0 rows) b.dart) (λ b f o. lives b.dart b.link b.new f);
    links = each (λ b. b.link ≤ n) (λ b f o. inside b.dart b.link b.new f);
    stands = each (λ b. links_of rows b.link b.dart ≡ b.old) (λ b f o. sym o);
    once = writes.once;
    back = (can.keeps (links_of (with_changes n edit rows)) drawn).back;
    living = can.live;
    ends = rises-apart;
    free = λ p z h t. gone (get_or keys p z) t (Contains-get_or keys p z h);
  }

  after_drawn : IsDrawn (Contains keys) (drawn_step (links_of rows) beside) (links_of rows) (links_of (after_edit n edit rows))
  after_drawn = drawn-same (Contains keys) (drawn_step (links_of rows) beside) (links_of rows) (links_of (with_changes n edit rows)) (links_of (after_edit n edit rows)) (links-changed beta n rows edit sound fits) drawn

  pub drawing-ends : PlansEnding beta n rows (Contains keys) (λ N. IsDrawn (Contains keys) (drawn_step (links_of rows) beside) (links_of rows) N) (record { births = 0; deaths = keys; changes = cs })
  unfolding edit
  drawing-ends = record {
    births = refl;
    members = λ x. ((λ h. h), λ h. h);
    ascending = can.ascending;
    fits = fits;
    becomes = after_drawn;
    laws = can.keeps (links_of (after_edit n edit rows)) after_drawn;
  }
