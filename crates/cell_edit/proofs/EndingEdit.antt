-- The edit that writes the entries of darts that end: it fits, draws the link across them, and keeps the laws.
use Rattle.std.proofs.Common.{ℕ, zero, suc, ◌≡◌, ◌≢◌, ◌+◌, ◌<◌, ◌≤◌, ◌⊎◌, List, get_or, Contains, is_some, refl, sym, ap, ◌∙◌, subst, inl, inr, arith}
use Rattle.std.specs.Prelude.{All}
use Rattle.std.specs.List.{AllPairs}
use Rattle.std.proofs.lemmas.Bool.{cases_lt}
use Rattle.std.proofs.lemmas.List.Kept.{AllPairs-from_increasing}
use Rattle.std.proofs.lemmas.List.Elements.{All-contains, Contains-get_or}
use Rattle.map_defs.specs.Kind.{Kind, alpha, beta, inverse}
use Rattle.map_defs.specs.Links.{Links, IsTurned}
use Rattle.map_defs.specs.Laws.{Laws}
use Rattle.map_defs.specs.Rows.{Rows, links_of, IsLive, IsSound}
use Rattle.map_defs.specs.Edits.{Change, Edit, with_births, with_changes, after_edit, Fits}
use Rattle.map_defs.specs.Walks.{stop, IsTold}
use Rattle.map_defs.specs.Removal.{Lands, IsBridged}
use Rattle.link_laws.proofs.Basics.{same_or_not}
use Rattle.link_laws.proofs.InverseLinks.{turned_of_laws}
use Rattle.link_laws.proofs.Walking.{walk_one}
use Rattle.link_laws.proofs.RowFacts.{rows_dimension}
use Rattle.edit_laws.proofs.RowWrites.{births-links, births-wide, births-old, live-within}
use Rattle.edit_laws.proofs.EditLinks.{touched, untouched, links-changed}
use Rattle.cell_edit.specs.Writing.{WritesEntries}
use Rattle.cell_edit.specs.Bridging.{across, LeadsAcross, CanEnd, IsCellEntry}
use Rattle.cell_edit.specs.Removing.{PlansEnding}
use Rattle.cell_edit.proofs.BridgeEntries.{beyond-back}
use Rattle.cell_edit.proofs.Premises.{live-dart}
use Rattle.cell_edit.proofs.WalkTurns.{listed-told}

-- where a walk lands
landed : (k : Kind) (x y n : ℕ) → ((z : ℕ) → Lands k x y z → n ≡ z) → Lands k x y n
landed alpha x y n f = ((λ other. f y ((λ _. refl), λ same. absurd (other same))), λ same. f 0 ((λ other. absurd (other same)), λ _. refl))
landed beta x y n f = f y refl

-- one that stays where it is lands at the old link
lands-kept : (k : Kind) (L : Links) → Laws k L → (i x y n : ℕ) → inverse k i ≡ i → y ≡ L i x → n ≡ L i x → Lands k x y n
lands-kept alpha L w i x y n own is stays = ((λ other. stays ∙ sym is), λ same. stays ∙ free same)
  where
    free : y ≡ x → L i x ≡ 0
    free same = elim (same_or_not x 0) [
      | inl none ↦ ap (L i) none ∙ w.nil i
      | inr some ↦ absurd (w.apart i x refl some (sym is ∙ same))
    ]
lands-kept beta L w i x y n own is stays = stays ∙ sym is

-- ---- link 0 of a combinatorial map still leads back
own-high : (i : ℕ) → inverse beta i ≡ i → 2 ≤ i
own-high zero own = absurd (omega arith)
own-high (suc zero) own = absurd (omega arith)
own-high (suc (suc i)) own = omega arith

turned-same : (M N : Links) → ((t x : ℕ) → N t x ≡ M t x) → IsTurned M → IsTurned N
turned-same M N same turned = record {
  nothing = same 0 0 ∙ turned.nothing;
  back = λ x y nx ny. let both = turned.back x y nx ny in
      ((λ h. same 0 y ∙ both.0 (sym (same 1 x) ∙ h)), λ h. same 1 x ∙ both.1 (sym (same 0 y) ∙ h));
}

turned-ended : (L N : Links) (C : ℕ → Type 0) → IsTold C → IsTurned L → ((x j : ℕ) → C x → j ≤ 1 → L j x ≢ 0 → C (L j x))
    → ((x t : ℕ) → C x → N t x ≡ 0) → ((x t : ℕ) → (C x → ⊥) → t ≤ 1 → N t x ≡ L t x) → N 0 0 ≡ 0 → IsTurned N
turned-ended L N C told turned closed gone kept nothing = record {
  nothing = nothing;
  back = λ x y nx ny. (to x y nx ny (told x) (told y), from x y nx ny (told x) (told y));
}
  where
    to : (x y : ℕ) → x ≢ 0 → y ≢ 0 → C x ⊎ (C x → ⊥) → C y ⊎ (C y → ⊥) → N 1 x ≡ y → N 0 y ≡ x
    to x y nx ny (inl cx) cy e = absurd (ny (sym e ∙ gone x 1 cx))
    to x y nx ny (inr ox) (inl cy) e =
        let back : L 0 y ≡ x = (turned.back x y nx ny).0 (sym (kept x 1 ox (omega arith)) ∙ e) in
        absurd (ox (subst C back (closed y 0 cy (omega arith) (λ none. nx (sym back ∙ none)))))
    to x y nx ny (inr ox) (inr oy) e = kept y 0 oy (omega arith) ∙ (turned.back x y nx ny).0 (sym (kept x 1 ox (omega arith)) ∙ e)

    from : (x y : ℕ) → x ≢ 0 → y ≢ 0 → C x ⊎ (C x → ⊥) → C y ⊎ (C y → ⊥) → N 0 y ≡ x → N 1 x ≡ y
    from x y nx ny cx (inl cy) e = absurd (nx (sym e ∙ gone y 0 cy))
    from x y nx ny (inl cx) (inr oy) e =
        let on : L 1 x ≡ y = (turned.back x y nx ny).1 (sym (kept y 0 oy (omega arith)) ∙ e) in
        absurd (oy (subst C on (closed x 1 cx (omega arith) (λ none. ny (sym on ∙ none)))))
    from x y nx ny (inr ox) (inr oy) e = kept x 1 ox (omega arith) ∙ (turned.back x y nx ny).1 (sym (kept y 0 oy (omega arith)) ∙ e)

-- the same links are bridged too
pub bridged-same : (k : Kind) (i : ℕ) (C : ℕ → Type 0) (Step : ℕ → ℕ) (L M N : Links) → ((t x : ℕ) → N t x ≡ M t x) → IsBridged k i C Step L M → IsBridged k i C Step L N
bridged-same k i C Step L M N same b = record {
  gone = λ x t h. same t x ∙ b.gone x t h;
  nothing = λ t. same t 0 ∙ b.nothing t;
  kept = λ x t n o v. same t x ∙ b.kept x t n o v;
  lands = λ x y n w. subst (λ z. Lands k x y z) (sym (same i x)) (b.lands x y n w);
  turned = λ e. turned-same M N same (b.turned e);
}

module _ (k : Kind) (n : ℕ) (rows : Rows) (sound : IsSound k n rows) (w : Laws k (links_of rows)) (i : ℕ) (low : i ≤ n) (a : ℕ) (keys : List ℕ) (can : CanEnd k rows i a keys)
    (cs : List Change) (writes : WritesEntries (links_of rows) (IsCellEntry k (links_of rows) i a (n + 1) keys keys) cs) where
  edit : Edit
  edit = record { births = 0; deaths = keys; changes = cs }

  key_live : (x : ℕ) → Contains keys x → IsLive rows x
  key_live x has = All-contains (λ (d : ℕ). IsLive rows d) keys x can.live has

  key_dart : (x : ℕ) → Contains keys x → x ≢ 0
  key_dart x has = live-dart k n rows sound x (key_live x has)

  each : (P : Change → Type 0) → ((c : Change) → IsCellEntry k (links_of rows) i a (n + 1) keys keys c.dart c.link c.new → c.old ≡ links_of rows c.link c.dart → P c) → All P cs
  each P f p z h = let e = (writes.same (get_or cs p z)).0 (Contains-get_or cs p z h) in f (get_or cs p z) e.0 e.1

  old_live : (d : ℕ) → IsLive rows d → IsLive (with_births n 0 rows) d
  old_live d live = ap is_some (births-old n 0 rows d (live-within rows d live)) ∙ live

  lives : (d t y : ℕ) → IsCellEntry k (links_of rows) i a (n + 1) keys keys d t y → IsLive (with_births n 0 rows) d
  lives d t y (x, has, inl e) = old_live d (subst (IsLive rows) (sym e.0) (key_live x has))
  lives d t y (x, has, inr e) = old_live d (subst (IsLive rows) (sym e.0) (sound.live i x (λ none. e.1 (e.0 ∙ none))))

  inside : (d t y : ℕ) → IsCellEntry k (links_of rows) i a (n + 1) keys keys d t y → t ≤ n
  inside d t y (x, has, inl e) = omega (arith, e.1)
  inside d t y (x, has, inr e) = omega (arith, e.3)

  -- each entry is the link after the changes, and all other links are as before
  written : (d t y : ℕ) → IsCellEntry k (links_of rows) i a (n + 1) keys keys d t y → links_of (with_changes n edit rows) t d ≡ y
  unfolding edit
  written d t y e =
      let c : Change = record { dart = d; link = t; old = links_of rows t d; new = y } in
      let has : Contains cs c = (writes.same c).1 (e, refl) in
      All-contains (λ (b : Change). links_of (with_changes n edit rows) b.link b.dart ≡ b.new) cs c
      (touched n cs (with_births n 0 rows) (births-wide n 0 rows sound.wide)
      (each (λ b. IsLive (with_births n 0 rows) b.dart) (λ b f o. lives b.dart b.link b.new f)) (each (λ b. b.link ≤ n) (λ b f o. inside b.dart b.link b.new f)) writes.once) has

  left : (d t : ℕ) → ((y : ℕ) → IsCellEntry k (links_of rows) i a (n + 1) keys keys d t y → ⊥) → links_of (with_changes n edit rows) t d ≡ links_of rows t d
  unfolding edit
  left d t none =
      untouched cs (with_births n 0 rows) t d (each (λ b. d ≡ b.dart → t ≡ b.link → ⊥) (λ b f o dart link. none b.new (rw (dart, link) f)))
      ∙ births-links n 0 rows t d

  -- ---- the links of a dart that ends
  none_ending : (x t y : ℕ) → Contains keys x → links_of rows t x ≡ 0 → IsCellEntry k (links_of rows) i a (n + 1) keys keys x t y → ⊥
  none_ending x t y has free (u, had, inl e) = e.2 (ap (links_of rows t) (sym e.0) ∙ free)
  none_ending x t y has free (u, had, inr e) = e.2 has

  gone : (x t : ℕ) → Contains keys x → links_of (with_changes n edit rows) t x ≡ 0
  gone x t has = elim (same_or_not (links_of rows t x) 0) [
    | inl free ↦ left x t (λ y e. none_ending x t y has free e) ∙ free
    | inr some ↦ elim (cases_lt n t) [
      | inl above ↦ absurd (some (rows_dimension n rows sound.wide t x above))
      | inr within ↦ written x t 0 (x, has, inl (refl, omega arith, some, refl))
    ]
  ]

  -- ---- 0, and the other links of a remaining dart
  none_nothing : (t y : ℕ) → IsCellEntry k (links_of rows) i a (n + 1) keys keys 0 t y → ⊥
  none_nothing t y (u, had, inl e) = key_dart u had (sym e.0)
  none_nothing t y (u, had, inr e) = e.1 refl

  none_kept : (x t y : ℕ) → (Contains keys x → ⊥) → t ≢ i → IsCellEntry k (links_of rows) i a (n + 1) keys keys x t y → ⊥
  none_kept x t y out other (u, had, inl e) = out (subst (Contains keys) (sym e.0) had)
  none_kept x t y out other (u, had, inr e) = other e.3

  -- ---- link i of a remaining dart
  none_beside : (x y : ℕ) → (Contains keys x → ⊥) → (Contains keys (links_of rows i x) → ⊥) → IsCellEntry k (links_of rows) i a (n + 1) keys keys x i y → ⊥
  none_beside x y out beyond (u, had, inl e) = out (subst (Contains keys) (sym e.0) had)
  none_beside x y out beyond (u, had, inr e) =
      beyond (subst (Contains keys) (sym (beyond-back k (links_of rows) w i u x can.own e.0 e.1)) had)

  -- it leads to a remaining dart, and stays
  lands_beside : (x y : ℕ) → (Contains keys x → ⊥) → (Contains keys (links_of rows i x) → ⊥) → y ≡ links_of rows i x → Lands k x y (links_of (with_changes n edit rows) i x)
  lands_beside x y out beyond is =
      lands-kept k (links_of rows) w i x y (links_of (with_changes n edit rows) i x) can.own is (left x i (λ z e. none_beside x z out beyond e))

  -- it leads to a dart that ends, and is drawn across
  lands_across : (x y : ℕ) → (Contains keys x → ⊥) → Contains keys (links_of rows i x) → LeadsAcross k (links_of rows) i a keys (links_of rows i x) y → Lands k x y (links_of (with_changes n edit rows) i x)
  lands_across x y out has walk = landed k x y (links_of (with_changes n edit rows) i x) (λ z h. written x i z (entry z h))
    where
      linked : links_of rows i x ≢ 0
      linked = key_dart (links_of rows i x) has

      dart : x ≢ 0
      dart none = linked (ap (links_of rows i) none ∙ w.nil i)

      back : links_of rows i (links_of rows i x) ≡ x
      back = beyond-back k (links_of rows) w i x (links_of rows i x) can.own refl linked

      entry : (z : ℕ) → Lands k x y z → IsCellEntry k (links_of rows) i a (n + 1) keys keys x i z
      entry z lands = (links_of rows i x, has, inr (sym back, dart, out, refl, (y, walk, lands)))

  lands : (x y : ℕ) → (Contains keys x → ⊥) → LeadsAcross k (links_of rows) i a keys (links_of rows i x) y → Lands k x y (links_of (with_changes n edit rows) i x)
  lands x y out walk = elim (listed-told keys (links_of rows i x)) [
    | inl has ↦ lands_across x y out has walk
    | inr beyond ↦ lands_beside x y out beyond (walk_one walk (stop beyond))
  ]

  kept : (x t : ℕ) → (Contains keys x → ⊥) → t ≢ i → links_of (with_changes n edit rows) t x ≡ links_of rows t x
  kept x t out other = left x t (λ y e. none_kept x t y out other e)

  nothing : (t : ℕ) → links_of (with_changes n edit rows) t 0 ≡ 0
  nothing t = left 0 t (λ y e. none_nothing t y e) ∙ w.nil t

  turned : k ≡ beta → IsTurned (links_of (with_changes n edit rows))
  turned e =
      let high : 2 ≤ i = own-high i (subst (λ q. inverse q i ≡ i) e can.own) in
      turned-ended (links_of rows) (links_of (with_changes n edit rows)) (Contains keys) (listed-told keys) (turned_of_laws (links_of rows) (subst (λ q. Laws q (links_of rows)) e w))
      (λ x j has low. can.closed x j has (omega arith)) gone (λ x t out low. kept x t out (omega arith)) (nothing 0)

  bridged : IsBridged k i (Contains keys) (across k (links_of rows) i a) (links_of rows) (links_of (with_changes n edit rows))
  bridged = record {
    gone = gone;
    nothing = nothing;
    kept = λ x t out other inverse. kept x t out other;
    lands = lands;
    turned = turned;
  }

  rises-apart : AllPairs (λ (c d : ℕ). c ≢ d) keys
  rises-apart p q z less within e = let h : get_or keys p z < get_or keys q z = AllPairs-from_increasing keys can.ascending p q z less within in omega arith

  fits : Fits k n rows edit
  unfolding edit
  fits = record {
    darts = each (λ b. IsLive (with_births n 0 rows) b.dart) (λ b f o. lives b.dart b.link b.new f);
    links = each (λ b. b.link ≤ n) (λ b f o. inside b.dart b.link b.new f);
    stands = each (λ b. links_of rows b.link b.dart ≡ b.old) (λ b f o. sym o);
    once = writes.once;
    back = (can.keeps (links_of (with_changes n edit rows)) bridged).back;
    living = can.live;
    ends = rises-apart;
    free = λ p z h t. gone (get_or keys p z) t (Contains-get_or keys p z h);
  }

  after_bridged : IsBridged k i (Contains keys) (across k (links_of rows) i a) (links_of rows) (links_of (after_edit n edit rows))
  after_bridged = bridged-same k i (Contains keys) (across k (links_of rows) i a) (links_of rows) (links_of (with_changes n edit rows)) (links_of (after_edit n edit rows))
      (links-changed k n rows edit sound fits) bridged

  pub ending-ends : PlansEnding k n rows (Contains keys) (λ N. IsBridged k i (Contains keys) (across k (links_of rows) i a) (links_of rows) N) (record { births = 0; deaths = keys; changes = cs })
  unfolding edit
  ending-ends = record {
    births = refl;
    members = λ x. ((λ h. h), λ h. h);
    ascending = can.ascending;
    fits = fits;
    becomes = after_bridged;
    laws = can.keeps (links_of (after_edit n edit rows)) after_bridged;
  }
