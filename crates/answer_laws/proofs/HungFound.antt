-- Edges that are hung have links.
use Rattle.std.proofs.Common.{◌≡◌, ◌≢◌, ℕ, zero, suc, ◌+◌, ◌<◌, ◌≤◌, List, length, refl, sym, ap, ◌∙◌, subst, inl, inr, arith}
use Rattle.map_defs.specs.Kind.{beta}
use Rattle.map_defs.specs.Links.{Links}
use Rattle.map_defs.specs.Laws.{Laws}
use Rattle.map_defs.specs.Rows.{made, IsLive, links_of}
use Rattle.map_defs.specs.Births.{IsNumbered, IsFresh}
use Rattle.map_defs.specs.Closing.{IsHung}
use Rattle.machine_defs.specs.State.{Content}
use Rattle.machine_defs.specs.Kept.{IsLawfulContent}
use Rattle.machine_defs.specs.Relinking.{NoDart}
use Rattle.link_laws.proofs.RowFacts.{rows_made, rows_lead_to_live}
use Rattle.edit_laws.proofs.RowWrites.{live-within}
use Rattle.insert_laws.proofs.Fresh.{IsNew}
use Rattle.insert_laws.proofs.Numbers.{numbered_above, numbered_upto}
use Rattle.center_laws.proofs.HungLinkOne.{hung_one}
use Rattle.center_laws.proofs.TwoSeries.{series_fresh}
use Rattle.machine_laws.proofs.Hung.{IsHungAt}
use Rattle.answer_laws.specs.Answering.{NotNot}
use Rattle.answer_laws.proofs.Choosing.{either_way}
use Rattle.answer_laws.proofs.RelinkedFound.{LivesAfter}
use Rattle.answer_laws.proofs.LinksFound.{AreLinksAfter, TellsLinks, links_found, turned_found}
use Rattle.answer_laws.proofs.SewnFound.{high-free, dead-free}

module _ (c : Content) (kept : IsLawfulContent c) (K : ℕ → Type 0) (live : (x : ℕ) → K x → IsLive c.rows x)
    (keys : List ℕ) (star tip : ℕ → ℕ) (m : IsNumbered K keys (made c.rows) star) (n : IsNumbered K keys (made c.rows + length keys) tip) where
  abbrev L : Links
  L = links_of c.rows

  two : IsFresh L K star × IsFresh L K tip × ((x y : ℕ) → K x → K y → star x ≢ tip y)
  two = series_fresh K keys (made c.rows) star tip m n L (λ x h. let l = live-within c.rows x (live x h) in omega arith) (rows_made c.rows)

  abbrev births : ℕ
  births = length keys + length keys

  -- old darts and new darts live afterwards
  old-after : (x : ℕ) → IsLive c.rows x → LivesAfter c births NoDart x
  old-after x h = (inl h, λ none. none)

  star-after : (x : ℕ) → IsNew K star x → LivesAfter c births NoDart x
  star-after x (z, h, e) =
      let low = numbered_above K keys (made c.rows) star m z h in
      let high = numbered_upto K keys (made c.rows) star m z h in
      subst (LivesAfter c births NoDart) (sym e) (inr (low, omega arith), λ none. none)

  tip-after : (x : ℕ) → IsNew K tip x → LivesAfter c births NoDart x
  tip-after x (z, h, e) =
      let low = numbered_above K keys (made c.rows + length keys) tip n z h in
      let high = numbered_upto K keys (made c.rows + length keys) tip n z h in
      subst (LivesAfter c births NoDart) (sym e) (inr (omega arith, omega arith), λ none. none)

  -- a live dart is no new one
  not-star : (x : ℕ) → IsLive c.rows x → IsNew K star x → ⊥
  not-star x h (z, g, e) =
      let low = numbered_above K keys (made c.rows) star m z g in
      let within = live-within c.rows x h in
      omega (arith, e)

  not-tip : (x : ℕ) → IsLive c.rows x → IsNew K tip x → ⊥
  not-tip x h (z, g, e) =
      let low = numbered_above K keys (made c.rows + length keys) tip n z g in
      let within = live-within c.rows x h in
      omega (arith, e)

  -- Link 1 of `before z` becomes the begin of z's edge. Link t of this begin leads to `from t z`, and of the end to `to t z`.
  module _ (before : ℕ → ℕ) (from to : ℕ → ℕ → ℕ) (begins : (z : ℕ) → K z → IsLive c.rows (before z))
      (apart : (y z : ℕ) → K y → K z → before y ≡ before z → y ≡ z)
      (high-from : (t z : ℕ) → c.dim < t → K z → from t z ≡ 0) (high-to : (t z : ℕ) → c.dim < t → K z → to t z ≡ 0) where
    record Hangs (t x y : ℕ) : Type 0 where
      pub into : (z : ℕ) → K z → x ≡ before z → t ≡ 1 → y ≡ star z
      pub first : (z : ℕ) → K z → x ≡ star z → y ≡ from t z
      pub second : (z : ℕ) → K z → x ≡ tip z → y ≡ to t z
      pub others : ((z : ℕ) → K z → t ≡ 1 → x ≢ before z) → ((z : ℕ) → K z → x ≢ star z) → ((z : ℕ) → K z → x ≢ tip z) → y ≡ L t x

    at-star : (t x z : ℕ) → K z → x ≡ star z → Hangs t x (from t z)
    at-star t x z h e = record {
      into = λ z' h' e' one. absurd (not-star (before z') (begins z' h') (z, h, sym e' ∙ e));
      first = λ z' h' e'. ap (from t) (two.0.one z z' h h' (sym e ∙ e'));
      second = λ z' h' e'. absurd (two.2 z z' h h' (sym e ∙ e'));
      others = λ far none none'. absurd (none z h e);
    }

    at-tip : (t x z : ℕ) → K z → x ≡ tip z → Hangs t x (to t z)
    at-tip t x z h e = record {
      into = λ z' h' e' one. absurd (not-tip (before z') (begins z' h') (z, h, sym e' ∙ e));
      first = λ z' h' e'. absurd (two.2 z' z h' h (sym e' ∙ e));
      second = λ z' h' e'. ap (to t) (two.1.one z z' h h' (sym e ∙ e'));
      others = λ far none none'. absurd (none' z h e);
    }

    at-before : (t x z : ℕ) → K z → x ≡ before z → t ≡ 1 → Hangs t x (star z)
    at-before t x z h e is =
        let lives = subst (IsLive c.rows) (sym e) (begins z h) in record {
          into = λ z' h' e' one. ap star (apart z z' h h' (sym e ∙ e'));
          first = λ z' h' e'. absurd (not-star x lives (z', h', e'));
          second = λ z' h' e'. absurd (not-tip x lives (z', h', e'));
          others = λ far none none'. absurd (far z h is e);
        }

    at-other : (t x : ℕ) → ((z : ℕ) → K z → t ≡ 1 → x ≢ before z) → (IsNew K star x → ⊥) → (IsNew K tip x → ⊥) → Hangs t x (L t x)
    at-other t x far no-star no-tip = record {
      into = λ z h e one. absurd (far z h one e);
      first = λ z h e. absurd (no-star (z, h, e));
      second = λ z h e. absurd (no-tip (z, h, e));
      others = λ out none none'. refl;
    }

    old-some : (t x : ℕ) → (IsNew K star x → ⊥) → (IsNew K tip x → ⊥) → NotNot ((y : ℕ) × Hangs t x y)
    old-some t x no-star no-tip never = either_way ((t ≡ 1) × ((z : ℕ) × K z × (x ≡ before z))) (λ told. elim told [
      | inl h ↦ never (star h.1.0, at-before t x h.1.0 h.1.1 h.1.2 h.0)
      | inr out ↦ never (L t x, at-other t x (λ z h one e. out (one, (z, h, e))) no-star no-tip)
    ])

    hangs-tells : TellsLinks c kept births NoDart Hangs
    hangs-tells = record {
      some = λ t x l lives never. either_way (IsNew K star x) (λ told. elim told [
        | inl new ↦ never (from t new.0, at-star t x new.0 new.1 new.2)
        | inr no-star ↦ either_way (IsNew K tip x) (λ ends. elim ends [
          | inl new ↦ never (to t new.0, at-tip t x new.0 new.1 new.2)
          | inr no-tip ↦ old-some t x no-star no-tip never
        ])
      ]);
      above = λ t x h. record {
        into = λ z g e one. absurd (let flat = kept.flat in omega arith);
        first = λ z g e. sym (high-from t z h g);
        second = λ z g e. sym (high-to t z h g);
        others = λ far none none'. sym (high-free c kept t x h);
      };
      outside = λ t x dead. record {
        into = λ z h e one. absurd (dead (old-after x (subst (IsLive c.rows) (sym e) (begins z h))));
        first = λ z h e. absurd (dead (star-after x (z, h, e)));
        second = λ z h e. absurd (dead (tip-after x (z, h, e)));
        others = λ far none none'. sym (dead-free c kept t x (λ h. dead (old-after x h)));
      };
    }

    hangs-found : NotNot ((N : Links) × ((t x : ℕ) → Hangs t x (N t x)) × AreLinksAfter c kept births NoDart N)
    hangs-found = links_found c kept births NoDart Hangs hangs-tells

    -- link 1 leads to darts that live
    lands : Laws beta L → (N : Links) → ((t x : ℕ) → Hangs t x (N t x)) → ((z : ℕ) → K z → from 1 z ≡ tip z) → ((z : ℕ) → K z → to 1 z ≡ z)
        → (x : ℕ) → N 1 x ≢ 0 → NotNot (LivesAfter c births NoDart (N 1 x))
    lands w N b across back x some never = either_way (IsNew K star x) (λ told. elim told [
      | inl new ↦ never (tip-after (N 1 x) (new.0, new.1, (b 1 x).first new.0 new.1 new.2 ∙ across new.0 new.1))
      | inr no-star ↦ either_way (IsNew K tip x) (λ ends. elim ends [
        | inl new ↦ never (old-after (N 1 x) (subst (IsLive c.rows) (sym ((b 1 x).second new.0 new.1 new.2 ∙ back new.0 new.1)) (live new.0 new.1)))
        | inr no-tip ↦ either_way ((z : ℕ) × K z × (x ≡ before z)) (λ at. elim at [
          | inl h ↦ never (star-after (N 1 x) (h.0, h.1, (b 1 x).into h.0 h.1 h.2 refl))
          | inr out ↦
              let e : N 1 x ≡ L 1 x = (b 1 x).others (λ z h one e. out (z, h, e)) (λ z h e. no-star (z, h, e)) (λ z h e. no-tip (z, h, e)) in
              never (old-after (N 1 x) (subst (IsLive c.rows) (sym e) (rows_lead_to_live beta c.rows w 1 x (λ none. some (e ∙ none)))))
        ])
      ])
    ])

  -- in a generalized map, where the ends turn along link k
  module _ (k : ℕ) where
    star-links : ℕ → ℕ → ℕ
    star-links zero z = tip z
    star-links (suc zero) z = z
    star-links (suc (suc zero)) z = star (L 1 z)
    star-links (suc (suc (suc t))) z = star (L (suc (suc (suc t))) z)

    tip-links : ℕ → ℕ → ℕ
    tip-links zero z = star z
    tip-links (suc zero) z = tip (L k z)
    tip-links (suc (suc zero)) z = tip (L 1 z)
    tip-links (suc (suc (suc t))) z = tip (L (suc (suc (suc t))) z)

    high-star : (t z : ℕ) → 3 ≤ t → star-links t z ≡ star (L t z)
    unfolding star-links
    high-star zero z l = absurd (omega arith)
    high-star (suc zero) z l = absurd (omega arith)
    high-star (suc (suc zero)) z l = absurd (omega arith)
    high-star (suc (suc (suc t))) z l = refl

    high-tip : (t z : ℕ) → 3 ≤ t → tip-links t z ≡ tip (L t z)
    unfolding tip-links
    high-tip zero z l = absurd (omega arith)
    high-tip (suc zero) z l = absurd (omega arith)
    high-tip (suc (suc zero)) z l = absurd (omega arith)
    high-tip (suc (suc (suc t))) z l = refl

    pub hung_found : NotNot ((N : Links) × IsHung k K star tip L N × AreLinksAfter c kept births NoDart N)
    unfolding star-links tip-links
    hung_found never =
        let flat = kept.flat in
        hangs-found (λ x. x) star-links tip-links live (λ y z h g e. e)
        (λ t z h g. high-star t z (omega arith) ∙ ap star (high-free c kept t z h) ∙ two.0.nothing)
        (λ t z h g. high-tip t z (omega arith) ∙ ap tip (high-free c kept t z h) ∙ two.1.nothing) (λ found. never (
          found.0,
          record {
            new = λ x h. (found.1 1 x).into x h refl refl;
            old = λ x h. (found.1 1 (star x)).first x h refl;
            ends = λ x h. (found.1 0 (star x)).first x h refl;
            begins = λ x h. (found.1 0 (tip x)).second x h refl;
            beyond = λ x h. (found.1 2 (star x)).first x h refl;
            beyond_tip = λ x h. (found.1 2 (tip x)).second x h refl;
            turns = λ x h. (found.1 1 (tip x)).second x h refl;
            along = λ x j h l. (found.1 j (star x)).first x h refl ∙ high-star j x l;
            along_tip = λ x j h l. (found.1 j (tip x)).second x h refl ∙ high-tip j x l;
            kept = λ x t far none none'. (found.1 t x).others (λ z h one e. far (subst K (sym e) h) one) none none';
          },
          found.2,
        ))

  -- in a combinatorial map
  module _ (w : Laws beta L) (before on back : ℕ → ℕ) (beside : ℕ → ℕ → ℕ) (begins : (z : ℕ) → K z → IsLive c.rows (before z))
      (apart : (y z : ℕ) → K y → K z → before y ≡ before z → y ≡ z) (led : (y : ℕ) → L 1 y ≢ 0 → K (L 1 y) → (z : ℕ) × K z × (y ≡ before z))
      (high : (t z : ℕ) → c.dim < t → beside t z ≡ 0) where
    begin-links : ℕ → ℕ → ℕ
    begin-links zero z = 0
    begin-links (suc zero) z = tip z
    begin-links (suc (suc zero)) z = tip (on z)
    begin-links (suc (suc (suc t))) z = tip (beside (suc (suc (suc t))) z)

    end-links : ℕ → ℕ → ℕ
    end-links zero z = 0
    end-links (suc zero) z = z
    end-links (suc (suc zero)) z = star (back z)
    end-links (suc (suc (suc t))) z = star (beside (suc (suc (suc t))) z)

    high-begin : (t z : ℕ) → 3 ≤ t → begin-links t z ≡ tip (beside t z)
    unfolding begin-links
    high-begin zero z l = absurd (omega arith)
    high-begin (suc zero) z l = absurd (omega arith)
    high-begin (suc (suc zero)) z l = absurd (omega arith)
    high-begin (suc (suc (suc t))) z l = refl

    high-end : (t z : ℕ) → 3 ≤ t → end-links t z ≡ star (beside t z)
    unfolding end-links
    high-end zero z l = absurd (omega arith)
    high-end (suc zero) z l = absurd (omega arith)
    high-end (suc (suc zero)) z l = absurd (omega arith)
    high-end (suc (suc (suc t))) z l = refl

    no-begin : (t z : ℕ) → c.dim < t → K z → begin-links t z ≡ 0
    no-begin t z h g = let flat = kept.flat in high-begin t z (omega arith) ∙ ap tip (high t z h) ∙ two.1.nothing

    no-end : (t z : ℕ) → c.dim < t → K z → end-links t z ≡ 0
    no-end t z h g = let flat = kept.flat in high-end t z (omega arith) ∙ ap star (high t z h) ∙ two.0.nothing

    HangsAt : ℕ → ℕ → ℕ → Type 0
    HangsAt = Hangs before begin-links end-links begins apart no-begin no-end

    module _ (N : Links) (b : (t x : ℕ) → HangsAt t x (N t x)) where
      one : (x y : ℕ) → N 1 x ≢ 0 → N 1 x ≡ N 1 y → x ≡ y
      unfolding HangsAt begin-links end-links
      one = hung_one L w K before led star tip two.0 two.1 two.2 (N 1)
          (λ x h. (b 1 (before x)).into x h refl refl) (λ x h. (b 1 (star x)).first x h refl) (λ x h. (b 1 (tip x)).second x h refl)
          (λ x far none none'. (b 1 x).others (λ z h is. far z h) none none')

    pub hung_at_found : NotNot ((N : Links) × IsHungAt K before on back beside star tip L N × AreLinksAfter c kept births NoDart N)
    unfolding HangsAt begin-links end-links
    hung_at_found never = hangs-found before begin-links end-links begins apart no-begin no-end (λ found.
        let after = turned_found c kept births NoDart found.0 found.2 (one found.0 found.1)
        (lands before begin-links end-links begins apart no-begin no-end w found.0 found.1 (λ z h. refl) (λ z h. refl)) in
        never (
          after.0,
          record {
            into = λ x h. after.2 1 (before x) (omega arith) ∙ (found.1 1 (before x)).into x h refl refl;
            onward = λ x h. after.2 1 (star x) (omega arith) ∙ (found.1 1 (star x)).first x h refl;
            out = λ x h. after.2 1 (tip x) (omega arith) ∙ (found.1 1 (tip x)).second x h refl;
            sides = λ x h. after.2 2 (star x) (omega arith) ∙ (found.1 2 (star x)).first x h refl;
            sides_back = λ x h. after.2 2 (tip x) (omega arith) ∙ (found.1 2 (tip x)).second x h refl;
            along = λ x j h l. after.2 j (star x) (omega arith) ∙ (found.1 j (star x)).first x h refl ∙ high-begin j x l;
            along_tip = λ x j h l. after.2 j (tip x) (omega arith) ∙ (found.1 j (tip x)).second x h refl ∙ high-end j x l;
            kept = λ x t l far none none'. after.2 t x l ∙ (found.1 t x).others far none none';
            turned = after.1;
          },
          after.3,
        ))
