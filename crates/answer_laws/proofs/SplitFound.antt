-- A vertex on an edge of a combinatorial map has links.
use Rattle.std.proofs.Common.{◌≡◌, ◌≢◌, ℕ, ◌≤◌, List, length, refl, sym, ap, ◌∙◌, subst, inl, inr, arith}
use Rattle.map_defs.specs.Kind.{beta}
use Rattle.map_defs.specs.Links.{Links}
use Rattle.map_defs.specs.Laws.{Laws}
use Rattle.map_defs.specs.Rows.{made, IsLive, links_of}
use Rattle.map_defs.specs.Births.{IsNumbered, IsFresh}
use Rattle.map_defs.specs.Insertion.{IsSplit}
use Rattle.machine_defs.specs.State.{Content}
use Rattle.machine_defs.specs.Kept.{IsLawfulContent}
use Rattle.machine_defs.specs.Relinking.{NoDart}
use Rattle.link_laws.proofs.Basics.{same_or_not}
use Rattle.link_laws.proofs.RowFacts.{rows_lead_to_live}
use Rattle.insert_laws.proofs.Fresh.{IsNew}
use Rattle.insert_laws.proofs.OneToOne.{split_one}
use Rattle.answer_laws.specs.Answering.{NotNot}
use Rattle.answer_laws.proofs.Choosing.{either_way}
use Rattle.answer_laws.proofs.RelinkedFound.{LivesAfter}
use Rattle.answer_laws.proofs.LinksFound.{AreLinksAfter, TellsLinks, links_found, turned_found}
use Rattle.answer_laws.proofs.SewnFound.{high-free, dead-free}
use Rattle.answer_laws.proofs.Numbered.{fresh, old-lives, new-lives}

module _ (c : Content) (kept : IsLawfulContent c) (w : Laws beta (links_of c.rows)) (K : ℕ → Type 0) (live : (x : ℕ) → K x → IsLive c.rows x)
    (keys : List ℕ) (star : ℕ → ℕ) (m : IsNumbered K keys (made c.rows) star) where
  abbrev L : Links
  L = links_of c.rows

  f : IsFresh L K star
  f = fresh c kept K live keys star m

  record Splits (t x y : ℕ) : Type 0 where
    pub first : K x → t ≡ 1 → y ≡ star x
    pub new : K x → 2 ≤ t → y ≡ star (L t x)
    pub old : (z : ℕ) → K z → x ≡ star z → 1 ≤ t → y ≡ L t z
    pub others : 1 ≤ t → (K x → ⊥) → ((z : ℕ) → K z → x ≢ star z) → y ≡ L t x

  new-some : (t x z : ℕ) → K z → x ≡ star z → Splits t x (L t z)
  new-some t x z h e = record {
    first = λ h' one. absurd (f.outside z h (subst K e h'));
    new = λ h' l. absurd (f.outside z h (subst K e h'));
    old = λ z' h' e' l. ap (L t) (f.one z z' h h' (sym e ∙ e'));
    others = λ l out none. absurd (none z h e);
  }

  in-some : (t x : ℕ) → K x → (IsNew K star x → ⊥) → NotNot ((y : ℕ) × Splits t x y)
  in-some t x h not-new never = elim (same_or_not t 1) [
    | inl one ↦ never (
      star x,
      record {
        first = λ h' e. refl;
        new = λ h' l. absurd (omega arith);
        old = λ z h' e l. absurd (not-new (z, h', e));
        others = λ l out none. absurd (out h);
      },
    )
    | inr more ↦ never (
      star (L t x),
      record {
        first = λ h' e. absurd (more e);
        new = λ h' l. refl;
        old = λ z h' e l. absurd (not-new (z, h', e));
        others = λ l out none. absurd (out h);
      },
    )
  ]

  out-some : (t x : ℕ) → (K x → ⊥) → (IsNew K star x → ⊥) → Splits t x (L t x)
  out-some t x out not-new = record {
    first = λ h' e. absurd (out h');
    new = λ h' l. absurd (out h');
    old = λ z h' e l. absurd (not-new (z, h', e));
    others = λ l far none. refl;
  }

  splits-tells : TellsLinks c kept (length keys) NoDart Splits
  splits-tells = record {
    some = λ t x l lives never. either_way (IsNew K star x) (λ told. elim told [
      | inl new ↦ never (L t new.0, new-some t x new.0 new.1 new.2)
      | inr not-new ↦ either_way (K x) (λ inside. elim inside [
        | inl h ↦ in-some t x h not-new never
        | inr out ↦ never (L t x, out-some t x out not-new)
      ])
    ]);
    above = λ t x h. record {
      first = λ h' e. absurd (let flat = kept.flat in omega arith);
      new = λ h' l. sym (ap star (high-free c kept t x h) ∙ f.nothing);
      old = λ z h' e l. sym (high-free c kept t z h);
      others = λ l out none. sym (high-free c kept t x h);
    };
    outside = λ t x dead. record {
      first = λ h' e. absurd (dead (old-lives c kept K live keys star m x (live x h')));
      new = λ h' l. absurd (dead (old-lives c kept K live keys star m x (live x h')));
      old = λ z h' e l. absurd (dead (new-lives c kept K live keys star m x (z, h', e)));
      others = λ l out none. sym (dead-free c kept t x (λ h. dead (old-lives c kept K live keys star m x h)));
    };
  }

  module _ (M : Links) (b : (t x : ℕ) → Splits t x (M t x)) where
    new-one : (x y : ℕ) → M 1 x ≢ 0 → M 1 x ≡ M 1 y → x ≡ y
    new-one = split_one L w K star f (M 1) (λ x h. (b 1 x).first h refl) (λ x h. (b 1 (star x)).old x h refl (omega arith)) (λ x out none. (b 1 x).others (omega arith) out none)

    leads-to : (x y : ℕ) → M 1 x ≢ 0 → M 1 x ≡ L 1 y → LivesAfter c (length keys) NoDart (M 1 x)
    leads-to x y some e = subst (LivesAfter c (length keys) NoDart) (sym e) (old-lives c kept K live keys star m (L 1 y) (rows_lead_to_live beta c.rows w 1 y (λ none. some (e ∙ none))))

    new-lands : (x : ℕ) → M 1 x ≢ 0 → NotNot (LivesAfter c (length keys) NoDart (M 1 x))
    new-lands x some never = either_way (IsNew K star x) (λ told. elim told [
      | inl new ↦ never (leads-to x new.0 some ((b 1 x).old new.0 new.1 new.2 (omega arith)))
      | inr not-new ↦ either_way (K x) (λ inside. elim inside [
        | inl h ↦ never (new-lives c kept K live keys star m (M 1 x) (x, h, (b 1 x).first h refl))
        | inr out ↦ never (leads-to x x some ((b 1 x).others (omega arith) out (λ z h e. not-new (z, h, e))))
      ])
    ])

  pub split_found : NotNot ((N : Links) × IsSplit K star L N × AreLinksAfter c kept (length keys) NoDart N)
  split_found never = links_found c kept (length keys) NoDart Splits splits-tells (λ found.
      let after = turned_found c kept (length keys) NoDart found.0 found.2 (new-one found.0 found.1) (new-lands found.0 found.1) in
      never (
        after.0,
        record {
          first = λ x h. after.2 1 x (omega arith) ∙ (found.1 1 x).first h refl;
          second = λ x h. after.2 1 (star x) (omega arith) ∙ (found.1 1 (star x)).old x h refl (omega arith);
          new = λ x j h l. after.2 j x (omega arith) ∙ (found.1 j x).new h l;
          old = λ x j h l. after.2 j (star x) (omega arith) ∙ (found.1 j (star x)).old x h refl (omega arith);
          kept = λ x t l out none. after.2 t x l ∙ (found.1 t x).others l out none;
          turned = after.1;
        },
        after.3,
      ))
