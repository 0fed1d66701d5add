-- An edge in a face of a combinatorial map has links.
use Rattle.std.proofs.Common.{◌≡◌, ◌≢◌, ℕ, ◌≤◌, List, length, refl, sym, ap, ◌∙◌, subst, inl, inr, arith}
use Rattle.map_defs.specs.Kind.{beta}
use Rattle.map_defs.specs.Links.{Links}
use Rattle.map_defs.specs.Laws.{Laws}
use Rattle.map_defs.specs.Rows.{made, IsLive, links_of}
use Rattle.map_defs.specs.Births.{IsNumbered, IsFresh}
use Rattle.map_defs.specs.Insertion.{IsCut}
use Rattle.machine_defs.specs.State.{Content}
use Rattle.machine_defs.specs.Kept.{IsLawfulContent}
use Rattle.machine_defs.specs.Relinking.{NoDart}
use Rattle.link_laws.proofs.Basics.{same_or_not}
use Rattle.link_laws.proofs.LawFacts.{link_one}
use Rattle.link_laws.proofs.RowFacts.{rows_lead_to_live}
use Rattle.insert_laws.proofs.Fresh.{IsNew, fresh_link}
use Rattle.insert_laws.proofs.BetaEdge.{IsTurning, IsCorner, ComesBefore}
use Rattle.insert_laws.proofs.OneToOne.{cut_one}
use Rattle.answer_laws.specs.Answering.{NotNot}
use Rattle.answer_laws.proofs.Choosing.{either_way}
use Rattle.answer_laws.proofs.RelinkedFound.{LivesAfter}
use Rattle.answer_laws.proofs.LinksFound.{AreLinksAfter, TellsLinks, links_found, turned_found}
use Rattle.answer_laws.proofs.SewnFound.{high-free, dead-free}
use Rattle.answer_laws.proofs.Numbered.{fresh, old-lives, new-lives}

module _ (c : Content) (kept : IsLawfulContent c) (w : Laws beta (links_of c.rows)) (Turn : ℕ → ℕ → Type 0) (turn : IsTurning (links_of c.rows) Turn)
    (single : (x y z : ℕ) → Turn x y → Turn x z → y ≡ z) (live : (x : ℕ) → IsCorner Turn x → IsLive c.rows x)
    (keys : List ℕ) (star : ℕ → ℕ) (m : IsNumbered (IsCorner Turn) keys (made c.rows) star) where
  abbrev L : Links
  L = links_of c.rows

  abbrev K : ℕ → Type 0
  K = IsCorner Turn

  f : IsFresh L K star
  f = fresh c kept K live keys star m

  record Cuts (t x y : ℕ) : Type 0 where
    pub into : (z v : ℕ) → Turn z v → x ≡ L 0 z → t ≡ 1 → y ≡ star z
    pub onward : (z v : ℕ) → Turn z v → x ≡ star z → t ≡ 1 → y ≡ v
    pub sides : (z v : ℕ) → Turn z v → x ≡ star z → t ≡ 2 → y ≡ star v
    pub along : (z v : ℕ) → Turn z v → x ≡ star z → 3 ≤ t → y ≡ star (L t (L 0 v))
    pub others : 1 ≤ t → ((z v : ℕ) → Turn z v → t ≡ 1 → x ≢ L 0 z) → ((z v : ℕ) → Turn z v → x ≢ star z) → y ≡ L t x

  not-link : (x z v : ℕ) → IsNew K star x → x ≡ L 0 z → ⊥
  not-link x z v new e = fresh_link beta L w K star f 0 z (new.0, new.1, sym e ∙ new.2)

  -- the way from a corner is one, also where the corner is told by its new dart
  same-way : (x z v z' v' : ℕ) → Turn z v → x ≡ star z → Turn z' v' → x ≡ star z' → v ≡ v'
  same-way x z v z' v' p e q e' =
      let one : z' ≡ z = f.one z' z (v', q) (v, p) (sym e' ∙ e) in
      single z v v' p (subst (λ (u : ℕ). Turn u v') one q)

  module _ (x z v : ℕ) (p : Turn z v) (e : x ≡ star z) where
    new-one : (t : ℕ) → t ≡ 1 → Cuts t x v
    new-one t is = record {
      into = λ z' v' q g one. absurd (not-link x z' v' (z, (v, p), e) g);
      onward = λ z' v' q g one. same-way x z v z' v' p e q g;
      sides = λ z' v' q g two. absurd (omega arith);
      along = λ z' v' q g l. absurd (omega arith);
      others = λ l before none. absurd (none z v p e);
    }

    new-two : (t : ℕ) → t ≡ 2 → Cuts t x (star v)
    new-two t is = record {
      into = λ z' v' q g one. absurd (omega arith);
      onward = λ z' v' q g one. absurd (omega arith);
      sides = λ z' v' q g two. ap star (same-way x z v z' v' p e q g);
      along = λ z' v' q g l. absurd (omega arith);
      others = λ l before none. absurd (none z v p e);
    }

    new-more : (t : ℕ) → t ≢ 1 → t ≢ 2 → Cuts t x (star (L t (L 0 v)))
    new-more t not-one not-two = record {
      into = λ z' v' q g one. absurd (not-one one);
      onward = λ z' v' q g one. absurd (not-one one);
      sides = λ z' v' q g two. absurd (not-two two);
      along = λ z' v' q g l. ap (λ (u : ℕ). star (L t (L 0 u))) (same-way x z v z' v' p e q g);
      others = λ l before none. absurd (none z v p e);
    }

    new-some : (t : ℕ) → NotNot ((y : ℕ) × Cuts t x y)
    new-some t never = elim (same_or_not t 1) [
      | inl one ↦ never (v, new-one t one)
      | inr not-one ↦ elim (same_or_not t 2) [
        | inl two ↦ never (star v, new-two t two)
        | inr not-two ↦ never (star (L t (L 0 v)), new-more t not-one not-two)
      ]
    ]

  before-some : (t x z v : ℕ) → Turn z v → x ≡ L 0 z → t ≡ 1 → (IsNew K star x → ⊥) → Cuts t x (star z)
  before-some t x z v p e is not-new = record {
    into = λ z' v' q g one. ap star (link_one beta L w 0 z z' (turn.begins z v p) (sym e ∙ g));
    onward = λ z' v' q g one. absurd (not-new (z', (v', q), g));
    sides = λ z' v' q g two. absurd (not-new (z', (v', q), g));
    along = λ z' v' q g l. absurd (not-new (z', (v', q), g));
    others = λ l before none. absurd (before z v p is e);
  }

  out-some : (t x : ℕ) → ((z v : ℕ) → Turn z v → t ≡ 1 → x ≢ L 0 z) → (IsNew K star x → ⊥) → Cuts t x (L t x)
  out-some t x apart not-new = record {
    into = λ z' v' q g one. absurd (apart z' v' q one g);
    onward = λ z' v' q g one. absurd (not-new (z', (v', q), g));
    sides = λ z' v' q g two. absurd (not-new (z', (v', q), g));
    along = λ z' v' q g l. absurd (not-new (z', (v', q), g));
    others = λ l before none. refl;
  }

  old-some : (t x : ℕ) → (IsNew K star x → ⊥) → NotNot ((y : ℕ) × Cuts t x y)
  old-some t x not-new never = either_way ((t ≡ 1) × ComesBefore L Turn x) (λ told. elim told [
    | inl h ↦ never (star h.1.0, before-some t x h.1.0 h.1.1 h.1.2 h.1.3 h.0 not-new)
    | inr out ↦ never (L t x, out-some t x (λ z v p is e. out (is, (z, v, p, e))) not-new)
  ])

  cuts-tells : TellsLinks c kept (length keys) NoDart Cuts
  cuts-tells = record {
    some = λ t x l lives never. either_way (IsNew K star x) (λ told. elim told [
      | inl new ↦ new-some x new.0 new.1.0 new.1.1 new.2 t never
      | inr not-new ↦ old-some t x not-new never
    ]);
    above = λ t x h. let flat = kept.flat in record {
      into = λ z v p e one. absurd (omega arith);
      onward = λ z v p e one. absurd (omega arith);
      sides = λ z v p e two. absurd (omega arith);
      along = λ z v p e l. sym (ap star (high-free c kept t (L 0 v) h) ∙ f.nothing);
      others = λ l before none. sym (high-free c kept t x h);
    };
    outside = λ t x dead.
        let not-new : IsNew K star x → ⊥ = λ new. dead (new-lives c kept K live keys star m x new) in
        let not-live : IsLive c.rows x → ⊥ = λ h. dead (old-lives c kept K live keys star m x h) in record {
          into = λ z v p e one. absurd (not-live (subst (IsLive c.rows) (sym e) (rows_lead_to_live beta c.rows w 0 z (turn.begins z v p))));
          onward = λ z v p e one. absurd (not-new (z, (v, p), e));
          sides = λ z v p e two. absurd (not-new (z, (v, p), e));
          along = λ z v p e l. absurd (not-new (z, (v, p), e));
          others = λ l before none. sym (dead-free c kept t x not-live);
        };
  }

  module _ (M : Links) (b : (t x : ℕ) → Cuts t x (M t x)) where
    cut-one : (x y : ℕ) → M 1 x ≢ 0 → M 1 x ≡ M 1 y → x ≡ y
    cut-one =
        cut_one L w Turn turn.both star f (M 1) (λ x y p. (b 1 (L 0 x)).into x y p refl refl) (λ x y p. (b 1 (star x)).onward x y p refl refl)
        (λ x before none. (b 1 x).others (omega arith) (λ z v p one. before z v p) none)

    cut-lands : (x : ℕ) → M 1 x ≢ 0 → NotNot (LivesAfter c (length keys) NoDart (M 1 x))
    cut-lands x some never = either_way (IsNew K star x) (λ told. elim told [
      | inl new ↦
          let e : M 1 x ≡ new.1.0 = (b 1 x).onward new.0 new.1.0 new.1.1 new.2 refl in
          never (old-lives c kept K live keys star m (M 1 x) (subst (IsLive c.rows) (sym e) (live new.1.0 (new.0, turn.both new.0 new.1.0 new.1.1))))
      | inr not-new ↦ either_way (ComesBefore L Turn x) (λ before. elim before [
        | inl h ↦ never (new-lives c kept K live keys star m (M 1 x) (h.0, (h.1, h.2), (b 1 x).into h.0 h.1 h.2 h.3 refl))
        | inr out ↦
            let e : M 1 x ≡ L 1 x = (b 1 x).others (omega arith) (λ z v p one g. out (z, v, p, g)) (λ z v p g. not-new (z, (v, p), g)) in
            never (old-lives c kept K live keys star m (M 1 x) (subst (IsLive c.rows) (sym e) (rows_lead_to_live beta c.rows w 1 x (λ none. some (e ∙ none)))))
      ])
    ])

  pub cut_found : NotNot ((N : Links) × IsCut Turn star L N × AreLinksAfter c kept (length keys) NoDart N)
  cut_found never = links_found c kept (length keys) NoDart Cuts cuts-tells (λ found.
      let after = turned_found c kept (length keys) NoDart found.0 found.2 (cut-one found.0 found.1) (cut-lands found.0 found.1) in
      never (
        after.0,
        record {
          into = λ x y p. after.2 1 (L 0 x) (omega arith) ∙ (found.1 1 (L 0 x)).into x y p refl refl;
          onward = λ x y p. after.2 1 (star x) (omega arith) ∙ (found.1 1 (star x)).onward x y p refl refl;
          sides = λ x y p. after.2 2 (star x) (omega arith) ∙ (found.1 2 (star x)).sides x y p refl refl;
          along = λ x y j p l. after.2 j (star x) (omega arith) ∙ (found.1 j (star x)).along x y p refl l;
          kept = λ x t l before none. after.2 t x l ∙ (found.1 t x).others l before none;
          turned = after.1;
        },
        after.3,
      ))
