-- An insertion in general has links.
use Rattle.std.proofs.Common.{◌≡◌, ◌≢◌, ℕ, zero, suc, ◌+◌, ◌<◌, ◌≤◌, List, length, refl, sym, ap, ◌∙◌, subst, inl, inr, arith}
use Rattle.map_defs.specs.Kind.{Kind, alpha, beta, inverse, place, IsDistant}
use Rattle.map_defs.specs.Links.{Links}
use Rattle.map_defs.specs.Laws.{Laws}
use Rattle.map_defs.specs.Rows.{made, IsLive, links_of}
use Rattle.map_defs.specs.Births.{IsNumbered, IsFresh}
use Rattle.map_defs.specs.Insertion.{IsInserted, IsInsertable}
use Rattle.machine_defs.specs.State.{Content}
use Rattle.machine_defs.specs.Kept.{IsLawfulContent}
use Rattle.machine_defs.specs.Relinking.{NoDart}
use Rattle.link_laws.proofs.Basics.{same_or_not, inverse_own, IsDistant-apart}
use Rattle.insert_laws.proofs.Fresh.{IsNew}
use Rattle.insert_laws.proofs.Places.{IsBeside, same, next, below, far, link_cases, next_place, below_apart}
use Rattle.insert_laws.proofs.Stands.{Leads, over, along, paired}
use Rattle.answer_laws.specs.Answering.{NotNot}
use Rattle.answer_laws.proofs.Choosing.{either_way}
use Rattle.answer_laws.proofs.LinksFound.{AreLinksAfter, TellsLinks, links_found}
use Rattle.answer_laws.proofs.SewnFound.{high-free, dead-free}
use Rattle.answer_laws.proofs.Numbered.{fresh, old-lives, new-lives}

place-upto : (k : Kind) (i : ℕ) → place k i ≤ i + 1
place-upto alpha i = omega arith
place-upto beta zero = omega arith
place-upto beta (suc i) = omega arith

place-from : (k : Kind) (t : ℕ) → t ≤ place k t
place-from alpha t = omega arith
place-from beta zero = omega arith
place-from beta (suc t) = omega arith

module _ (k : Kind) (i : ℕ) (own : inverse k i ≡ i) (P : ℕ → ℕ → ℕ → Type 0) (L : Links) (one : (x y z t : ℕ) → P x y t → P x z t → y ≡ z) (just : (x y t : ℕ) → P x y t → place k t + 1 ≡ place k i) where
  over-along : (t : ℕ) → t ≡ suc i → IsDistant k i t → ⊥
  unfolding IsDistant
  over-along t e (inl f) = let a = next_place k i own in let b = ap (place k) e in omega arith
  over-along t e (inr f) = let a = next_place k i own in let b = ap (place k) e in omega arith

  over-paired : (t x y : ℕ) → t ≡ suc i → P x y t → ⊥
  over-paired t x y e p = let a = next_place k i own in let b = ap (place k) e in let g = just x y t p in omega arith

  along-paired : (t x y : ℕ) → IsDistant k i t → P x y t → ⊥
  unfolding IsDistant
  along-paired t x y (inl f) p = let g = just x y t p in omega arith
  along-paired t x y (inr f) p = let g = just x y t p in omega arith

  -- a link of a new dart leads to one new dart
  leads-one : (t x y z : ℕ) → Leads k i P L t x y → Leads k i P L t x z → y ≡ z
  leads-one t x y z (over e f) (over e' f') = f ∙ sym f'
  leads-one t x y z (over e f) (along d f') = absurd (over-along t e d)
  leads-one t x y z (over e f) (paired p) = absurd (over-paired t x z e p)
  leads-one t x y z (along d f) (over e f') = absurd (over-along t e d)
  leads-one t x y z (along d f) (along d' f') = f ∙ sym f'
  leads-one t x y z (along d f) (paired p) = absurd (along-paired t x z d p)
  leads-one t x y z (paired p) (over e f) = absurd (over-paired t x y e p)
  leads-one t x y z (paired p) (along d f) = absurd (along-paired t x y d p)
  leads-one t x y z (paired p) (paired q) = one x y z t p q

  -- and link i to none
  leads-other : (t x y : ℕ) → Leads k i P L t x y → t ≢ i
  leads-other t x y (over e f) g = omega arith
  leads-other t x y (along d f) g = IsDistant-apart k i t d (sym g)
  leads-other t x y (paired p) g = below_apart k i t (just x y t p) g

module _ (c : Content) (kept : IsLawfulContent c) (k : Kind) (w : Laws k (links_of c.rows)) (i : ℕ) (within : i ≤ c.dim) (K : ℕ → Type 0) (top : c.dim < suc i → (x : ℕ) → K x → links_of c.rows i x ≡ 0) (live : (x : ℕ) → K x → IsLive c.rows x)
    (P : ℕ → ℕ → ℕ → Type 0) (can : IsInsertable k i K P (links_of c.rows)) (one : (x y z t : ℕ) → P x y t → P x z t → y ≡ z)
    (keys : List ℕ) (star : ℕ → ℕ) (m : IsNumbered K keys (made c.rows) star) where
  abbrev L : Links
  L = links_of c.rows

  f : IsFresh L K star
  f = fresh c kept K live keys star m

  record Inserts (t x y : ℕ) : Type 0 where
    pub new : K x → t ≡ i → y ≡ star x
    pub old : (z : ℕ) → K z → x ≡ star z → t ≡ i → y ≡ z
    pub leads : (z v : ℕ) → K z → x ≡ star z → Leads k i P L t z v → y ≡ star v
    pub others : (K x → t ≢ i) → ((z : ℕ) → K z → x ≢ star z) → y ≡ L t x

  just : (x y t : ℕ) → P x y t → place k t + 1 ≡ place k i
  just x y t p = (can.begins x y t p).1

  -- a new dart's link i leads to the old one
  at-own : (t x z : ℕ) → K z → x ≡ star z → t ≡ i → Inserts t x z
  at-own t x z h e own = record {
    new = λ h' e'. absurd (f.outside z h (subst K e h'));
    old = λ z' h' e' own'. f.one z z' h h' (sym e ∙ e');
    leads = λ z' v h' e' l. absurd (leads-other k i can.own P L one just t z' v l own);
    others = λ apart none. absurd (none z h e);
  }

  -- and each other link to a new dart
  at-other : (t x z v : ℕ) → K z → x ≡ star z → t ≢ i → Leads k i P L t z v → Inserts t x (star v)
  at-other t x z v h e other l = record {
    new = λ h' e'. absurd (other e');
    old = λ z' h' e' own'. absurd (other own');
    leads = λ z' v' h' e' l'. ap star (leads-one k i can.own P L one just t z v v' l (subst (λ (u : ℕ). Leads k i P L t u v') (f.one z' z h' h (sym e' ∙ e)) l'));
    others = λ apart none. absurd (none z h e);
  }

  new-some : (t x z : ℕ) → K z → x ≡ star z → NotNot ((y : ℕ) × Inserts t x y)
  new-some t x z h e never = elim (same_or_not t i) [
    | inl own ↦ never (z, at-own t x z h e own)
    | inr other ↦ beside other (link_cases k i t can.own)
  ]
    where
      beside : t ≢ i → IsBeside k i t → ⊥
      beside other (same own) = other own
      beside other (next g) = never (star (L i z), at-other t x z (L i z) h e other (over g refl))
      beside other (below l) = can.some z t h l (λ v p. never (star v, at-other t x z v h e other (paired p)))
      beside other (far d) = never (star (L (inverse k t) z), at-other t x z (L (inverse k t) z) h e other (along d refl))

  old-some : (t x : ℕ) → (IsNew K star x → ⊥) → NotNot ((y : ℕ) × Inserts t x y)
  old-some t x not-new never = either_way (K x × (t ≡ i)) (λ told. elim told [
    | inl h ↦ never (
      star x,
      record {
        new = λ h' e'. refl;
        old = λ z h' e' own'. absurd (not-new (z, h', e'));
        leads = λ z v h' e' l. absurd (not-new (z, h', e'));
        others = λ apart none. absurd (apart h.0 h.1);
      },
    )
    | inr out ↦ never (
      L t x,
      record {
        new = λ h' e'. absurd (out (h', e'));
        old = λ z h' e' own'. absurd (not-new (z, h', e'));
        leads = λ z v h' e' l. absurd (not-new (z, h', e'));
        others = λ apart none. refl;
      },
    )
  ])

  above-leads : (t z v : ℕ) → c.dim < t → K z → Leads k i P L t z v → 0 ≡ star v
  above-leads t z v h in-set (over e g) = sym (ap star (g ∙ top (omega arith) z in-set) ∙ f.nothing)
  above-leads t z v h in-set (along d g) =
      let flat = kept.flat in
      let none : L (inverse k t) z ≡ 0 = ap (λ (j : ℕ). L j z) (inverse_own k t (omega arith)) ∙ high-free c kept t z h in
      sym (ap star (g ∙ none) ∙ f.nothing)
  above-leads t z v h in-set (paired p) = absurd (let e = just z v t p in let a = place-upto k i in let b = place-from k t in omega arith)

  inserts-tells : TellsLinks c kept (length keys) NoDart Inserts
  inserts-tells = record {
    some = λ t x l lives never. either_way (IsNew K star x) (λ told. elim told [
      | inl new ↦ new-some t x new.0 new.1 new.2 never
      | inr not-new ↦ old-some t x not-new never
    ]);
    above = λ t x h. record {
      new = λ h' e'. absurd (omega arith);
      old = λ z h' e' own'. absurd (omega arith);
      leads = λ z v h' e' l. above-leads t z v h h' l;
      others = λ apart none. sym (high-free c kept t x h);
    };
    outside = λ t x dead. record {
      new = λ h' e'. absurd (dead (old-lives c kept K live keys star m x (live x h')));
      old = λ z h' e' own'. absurd (dead (new-lives c kept K live keys star m x (z, h', e')));
      leads = λ z v h' e' l. absurd (dead (new-lives c kept K live keys star m x (z, h', e')));
      others = λ apart none. sym (dead-free c kept t x (λ h. dead (old-lives c kept K live keys star m x h)));
    };
  }

  pub inserted_found : NotNot ((N : Links) × IsInserted k i K P star L N × AreLinksAfter c kept (length keys) NoDart N)
  inserted_found never = links_found c kept (length keys) NoDart Inserts inserts-tells (λ found. never (
    found.0,
    record {
      new = λ x h. (found.1 i x).new h refl;
      old = λ x h. (found.1 i (star x)).old x h refl refl;
      beyond = λ x h. (found.1 (suc i) (star x)).leads x (L i x) h refl (over refl refl);
      paired = λ x y t p. (found.1 t (star x)).leads x y (can.begins x y t p).0 refl (paired p);
      along = λ x j h d. (found.1 j (star x)).leads x (L (inverse k j) x) h refl (along d refl);
      kept = λ x t apart none. (found.1 t x).others apart none;
    },
    found.2,
  ))
