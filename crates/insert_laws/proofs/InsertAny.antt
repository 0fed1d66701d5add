-- Insertion in general keeps the laws of a map.
use Rattle.std.proofs.Common.{ℕ, ◌≡◌, ◌≢◌, refl, sym, ap, inl, ⊎_elim, ◌∙◌}
use Rattle.map_defs.specs.Kind.{Kind, inverse}
use Rattle.map_defs.specs.Links.{Links}
use Rattle.map_defs.specs.Laws.{Laws}
use Rattle.map_defs.specs.Births.{IsFresh}
use Rattle.map_defs.specs.Insertion.{IsInsertable, IsInserted}
use Rattle.link_laws.proofs.Basics.{by_cases, stable, same_or_not, inverse_twice}
use Rattle.link_laws.proofs.LawFacts.{dart_of_link}
use Rattle.insert_laws.proofs.Fresh.{IsNew, fresh_link, fresh_none}
use Rattle.insert_laws.proofs.Stands.{Leads, over, along, paired, Stands, none, some, stands_end, stands_turned, stands_some, stands_apart}

module _ (k : Kind) (i : ℕ) (K : ℕ → Type 0) (P : ℕ → ℕ → ℕ → Type 0) (star : ℕ → ℕ) (L : Links) (w : Laws k L) (can : IsInsertable k i K P L) (fresh : IsFresh L K star) where
  pub other_than_own : (t : ℕ) → t ≢ i → inverse k t ≢ i
  other_than_own t n e = n (sym (inverse_twice k t) ∙ (ap (inverse k) e ∙ can.own))

  module _ (N : Links) (s : IsInserted k i K P star L N) where
    pub inserted_old : (t z : ℕ) → (IsNew K star z → ⊥) → t ≢ i → N t z ≡ L t z
    inserted_old t z n m = s.kept z t (λ _. m) (λ y h e. n (y, h, e))

    pub inserted_outside : (t z : ℕ) → (IsNew K star z → ⊥) → (K z → ⊥) → N t z ≡ L t z
    inserted_outside t z n m = s.kept z t (λ h. absurd (m h)) (λ y h e. n (y, h, e))

    pub inserted_nil : (t : ℕ) → N t 0 ≡ 0
    inserted_nil t = inserted_outside t 0 (fresh_none k L w K star fresh) (λ h. can.dart 0 h refl) ∙ w.nil t

    new_leads : (t x y : ℕ) → K x → Leads k i P L t x y → N t (star x) ≡ star y
    new_leads t x y h (over e g) = rw (e, g) (s.beyond x h)
    new_leads t x y h (along f g) = rw g (s.along x t h f)
    new_leads t x y h (paired p) = s.paired x y t p

    pub new_stands : (t x y : ℕ) → Stands k i K P L t x y → N t (star x) ≡ star y
    new_stands t x y (none a b) = rw (a, b, fresh.nothing) (inserted_nil t)
    new_stands t x y (some h l) = new_leads t x y h l

    -- a goal on a new dart may be proved for the dart where its link leads
    pub by_stands : (t x a b : ℕ) → K x → t ≢ i → ((y : ℕ) → Stands k i K P L t x y → a ≡ b) → a ≡ b
    by_stands t x a b h n f = stable a b (λ d. stands_some k i K P L w can t x h n (λ y q. d (f y q)))

    back_new : (t x : ℕ) → K x → t ≢ i → N t (star x) ≢ 0 → N (inverse k t) (N t (star x)) ≡ star x
    back_new t x h n d = by_stands t x (N (inverse k t) (N t (star x))) (star x) h n (λ y q.
        let a : N t (star x) ≡ star y = new_stands t x y q in
        let hy : y ≢ 0 = λ o. d (a ∙ (ap star o ∙ fresh.nothing)) in
        let b : N (inverse k t) (star y) ≡ star x = new_stands (inverse k t) y x (stands_turned k i K P L w can t x y q hy) in cc)

    back_old : (t z : ℕ) → (IsNew K star z → ⊥) → (K z → t ≢ i) → N t z ≢ 0 → N (inverse k t) (N t z) ≡ z
    back_old t z n m d =
        let a : N t z ≡ L t z = s.kept z t m (λ y h e. n (y, h, e)) in
        let g : L t z ≢ 0 = λ o. d (a ∙ o) in
        let b : L (inverse k t) (L t z) ≡ z = w.back t z g in
        let stays : K (L t z) → inverse k t ≢ i = λ h e.
        let ti : t ≡ i = sym (inverse_twice k t) ∙ (ap (inverse k) e ∙ can.own) in
        let hz : K (L i (L t z)) = can.carried (L t z) i h (inl refl) (λ o. dart_of_link k L w t z g (sym b ∙ (ap (λ j. L j (L t z)) e ∙ o))) in
        m (rw (ap (λ j. L j (L t z)) (sym e) ∙ b) at hz) ti in
        let c : N (inverse k t) (L t z) ≡ L (inverse k t) (L t z) = s.kept (L t z) (inverse k t) stays (λ y h e. fresh_link k L w K star fresh t z (y, h, e)) in cc

    pub back_at : (t z : ℕ) → N t z ≢ 0 → N (inverse k t) (N t z) ≡ z
    back_at t z d = by_cases (IsNew K star z) (N (inverse k t) (N t z)) z
        (λ v. let x : ℕ = v.0 in let h : K x = v.1 in rw v.2 (⊎_elim
        (λ (e : t ≡ i). let a : N i (star x) ≡ x = s.old x h in let b : N i x ≡ star x = s.new x h in cc (can.own))
        (λ (n : t ≢ i). back_new t x h n (rw v.2 at d))
        (same_or_not t i)))
        (λ n. by_cases (K z) (N (inverse k t) (N t z)) z
        (λ h. ⊎_elim
        (λ (e : t ≡ i). let a : N i (star z) ≡ z = s.old z h in let b : N i z ≡ star z = s.new z h in cc (can.own))
        (λ (m : t ≢ i). back_old t z n (λ _. m) d)
        (same_or_not t i))
        (λ h. back_old t z n (λ g. absurd (h g)) d))

    pub apart_at : (t z : ℕ) → inverse k t ≡ t → z ≢ 0 → N t z ≢ z
    apart_at t z own hz e =
        let old : IsNew K star z → ⊥ = λ v. let x : ℕ = v.0 in let h : K x = v.1 in
        ⊎_elim
        (λ (q : t ≡ i). fresh.outside x h (let a : N i (star x) ≡ x = s.old x h in let b : star x ≡ x = cc (v.2) in rw b h))
        (λ (q : t ≢ i). stands_some k i K P L w can t x h q (λ y st.
        let a : N t (star x) ≡ star y = new_stands t x y st in
        let b : star x ≡ star y = cc (v.2) in
        ⊎_elim
        (λ (g : K y). let c : x ≡ y = fresh.one x y h g b in stands_apart k i K P L w can t x (can.dart x h) own (rw (← c) at st))
        (λ (o : y ≡ 0). fresh.dart x h (b ∙ (ap star o ∙ fresh.nothing)))
        (stands_end k i K P L w can t x y st)))
        (same_or_not t i) in
        let inside : K z → t ≢ i = λ h q. old (z, h, let b : N i z ≡ star z = s.new z h in cc) in
        w.apart t z own hz (sym (s.kept z t inside (λ y h g. old (y, h, g))) ∙ e)
