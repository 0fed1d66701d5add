-- The links after edges were hung are told by the old links, where the new darts are numbered alike.
use Rattle.std.proofs.Common.{ℕ, zero, suc, ◌≡◌, ◌≢◌, ◌≤◌, ◌⊎◌, refl, sym, ap, subst, inl, inr, ◌∙◌, arith}
use Rattle.map_defs.specs.Kind.{Kind, alpha, beta}
use Rattle.map_defs.specs.Links.{Links, IsTurned}
use Rattle.map_defs.specs.LinkWords.{two_links}
use Rattle.map_defs.specs.Cells.{here, onward, InCell}
use Rattle.map_defs.specs.Insertion.{InAlphaCorner, InBetaCorner}
use Rattle.map_defs.specs.Inserting.{InCorner}
use Rattle.map_defs.specs.Closing.{IsHung, IsBetaDangled, IsBetaCentred, IsDangled, IsCentred}
use Rattle.link_laws.proofs.Basics.{by_cases, same_or_not}
use Rattle.link_laws.proofs.CellFacts.{beta_closed}
use Rattle.link_laws.proofs.InverseLinks.{turned_one}
use Rattle.insert_laws.proofs.Fresh.{IsNew, InOrNone}
use Rattle.center_laws.proofs.Hung.{IsHangingSet}
use Rattle.center_laws.proofs.HangingSets.{corner_hangs, face_hangs}
use Rattle.machine_laws.proofs.Inserted.{AreAlike, not-new}

-- what Becomes tells of the two series of new darts tells the links
abbrev pub TellsHung : (ℕ → Type 0) → ((ℕ → ℕ) → (ℕ → ℕ) → Links → Type 0) → Type 0
TellsHung K Becomes = (star tip star' tip' : ℕ → ℕ) → AreAlike K star star' → AreAlike K tip tip' → (N M : Links) → Becomes star tip N → Becomes star' tip' M → (t x : ℕ) → N t x ≡ M t x

in-or-none : (K : ℕ → Type 0) (x : ℕ) → (x ≢ 0 → K x) → InOrNone K x
in-or-none K x some = elim (same_or_not x 0) [ inl none ↦ inr none | inr n ↦ inl (some n) ]

-- a claim on a dart from the three sorts of darts
by-sort : (K : ℕ → Type 0) (star tip : ℕ → ℕ) (x a b : ℕ) → ((y : ℕ) → K y → x ≡ star y → a ≡ b) → ((y : ℕ) → K y → x ≡ tip y → a ≡ b)
    → ((IsNew K star x → ⊥) → (IsNew K tip x → ⊥) → a ≡ b) → a ≡ b
by-sort K star tip x a b first second old = by_cases (IsNew K star x) a b (λ new. first new.0 new.1 new.2)
    (λ from. by_cases (IsNew K tip x) a b (λ new. second new.0 new.1 new.2) (λ to. old from to))

-- on the darts of a set of a generalized map
module _ (m : ℕ) (L : Links) (K : ℕ → Type 0) (set : IsHangingSet m L K) where
  carried : (x j : ℕ) → K x → (j ≡ 1) ⊎ ((3 ≤ j) ⊎ (j ≡ m)) → InOrNone K (L j x)
  carried x j h l = in-or-none K (L j x) (set.on x j h l)

  module _ (star tip star' tip' : ℕ → ℕ) (begins : AreAlike K star star') (ends : AreAlike K tip tip') (N M : Links)
      (b : IsHung m K star tip L N) (c : IsHung m K star' tip' L M) where
    star-is : (t x : ℕ) → K x → N t (star x) ≡ M t (star x)
    star-is zero x h = b.ends x h ∙ ends x (inl h) ∙ sym (ap (M 0) (begins x (inl h)) ∙ c.ends x h)
    star-is (suc zero) x h = b.old x h ∙ sym (ap (M 1) (begins x (inl h)) ∙ c.old x h)
    star-is (suc (suc zero)) x h = b.beyond x h ∙ begins (L 1 x) (carried x 1 h (inl refl)) ∙ sym (ap (M 2) (begins x (inl h)) ∙ c.beyond x h)
    star-is (suc (suc (suc t))) x h =
        let high : 3 ≤ suc (suc (suc t)) = omega arith in
        b.along x (suc (suc (suc t))) h high ∙ begins (L (suc (suc (suc t))) x) (carried x (suc (suc (suc t))) h (inr (inl high)))
        ∙ sym (ap (M (suc (suc (suc t)))) (begins x (inl h)) ∙ c.along x (suc (suc (suc t))) h high)

    tip-is : (t x : ℕ) → K x → N t (tip x) ≡ M t (tip x)
    tip-is zero x h = b.begins x h ∙ begins x (inl h) ∙ sym (ap (M 0) (ends x (inl h)) ∙ c.begins x h)
    tip-is (suc zero) x h = b.turns x h ∙ ends (L m x) (carried x m h (inr (inr refl))) ∙ sym (ap (M 1) (ends x (inl h)) ∙ c.turns x h)
    tip-is (suc (suc zero)) x h = b.beyond_tip x h ∙ ends (L 1 x) (carried x 1 h (inl refl)) ∙ sym (ap (M 2) (ends x (inl h)) ∙ c.beyond_tip x h)
    tip-is (suc (suc (suc t))) x h =
        let high : 3 ≤ suc (suc (suc t)) = omega arith in
        b.along_tip x (suc (suc (suc t))) h high ∙ ends (L (suc (suc (suc t))) x) (carried x (suc (suc (suc t))) h (inr (inl high)))
        ∙ sym (ap (M (suc (suc (suc t)))) (ends x (inl h)) ∙ c.along_tip x (suc (suc (suc t))) h high)

    old-is : (t x : ℕ) → (IsNew K star x → ⊥) → (IsNew K tip x → ⊥) → N t x ≡ M t x
    old-is t x from to = by_cases (K x × (t ≡ 1)) _ _
        (λ h. rw h.1 (b.new x h.0 ∙ begins x (inl h.0) ∙ sym (c.new x h.0)))
        (λ out.
        b.kept x t (λ h e. out (h, e)) (λ y h e. from (y, h, e)) (λ y h e. to (y, h, e))
        ∙ sym (c.kept x t (λ h e. out (h, e)) (not-new K star star' begins x from) (not-new K tip tip' ends x to)))

  pub hung-one : TellsHung K (λ star tip. IsHung m K star tip L)
  hung-one star tip star' tip' begins ends N M b c t x = by-sort K star tip x _ _
      (λ y h e. rw e (star-is star tip star' tip' begins ends N M b c t y h))
      (λ y h e. rw e (tip-is star tip star' tip' begins ends N M b c t y h))
      (old-is star tip star' tip' begins ends N M b c t x)

-- Edges that are hung in a combinatorial map: link 1 of `before x` becomes the new edge of x, link 2 of its begin leads
-- across to the end of that of `on x`, and of its end to the begin of that of `back x`, and link j leads to those of
-- `beside j x`.
pub record IsHungAt (K : ℕ → Type 0) (before on back : ℕ → ℕ) (beside : ℕ → ℕ → ℕ) (star tip : ℕ → ℕ) (L N : Links) : Type 0 where
  pub into : (x : ℕ) → K x → N 1 (before x) ≡ star x
  pub onward : (x : ℕ) → K x → N 1 (star x) ≡ tip x
  pub out : (x : ℕ) → K x → N 1 (tip x) ≡ x
  pub sides : (x : ℕ) → K x → N 2 (star x) ≡ tip (on x)
  pub sides_back : (x : ℕ) → K x → N 2 (tip x) ≡ star (back x)
  pub along : (x j : ℕ) → K x → 3 ≤ j → N j (star x) ≡ tip (beside j x)
  pub along_tip : (x j : ℕ) → K x → 3 ≤ j → N j (tip x) ≡ star (beside j x)
  pub kept : (x t : ℕ) → 1 ≤ t → ((y : ℕ) → K y → t ≡ 1 → x ≢ before y) → ((y : ℕ) → K y → x ≢ star y) → ((y : ℕ) → K y → x ≢ tip y) → N t x ≡ L t x
  pub turned : IsTurned N

module _ (L : Links) (K : ℕ → Type 0) (before on back : ℕ → ℕ) (beside : ℕ → ℕ → ℕ)
    (on-in : (x : ℕ) → K x → InOrNone K (on x)) (back-in : (x : ℕ) → K x → InOrNone K (back x))
    (beside-in : (j x : ℕ) → K x → 3 ≤ j → InOrNone K (beside j x)) where
  module _ (star tip star' tip' : ℕ → ℕ) (begins : AreAlike K star star') (ends : AreAlike K tip tip') (N M : Links)
      (b : IsHungAt K before on back beside star tip L N) (c : IsHungAt K before on back beside star' tip' L M) where
    star-at : (t x : ℕ) → 1 ≤ t → K x → N t (star x) ≡ M t (star x)
    star-at zero x l h = absurd (omega arith)
    star-at (suc zero) x l h = b.onward x h ∙ ends x (inl h) ∙ sym (ap (M 1) (begins x (inl h)) ∙ c.onward x h)
    star-at (suc (suc zero)) x l h = b.sides x h ∙ ends (on x) (on-in x h) ∙ sym (ap (M 2) (begins x (inl h)) ∙ c.sides x h)
    star-at (suc (suc (suc t))) x l h =
        let high : 3 ≤ suc (suc (suc t)) = omega arith in
        b.along x (suc (suc (suc t))) h high ∙ ends (beside (suc (suc (suc t))) x) (beside-in (suc (suc (suc t))) x h high)
        ∙ sym (ap (M (suc (suc (suc t)))) (begins x (inl h)) ∙ c.along x (suc (suc (suc t))) h high)

    tip-at : (t x : ℕ) → 1 ≤ t → K x → N t (tip x) ≡ M t (tip x)
    tip-at zero x l h = absurd (omega arith)
    tip-at (suc zero) x l h = b.out x h ∙ sym (ap (M 1) (ends x (inl h)) ∙ c.out x h)
    tip-at (suc (suc zero)) x l h = b.sides_back x h ∙ begins (back x) (back-in x h) ∙ sym (ap (M 2) (ends x (inl h)) ∙ c.sides_back x h)
    tip-at (suc (suc (suc t))) x l h =
        let high : 3 ≤ suc (suc (suc t)) = omega arith in
        b.along_tip x (suc (suc (suc t))) h high ∙ begins (beside (suc (suc (suc t))) x) (beside-in (suc (suc (suc t))) x h high)
        ∙ sym (ap (M (suc (suc (suc t)))) (ends x (inl h)) ∙ c.along_tip x (suc (suc (suc t))) h high)

    old-at : (t x : ℕ) → 1 ≤ t → (IsNew K star x → ⊥) → (IsNew K tip x → ⊥) → N t x ≡ M t x
    old-at t x l from to = by_cases ((t ≡ 1) × ((y : ℕ) × K y × (x ≡ before y))) _ _
        (λ h. rw (h.0, h.1.2) (b.into h.1.0 h.1.1 ∙ begins h.1.0 (inl h.1.1) ∙ sym (c.into h.1.0 h.1.1)))
        (λ out.
        b.kept x t l (λ y h e q. out (e, (y, h, q))) (λ y h e. from (y, h, e)) (λ y h e. to (y, h, e))
        ∙ sym (c.kept x t l (λ y h e q. out (e, (y, h, q))) (not-new K star star' begins x from) (not-new K tip tip' ends x to)))

    hung-at : (t x : ℕ) → 1 ≤ t → N t x ≡ M t x
    hung-at t x l = by-sort K star tip x _ _ (λ y h e. rw e (star-at t y l h)) (λ y h e. rw e (tip-at t y l h)) (old-at t x l)

  hung-at-one : TellsHung K (λ star tip. IsHungAt K before on back beside star tip L)
  hung-at-one star tip star' tip' begins ends N M b c zero x = turned_one N M b.turned c.turned (λ y. hung-at star tip star' tip' begins ends N M b c 1 y (omega arith)) x
  hung-at-one star tip star' tip' begins ends N M b c (suc t) x = hung-at star tip star' tip' begins ends N M b c (suc t) x (omega arith)

-- a dangling edge of a combinatorial map, and a vertex in the middle of a face
dangled-at : (L N : Links) (d : ℕ) (star tip : ℕ → ℕ) → IsBetaDangled d star tip L N
    → IsHungAt (InBetaCorner L d) (L 0) (λ x. x) (λ x. x) (λ j x. L j (L 0 x)) star tip L N
dangled-at L N d star tip b = record {
  into = b.into;
  onward = b.onward;
  out = b.out;
  sides = b.sides;
  sides_back = b.sides_back;
  along = b.along;
  along_tip = b.along_tip;
  kept = b.kept;
  turned = b.turned;
}

centred-at : (L N : Links) (d : ℕ) (star tip : ℕ → ℕ) → IsBetaCentred d star tip L N → IsHungAt (InCell beta L 2 d) (λ x. x) (L 1) (L 0) L star tip L N
centred-at L N d star tip b = record {
  into = b.into;
  onward = b.onward;
  out = b.out;
  sides = b.sides;
  sides_back = b.sides_back;
  along = b.along;
  along_tip = b.along_tip;
  kept = λ x t l f. b.kept x t l (λ h e. f x h e refl);
  turned = b.turned;
}

-- and the other way round
pub dangled-from : (L N : Links) (d : ℕ) (star tip : ℕ → ℕ) → IsHungAt (InBetaCorner L d) (L 0) (λ x. x) (λ x. x) (λ j x. L j (L 0 x)) star tip L N
    → IsBetaDangled d star tip L N
dangled-from L N d star tip b = record {
  into = b.into;
  onward = b.onward;
  out = b.out;
  sides = b.sides;
  sides_back = b.sides_back;
  along = b.along;
  along_tip = b.along_tip;
  kept = b.kept;
  turned = b.turned;
}

pub centred-from : (L N : Links) (d : ℕ) (star tip : ℕ → ℕ) → IsHungAt (InCell beta L 2 d) (λ x. x) (L 1) (L 0) L star tip L N → IsBetaCentred d star tip L N
centred-from L N d star tip b = record {
  into = b.into;
  onward = b.onward;
  out = b.out;
  sides = b.sides;
  sides_back = b.sides_back;
  along = b.along;
  along_tip = b.along_tip;
  kept = λ x t l far. b.kept x t l (λ y h e q. far (subst (InCell beta L 2 d) (sym q) h) e);
  turned = b.turned;
}

on-face : (L : Links) (d j : ℕ) → j ≢ 2 → (x : ℕ) → InCell beta L 2 d x → InOrNone (InCell beta L 2 d) (L j x)
on-face L d j n x h = in-or-none (InCell beta L 2 d) (L j x) (λ m. beta_closed L 0 j d x n h m)

dangled-one : (L : Links) (d : ℕ) → TellsHung (InBetaCorner L d) (λ star tip. IsBetaDangled d star tip L)
dangled-one L d star tip star' tip' begins ends N M b c =
    hung-at-one L (InBetaCorner L d) (L 0) (λ x. x) (λ x. x) (λ j x. L j (L 0 x)) (λ x h. inl h) (λ x h. inl h)
    (λ j x h l. in-or-none (InBetaCorner L d) (L j (L 0 x)) (λ n. onward h (two_links 0 j, (j, l, refl), refl, n)))
    star tip star' tip' begins ends N M (dangled-at L N d star tip b) (dangled-at L M d star' tip' c)

centred-one : (L : Links) (d : ℕ) → TellsHung (InCell beta L 2 d) (λ star tip. IsBetaCentred d star tip L)
centred-one L d star tip star' tip' begins ends N M b c =
    hung-at-one L (InCell beta L 2 d) (λ x. x) (L 1) (L 0) L (on-face L d 1 (omega arith)) (on-face L d 0 (omega arith))
    (λ j x h l. on-face L d j (omega arith) x h)
    star tip star' tip' begins ends N M (centred-at L N d star tip b) (centred-at L M d star' tip' c)

-- in either kind
pub dangle-one : (k : Kind) (L : Links) (d : ℕ) → ((x : ℕ) → InCorner k L d x → x ≢ 0) → TellsHung (InCorner k L d) (λ star tip. IsDangled k d star tip L)
dangle-one alpha L d darts = hung-one 1 L (InAlphaCorner L d) (corner_hangs L d (darts d here))
dangle-one beta L d darts = dangled-one L d

pub centre-one : (k : Kind) (L : Links) (d : ℕ) → ((x : ℕ) → InCell k L 2 d x → x ≢ 0) → TellsHung (InCell k L 2 d) (λ star tip. IsCentred k d star tip L)
centre-one alpha L d darts = hung-one 0 L (InCell alpha L 2 d) (face_hangs L d (darts d here))
centre-one beta L d darts = centred-one L d
