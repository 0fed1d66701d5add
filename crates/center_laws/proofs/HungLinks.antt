-- A combinatorial map as a dangling edge or a centre tells it but for its link 0 gets a link 0 that leads back.
use Rattle.std.proofs.Common.{ℕ, ◌≡◌, ◌≢◌, ◌≤◌, refl, ◌∙◌, arith}
use Rattle.map_defs.specs.Kind.{beta}
use Rattle.map_defs.specs.Links.{Links, IsTurned}
use Rattle.map_defs.specs.Laws.{Laws}
use Rattle.map_defs.specs.Cells.{InCell}
use Rattle.map_defs.specs.Births.{IsFresh}
use Rattle.map_defs.specs.Insertion.{InBetaCorner}
use Rattle.map_defs.specs.Closing.{IsBetaDangled, IsBetaCentred}
use Rattle.insert_laws.proofs.LinkZero.{turned_links}
use Rattle.center_laws.proofs.HungLinkOne.{hung_one, led_to_corner, led_to_face}

module _ (L : Links) (w : Laws beta L) (d : ℕ) (star tip : ℕ → ℕ) (M : Links) (bound : ℕ) (low : (x : ℕ) → M 1 x ≢ 0 → x ≤ bound) where
  pub dangled_links : IsFresh L (InBetaCorner L d) star → IsFresh L (InBetaCorner L d) tip → ((x y : ℕ) → InBetaCorner L d x → InBetaCorner L d y → star x ≢ tip y)
      → ((x : ℕ) → InBetaCorner L d x → M 1 (L 0 x) ≡ star x) → ((x : ℕ) → InBetaCorner L d x → M 1 (star x) ≡ tip x) → ((x : ℕ) → InBetaCorner L d x → M 1 (tip x) ≡ x)
      → ((x : ℕ) → InBetaCorner L d x → M 2 (star x) ≡ tip x) → ((x : ℕ) → InBetaCorner L d x → M 2 (tip x) ≡ star x)
      → ((x j : ℕ) → InBetaCorner L d x → 3 ≤ j → M j (star x) ≡ tip (L j (L 0 x))) → ((x j : ℕ) → InBetaCorner L d x → 3 ≤ j → M j (tip x) ≡ star (L j (L 0 x)))
      → ((x t : ℕ) → 1 ≤ t → ((y : ℕ) → InBetaCorner L d y → t ≡ 1 → x ≢ L 0 y) → ((y : ℕ) → InBetaCorner L d y → x ≢ star y) → ((y : ℕ) → InBetaCorner L d y → x ≢ tip y) → M t x ≡ L t x)
      → (N : Links) × ((t x : ℕ) → 1 ≤ t → N t x ≡ M t x) × IsBetaDangled d star tip L N
  dangled_links fresh_star fresh_tip two into onward out sides sides_back along along_tip kept =
      let one : (x y : ℕ) → M 1 x ≢ 0 → M 1 x ≡ M 1 y → x ≡ y = hung_one L w (InBetaCorner L d) (L 0) (led_to_corner L w (InBetaCorner L d)) star tip fresh_star fresh_tip two (M 1) into onward out
      (λ x n s t. kept x 1 (omega arith) (λ y h e. n y h) s t) in
      let r : (N : Links) × ((t x : ℕ) → 1 ≤ t → N t x ≡ M t x) × IsTurned N = turned_links M bound low one in (
        r.0,
        r.1,
        record {
          into = λ x h. r.1 1 (L 0 x) (omega arith) ∙ into x h;
          onward = λ x h. r.1 1 (star x) (omega arith) ∙ onward x h;
          out = λ x h. r.1 1 (tip x) (omega arith) ∙ out x h;
          sides = λ x h. r.1 2 (star x) (omega arith) ∙ sides x h;
          sides_back = λ x h. r.1 2 (tip x) (omega arith) ∙ sides_back x h;
          along = λ x j h l. r.1 j (star x) (omega arith) ∙ along x j h l;
          along_tip = λ x j h l. r.1 j (tip x) (omega arith) ∙ along_tip x j h l;
          kept = λ x t l n m o. r.1 t x l ∙ kept x t l n m o;
          turned = r.2;
        },
      )

  pub centred_links : IsFresh L (InCell beta L 2 d) star → IsFresh L (InCell beta L 2 d) tip → ((x y : ℕ) → InCell beta L 2 d x → InCell beta L 2 d y → star x ≢ tip y)
      → ((x : ℕ) → InCell beta L 2 d x → M 1 x ≡ star x) → ((x : ℕ) → InCell beta L 2 d x → M 1 (star x) ≡ tip x) → ((x : ℕ) → InCell beta L 2 d x → M 1 (tip x) ≡ x)
      → ((x : ℕ) → InCell beta L 2 d x → M 2 (star x) ≡ tip (L 1 x)) → ((x : ℕ) → InCell beta L 2 d x → M 2 (tip x) ≡ star (L 0 x))
      → ((x j : ℕ) → InCell beta L 2 d x → 3 ≤ j → M j (star x) ≡ tip (L j x)) → ((x j : ℕ) → InCell beta L 2 d x → 3 ≤ j → M j (tip x) ≡ star (L j x))
      → ((x t : ℕ) → 1 ≤ t → (InCell beta L 2 d x → t ≢ 1) → ((y : ℕ) → InCell beta L 2 d y → x ≢ star y) → ((y : ℕ) → InCell beta L 2 d y → x ≢ tip y) → M t x ≡ L t x)
      → (N : Links) × ((t x : ℕ) → 1 ≤ t → N t x ≡ M t x) × IsBetaCentred d star tip L N
  centred_links fresh_star fresh_tip two into onward out sides sides_back along along_tip kept =
      let one : (x y : ℕ) → M 1 x ≢ 0 → M 1 x ≡ M 1 y → x ≡ y = hung_one L w (InCell beta L 2 d) (λ x. x) (led_to_face L w d) star tip fresh_star fresh_tip two (M 1) into onward out
      (λ x n s t. kept x 1 (omega arith) (λ h. absurd (n x h refl)) s t) in
      let r : (N : Links) × ((t x : ℕ) → 1 ≤ t → N t x ≡ M t x) × IsTurned N = turned_links M bound low one in (
        r.0,
        r.1,
        record {
          into = λ x h. r.1 1 x (omega arith) ∙ into x h;
          onward = λ x h. r.1 1 (star x) (omega arith) ∙ onward x h;
          out = λ x h. r.1 1 (tip x) (omega arith) ∙ out x h;
          sides = λ x h. r.1 2 (star x) (omega arith) ∙ sides x h;
          sides_back = λ x h. r.1 2 (tip x) (omega arith) ∙ sides_back x h;
          along = λ x j h l. r.1 j (star x) (omega arith) ∙ along x j h l;
          along_tip = λ x j h l. r.1 j (tip x) (omega arith) ∙ along_tip x j h l;
          kept = λ x t l n m o. r.1 t x l ∙ kept x t l n m o;
          turned = r.2;
        },
      )
