-- A combinatorial map as a vertex or an edge tells it but for its link 0 gets a link 0 that leads back.
use Rattle.std.proofs.Common.{ℕ, ◌≡◌, ◌≢◌, ◌≤◌, ◌∙◌, arith}
use Rattle.map_defs.specs.Kind.{beta}
use Rattle.map_defs.specs.Links.{Links, IsTurned}
use Rattle.map_defs.specs.Laws.{Laws}
use Rattle.map_defs.specs.Births.{IsFresh}
use Rattle.map_defs.specs.Insertion.{IsSplit, IsCut}
use Rattle.insert_laws.proofs.BetaEdge.{IsCorner}
use Rattle.insert_laws.proofs.OneToOne.{split_one, cut_one}
use Rattle.insert_laws.proofs.LinkZero.{turned_links}

pub split_links : (L : Links) → Laws beta L → (K : ℕ → Type 0) (star : ℕ → ℕ) → IsFresh L K star → (M : Links)
    → ((x : ℕ) → K x → M 1 x ≡ star x) → ((x : ℕ) → K x → M 1 (star x) ≡ L 1 x)
    → ((x j : ℕ) → K x → 2 ≤ j → M j x ≡ star (L j x)) → ((x j : ℕ) → K x → 2 ≤ j → M j (star x) ≡ L j x)
    → ((x t : ℕ) → 1 ≤ t → (K x → ⊥) → ((y : ℕ) → K y → x ≢ star y) → M t x ≡ L t x)
    → (bound : ℕ) → ((x : ℕ) → M 1 x ≢ 0 → x ≤ bound) → (N : Links) × ((t x : ℕ) → 1 ≤ t → N t x ≡ M t x) × IsSplit K star L N
split_links L w K star fresh M first second new old kept bound low =
    let one : (x y : ℕ) → M 1 x ≢ 0 → M 1 x ≡ M 1 y → x ≡ y = split_one L w K star fresh (M 1) first second (λ x n m. kept x 1 (omega arith) n m) in
    let r : (N : Links) × ((t x : ℕ) → 1 ≤ t → N t x ≡ M t x) × IsTurned N = turned_links M bound low one in (
      r.0,
      r.1,
      record {
        first = λ x h. r.1 1 x (omega arith) ∙ first x h;
        second = λ x h. r.1 1 (star x) (omega arith) ∙ second x h;
        new = λ x j h l. r.1 j x (omega arith) ∙ new x j h l;
        old = λ x j h l. r.1 j (star x) (omega arith) ∙ old x j h l;
        kept = λ x t l n m. r.1 t x l ∙ kept x t l n m;
        turned = r.2;
      },
    )

pub cut_links : (L : Links) → Laws beta L → (Turn : ℕ → ℕ → Type 0) → ((x y : ℕ) → Turn x y → Turn y x) → (star : ℕ → ℕ) → IsFresh L (IsCorner Turn) star → (M : Links)
    → ((x y : ℕ) → Turn x y → M 1 (L 0 x) ≡ star x) → ((x y : ℕ) → Turn x y → M 1 (star x) ≡ y) → ((x y : ℕ) → Turn x y → M 2 (star x) ≡ star y)
    → ((x y j : ℕ) → Turn x y → 3 ≤ j → M j (star x) ≡ star (L j (L 0 y)))
    → ((x t : ℕ) → 1 ≤ t → ((c y : ℕ) → Turn c y → t ≡ 1 → x ≢ L 0 c) → ((c y : ℕ) → Turn c y → x ≢ star c) → M t x ≡ L t x)
    → (bound : ℕ) → ((x : ℕ) → M 1 x ≢ 0 → x ≤ bound) → (N : Links) × ((t x : ℕ) → 1 ≤ t → N t x ≡ M t x) × IsCut Turn star L N
cut_links L w Turn both star fresh M into onward sides along kept bound low =
    let one : (x y : ℕ) → M 1 x ≢ 0 → M 1 x ≡ M 1 y → x ≡ y = cut_one L w Turn both star fresh (M 1) into onward (λ x n m. kept x 1 (omega arith) (λ c y p e. n c y p) m) in
    let r : (N : Links) × ((t x : ℕ) → 1 ≤ t → N t x ≡ M t x) × IsTurned N = turned_links M bound low one in (
      r.0,
      r.1,
      record {
        into = λ x y p. r.1 1 (L 0 x) (omega arith) ∙ into x y p;
        onward = λ x y p. r.1 1 (star x) (omega arith) ∙ onward x y p;
        sides = λ x y p. r.1 2 (star x) (omega arith) ∙ sides x y p;
        along = λ x y j p l. r.1 j (star x) (omega arith) ∙ along x y j p l;
        kept = λ x t l n m. r.1 t x l ∙ kept x t l n m;
        turned = r.2;
      },
    )
