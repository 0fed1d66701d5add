-- The links of the half, as they were set.
use Rattle.std.proofs.Common.{◌≡◌, ◌≢◌, ℕ, zero, suc, ◌+◌, ◌<◌, ◌≤◌, List, length, refl, sym, ap, ◌∙◌, inl, inr, arith}
use Rattle.std.specs.Prelude.{slice_index}
use Rattle.std.proofs.lemmas.Bool.{cases_lt}
use Rattle.std.proofs.lemmas.List.Elements.{Contains-get_or}
use Rattle.map_defs.specs.Kind.{alpha, beta, inverse}
use Rattle.map_defs.specs.Links.{Links, LeadsToLive}
use Rattle.map_defs.specs.LinkWords.{two_links, through}
use Rattle.map_defs.specs.Rows.{Rows, links_of, made_max, IsSound}
use Rattle.map_defs.specs.Laws.{Laws}
use Rattle.link_laws.proofs.Basics.{distant_alpha, inverse_within}
use Rattle.link_laws.proofs.RowFacts.{rows_dimension}
use Rattle.half_defs.specs.Halves.{origin, AreOrigins, IsHalf}
use Rattle.half_defs.specs.Orientation.{Sign, IsPositive, IsOriented}
use Rattle.orient_half.specs.Entries.{half_word, IsHalfEntry, AreSetUpTo}
use Rattle.orient_half.proofs.SetEntries.{free-outside, linked-within, sound-rows}
use Rattle.orient_half.proofs.RankFacts.{some-rank, origin-past, within-or-not, rank-of}
use Rattle.orient_half.proofs.SignFacts.{positive-across}

half_word-on : (i : ℕ) → 1 ≤ i → half_word i ≡ two_links 0 i
half_word-on zero h = absurd (omega arith)
half_word-on (suc i) h = refl

module _ (L : Links) (w : Laws alpha L) where
  -- the word of the inverse link leads back
  word-back : (i x : ℕ) → L (half_word i).first x ≢ 0 → through L (half_word i) x ≢ 0 → through L (half_word (inverse beta i)) (through L (half_word i) x) ≡ x
  word-back zero x near far = ap (L 1) (w.back 0 (L 1 x) far) ∙ w.back 1 x near
  word-back (suc zero) x near far = ap (L 0) (w.back 1 (L 0 x) far) ∙ w.back 0 x near
  word-back (suc (suc i)) x near far =
      let j : ℕ = suc (suc i) in
      ap (L j) (w.square 0 j (L 0 x) (distant_alpha 0 j (inl (omega arith))) ∙ ap (L j) (w.back 0 x near))
      ∙ w.back j x (λ free. far (sym (w.square 0 j x (distant_alpha 0 j (inl (omega arith)))) ∙ ap (L 0) free ∙ w.nil 0))

module _ (n : ℕ) (Live : ℕ → Type 0) (L : Links) (signs : List Sign) (darts : List ℕ) (rows : Rows)
    (w : Laws alpha L) (lands : LeadsToLive Live L) (low_dimension : 2 ≤ n) (oriented : IsOriented n Live L signs) (are : AreOrigins (IsPositive signs) darts)
    (set : AreSetUpTo n (length darts) (IsHalfEntry L darts) (length darts + 1) 0 rows) where
  positive : (r : ℕ) → 1 ≤ r → r ≤ length darts → IsPositive signs (origin darts r)
  positive zero some high = absurd (omega arith)
  positive (suc k) some high = (are.members (slice_index darts k)).0 (Contains-get_or darts k 0 (omega arith))

  -- along the word of a link a positive dart leads to a positive dart
  reached : (i r : ℕ) → i ≤ n → 1 ≤ r → r ≤ length darts
      → (L (half_word i).first (origin darts r) ≢ 0) × (through L (half_word i) (origin darts r) ≢ 0) × IsPositive signs (through L (half_word i) (origin darts r))
  reached zero r h some high = positive-across n Live L signs lands oriented 1 0 (origin darts r) (omega arith) (omega arith) (positive r some high)
  reached (suc i) r h some high = positive-across n Live L signs lands oriented 0 (suc i) (origin darts r) (omega arith) h (positive r some high)

  -- each link of a dart of the half leads to the rank of the dart that its word reaches
  leads : (i r : ℕ) → i ≤ n → 1 ≤ r → r ≤ length darts → (links_of rows i r ≤ length darts) × (origin darts (links_of rows i r) ≡ through L (half_word i) (origin darts r))
  leads i r h some high =
      let rank = set.before i r h some (omega arith) in
      let s = rank-of darts (through L (half_word i) (origin darts r)) ((are.members (through L (half_word i) (origin darts r))).1 (reached i r h some high).2) in
      let same : s.0 ≡ links_of rows i r = rank.found s.0 s.2 s.3 in
      (rank.within, sym (ap (origin darts) same) ∙ s.3)

  dimension : (i r : ℕ) → n < i → links_of rows i r ≡ 0
  dimension = rows_dimension n rows set.darts.wide

  outside : (i r : ℕ) → ((1 ≤ r) × (r ≤ length darts) → ⊥) → links_of rows i r ≡ 0
  outside = free-outside n (length darts) rows set.darts

  -- the inverse link leads back
  pub half-back : (i r : ℕ) → links_of rows i r ≢ 0 → links_of rows (inverse beta i) (links_of rows i r) ≡ r
  half-back i r linked = elim (cases_lt n i) [
    | inl high ↦ absurd (linked (dimension i r high))
    | inr within ↦
        let low = linked-within n (length darts) rows set.darts i r linked in
        let to = leads i r within low.0 low.1 in
        let far = reached i r within low.0 low.1 in
        let rank = set.before (inverse beta i) (links_of rows i r) (inverse_within beta n i low_dimension within) (some-rank (links_of rows i r) linked) (omega (arith, to.0)) in
        sym (rank.found r low.1 (sym (ap (through L (half_word (inverse beta i))) to.1 ∙ word-back L w i (origin darts r) far.0 far.1)))
  ]

  along : (i r : ℕ) → 1 ≤ i → i ≤ n → origin darts (links_of rows i r) ≡ L i (L 0 (origin darts r))
  along i r some within = elim (within-or-not (length darts) r) [
    | inl low ↦ (leads i r within low.0 low.1).1 ∙ ap (λ v. through L v (origin darts r)) (half_word-on i some)
    | inr out ↦
        ap (origin darts) (outside i r out)
        ∙ sym (ap (λ x. L i (L 0 x)) (origin-past darts r out) ∙ ap (L i) (w.nil 0) ∙ w.nil i)
  ]

  turn : (i x y : ℕ) → y ≢ 0 → links_of rows i x ≡ y → links_of rows (inverse beta i) y ≡ x
  turn i x y some is = ap (links_of rows (inverse beta i)) (sym is) ∙ half-back i x (λ free. some (sym is ∙ free))

  -- the rows are those of the half
  pub half-links : IsHalf n L darts (links_of rows)
  half-links = record {
    within = λ i r. elim (cases_lt n i) [
      | inl high ↦ let free = dimension i r high in omega arith
      | inr within ↦ elim (within-or-not (length darts) r) [
        | inl low ↦ (leads i r within low.0 low.1).0
        | inr out ↦ let free = outside i r out in omega arith
      ]
    ];
    along = along;
    turned = record { nothing = outside 0 0 (λ low. let some = low.0 in omega arith); back = λ x y one other. (turn 1 x y other, turn 0 y x one) };
    above = λ i r high. dimension i r high;
  }

  pub half-sound : length darts ≤ made_max → IsSound beta n rows
  half-sound few = sound-rows n (length darts) rows set.darts beta few half-back
