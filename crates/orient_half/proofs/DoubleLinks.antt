-- The links of the double, as they were set.
use Rattle.std.proofs.Common.{◌≡◌, ◌≢◌, ℕ, zero, suc, ◌+◌, ◌<◌, ◌≤◌, List, length, refl, sym, ap, ◌∙◌, subst, inl, inr, arith}
use Rattle.std.specs.Prelude.{slice_index}
use Rattle.std.proofs.lemmas.Bool.{cases_lt}
use Rattle.std.proofs.lemmas.List.Elements.{Contains-get_or}
use Rattle.map_defs.specs.Kind.{alpha, beta, inverse}
use Rattle.map_defs.specs.Links.{Links}
use Rattle.map_defs.specs.Rows.{Rows, links_of, made_max, IsSound}
use Rattle.map_defs.specs.Laws.{Laws}
use Rattle.link_laws.proofs.LawFacts.{back_to, back_from}
use Rattle.link_laws.proofs.RowFacts.{rows_dimension}
use Rattle.half_defs.specs.Halves.{origin, AreOrigins, IsDouble, odd_dart, even_dart}
use Rattle.orient_half.specs.Ranks.{IsRank}
use Rattle.orient_half.specs.Entries.{IsAhead, IsBehind, IsDoubleEntry, AreSetUpTo}
use Rattle.orient_half.proofs.SetEntries.{free-outside, linked-within, sound-rows}
use Rattle.orient_half.proofs.RankFacts.{some-rank, origin-past, within-or-not}

-- a dart of the double is the even or the odd dart of a rank
data IsOfRank (m d : ℕ) : Type 0 where
  even : (r : ℕ) → 1 ≤ r → r ≤ m → d ≡ even_dart r → IsOfRank m d
  odd : (r : ℕ) → 1 ≤ r → r ≤ m → d ≡ odd_dart r → IsOfRank m d

pub odd-is : (r : ℕ) → 1 ≤ r → odd_dart r + 1 ≡ r + r
odd-is zero h = absurd (omega arith)
odd-is (suc r) h = omega arith

of-rank-more : (m d : ℕ) → IsOfRank m d → IsOfRank (suc m) d
of-rank-more m d (even r some high is) = even r some (omega arith) is
of-rank-more m d (odd r some high is) = odd r some (omega arith) is

of-rank : (m d : ℕ) → 1 ≤ d → d ≤ m + m → IsOfRank m d
of-rank zero d low high = absurd (omega arith)
of-rank (suc m) d low high = elim (cases_lt (m + m) d) [
  | inr less ↦ of-rank-more m d (of-rank m d low less)
  | inl more ↦ elim (cases_lt (suc (m + m)) d) [
    | inl last ↦ even (suc m) (omega arith) (omega arith) (omega arith)
    | inr first ↦ odd (suc m) (omega arith) (omega arith) (omega arith)
  ]
]

odd-one : (r q : ℕ) → 1 ≤ r → odd_dart r ≡ odd_dart q → r ≡ q
odd-one zero q some same = absurd (omega arith)
odd-one (suc r) zero some same = absurd (omega arith)
odd-one (suc r) (suc q) some same = omega arith

-- what is set at the darts of a rank
pub odd-entry : (L : Links) (darts : List ℕ) (i r s : ℕ) → 1 ≤ r → IsBehind L darts i r s → IsDoubleEntry L darts i (odd_dart r) (even_dart s)
odd-entry L darts i r s some behind = record {
  even = λ q same. absurd (let next = odd-is r some in omega (arith, same, next));
  odd = λ q same. (s, refl, subst (λ (x : ℕ). IsBehind L darts i x s) (odd-one r q some same) behind);
}

pub even-entry : (L : Links) (darts : List ℕ) (i r s : ℕ) → 1 ≤ r → IsAhead L darts i r s → IsDoubleEntry L darts i (even_dart r) (odd_dart s)
even-entry L darts i r s some ahead = record {
  even = λ q same. (let one : r ≡ q = omega (arith, same) in (s, refl, subst (λ (x : ℕ). IsAhead L darts i x s) one ahead));
  odd = λ q same. absurd (no-odd r q some same);
}
  where
    no-odd : (r q : ℕ) → 1 ≤ r → even_dart r ≡ odd_dart q → ⊥
    no-odd r zero some same = omega arith
    no-odd r (suc q) some same = omega arith

pub odd-next : (r : ℕ) → odd_dart (r + 1) ≡ r + r + 1
odd-next r = let e : r + 1 ≡ suc r = omega arith in rw e (omega arith)

ahead-rank : (L : Links) (darts : List ℕ) (i r s : ℕ) → 1 ≤ i → IsAhead L darts i r s → IsRank darts (L i (origin darts r)) s
ahead-rank L darts zero r s some ahead = absurd (omega arith)
ahead-rank L darts (suc i) r s some ahead = ahead

behind-rank : (L : Links) (darts : List ℕ) (i r s : ℕ) → 1 ≤ i → IsBehind L darts i r s → IsRank darts (L (inverse beta i) (origin darts r)) s
behind-rank L darts zero r s some behind = absurd (omega arith)
behind-rank L darts (suc i) r s some behind = behind

module _ (n : ℕ) (Live : ℕ → Type 0) (L : Links) (darts : List ℕ) (rows : Rows)
    (w : Laws beta L) (some_live : (d : ℕ) → Live d → d ≢ 0) (are : AreOrigins Live darts)
    (set : AreSetUpTo n (length darts + length darts) (IsDoubleEntry L darts) (length darts + length darts + 1) 0 rows) where
  -- a rank has a dart
  origin-some : (r : ℕ) → 1 ≤ r → r ≤ length darts → origin darts r ≢ 0
  origin-some zero some high = absurd (omega arith)
  origin-some (suc k) some high = some_live (slice_index darts k) ((are.members (slice_index darts k)).0 (Contains-get_or darts k 0 (omega arith)))

  no-rank : (r : ℕ) → r ≤ length darts → origin darts r ≡ 0 → 0 ≡ r
  no-rank zero high none = refl
  no-rank (suc k) high none = absurd (origin-some (suc k) (omega arith) high none)

  outside : (i d : ℕ) → ((1 ≤ d) × (d ≤ length darts + length darts) → ⊥) → links_of rows i d ≡ 0
  outside = free-outside n (length darts + length darts) rows set.darts

  entry : (i d : ℕ) → i ≤ n → 1 ≤ d → d ≤ length darts + length darts → IsDoubleEntry L darts i d (links_of rows i d)
  entry i d h low high = set.before i d h low (omega arith)

  -- what stands at the links of a rank's two darts
  at-even : (i r : ℕ) → i ≤ n → 1 ≤ r → r ≤ length darts → (s : ℕ) × (links_of rows i (even_dart r) ≡ odd_dart s) × IsAhead L darts i r s
  at-even i r h low high = (entry i (even_dart r) h (omega arith) (omega arith)).even r refl

  at-odd : (i r : ℕ) → i ≤ n → 1 ≤ r → r ≤ length darts → (s : ℕ) × (links_of rows i (odd_dart r) ≡ even_dart s) × IsBehind L darts i r s
  at-odd i r h low high = let next = odd-is r low in (entry i (odd_dart r) h (omega (arith, next, low)) (omega (arith, next, high))).odd r refl

  outside-even : (i r : ℕ) → ((1 ≤ r) × (r ≤ length darts) → ⊥) → links_of rows i (even_dart r) ≡ 0
  outside-even i r out = outside i (even_dart r) (λ low. let some = low.0 in let most = low.1 in out (omega (arith, some), omega (arith, most)))

  outside-odd : (i r : ℕ) → ((1 ≤ r) × (r ≤ length darts) → ⊥) → links_of rows i (odd_dart r) ≡ 0
  outside-odd i zero out = outside i 0 (λ low. let some = low.0 in omega arith)
  outside-odd i (suc r) out = outside i (odd_dart (suc r)) (λ low. let most = low.1 in out (omega arith, omega (arith, most)))

  pairs : (r : ℕ) → r ≤ length darts → links_of rows 0 (odd_dart r) ≡ even_dart r
  pairs zero high = outside 0 0 (λ low. let some = low.0 in omega arith)
  pairs (suc r) high = let at = at-odd 0 (suc r) (omega arith) (omega arith) high in at.1 ∙ ap even_dart at.2

  pairs-back : (r : ℕ) → r ≤ length darts → links_of rows 0 (even_dart r) ≡ odd_dart r
  pairs-back zero high = outside 0 0 (λ low. let some = low.0 in omega arith)
  pairs-back (suc r) high = let at = at-even 0 (suc r) (omega arith) (omega arith) high in at.1 ∙ ap odd_dart at.2

  leads : (i r s : ℕ) → 1 ≤ i → i ≤ n → s ≤ length darts → L i (origin darts r) ≡ origin darts s → links_of rows i (even_dart r) ≡ odd_dart s
  leads i r s some within high to = elim (within-or-not (length darts) r) [
    | inl low ↦
        let at = at-even i r within low.0 low.1 in
        at.1 ∙ ap odd_dart (sym ((ahead-rank L darts i r at.0 some at.2).found s high (sym to)))
    | inr out ↦ outside-even i r out ∙ ap odd_dart (no-rank s high (sym to ∙ ap (L i) (origin-past darts r out) ∙ w.nil i))
  ]

  leads-back : (i r s : ℕ) → 1 ≤ i → i ≤ n → r ≤ length darts → L (inverse beta i) (origin darts s) ≡ origin darts r → links_of rows i (odd_dart s) ≡ even_dart r
  leads-back i r s some within high to = elim (within-or-not (length darts) s) [
    | inl low ↦
        let at = at-odd i s within low.0 low.1 in
        at.1 ∙ ap even_dart (sym ((behind-rank L darts i s at.0 some at.2).found r high (sym to)))
    | inr out ↦ outside-odd i s out ∙ ap even_dart (no-rank r high (sym to ∙ ap (L (inverse beta i)) (origin-past darts s out) ∙ w.nil (inverse beta i)))
  ]

  back-even : (i r : ℕ) → i ≤ n → 1 ≤ r → r ≤ length darts → links_of rows i (even_dart r) ≢ 0 → links_of rows i (links_of rows i (even_dart r)) ≡ even_dart r
  back-even zero r within low high linked = ap (links_of rows 0) (pairs-back r high) ∙ pairs r high
  back-even (suc i) r within low high linked =
      let at = at-even (suc i) r within low high in
      let some : at.0 ≢ 0 = λ none. linked (at.1 ∙ ap odd_dart none) in
      let to : origin darts at.0 ≡ L (suc i) (origin darts r) = at.2.has some in
      let from = back_to beta L w (suc i) (origin darts r) (origin darts at.0) (origin-some at.0 (some-rank at.0 some) at.2.within) (sym to) in
      ap (links_of rows (suc i)) at.1 ∙ leads-back (suc i) r at.0 (omega arith) within high from

  back-odd : (i r : ℕ) → i ≤ n → 1 ≤ r → r ≤ length darts → links_of rows i (odd_dart r) ≢ 0 → links_of rows i (links_of rows i (odd_dart r)) ≡ odd_dart r
  back-odd zero r within low high linked = ap (links_of rows 0) (pairs r high) ∙ pairs-back r high
  back-odd (suc i) r within low high linked =
      let at = at-odd (suc i) r within low high in
      let some : at.0 ≢ 0 = λ none. linked (at.1 ∙ ap even_dart none) in
      let to : origin darts at.0 ≡ L (inverse beta (suc i)) (origin darts r) = at.2.has some in
      let from = back_from beta L w (suc i) (origin darts at.0) (origin darts r) (origin-some at.0 (some-rank at.0 some) at.2.within) (sym to) in
      ap (links_of rows (suc i)) at.1 ∙ leads (suc i) at.0 r (omega arith) within high from

  dimension : (i d : ℕ) → n < i → links_of rows i d ≡ 0
  dimension = rows_dimension n rows set.darts.wide

  -- each link leads back
  pub double-back : (i d : ℕ) → links_of rows i d ≢ 0 → links_of rows i (links_of rows i d) ≡ d
  double-back i d linked = elim (cases_lt n i) [
    | inl high ↦ absurd (linked (dimension i d high))
    | inr within ↦ at within (let low = linked-within n (length darts + length darts) rows set.darts i d linked in of-rank (length darts) d low.0 low.1)
  ]
    where
      at : i ≤ n → IsOfRank (length darts) d → links_of rows i (links_of rows i d) ≡ d
      at within (even r low high is) =
          ap (λ x. links_of rows i (links_of rows i x)) is ∙ back-even i r within low high (λ free. linked (ap (links_of rows i) is ∙ free)) ∙ sym is
      at within (odd r low high is) =
          ap (λ x. links_of rows i (links_of rows i x)) is ∙ back-odd i r within low high (λ free. linked (ap (links_of rows i) is ∙ free)) ∙ sym is

  -- the rows are those of the double
  pub double-links : IsDouble n L darts (links_of rows)
  double-links = record {
    made = λ i d linked. (linked-within n (length darts + length darts) rows set.darts i d linked).1;
    pairs = pairs;
    pairs_back = pairs-back;
    leads = leads;
    leads_back = leads-back;
    above = λ i d high. dimension i d high;
  }

  pub double-sound : length darts + length darts ≤ made_max → IsSound alpha n rows
  double-sound few = sound-rows n (length darts + length darts) rows set.darts alpha few double-back
