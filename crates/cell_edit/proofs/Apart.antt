-- Darts looked at one after another, each of which stands once.
use Rattle.std.proofs.Common.{ℕ, ◌≡◌, ◌≢◌, ◌+◌, ◌<◌, ◌≤◌, ◌⊎◌, ◌↔◌, List, [], ◌∷◌, ◌++◌, length, take, get_or, Contains, sym, ap, ◌∙◌, subst, inl, inr, arith}
use Rattle.std.specs.List.{AllPairs}
use Rattle.std.proofs.lemmas.List.{take_all, take_more, get_or-take, length-take}
use Rattle.std.proofs.lemmas.List.Elements.{Contains-append_left, Contains-push, Contains-push_cases, Contains-get_or}
use Rattle.std.proofs.lemmas.List.Quantifiers.{all_pairs_push}

-- The first k darts were seen, each once.
abbrev pub AreSeen : List ℕ → ℕ → List ℕ → Type 0
AreSeen darts k seen = ((e : ℕ) → Contains seen e ↔ Contains (take k darts) e) × AllPairs (λ x y. x ≢ y) (take k darts)

pub seen-more : (darts : List ℕ) (k d : ℕ) (seen new : List ℕ) → k < length darts → d ≡ get_or darts k d → (Contains seen d → ⊥) → ((e : ℕ) → Contains new e ↔ (Contains seen e ⊎ (d ≡ e)))
    → AreSeen darts k seen → AreSeen darts (k + 1) new
seen-more darts k d seen new low at fresh grown (same, apart) = (
  (λ e. (λ has. to e ((grown e).0 has), λ has. (grown e).1 (from e (Contains-push_cases (take k darts) d e (subst (λ xs. Contains xs e) more has))))),
  subst (AllPairs (λ x y. x ≢ y)) (sym more) (all_pairs_push (λ x y. x ≢ y) (take k darts) d apart
      (λ p z h is. fresh (subst (Contains seen) is ((same (get_or (take k darts) p z)).1 (Contains-get_or (take k darts) p z h))))),
)
  where
    more : take (k + 1) darts ≡ take k darts ++ d ∷ []
    more = take_more darts k d low ∙ ap (λ e. take k darts ++ e ∷ []) (sym at)

    to : (e : ℕ) → Contains seen e ⊎ (d ≡ e) → Contains (take (k + 1) darts) e
    to e (inl has) = subst (λ xs. Contains xs e) (sym more) (Contains-append_left (take k darts) (d ∷ []) e ((same e).0 has))
    to e (inr is) = subst (λ xs. Contains xs e) (sym more) (subst (Contains (take k darts ++ d ∷ [])) is (Contains-push (take k darts) d))

    from : (e : ℕ) → Contains (take k darts) e ⊎ (d ≡ e) → Contains seen e ⊎ (d ≡ e)
    from e (inl has) = inl ((same e).1 has)
    from e (inr is) = inr is

-- a dart that was seen stands twice
pub seen-twice : (darts : List ℕ) (k d : ℕ) (seen : List ℕ) → k < length darts → d ≡ get_or darts k d → Contains seen d → AreSeen darts k seen → AllPairs (λ x y. x ≢ y) darts → ⊥
seen-twice darts k d seen low at has (same, apart) all =
    let there = (same d).0 has in
    let p_low : there.0 < k = omega (arith, there.1, length-take k darts) in
    let first : get_or darts there.0 d ≡ d = sym (get_or-take k darts there.0 d p_low) ∙ there.2 in
    all there.0 k d p_low low (first ∙ at)

pub seen-all : (darts : List ℕ) (k : ℕ) (seen : List ℕ) → length darts ≤ k → AreSeen darts k seen → AllPairs (λ x y. x ≢ y) darts
seen-all darts k seen past (same, apart) = subst (AllPairs (λ x y. x ≢ y)) (take_all k darts past) apart
