-- One way round a 2-cell: it leads from each of its darts to the next, in a circle, and meets none twice.
use Rattle.std.proofs.Common.{◌≡◌, ◌≢◌, ◌⊎◌, inl, inr, ℕ, zero, suc, ◌+◌, ◌<◌, List, [], ◌∷◌, length, slice_index, slice_index_or, All, refl, sym, ap, ◌∙◌, subst, arith}
use Rattle.std.proofs.lemmas.Bool.{cases_lt, cases_eq}
use Rattle.std.proofs.lemmas.Bool.Decides.{nat_tests}
use Rattle.std.proofs.lemmas.List.{get_or_past, get_or_default}
use Rattle.std.proofs.lemmas.List.Elements.{All-cons, All-nil}
use Rattle.map_defs.specs.Kind.{Kind, alpha, beta}
use Rattle.map_defs.specs.Links.{Links}
use Rattle.map_defs.specs.Laws.{Laws}
use Rattle.map_defs.specs.Polygon.{next_side, previous_side}
use Rattle.map_defs.specs.OffOfMap.{next_round, Passes, there, past, IsRound}
use Rattle.link_laws.proofs.LawFacts.{link_one}

pub next-within : (n s : ℕ) → s < n → next_side n s < n
next-within n s h = grind (arith, nat_tests)

pub previous-within : (n s : ℕ) → s < n → previous_side n s < n
previous-within n s h = grind (arith, nat_tests)

pub next-previous : (n s : ℕ) → s < n → next_side n (previous_side n s) ≡ s
next-previous n s h = grind (arith, nat_tests)

next-inner : (n s : ℕ) → s + 1 < n → next_side n s ≡ s + 1
next-inner n s h = grind (arith, nat_tests)

next-last : (n s : ℕ) → s + 1 ≡ n → next_side n s ≡ 0
next-last n s h = grind (arith, nat_tests)

-- A walk that comes to d from a dart that leads to it.
module _ (Next : ℕ → ℕ) (d : ℕ) where
  -- it leads from each of its darts to the next, and from the last to d
  passes-on : (y x : ℕ) (others : List ℕ) → Next y ≡ x → Passes Next d x others → (j : ℕ) → j < suc (length others)
      → Next (slice_index (y ∷ others) j) ≡ slice_index_or others j d
  passes-on y x others leads there j low = let none : j ≡ 0 = omega arith in subst (λ (i : ℕ). Next (slice_index (y ∷ []) i) ≡ slice_index_or [] i d) (sym none) leads
  passes-on y x others leads (past {x = u} {darts = us} apart p) zero low = leads
  passes-on y x others leads (past {x = u} {darts = us} apart p) (suc j) low = passes-on u (Next u) us refl p j (omega arith)

  -- none of its darts is d
  passes-apart : (x : ℕ) (others : List ℕ) → Passes Next d x others → (j : ℕ) → j < length others → slice_index others j ≢ d
  passes-apart x others there j low = absurd (omega arith)
  passes-apart x others (past apart p) zero low = apart
  passes-apart x others (past {x = u} {darts = us} apart p) (suc j) low = passes-apart (Next u) us p j (omega arith)

  -- a walk that is at 0 comes to no dart
  passes-nothing : (x : ℕ) (others : List ℕ) → Next 0 ≡ 0 → d ≢ 0 → x ≡ 0 → Passes Next d x others → ⊥
  passes-nothing x others stays dart none there = dart none
  passes-nothing x others stays dart none (past {darts = us} apart p) = passes-nothing (Next x) us stays dart (ap Next none ∙ stays) p

  -- what is so of the first, and of each that the walk leads to from one, is so of all
  passes-all : (P : ℕ → Type 0) → Next 0 ≡ 0 → d ≢ 0 → ((x : ℕ) → P x → Next x ≢ 0 → P (Next x)) → (x : ℕ) (others : List ℕ) → (x ≢ 0 → P x) → Passes Next d x others → All P others
  passes-all P stays dart lands x others own there = All-nil P
  passes-all P stays dart lands x others own (past {darts = us} apart p) =
      let this : P x = own (λ none. passes-nothing (Next x) us stays dart (ap Next none ∙ stays) p) in
      All-cons P x us this (passes-all P stays dart lands (Next x) us (lands x this) p)

pub next-nothing : (k : Kind) (L : Links) → Laws k L → next_round k L 0 ≡ 0
next-nothing alpha L w = ap (L 1) (w.nil 0) ∙ w.nil 1
next-nothing beta L w = w.nil 1

-- two darts that lead to one dart are one
pub next-one : (k : Kind) (L : Links) → Laws k L → (x y : ℕ) → next_round k L x ≢ 0 → next_round k L x ≡ next_round k L y → x ≡ y
next-one alpha L w x y some same =
    link_one alpha L w 0 x y (λ none. some (ap (L 1) none ∙ w.nil 1)) (link_one alpha L w 1 (L 0 x) (L 0 y) some same)
next-one beta L w x y some same = link_one beta L w 1 x y some same

-- The way round from the dart d.
module _ (k : Kind) (L : Links) (w : Laws k L) (d : ℕ) (dart : d ≢ 0) (darts : List ℕ) (round : IsRound k L d darts) where
  abbrev Next : ℕ → ℕ
  Next = next_round k L

  abbrev At : ℕ → ℕ
  At j = slice_index darts j

  long : length darts ≡ suc (length round.0)
  long = ap (λ (ds : List ℕ). length ds) round.2

  at : (j : ℕ) → At j ≡ slice_index (d ∷ round.0) j
  at j = ap (λ (ds : List ℕ). slice_index ds j) round.2

  pub round-first : At 0 ≡ d
  round-first = at 0

  pub round-long : 0 < length darts
  round-long = omega (arith, long)

  -- it leads from each dart to the next, and from the last to the first
  pub round-next : (j : ℕ) → j < length darts → Next (At j) ≡ At (next_side (length darts) j)
  round-next j low =
      let leads : Next (At j) ≡ slice_index_or round.0 j d = ap Next (at j) ∙ passes-on Next d d (Next d) round.0 refl round.1 j (omega (arith, long)) in
      leads ∙ go (cases_eq (j + 1) (length darts))
    where
      go : (j + 1 ≡ length darts) ⊎ (j + 1 ≢ length darts) → slice_index_or round.0 j d ≡ At (next_side (length darts) j)
      go (inl last) = get_or_past round.0 j d (omega (arith, long)) ∙ (sym round-first ∙ ap At (sym (next-last (length darts) j last)))
      go (inr inner) =
          let more : j + 1 ≡ suc j = omega arith in
          get_or_default round.0 j d 0 (omega (arith, long)) ∙ (sym (at (suc j)) ∙ ap At (sym (next-inner (length darts) j (omega arith) ∙ more)))

  pub round-suc : (j : ℕ) → suc j < length darts → Next (At j) ≡ At (suc j)
  round-suc j low =
      let more : j + 1 ≡ suc j = omega arith in
      round-next j (omega arith) ∙ ap At (next-inner (length darts) j (omega arith) ∙ more)

  -- and to each dart from the one before
  pub round-back : (j : ℕ) → j < length darts → Next (At (previous_side (length darts) j)) ≡ At j
  round-back j low =
      round-next (previous_side (length darts) j) (previous-within (length darts) j low) ∙ ap At (next-previous (length darts) j low)

  -- what is so of d, and of each dart that the walk leads to from one, is so of the way's darts
  pub round-all : (P : ℕ → Type 0) → P d → ((x : ℕ) → P x → Next x ≢ 0 → P (Next x)) → (j : ℕ) → j < length darts → P (At j)
  round-all P own lands j low =
      subst P (sym (at j))
      (All-cons P d round.0 own (passes-all Next d P (next-nothing k L w) dart lands (Next d) round.0 (lands d own) round.1) j 0 (omega (arith, long)))

  pub round-dart : (j : ℕ) → j < length darts → At j ≢ 0
  round-dart j low = round-all (λ x. x ≢ 0) dart (λ x some leads. leads) j low

  back-apart : (j : ℕ) → suc j < length darts → At (suc j) ≢ d
  back-apart j low same = passes-apart Next d (Next d) round.0 round.1 j (omega (arith, long)) (sym (at (suc j)) ∙ same)

  -- no dart stands in it twice
  earlier-apart : (i j : ℕ) → i < j → j < length darts → At i ≢ At j
  earlier-apart i zero less low same = omega arith
  earlier-apart zero (suc j) less low same = back-apart j low (sym same ∙ round-first)
  earlier-apart (suc i) (suc j) less low same =
      earlier-apart i j (omega arith) (omega arith)
      (next-one k L w (At i) (At j) (λ none. round-dart (suc i) (omega arith) (sym (round-suc i (omega arith)) ∙ none))
      (round-suc i (omega arith) ∙ (same ∙ sym (round-suc j low))))

  pub round-apart : (i j : ℕ) → i < length darts → j < length darts → At i ≡ At j → i ≡ j
  round-apart i j low below same = elim (cases_lt i j) [
    | inl less ↦ absurd (earlier-apart i j less below same)
    | inr more ↦ elim (cases_lt j i) [ inl less ↦ absurd (earlier-apart j i less low (sym same)) | inr equal ↦ omega arith ]
  ]
