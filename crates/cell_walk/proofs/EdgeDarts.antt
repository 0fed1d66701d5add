-- The edges of a surface: along which words they run, and which darts name them.
use Rattle.std.proofs.Common.{◌≡◌, ◌≢◌, ℕ, zero, suc, ◌+◌, ◌≤◌, ◌<◌, ◌⊎◌, ◌↔◌, List, [], ◌∷◌, ◌++◌, Contains, Bool, true, false, not, if◌then◌else◌, IsTrue, refl, sym, ap, ◌∙◌, subst, inl, inr, arith}
use Rattle.std.proofs.lemmas.Bool.{cases_eq, cases_lt, false≢true}
use Rattle.std.proofs.lemmas.List.Elements.{Contains-append_left, Contains-push, Contains-push_cases}
use Rattle.std.specs.List.Sorted.{IsStrictlyIncreasing}
use Rattle.map_defs.specs.Kind.{Kind, alpha, beta}
use Rattle.map_defs.specs.Links.{Links}
use Rattle.map_defs.specs.LinkWords.{LinkWord, one_link, through, inverse_word, IsCellWord, IsWithin}
use Rattle.map_defs.specs.Cells.{here, onward, NamesCell}
use Rattle.map_defs.specs.Rows.{Rows, links_of, IsSound}
use Rattle.cell_walk.specs.Ways.{IsEither}
use Rattle.cell_walk.proofs.CellDarts.{links-nothing}
use Rattle.cell_walk.proofs.CellRounds.{either-cell}
use Rattle.cell_walk.proofs.ShortRings.{ring-least}
use Rattle.cell_walk.proofs.SurveyFacts.{increasing-push}

-- the words of the edges of a generalized map
alpha-words : (w : LinkWord) → (IsCellWord alpha 1 w × IsWithin 2 w) ↔ IsEither (one_link 0) (one_link 2) w
alpha-words w = (λ own. to own.0 own.1.0, from)
  where
    link : (j : ℕ) → j ≢ 1 → j ≤ 2 → w ≡ one_link j → IsEither (one_link 0) (one_link 2) w
    link zero other low is = inl is
    link (suc zero) other low is = absurd (other refl)
    link (suc (suc zero)) other low is = inr is
    link (suc (suc (suc j))) other low is = absurd (omega (arith, low))

    to : IsCellWord alpha 1 w → w.first ≤ 2 → IsEither (one_link 0) (one_link 2) w
    to (inl runs) low = link runs.0 runs.1 (subst (λ (v : LinkWord). v.first ≤ 2) runs.2 low) runs.2
    to (inr turned) low =
        let is : w ≡ one_link turned.1.0 = turned.2 ∙ ap (inverse_word alpha) turned.1.2 in
        link turned.1.0 turned.1.1 (subst (λ (v : LinkWord). v.first ≤ 2) is low) is

    from : IsEither (one_link 0) (one_link 2) w → IsCellWord alpha 1 w × IsWithin 2 w
    from (inl is) = (inl (0, (λ none. absurd (omega (arith, none))), is), subst (IsWithin 2) (sym is) (omega arith, tt))
    from (inr is) = (inl (2, (λ none. absurd (omega (arith, none))), is), subst (IsWithin 2) (sym is) (omega arith, tt))

-- the words of the edges of a combinatorial map
beta-words : (w : LinkWord) → (IsCellWord beta 1 w × IsWithin 2 w) ↔ IsEither (one_link 2) (one_link 2) w
beta-words w = (λ own. to own.0 own.1.0, from)
  where
    link : (j : ℕ) → 2 ≤ j → j ≤ 2 → w ≡ one_link j → IsEither (one_link 2) (one_link 2) w
    link j high low is = let two : j ≡ 2 = omega arith in inl (is ∙ ap one_link two)

    turned : (j : ℕ) → 2 ≤ j → inverse_word beta (one_link j) ≡ one_link j
    turned zero high = absurd (omega (arith, high))
    turned (suc zero) high = absurd (omega (arith, high))
    turned (suc (suc j)) high = refl

    to : IsCellWord beta 1 w → w.first ≤ 2 → IsEither (one_link 2) (one_link 2) w
    to (inl runs) low = link runs.0 runs.1 (subst (λ (v : LinkWord). v.first ≤ 2) runs.2 low) runs.2
    to (inr back) low =
        let is : w ≡ one_link back.1.0 = back.2 ∙ ap (inverse_word beta) back.1.2 ∙ turned back.1.0 back.1.1 in
        link back.1.0 back.1.1 (subst (λ (v : LinkWord). v.first ≤ 2) is low) is

    from : IsEither (one_link 2) (one_link 2) w → IsCellWord beta 1 w × IsWithin 2 w
    from (inl is) = (inl (2, omega arith, is), subst (IsWithin 2) (sym is) (omega arith, tt))
    from (inr is) = (inl (2, omega arith, is), subst (IsWithin 2) (sym is) (omega arith, tt))

-- the number is a dart's, and less than d
abbrev pub IsBefore : ℕ → ℕ → Type 0
IsBefore number d = (number ≢ 0) × (number < d)

not-before : (number d : ℕ) → (IsBefore number d → ⊥) → number ≢ 0 → d ≤ number
not-before number d no_less dart = elim (cases_lt number d) [
  | inl less ↦ absurd (no_less (dart, less))
  | inr past ↦ past
]

pub zeroth-runs : (k : Kind) → k ≡ alpha → IsCellWord k 1 (one_link 0)
zeroth-runs alpha is = inl (0, (λ none. absurd (omega (arith, none))), refl)
zeroth-runs beta is = absurd (cc is)

pub second-runs : (k : Kind) → IsCellWord k 1 (one_link 2)
second-runs alpha = inl (2, (λ none. absurd (omega (arith, none))), refl)
second-runs beta = inl (2, omega arith, refl)

-- a dart does not name its edge, if a word of the edge leads to a lesser one
pub lesser-led : (k : Kind) (L : Links) (d : ℕ) (w : LinkWord) → IsCellWord k 1 w → IsBefore (through L w d) d → NamesCell k L 1 d → ⊥
lesser-led k L d w among before names =
    let low : d ≤ through L w d = names (through L w d) (onward here (w, among, refl, before.0)) in
    absurd (omega (arith, low, before.1))

-- nor if two words do, one after the other
pub lesser-across : (k : Kind) → k ≡ alpha → (n : ℕ) (rows : Rows) → IsSound k n rows → (d : ℕ) → IsBefore (links_of rows 2 (links_of rows 0 d)) d → NamesCell k (links_of rows) 1 d → ⊥
lesser-across k kind n rows sound d before names =
    let L = links_of rows in
    let end : L 0 d ≢ 0 = λ none. before.0 (ap (L 2) none ∙ links-nothing k n rows sound 2) in
    let low : d ≤ L 2 (L 0 d) =
    names (L 2 (L 0 d)) (onward (onward here (one_link 0, zeroth-runs k kind, refl, end)) (one_link 2, second-runs k, refl, before.0)) in
    absurd (omega (arith, low, before.1))

-- a dart of a generalized map names its edge, if links 0 and 2 lead on to one number both ways, and to no lesser dart
pub ring-names : (k : Kind) → k ≡ alpha → (rows : Rows) → IsSound k 2 rows → (d c : ℕ) → links_of rows 2 (links_of rows 0 d) ≡ c → links_of rows 0 (links_of rows 2 d) ≡ c
    → (IsBefore (links_of rows 0 d) d → ⊥) → (IsBefore (links_of rows 2 d) d → ⊥) → (IsBefore c d → ⊥) → NamesCell k (links_of rows) 1 d
ring-names alpha kind rows sound d c here_to there_to end side across = λ e among.
    let L = links_of rows in
    ring-least alpha L sound.back 0 2 refl refl d (L 0 d) (L 2 d) c refl refl here_to there_to
    (not-before (L 0 d) d end) (not-before (L 2 d) d side) (not-before c d across)
    e ((either-cell alpha 2 1 rows (one_link 0) (one_link 2) sound alpha-words d e).1 among)
ring-names beta kind rows sound d c here_to there_to end side across = absurd (cc kind)

-- a dart of a combinatorial map names its edge, if link 2 leads to no lesser dart
pub side-names : (k : Kind) → (k ≡ alpha → ⊥) → (rows : Rows) → IsSound k 2 rows → (d : ℕ) → (IsBefore (links_of rows 2 d) d → ⊥) → NamesCell k (links_of rows) 1 d
side-names alpha other rows sound d side = absurd (other refl)
side-names beta other rows sound d side = λ e among.
    ring-least beta L sound.back 2 2 refl refl d (L 2 d) (L 2 d) (L 2 (L 2 d)) refl refl refl refl
    (not-before (L 2 d) d side) (not-before (L 2 d) d side) back
    e ((either-cell beta 2 1 rows (one_link 2) (one_link 2) sound beta-words d e).1 among)
  where
    L : ℕ → ℕ → ℕ
    L = links_of rows

    back : L 2 (L 2 d) ≢ 0 → d ≤ L 2 (L 2 d)
    back real =
        let is : L 2 (L 2 d) ≡ d = sound.back 2 d (λ none. real (ap (L 2) none ∙ links-nothing beta 2 rows sound 2)) in
        omega (arith, is)

-- a test that says so where something holds that rules out what is asked, and only there
pub told-unless : (b : Bool) (Before Names : Type 0) → (IsTrue b ↔ Before) → (Before → Names → ⊥) → ((Before → ⊥) → Names) → IsTrue (not b) ↔ Names
told-unless true Before Names told apart otherwise = (λ no_less. absurd (false≢true no_less), λ names. absurd (apart (told.0 refl) names))
told-unless false Before Names told apart otherwise = (λ no_less. otherwise (λ before. false≢true (told.1 before)), λ names. refl)

-- Darts that have a property were listed, ascending, as far as the darts below a number.
pub record AreListed (Has : ℕ → Type 0) (next : ℕ) (darts : List ℕ) : Type 0 where
  pub members : (d : ℕ) → Contains darts d ↔ ((d < next) × Has d)
  pub ascending : IsStrictlyIncreasing darts

module _ (Has : ℕ → Type 0) where
  listed-past : (next : ℕ) (darts : List ℕ) → (Has next → ⊥) → AreListed Has next darts → AreListed Has (next + 1) darts
  listed-past next darts other are = record {
    members = λ d. (λ has. let own = (are.members d).0 has in (omega (arith, own.0), own.1), λ own. (are.members d).1 (below d own.0 own.1, own.1));
    ascending = are.ascending;
  }
    where
      below : (d : ℕ) → d < next + 1 → Has d → d < next
      below d low own = elim (cases_eq d next) [
        | inl is ↦ absurd (other (subst Has is own))
        | inr apart ↦ omega arith
      ]

  listed-more : (next : ℕ) (darts : List ℕ) → Has next → AreListed Has next darts → AreListed Has (next + 1) (darts ++ next ∷ [])
  listed-more next darts own are = record {
    members = λ d. (λ has. from d (Contains-push_cases darts next d has), λ is. into d (cases_lt d next) is.0 is.1);
    ascending = increasing-push darts next are.ascending (λ d has. ((are.members d).0 has).0);
  }
    where
      from : (d : ℕ) → Contains darts d ⊎ (next ≡ d) → (d < next + 1) × Has d
      from d (inl has) = let is = (are.members d).0 has in (omega (arith, is.0), is.1)
      from d (inr is) = (omega (arith, is), subst Has is own)

      into : (d : ℕ) → (d < next) ⊎ (next ≤ d) → d < next + 1 → Has d → Contains (darts ++ next ∷ []) d
      into d (inl less) low is = Contains-append_left darts (next ∷ []) d ((are.members d).1 (less, is))
      into d (inr past) low is = let same : next ≡ d = omega arith in subst (Contains (darts ++ next ∷ [])) same (Contains-push darts next)

  -- the number was put behind the list, if it has the property
  pub listed-next : (next : ℕ) (darts new : List ℕ) (wanted : Bool) → (IsTrue wanted ↔ Has next) → new ≡ (if wanted then darts ++ next ∷ [] else darts) → AreListed Has next darts → AreListed Has (next + 1) new
  listed-next next darts new true told is are = subst (AreListed Has (next + 1)) (sym is) (listed-more next darts (told.0 refl) are)
  listed-next next darts new false told is are = subst (AreListed Has (next + 1)) (sym is) (listed-past next darts (λ own. false≢true (told.1 own)) are)

  pub listed-all : (next : ℕ) (darts : List ℕ) → ((d : ℕ) → Has d → d < next) → AreListed Has next darts → (d : ℕ) → Contains darts d ↔ Has d
  listed-all next darts below are d = (λ has. ((are.members d).0 has).1, λ own. (are.members d).1 (below d own, own))
