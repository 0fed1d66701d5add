-- Words: one link, or two links one after the other. Source: CGAL's orbits.
use Rattle.std.specs.Prelude.{ℕ, zero, suc, ◌≡◌, ◌≢◌, ◌<◌, ◌≤◌, ◌⊎◌, Option, Some, None, IfSome}
use Rattle.map_defs.specs.Kind.{Kind, alpha, beta, inverse}
use Rattle.map_defs.specs.Links.{Links}

-- the first link, and then the second, if there is one
pub record LinkWord : Type 0 where
  pub first : ℕ
  pub second : Option ℕ

abbrev pub one_link : ℕ → LinkWord
one_link i = record { first = i; second = None }

abbrev pub two_links : ℕ → ℕ → LinkWord
two_links i j = record { first = i; second = Some j }

-- where a step leads on, if there is one
abbrev pub through_second : Links → Option ℕ → ℕ → ℕ
through_second L None d = d
through_second L (Some j) d = L j d

-- the dart to which a word leads, or 0 if a link on its way is free
abbrev pub through : Links → LinkWord → ℕ → ℕ
through L w d = through_second L w.second (L w.first d)

-- the word that leads back: the inverse of "i, then j" is "the inverse of j, then the inverse of i"
abbrev pub inverse_of : Kind → ℕ → Option ℕ → LinkWord
inverse_of k i None = one_link (inverse k i)
inverse_of k i (Some j) = two_links (inverse k j) (inverse k i)

abbrev pub inverse_word : Kind → LinkWord → LinkWord
inverse_word k w = inverse_of k w.first w.second

-- The words along which an i-cell runs, as the manual tells them. A word with a link above the dimension leads nowhere.
abbrev pub RunsAlong : Kind → ℕ → LinkWord → Type 0
RunsAlong alpha i w = (j : ℕ) × (j ≢ i) × (w ≡ one_link j)
RunsAlong beta zero w = (i : ℕ) × (j : ℕ) × (1 ≤ i) × (i < j) × (w ≡ two_links j i)
RunsAlong beta (suc zero) w = (j : ℕ) × (2 ≤ j) × (w ≡ one_link j)
RunsAlong beta (suc (suc i)) w = (j : ℕ) × (1 ≤ j) × (j ≢ suc (suc i)) × (w ≡ one_link j)

-- the words of the i-cell: those, and their inverses
abbrev pub IsCellWord : Kind → ℕ → LinkWord → Type 0
IsCellWord k i w = RunsAlong k i w ⊎ ((v : LinkWord) × RunsAlong k i v × (w ≡ inverse_word k v))

-- the links of the word are among the links 0 to n
abbrev pub IsWithin : ℕ → LinkWord → Type 0
IsWithin n w = (w.first ≤ n) × IfSome w.second (λ second. second ≤ n)
