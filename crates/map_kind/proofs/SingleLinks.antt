-- The words of one link each, collected link by link.
use Rattle.std.proofs.Common.{◌≡◌, ◌≢◌, ℕ, ◌+◌, ◌≤◌, ◌<◌, ◌↔◌, ◌⊎◌, List, [], ◌∷◌, ◌++◌, Contains, sym, ap, ◌∙◌, subst, inl, inr, arith}
use Rattle.std.proofs.lemmas.Bool.{cases_lt}
use Rattle.std.proofs.lemmas.List.Elements.{Contains-append_left, Contains-push, Contains-push_cases}
use Rattle.map_defs.specs.LinkWords.{LinkWord, one_link}

-- w is the word of a link from low up to dim, but for cell, that is below next
pub record IsSingle (low next dim cell : ℕ) (w : LinkWord) : Type 0 where
  pub link : ℕ
  pub above : low ≤ link
  pub before : link < next
  pub within : link ≤ dim
  pub other : link ≢ cell
  pub is : w ≡ one_link link

-- the words are those of the links below next
pub record AreSingles (low next dim cell : ℕ) (words : List LinkWord) : Type 0 where
  pub sound : (w : LinkWord) → Contains words w → IsSingle low next dim cell w
  pub whole : (w : LinkWord) → IsSingle low next dim cell w → Contains words w

pub singles-none : (low dim cell : ℕ) → AreSingles low low dim cell []
singles-none low dim cell = record { sound = λ w has. absurd (omega (arith, has.1)); whole = λ w s. absurd (omega (arith, s.above, s.before)) }

later : (low next dim cell : ℕ) (w : LinkWord) → IsSingle low next dim cell w → IsSingle low (next + 1) dim cell w
later low next dim cell w s =
    record { link = s.link; above = s.above; before = omega (arith, s.before); within = s.within; other = s.other; is = s.is }

earlier : (low next dim cell : ℕ) (w : LinkWord) (s : IsSingle low (next + 1) dim cell w) → s.link ≢ next → IsSingle low next dim cell w
earlier low next dim cell w s apart =
    record { link = s.link; above = s.above; before = omega (arith, s.before, apart); within = s.within; other = s.other; is = s.is }

pub singles-skip : (low next dim cell : ℕ) (words : List LinkWord) → next ≡ cell → AreSingles low next dim cell words → AreSingles low (next + 1) dim cell words
singles-skip low next dim cell words here singles = record {
  sound = λ w has. later low next dim cell w (singles.sound w has);
  whole = λ w s. singles.whole w (earlier low next dim cell w s (λ e. s.other (e ∙ here)));
}

pub singles-push : (low next dim cell : ℕ) (words : List LinkWord) → low ≤ next → next ≤ dim → next ≢ cell → AreSingles low next dim cell words → AreSingles low (next + 1) dim cell (words ++ one_link next ∷ [])
singles-push low next dim cell words above within other singles = record {
  sound = λ w has. sound w (Contains-push_cases words (one_link next) w has);
  whole = λ w s. whole w s (cases_lt s.link next);
}
  where
    sound : (w : LinkWord) → Contains words w ⊎ (one_link next ≡ w) → IsSingle low (next + 1) dim cell w
    sound w (inl has) = later low next dim cell w (singles.sound w has)
    sound w (inr is) = record { link = next; above = above; before = omega arith; within = within; other = other; is = sym is }

    whole : (w : LinkWord) (s : IsSingle low (next + 1) dim cell w) → (s.link < next) ⊎ (next ≤ s.link) → Contains (words ++ one_link next ∷ []) w
    whole w s (inl below) = Contains-append_left words (one_link next ∷ []) w (singles.whole w (earlier low next dim cell w s (λ e. absurd (omega (arith, below, e)))))
    whole w s (inr from) =
        let is : one_link next ≡ w = let link : next ≡ s.link = omega (arith, from, s.before) in ap one_link link ∙ sym s.is in
        subst (Contains (words ++ one_link next ∷ [])) is (Contains-push words (one_link next))

pub singles-all : (low next dim cell : ℕ) (words : List LinkWord) → dim < next → AreSingles low next dim cell words → (w : LinkWord) → Contains words w ↔ ((j : ℕ) × (low ≤ j) × (j ≤ dim) × (j ≢ cell) × (w ≡ one_link j))
singles-all low next dim cell words past singles w = (
  λ has. let s = singles.sound w has in (s.link, s.above, s.within, s.other, s.is),
  λ s. singles.whole w (record { link = s.0; above = s.1; before = omega (arith, s.2); within = s.2; other = s.3; is = s.4 }),
)
