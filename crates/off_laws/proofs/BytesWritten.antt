-- Texts of bytes that all pass a test, where no byte is one at which texts are cut.
use Rattle.std.proofs.Common.{◌≡◌, ℕ, ◌+◌, Bool, true, false, List, [], ◌∷◌, ◌++◌, length, refl, arith, take_all}
use Rattle.std.specs.List.{All, list_all, position_or_len, before_first, after_first}
use Rattle.std.proofs.lemmas.Bool.{and_parts, and_from}
use Rattle.std.proofs.lemmas.List.{drop_all}
use Rattle.std.proofs.lemmas.List.Elements.{All-nil, All-cons}

module _ (test cut : ℕ → Bool) (apart : (b : ℕ) → test b ≡ true → cut b ≡ false) where
  never-cut : (text : List ℕ) → list_all test text ≡ true → position_or_len cut text ≡ length text
  never-cut [] all = refl
  never-cut (b ∷ text) all =
      let p = and_parts (test b) (list_all test text) all in
      let no = apart b p.0 in
      rw no (omega (arith, never-cut text p.1))

  -- such a text stands before the first cut, and nothing behind it
  pub all-before : (text : List ℕ) → list_all test text ≡ true → before_first cut text ≡ text
  all-before text all = take_all (position_or_len cut text) text (omega (arith, never-cut text all))

  pub none-behind : (text : List ℕ) → list_all test text ≡ true → after_first cut text ≡ []
  none-behind text all = drop_all (position_or_len cut text + 1) text (omega (arith, never-cut text all))

  pub all-uncut : (text : List ℕ) → list_all test text ≡ true → All (λ b. cut b ≡ false) text
  all-uncut [] all = All-nil (λ b. cut b ≡ false)
  all-uncut (b ∷ text) all =
      let p = and_parts (test b) (list_all test text) all in
      All-cons (λ b. cut b ≡ false) b text (apart b p.0) (all-uncut text p.1)

-- what passes a test passes a weaker one
pub all-weaker : (test weaker : ℕ → Bool) → ((b : ℕ) → test b ≡ true → weaker b ≡ true) → (text : List ℕ) → list_all test text ≡ true → list_all weaker text ≡ true
all-weaker test weaker more [] all = refl
all-weaker test weaker more (b ∷ text) all =
    let p = and_parts (test b) (list_all test text) all in
    and_from (weaker b) (list_all weaker text) (more b p.0) (all-weaker test weaker more text p.1)

pub all-both : (test : ℕ → Bool) (xs ys : List ℕ) → list_all test xs ≡ true → list_all test ys ≡ true → list_all test (xs ++ ys) ≡ true
all-both test [] ys one two = two
all-both test (x ∷ xs) ys one two =
    let p = and_parts (test x) (list_all test xs) one in
    and_from (test x) (list_all test (xs ++ ys)) p.0 (all-both test xs ys p.1 two)
