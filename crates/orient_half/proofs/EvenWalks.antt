-- Along links that flip signs, the signs at a walk's ends tell whether its number of links is even.
use Rattle.std.proofs.Common.{ℕ, suc, ◌≡◌, ◌+◌, ◌≤◌, ◌%◌, refl, sym, ap, ◌∙◌, Bool, true, false, not, Some, List, [], ◌∷◌, length, All, arith}
use Rattle.map_defs.specs.Links.{Links}
use Rattle.half_defs.specs.Orientation.{walked, IsOddWalk}
use Rattle.orient_half.specs.Marks.{Marks, mark_at, sign_at, IsReached, IsFlipped, Flips}
use Rattle.orient_half.specs.Told.{odd_links}
use Rattle.orient_half.proofs.MarkFacts.{Some-one, mark-of, sign-mark, reached-sign}
use Rattle.orient_half.proofs.WholeLinks.{All-tail}

pub odd_links-none : (b : Bool) → (0 + odd_links b) % 2 ≡ odd_links b
odd_links-none true = refl
odd_links-none false = refl

-- one link before the others
odd_links-step : (count : ℕ) (b c : Bool) → (count + odd_links (not b)) % 2 ≡ odd_links c → (suc count + odd_links b) % 2 ≡ odd_links c
odd_links-step count true c e = omega arith
odd_links-step count false c e = omega arith

-- one link behind the others
pub odd_links-more : (count : ℕ) (b c : Bool) → (count + odd_links b) % 2 ≡ odd_links c → (count + 1 + odd_links b) % 2 ≡ odd_links (not c)
odd_links-more count b true e = omega arith
odd_links-more count b false e = omega arith

-- a positive dart is reached
pub odd_links-all : (count : ℕ) (b : Bool) → (count + odd_links b) % 2 ≡ odd_links true → count % 2 ≡ odd_links b
odd_links-all count true e = omega arith
odd_links-all count false e = omega arith

-- there, across one link, and back
pub odd_links-both : (one other : ℕ) (b : Bool) → one % 2 ≡ odd_links b → other % 2 ≡ odd_links b → (one + 1 + other) % 2 ≡ 1
odd_links-both one other true e f = omega arith
odd_links-both one other false e f = omega arith

-- no odd number of links leads to the same sign
odd_links-same : (count : ℕ) (b : Bool) → (count + odd_links b) % 2 ≡ odd_links b → count % 2 ≡ 1 → ⊥
odd_links-same count true e odd = omega arith
odd_links-same count false e odd = omega arith

module _ (n : ℕ) (L : Links) (marks : Marks) (flipped : IsFlipped n L marks) where
  pub walk-signs : (d : ℕ) (links : List ℕ) (b : Bool) → sign_at marks d ≡ Some b → All (λ i. i ≤ n) links → (c : Bool) × (sign_at marks (walked L d links) ≡ Some c) × ((length links + odd_links b) % 2 ≡ odd_links c)
  walk-signs d [] b e all = (b, e, odd_links-none b)
  walk-signs d (i ∷ links) b e all =
      let t : (i ≤ n) × All (λ j. j ≤ n) links = All-tail (λ j. j ≤ n) i links all in
      let f : Flips L marks d i = flipped d i (reached-sign (mark_at marks d) b e) t.0 in
      let same : f.0 ≡ b = Some-one f.0 b (sym f.1 ∙ e) in
      let r : (c : Bool) × (sign_at marks (walked L (L i d) links) ≡ Some c) × ((length links + odd_links (not b)) % 2 ≡ odd_links c) =
      walk-signs (L i d) links (not b) (f.2 ∙ ap (λ x. Some (not x)) same) t.1 in
      (r.0, r.1, odd_links-step (length links) b r.0 r.2)

  pub no_odd_walk : (d : ℕ) (links : List ℕ) → IsReached marks d → IsOddWalk n L d links → ⊥
  no_odd_walk d links reached walk =
      let m = mark-of (mark_at marks d) reached in
      let e : sign_at marks d ≡ Some m.0.positive = sign-mark (mark_at marks d) m.0 m.1 in
      let r : (c : Bool) × (sign_at marks (walked L d links) ≡ Some c) × ((length links + odd_links m.0.positive) % 2 ≡ odd_links c) =
      walk-signs d links m.0.positive e walk.within in
      let same : r.0 ≡ m.0.positive = Some-one r.0 m.0.positive (sym r.1 ∙ (ap (sign_at marks) walk.closed ∙ e)) in
      odd_links-same (length links) m.0.positive (r.2 ∙ ap odd_links same) walk.odd
