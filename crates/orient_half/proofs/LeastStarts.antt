-- The first odd walk starts at the least dart of its component: from each other dart of the component a walk leads there,
-- along the odd walk, and back.
use Rattle.std.proofs.Common.{ℕ, ◌≡◌, ◌≤◌, ◌+◌, ◌%◌, ap, ◌∙◌, sym, List, ◌++◌, reverse, length, All, arith}
use Rattle.std.proofs.lemmas.List.{length-append, length-reverse}
use Rattle.std.proofs.lemmas.List.Elements.{All-append}
use Rattle.map_defs.specs.Links.{Links}
use Rattle.map_defs.specs.Cells.{NamesComponent}
use Rattle.half_defs.specs.Orientation.{walked, IsOddWalk, IsFirstOddWalk}
use Rattle.orient_half.proofs.WaysBack.{All-reverse}
use Rattle.orient_half.proofs.WholeLinks.{AreWhole, walked-append, walked-reverse, component-live, component-walk}

module _ (n : ℕ) (Live : ℕ → Type 0) (L : Links) (whole : AreWhole n Live L) where
  odd-from : (d e : ℕ) (links way : List ℕ) → Live d → IsOddWalk n L d links → All (λ i. i ≤ n) way → walked L d way ≡ e → IsOddWalk n L e ((reverse way ++ links) ++ way)
  odd-from d e links way live odd within to = record {
    within = All-append (λ i. i ≤ n) (reverse way ++ links) way (All-append (λ i. i ≤ n) (reverse way) links (All-reverse (λ i. i ≤ n) way within) odd.within) within;
    closed =
        walked-append L e (reverse way ++ links) way
        ∙ (ap (λ (x : ℕ). walked L x way) (walked-append L e (reverse way) links ∙ (ap (λ (x : ℕ). walked L x links) back ∙ odd.closed))
        ∙ to);
    odd = two (length way) (length links) (length ((reverse way ++ links) ++ way)) odd.odd
        (omega (arith, length-append (reverse way ++ links) way, length-append (reverse way) links, length-reverse way));
  }
    where
      back : walked L e (reverse way) ≡ d
      back = ap (λ (x : ℕ). walked L x (reverse way)) (sym to) ∙ walked-reverse n Live L whole d way live within

      two : (one other all : ℕ) → other % 2 ≡ 1 → all ≡ one + other + one → all % 2 ≡ 1
      two one other all odd sum = omega arith

  pub odd-names : (d : ℕ) (links : List ℕ) → IsFirstOddWalk n Live L d links → NamesComponent L d
  odd-names d links first e among =
      let w : (way : List ℕ) × All (λ i. i ≤ n) way × (walked L d way ≡ e) = component-walk n Live L whole d e among in
      first.least e ((reverse w.0 ++ links) ++ w.0) (component-live n Live L whole d e first.live among) (odd-from d e links w.0 first.live first.walk w.1 w.2)
