-- The links of the dual, one by one; links that are these are the dual.
use Rattle.std.proofs.Common.{ℕ, ◌≡◌, ◌≢◌, ◌-◌, ◌<◌, ◌≤◌, refl, sym, ap, ◌∙◌, inl, inr, arith}
use Rattle.std.proofs.lemmas.Bool.{eq-eqb, ne_eqb}
use Rattle.map_defs.specs.Kind.{Kind, alpha, beta, inverse}
use Rattle.map_defs.specs.Links.{Links, IsTurned, HasDimension}
use Rattle.map_defs.specs.Laws.{Laws}
use Rattle.map_defs.specs.Dual.{IsDual}
use Rattle.link_laws.proofs.Basics.{same_or_not, inverse_own, inverse_twice}
use Rattle.link_laws.proofs.LawFacts.{back_to}
use Rattle.link_rows.specs.DualLinks.{dual_link}

-- where links are free, so are these
abbrev pub AreFreeAlike : Links → Links → Type 0
AreFreeAlike L N = (d : ℕ) → ((j : ℕ) → L j d ≡ 0) → (i : ℕ) → N i d ≡ 0

module _ (n : ℕ) (L : Links) where
  -- the links between 0 and n of a combinatorial map, and link n
  pub dual-between : (i d : ℕ) → 1 ≤ i → i < n → dual_link beta n L i d ≡ L (n - i) (L n d)
  dual-between i d low high = rw (ne_eqb i 0 (λ e. omega arith), ne_eqb i n (λ e. omega arith)) refl

  pub dual-top : (d : ℕ) → 2 ≤ n → dual_link beta n L n d ≡ L n d
  dual-top d dim = rw (ne_eqb n 0 (λ e. omega arith), eq-eqb n n refl) refl

  -- a dart without links has none in the dual
  pub dual-free : 2 ≤ n → (k : Kind) → Laws k L → AreFreeAlike L (dual_link k n L)
  dual-free dim alpha w d free i = free (n - i)
  dual-free dim beta w d free i = elim (same_or_not i 0) [
    | inl is ↦ rw is (ap (L n) (free (inverse beta (n - 1))) ∙ w.nil n)
    | inr other ↦ elim (same_or_not i n) [
      | inl top ↦ rw top (dual-top d dim ∙ free n)
      | inr below ↦ rw (ne_eqb i 0 other, ne_eqb i n below) (ap (L (n - i)) (free n) ∙ w.nil (n - i))
    ]
  ]

module _ (n : ℕ) (L : Links) (dim : 2 ≤ n) where
  module _ (w : Laws beta L) (N : Links) (is : (i d : ℕ) → i ≤ n → N i d ≡ dual_link beta n L i d) where
    first : (x : ℕ) → N 1 x ≡ L (n - 1) (L n x)
    first x = is 1 x (omega arith) ∙ dual-between n L 1 x (omega arith) (omega arith)

    forth : (x y : ℕ) → y ≢ 0 → N 1 x ≡ y → N 0 y ≡ x
    forth x y some e =
        let led : L (n - 1) (L n x) ≡ y = sym (first x) ∙ e in
        let near : L n x ≢ 0 = λ z. some (sym led ∙ ap (L (n - 1)) z ∙ w.nil (n - 1)) in
        is 0 y (omega arith) ∙ ap (L n) (back_to beta L w (n - 1) (L n x) y some led) ∙ ap (λ s. L s (L n x)) (sym (inverse_own beta n dim)) ∙ w.back n x near

    back : (x y : ℕ) → x ≢ 0 → N 0 y ≡ x → N 1 x ≡ y
    back x y some e =
        let led : L n (L (inverse beta (n - 1)) y) ≡ x = sym (is 0 y (omega arith)) ∙ e in
        let near : L (inverse beta (n - 1)) y ≢ 0 = λ z. some (sym led ∙ ap (L n) z ∙ w.nil n) in
        let from : L n x ≡ L (inverse beta (n - 1)) y = ap (λ s. L s x) (sym (inverse_own beta n dim)) ∙ back_to beta L w n (L (inverse beta (n - 1)) y) x some led in
        first x ∙ ap (L (n - 1)) from ∙ ap (λ s. L s (L (inverse beta (n - 1)) y)) (sym (inverse_twice beta (n - 1))) ∙ w.back (inverse beta (n - 1)) y near

    turned : IsTurned N
    turned = record {
      nothing = is 0 0 (omega arith) ∙ ap (L n) (w.nil (inverse beta (n - 1))) ∙ w.nil n;
      back = λ x y dart other. (forth x y other, back x y dart);
    }

  -- links that are those of the dual up to n, and free above, are the dual
  pub is-dual : (k : Kind) → Laws k L → (N : Links) → ((i d : ℕ) → i ≤ n → N i d ≡ dual_link k n L i d) → HasDimension n N → IsDual k n L N
  is-dual alpha w N is above = record { reversed = λ i d low. is i d low; above = above }
  is-dual beta w N is above = record {
    reversed = λ i d low high. is i d (omega arith) ∙ dual-between n L i d low high;
    kept = λ d. is n d (omega arith) ∙ dual-top n L d dim;
    turned = turned w N is;
    above = above;
  }
