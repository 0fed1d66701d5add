-- What the laws of a map say of single links.
use Rattle.std.proofs.Common.{ℕ, ◌≡◌, ◌≢◌, ◌↔◌, sym, ap, ◌∙◌}
use Rattle.map_defs.specs.Kind.{Kind, inverse, IsDistant}
use Rattle.map_defs.specs.Links.{Links}
use Rattle.map_defs.specs.Laws.{Laws}
use Rattle.link_laws.proofs.Basics.{stable, inverse_twice, IsDistant-inverses}

-- what a linked dart is linked to is a dart, and so is it itself
pub dart_of_link : (k : Kind) (L : Links) → Laws k L → (i x : ℕ) → L i x ≢ 0 → x ≢ 0
dart_of_link k L w i x h e = h (ap (L i) e ∙ w.nil i)

-- link i of x is y exactly where the inverse link of y is x
pub back_to : (k : Kind) (L : Links) → Laws k L → (i x y : ℕ) → y ≢ 0 → L i x ≡ y → L (inverse k i) y ≡ x
back_to k L w i x y h e = ap (L (inverse k i)) (sym e) ∙ w.back i x (λ z. h (sym e ∙ z))

pub back_from : (k : Kind) (L : Links) → Laws k L → (i x y : ℕ) → x ≢ 0 → L (inverse k i) y ≡ x → L i x ≡ y
back_from k L w i x y h e = ap (λ j. L j x) (sym (inverse_twice k i)) ∙ back_to k L w (inverse k i) y x h e

-- two darts with the same dart at a link are one
pub link_one : (k : Kind) (L : Links) → Laws k L → (i x y : ℕ) → L i x ≢ 0 → L i x ≡ L i y → x ≡ y
link_one k L w i x y h e = sym (w.back i x h) ∙ (ap (L (inverse k i)) e ∙ w.back i y (λ z. h (e ∙ z)))

-- the two ends of a link are alike free at each distant link
pub alike : (k : Kind) (L : Links) → Laws k L → (i j x : ℕ) → IsDistant k i j → L i x ≢ 0 → (L j x ≡ 0) ↔ (L (inverse k j) (L i x) ≡ 0)
alike k L w i j x far h = (
  (λ e. sym (w.square i j x far) ∙ (ap (L (inverse k i)) e ∙ w.nil (inverse k i))),
  λ e. stable (L j x) 0 (λ n. h (
      ap (λ t. L t x) (sym (inverse_twice k i))
      ∙ (ap (L (inverse k (inverse k i))) (sym (w.back j x n))
      ∙ (w.square (inverse k i) (inverse k j) (L j x) (IsDistant-inverses k i j far)
      ∙ (ap (L (inverse k (inverse k j))) (w.square i j x far ∙ e)
      ∙ w.nil (inverse k (inverse k j))))))),
)
