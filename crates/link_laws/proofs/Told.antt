-- The two forms of the laws of a map say the same.
use Rattle.std.proofs.Common.{ℕ, zero, suc, ◌≡◌, ◌≢◌, ◌+◌, ◌<◌, ◌≤◌, ◌⊎◌, ◌↔◌, refl, sym, ap, ⊎_elim, ◌∙◌, arith}
use Rattle.map_defs.specs.Kind.{Kind, alpha, beta, inverse, IsDistant}
use Rattle.map_defs.specs.Links.{Links}
use Rattle.map_defs.specs.Laws.{IsLawful, Laws}
use Rattle.link_laws.proofs.Basics.{stable, same_or_not, inverse_twice, IsDistant-turned, IsDistant-inverse_left, IsDistant-apart}
use Rattle.link_laws.proofs.LawFacts.{back_to, back_from, alike}

-- of two distant links the higher is its own inverse, and the inverse of the lower is lower too
higher_own : (k : Kind) (i j : ℕ) → IsDistant k i j → i < j → inverse k j ≡ j
unfolding IsDistant
higher_own alpha i j far l = refl
higher_own beta zero zero far l = absurd (omega arith)
higher_own beta zero (suc zero) far l = absurd (⊎_elim (λ (p : 1 + 2 ≤ 1). omega arith) (λ (p : 1 + 2 ≤ 1). omega arith) far)
higher_own beta zero (suc (suc j)) far l = refl
higher_own beta (suc i) zero far l = absurd (omega arith)
higher_own beta (suc i) (suc zero) far l = absurd (omega arith)
higher_own beta (suc i) (suc (suc j)) far l = refl

inverse_lower : (k : Kind) (i j : ℕ) → IsDistant k i j → i < j → inverse k i < j
unfolding IsDistant
inverse_lower alpha i j far l = l
inverse_lower beta zero zero far l = absurd (omega arith)
inverse_lower beta zero (suc zero) far l = absurd (⊎_elim (λ (p : 1 + 2 ≤ 1). omega arith) (λ (p : 1 + 2 ≤ 1). omega arith) far)
inverse_lower beta zero (suc (suc j)) far l = omega arith
inverse_lower beta (suc zero) j far l = omega arith
inverse_lower beta (suc (suc i)) j far l = l

below_or_above : (k : Kind) (i j : ℕ) → IsDistant k i j → (i < j) ⊎ (j < i)
below_or_above k i j far = let apart : i ≢ j = IsDistant-apart k i j far in grind arith

-- where link i of x is free, it is free too beyond a higher distant link
told_free : (k : Kind) (L : Links) → IsLawful k L → (i j x : ℕ) → IsDistant k i j → i < j → L i x ≡ 0 → L (inverse k i) (L j x) ≢ 0 → ⊥
told_free k L w i j x far l e n =
    let b : ℕ = L j x in
    let hb : b ≢ 0 = λ z. n (ap (L (inverse k i)) z ∙ w.nothing (inverse k i)) in
    let hx : x ≢ 0 = λ z. hb (ap (L j) z ∙ w.nothing j) in
    let far' : IsDistant k (inverse k i) j = IsDistant-inverse_left k i j far in
    let l' : inverse k i < j = inverse_lower k i j far l in
    let back : L j b ≡ x = sym (ap (λ t. L t b) (higher_own k i j far l)) ∙ (w.back j x b hx hb).0 refl in
    let open_b : L j b ≢ 0 = λ z. hx (sym back ∙ z) in
    let closes : L (inverse k (inverse k i)) (L j b) ≡ L j (L (inverse k i) b) = w.square (inverse k i) j b (L (inverse k i) b) far' l' n refl open_b in
    let round : L (inverse k (inverse k i)) (L j b) ≡ L i x = cc (inverse_twice k i, back) in
    open_b ((w.free_alike (inverse k i) j b (L (inverse k i) b) far' l' n refl).1 (sym closes ∙ (round ∙ e)))

told_square : (k : Kind) (L : Links) → IsLawful k L → (i j x : ℕ) → IsDistant k i j → i < j → L (inverse k i) (L j x) ≡ L (inverse k j) (L i x)
told_square k L w i j x far l =
    let own : inverse k j ≡ j = higher_own k i j far l in
    let free : L i x ≡ 0 → L (inverse k i) (L j x) ≡ L (inverse k j) (L i x) = λ e.
    let z : L (inverse k i) (L j x) ≡ 0 = stable (L (inverse k i) (L j x)) 0 (told_free k L w i j x far l e) in
    cc (z, e, w.nothing (inverse k j)) in
    let linked : L i x ≢ 0 → L (inverse k i) (L j x) ≡ L (inverse k j) (L i x) = λ h.
    ⊎_elim
    (λ (e : L j x ≡ 0). let z : L j (L i x) ≡ 0 = (w.free_alike i j x (L i x) far l h refl).0 e in cc (z, e, own, w.nothing (inverse k i)))
    (λ (g : L j x ≢ 0). let z : L (inverse k i) (L j x) ≡ L j (L i x) = w.square i j x (L i x) far l h refl g in cc (z, own))
    (same_or_not (L j x) 0) in
    ⊎_elim free linked (same_or_not (L i x) 0)

pub laws_of_told : (k : Kind) (L : Links) → IsLawful k L → Laws k L
laws_of_told k L w = record {
  nil = w.nothing;
  back = λ i x h. (w.back i x (L i x) (λ e. h (ap (L i) e ∙ w.nothing i)) h).0 refl;
  apart = w.apart;
  square = λ i j x far. ⊎_elim
      (λ (l : i < j). told_square k L w i j x far l)
      (λ (l : j < i). sym (told_square k L w j i x (IsDistant-turned k i j far) l))
      (below_or_above k i j far);
}

pub told_of_laws : (k : Kind) (L : Links) → Laws k L → IsLawful k L
told_of_laws k L w = record {
  nothing = w.nil;
  back = λ i d e hd he. (back_to k L w i d e he, back_from k L w i d e hd);
  apart = w.apart;
  free_alike = λ i j d c far l hc e. let own = higher_own k i j far l in
      let a : (L j d ≡ 0) ↔ (L (inverse k j) (L i d) ≡ 0) = alike k L w i j d far (λ z. hc (sym e ∙ z)) in
      let same : L (inverse k j) (L i d) ≡ L j c = cc (own, e) in
      ((λ z. sym same ∙ a.0 z), (λ z. a.1 (same ∙ z)));
  square = λ i j d c far l hc e h. w.square i j d far ∙ (ap (λ t. L t (L i d)) (higher_own k i j far l) ∙ ap (L j) e);
}
