-- Unsewing keeps the laws of a map.
use Rattle.std.proofs.Common.{ℕ, ◌≡◌, ◌≢◌, refl, sym, ap, inl, inr, ⊎_elim, ◌∙◌}
use Rattle.map_defs.specs.Kind.{Kind, inverse, IsDistant}
use Rattle.map_defs.specs.Links.{Links}
use Rattle.map_defs.specs.Laws.{Laws}
use Rattle.map_defs.specs.Sewing.{IsParted, here, across, IsFreed, IsUnsewn}
use Rattle.link_laws.proofs.Basics.{by_cases, same_or_not, inverse_twice, IsDistant-turned, IsDistant-inverses}
use Rattle.link_laws.proofs.LawFacts.{dart_of_link}
use Rattle.link_laws.proofs.Relink.{IsEither, either_inverse, either_distant_back, relinked}

module _ (k : Kind) (L : Links) (w : Laws k L) (i d : ℕ) where
  parted_label : (x t : ℕ) → IsParted k L i d x t → IsEither k i t
  parted_label x t here = inl refl
  parted_label x t (across {x = u} {t = s} j far p h) = either_inverse k i s (parted_label u s p)

  freed_label : (x t : ℕ) → IsFreed k L i d x t → IsEither k i t
  freed_label x t (inl p) = parted_label x t p
  freed_label x t (inr (y, u, p, a, b)) = rw b (either_inverse k i u (parted_label y u p))

  -- the freed links hold both ends of each
  pub freed_end : (x t : ℕ) → IsFreed k L i d x t → L t x ≢ 0 → IsFreed k L i d (L t x) (inverse k t)
  freed_end x t (inl p) h = inr (x, t, p, refl, refl)
  freed_end x t (inr (y, u, p, a, b)) h =
      let g : L u y ≢ 0 = λ z. h (ap (L t) (a ∙ z) ∙ w.nil t) in
      let c : L t x ≡ y = cc (a, b, w.back u y g) in
      let e : inverse k t ≡ u = cc (b, inverse_twice k u) in
      inl (rw (c, e) p)

  -- and go along the links distant from their own
  pub freed_across : (x t j : ℕ) → IsFreed k L i d x t → IsDistant k t j → L j x ≢ 0 → IsFreed k L i d (L j x) (inverse k t)
  freed_across x t j (inl p) far h = inl (across j (either_distant_back k i t j (parted_label x t p) far) p h)
  freed_across x t j (inr (y, u, p, a, b)) far h =
      let far' : IsDistant k (inverse k j) u = rw (inverse_twice k u) at (IsDistant-inverses k j (inverse k u) (rw b at (IsDistant-turned k t j far))) in
      let c : L j x ≡ L (inverse k u) (L (inverse k j) y) = cc (a, inverse_twice k j, w.square (inverse k j) u y far') in
      let g : L (inverse k j) y ≢ 0 = λ z. h (c ∙ (ap (L (inverse k u)) z ∙ w.nil (inverse k u))) in
      let far'' : IsDistant k i (inverse k j) = either_distant_back k i u (inverse k j) (parted_label y u p) (IsDistant-turned k (inverse k j) u far') in
      inr (L (inverse k j) y, inverse k u, across (inverse k j) far'' p g, c, ap (inverse k) b)

  module _ (N : Links) (s : IsUnsewn k i d L N) where
    unsewn_nil : (t : ℕ) → N t 0 ≡ 0
    unsewn_nil t = by_cases (IsFreed k L i d 0 t) (N t 0) 0 (λ f. s.freed 0 t f) (λ n. s.kept 0 t n ∙ w.nil t)

    unsewn_back : (t x : ℕ) → N t x ≢ 0 → N (inverse k t) (N t x) ≡ x
    unsewn_back t x h =
        let n : IsFreed k L i d x t → ⊥ = λ f. h (s.freed x t f) in
        let a : N t x ≡ L t x = s.kept x t n in
        let g : L t x ≢ 0 = λ z. h (a ∙ z) in
        let b : L (inverse k t) (L t x) ≡ x = w.back t x g in
        let m : IsFreed k L i d (L t x) (inverse k t) → ⊥ = λ f.
        n (rw (b, inverse_twice k t) at (freed_end (L t x) (inverse k t) f (λ z. dart_of_link k L w t x g (sym b ∙ z)))) in
        let c : N (inverse k t) (L t x) ≡ L (inverse k t) (L t x) = s.kept (L t x) (inverse k t) m in cc

    unsewn_square : (t j x : ℕ) → IsDistant k t j → N (inverse k t) (L j x) ≡ L (inverse k j) (N t x)
    unsewn_square t j x far = ⊎_elim
        (λ (z : L j x ≡ 0).
        let e : N (inverse k t) (L j x) ≡ 0 = ap (N (inverse k t)) z ∙ unsewn_nil (inverse k t) in
        by_cases (IsFreed k L i d x t) (N (inverse k t) (L j x)) (L (inverse k j) (N t x))
        (λ f. let a : N t x ≡ 0 = s.freed x t f in cc (w.nil (inverse k j)))
        (λ n. let a : N t x ≡ L t x = s.kept x t n in
        let c : L (inverse k t) (L j x) ≡ L (inverse k j) (L t x) = w.square t j x far in cc (w.nil (inverse k t))))
        (λ (h : L j x ≢ 0). by_cases (IsFreed k L i d x t) (N (inverse k t) (L j x)) (L (inverse k j) (N t x))
        (λ f. let a : N t x ≡ 0 = s.freed x t f in
        let b : N (inverse k t) (L j x) ≡ 0 = s.freed (L j x) (inverse k t) (freed_across x t j f far h) in cc (w.nil (inverse k j)))
        (λ n. let a : N t x ≡ L t x = s.kept x t n in
        let back : L (inverse k j) (L j x) ≡ x = w.back j x h in
        let m : IsFreed k L i d (L j x) (inverse k t) → ⊥ = λ f.
        n (rw (back, inverse_twice k t) at (freed_across (L j x) (inverse k t) (inverse k j) f (IsDistant-inverses k t j far) (λ z. dart_of_link k L w j x h (sym back ∙ z)))) in
        let b : N (inverse k t) (L j x) ≡ L (inverse k t) (L j x) = s.kept (L j x) (inverse k t) m in
        let c : L (inverse k t) (L j x) ≡ L (inverse k j) (L t x) = w.square t j x far in cc))
        (same_or_not (L j x) 0)

    pub unsewing_keeps : Laws k N
    unsewing_keeps = relinked k i L N w (record {
      same = λ t x n. s.kept x t (λ f. n (freed_label x t f));
      nil = λ t e. unsewn_nil t;
      back = λ t x e. unsewn_back t x;
      apart = λ t x e own hx h.
          let n : IsFreed k L i d x t → ⊥ = λ f. hx (sym h ∙ s.freed x t f) in w.apart t x own hx (sym (s.kept x t n) ∙ h);
      square = λ t j x e. unsewn_square t j x;
    })
