-- Unsewing a dart right after it was sewn gives all links back.
use Rattle.std.proofs.Common.{ℕ, ◌≡◌, ◌≢◌, refl, sym, ap, inl, inr, ◌∙◌}
use Rattle.map_defs.specs.Kind.{Kind, inverse, IsDistant}
use Rattle.map_defs.specs.Links.{Links}
use Rattle.map_defs.specs.Laws.{Laws}
use Rattle.map_defs.specs.Pairs.{seed, turned, across}
use Rattle.map_defs.specs.Sewing.{SewnPairs, IsSewable, IsSewn, IsParted, here, IsFreed, IsUnsewn}
use Rattle.map_defs.specs.Sewing as sewing
use Rattle.link_laws.proofs.Basics.{by_cases, inverse_twice, IsDistant-inverse_right, IsDistant-inverses}
use Rattle.link_laws.proofs.Relink.{either_distant, distant_neither}
use Rattle.link_laws.proofs.Sewn.{IsSewnTriple, sewn_triple, sewn_across, sewing_keeps}
use Rattle.link_laws.proofs.Unsewn.{freed_across}

module _ (k : Kind) (i d e : ℕ) (L N : Links) (w : Laws k L) (hd : d ≢ 0) (he : e ≢ 0) (can : IsSewable k L i d e) (s : IsSewn k i d e L N) where
  triple : (x y t : ℕ) → SewnPairs k L i d e x y t → IsSewnTriple k L i x y t
  triple = sewn_triple k L w i d e hd he can

  laws : Laws k N
  laws = sewing_keeps k L w i d e hd he can N s

  -- a link distant from i stays
  distant_kept : (j x : ℕ) → IsDistant k i j → N j x ≡ L j x
  distant_kept j x far = s.kept x j (λ y p. distant_neither k i j far (triple x y j p).label)

  pub sewn_linked : N i d ≢ 0
  sewn_linked z = he (sym (s.joined d e i (seed (refl, refl, refl))) ∙ z)

  -- what unsewing frees was sewn
  parted_sewn : (x t : ℕ) → IsParted k N i d x t → (y : ℕ) × SewnPairs k L i d e x y t
  parted_sewn x t here = (e, seed (refl, refl, refl))
  parted_sewn x t (sewing.across {x = v} {t = c} j far p h) =
      let q : (y : ℕ) × SewnPairs k L i d e v y c = parted_sewn v c p in
      let a : N j v ≡ L j v = distant_kept j v far in
      (L (inverse k j) q.0, rw a (sewn_across k L w i d e hd he can v q.0 c j q.1 (either_distant k i c j (triple v q.0 c q.1).label far) (λ z. h (a ∙ z))))

  freed_sewn : (x t : ℕ) → IsFreed k N i d x t → (y : ℕ) × SewnPairs k L i d e x y t
  freed_sewn x t (inl p) = parted_sewn x t p
  freed_sewn x t (inr (v, c, p, a, b)) =
      let q : (y : ℕ) × SewnPairs k L i d e v y c = parted_sewn v c p in
      let z : x ≡ q.0 = a ∙ s.joined v q.0 c q.1 in
      (v, rw (z, b) (turned q.1))

  -- what was sewn is freed, at both ends
  sewn_freed : (x y t : ℕ) → SewnPairs k L i d e x y t → IsFreed k N i d x t × IsFreed k N i d y (inverse k t)
  sewn_freed x y t (seed (a, b, c)) = (rw (a, c) (inl here), inr (d, i, here, b ∙ sym (s.joined d e i (seed (refl, refl, refl))), ap (inverse k) c))
  sewn_freed x y t (turned {x = a} {y = b} {t = c} p) = let h : IsFreed k N i d a c × IsFreed k N i d b (inverse k c) = sewn_freed a b c p in
      (h.1, rw (inverse_twice k c) h.0)
  sewn_freed x y t (across {x = a} {y = b} {t = c} j far p ha hb) =
      let h : IsFreed k N i d a c × IsFreed k N i d b (inverse k c) = sewn_freed a b c p in
      let far' : IsDistant k c j = either_distant k i c j (triple a b c p).label far in (
        rw (distant_kept j a far) at (freed_across k N laws i d a c j h.0 far' (λ z. ha (sym (distant_kept j a far) ∙ z))),
        rw (distant_kept (inverse k j) b (IsDistant-inverse_right k i j far)) at (freed_across k N laws i d b (inverse k c) (inverse k j) h.1 (IsDistant-inverses k c j far') (λ z. hb (sym (distant_kept (inverse k j) b (IsDistant-inverse_right k i j far)) ∙ z))),
      )

  pub unsewing_undoes : (M : Links) → IsUnsewn k i d N M → (t x : ℕ) → M t x ≡ L t x
  unsewing_undoes M u t x = by_cases (IsFreed k N i d x t) (M t x) (L t x)
      (λ f. let q : (y : ℕ) × SewnPairs k L i d e x y t = freed_sewn x t f in u.freed x t f ∙ sym (triple x q.0 t q.1).free)
      (λ n. u.kept x t n ∙ s.kept x t (λ y p. n (sewn_freed x y t p).0))
