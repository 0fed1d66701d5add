-- Darts that are sewn are paired as they are joined: the pairs that start at a link are what unsewing frees there.
use Rattle.std.proofs.Common.{◌≡◌, ◌≢◌, ℕ, refl, sym, ap, ◌∙◌, inl, inr}
use Rattle.map_defs.specs.Kind.{Kind, inverse, IsDistant}
use Rattle.map_defs.specs.Links.{Links}
use Rattle.map_defs.specs.Laws.{Laws}
use Rattle.map_defs.specs.Pairs.{IsGood, JustOne, seed, turned, across}
use Rattle.map_defs.specs.Sewing.{SewnPairs, IsParted, IsFreed}
use Rattle.map_defs.specs.Sewing as sewing
use Rattle.link_laws.proofs.LawFacts.{alike, dart_of_link}
use Rattle.link_laws.proofs.Relink.{IsEither, either_inverse, either_distant}
use Rattle.link_laws.proofs.Unsewn.{freed_end, freed_across}
use Rattle.sewing.proofs.PairFacts.{pairs-least}

module _ (k : Kind) (L : Links) (w : Laws k L) (i d : ℕ) (linked : L i d ≢ 0) where
  -- what holds of each pair
  pub record IsPartedPair (x y t : ℕ) : Type 0 where
    pub label : IsEither k i t
    pub freed : IsFreed k L i d x t
    pub at : L t x ≡ y
    pub second : y ≢ 0

  pub parted-pair : (x y t : ℕ) → SewnPairs k L i d (L i d) x y t → IsPartedPair x y t
  parted-pair = pairs-least k L (IsDistant k i) (JustOne d (L i d) i) IsPartedPair begun (record { turned = back; across = on })
    where
      begun : (x y t : ℕ) → JustOne d (L i d) i x y t → IsPartedPair x y t
      begun x y t is = rw (is.0, is.1, is.2) (record { label = inl refl; freed = inl sewing.here; at = refl; second = linked })

      back : (x y t : ℕ) → IsPartedPair x y t → IsPartedPair y x (inverse k t)
      back x y t p =
          let h : L t x ≢ 0 = λ z. p.second (sym p.at ∙ z) in record {
            label = either_inverse k i t p.label;
            freed = rw p.at at (freed_end k L w i d x t p.freed h);
            at = ap (L (inverse k t)) (sym p.at) ∙ w.back t x h;
            second = dart_of_link k L w t x h;
          }

      on : (x y t j : ℕ) → IsDistant k i j → IsPartedPair x y t → L j x ≢ 0 → L (inverse k j) y ≢ 0 → IsPartedPair (L j x) (L (inverse k j) y) (inverse k t)
      on x y t j far p hx hy =
          let far' : IsDistant k t j = either_distant k i t j p.label far in record {
            label = either_inverse k i t p.label;
            freed = freed_across k L w i d x t j p.freed far' hx;
            at = w.square t j x far' ∙ ap (L (inverse k j)) p.at;
            second = hy;
          }

  pub parted-good : IsGood k L (IsDistant k i) (SewnPairs k L i d (L i d))
  parted-good = record {
    one = λ x y z t p q. sym (parted-pair x y t p).at ∙ (parted-pair x z t q).at;
    moves = λ x y t p own same.
        let a = parted-pair x y t p in w.apart t x own (λ z. a.second (sym same ∙ z)) (a.at ∙ sym same);
    even = λ x y t j p far.
        let a = parted-pair x y t p in
        rw a.at at (alike k L w t j x (either_distant k i t j a.label far) (λ z. a.second (sym a.at ∙ z)));
  }

  -- each freed link is one of the pairs
  along : (x t : ℕ) → IsParted k L i d x t → SewnPairs k L i d (L i d) x (L t x) t
  along x t sewing.here = seed (refl, refl, refl)
  along x t (sewing.across {x = u} {t = s} j far p h) =
      let q : SewnPairs k L i d (L i d) u (L s u) s = along u s p in
      let a = parted-pair u (L s u) s q in
      let far' : IsDistant k s j = either_distant k i s j a.label far in
      let h' : L (inverse k j) (L s u) ≢ 0 = λ z. h ((alike k L w s j u far' a.second).1 z) in
      rw (w.square s j u far') (across j far q h h')

  pub freed-pair : (x t : ℕ) → IsFreed k L i d x t → SewnPairs k L i d (L i d) x (L t x) t
  freed-pair x t (inl p) = along x t p
  freed-pair x t (inr (y, u, p, a, b)) =
      let q : SewnPairs k L i d (L i d) y (L u y) u = along y u p in
      let at : L (inverse k u) (L u y) ≡ y = w.back u y (parted-pair y (L u y) u q).second in
      rw (a, b, at) (turned q)
