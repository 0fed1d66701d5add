-- A new link 1 of a combinatorial map is one-to-one, as its pieces tell it.
use Rattle.std.proofs.Common.{ℕ, ◌≡◌, ◌≢◌, ◌⊎◌, refl, sym, ap, subst, inl, inr, ◌∙◌}
use Rattle.map_defs.specs.Kind.{beta}
use Rattle.map_defs.specs.Links.{Links}
use Rattle.map_defs.specs.Laws.{Laws}
use Rattle.map_defs.specs.Births.{IsFresh}
use Rattle.link_laws.proofs.Basics.{by_cases}
use Rattle.link_laws.proofs.LawFacts.{link_one}
use Rattle.insert_laws.proofs.Fresh.{fresh_link, fresh_old}
use Rattle.insert_laws.proofs.BetaEdge.{IsCorner}

-- The pieces tell where the link f leads from some darts; from the others it leads as link 1 did.
pub record HasPieces (L : Links) (Piece : ℕ → ℕ → Type 0) (f : ℕ → ℕ) : Type 0 where
  pub told : (x z : ℕ) → Piece x z → f x ≡ z
  pub one : (x y z : ℕ) → z ≢ 0 → Piece x z → Piece y z → x ≡ y
  -- what led to where a piece leads is told anew
  pub led : (x y : ℕ) → L 1 y ≢ 0 → Piece x (L 1 y) → (z : ℕ) × Piece y z
  pub kept : (x : ℕ) → ((z : ℕ) → Piece x z → ⊥) → f x ≡ L 1 x

module _ (L : Links) (w : Laws beta L) (Piece : ℕ → ℕ → Type 0) (f : ℕ → ℕ) (s : HasPieces L Piece f) where
  IsTold : ℕ → Type 0
  IsTold x = (z : ℕ) × Piece x z

  kept_at : (x : ℕ) → (IsTold x → ⊥) → f x ≡ L 1 x
  unfolding IsTold
  kept_at x n = s.kept x (λ z p. n (z, p))

  told_kept : (x y : ℕ) → f x ≢ 0 → f x ≡ f y → IsTold x → (IsTold y → ⊥) → ⊥
  unfolding IsTold
  told_kept x y h e (z, p) n =
      let a : L 1 y ≡ f x = sym (kept_at y n) ∙ sym e in
      n (s.led x y (λ o. h (sym a ∙ o)) (subst (λ u. Piece x u) (sym (s.told x z p) ∙ sym a) p))

  told_both : (x y : ℕ) → f x ≢ 0 → f x ≡ f y → IsTold x → IsTold y → x ≡ y
  unfolding IsTold
  told_both x y h e (z, p) (u, q) =
      let a : f x ≡ z = s.told x z p in
      let b : u ≡ z = sym (s.told y u q) ∙ (sym e ∙ a) in
      s.one x y z (λ o. h (a ∙ o)) p (subst (λ v. Piece y v) b q)

  pub pieces_one : (x y : ℕ) → f x ≢ 0 → f x ≡ f y → x ≡ y
  pieces_one x y h e = by_cases (IsTold x) x y
      (λ p. by_cases (IsTold y) x y (λ q. told_both x y h e p q) (λ n. absurd (told_kept x y h e p n)))
      (λ n. by_cases (IsTold y) x y (λ q. absurd (told_kept y x (λ o. h (e ∙ o)) (sym e) q n))
      (λ m. let a : f x ≡ L 1 x = kept_at x n in
      link_one beta L w 1 x y (λ o. h (a ∙ o)) (sym a ∙ (e ∙ kept_at y m))))

-- a vertex: each dart of K leads to its new dart, and this where the dart led
abbrev SplitPiece : (ℕ → Type 0) → (ℕ → ℕ) → Links → ℕ → ℕ → Type 0
SplitPiece K star L x z = (K x × (z ≡ star x)) ⊎ ((u : ℕ) × K u × (x ≡ star u) × (z ≡ L 1 u))

module _ (L : Links) (w : Laws beta L) (K : ℕ → Type 0) (star : ℕ → ℕ) (fresh : IsFresh L K star) (f : ℕ → ℕ)
    (first : (x : ℕ) → K x → f x ≡ star x) (second : (x : ℕ) → K x → f (star x) ≡ L 1 x)
    (kept : (x : ℕ) → (K x → ⊥) → ((y : ℕ) → K y → x ≢ star y) → f x ≡ L 1 x) where
  split_told : (x z : ℕ) → SplitPiece K star L x z → f x ≡ z
  split_told x z (inl (h, e)) = first x h ∙ sym e
  split_told x z (inr (u, h, p, q)) = ap f p ∙ (second u h ∙ sym q)

  not_new : (t u x : ℕ) → K x → L t u ≢ star x
  not_new t u x h e = fresh_link beta L w K star fresh t u (x, h, e)

  split_pieces_one : (x y z : ℕ) → z ≢ 0 → SplitPiece K star L x z → SplitPiece K star L y z → x ≡ y
  split_pieces_one x y z n (inl (h, e)) (inl (g, q)) = fresh.one x y h g (sym e ∙ q)
  split_pieces_one x y z n (inl (h, e)) (inr (v, g, r, q)) = absurd (not_new 1 v x h (sym q ∙ e))
  split_pieces_one x y z n (inr (u, h, r, q)) (inl (g, e)) = absurd (not_new 1 u y g (sym q ∙ e))
  split_pieces_one x y z n (inr (u, h, p, q)) (inr (v, g, r, e)) =
      let same : u ≡ v = link_one beta L w 1 u v (λ o. n (q ∙ o)) (sym q ∙ e) in p ∙ (ap star same ∙ sym r)

  split_led : (x y : ℕ) → L 1 y ≢ 0 → SplitPiece K star L x (L 1 y) → (z : ℕ) × SplitPiece K star L y z
  split_led x y n (inl (h, e)) = absurd (not_new 1 y x h e)
  split_led x y n (inr (u, h, p, q)) = (star y, inl (subst K (sym (link_one beta L w 1 y u n q)) h, refl))

  pub split_one : (x y : ℕ) → f x ≢ 0 → f x ≡ f y → x ≡ y
  split_one = pieces_one L w (SplitPiece K star L) f (record {
    told = split_told;
    one = split_pieces_one;
    led = split_led;
    kept = λ x n. kept x (λ h. n (star x) (inl (h, refl))) (λ y h e. n (L 1 y) (inr (y, h, e, refl)));
  })

-- an edge: what led into a corner leads to the new dart, and this on to where the way turns
abbrev CutPiece : (ℕ → ℕ → Type 0) → (ℕ → ℕ) → Links → ℕ → ℕ → Type 0
CutPiece Turn star L x z = ((c : ℕ) × (y : ℕ) × Turn c y × (x ≡ L 0 c) × (z ≡ star c)) ⊎ ((c : ℕ) × Turn c z × (x ≡ star c))

module _ (L : Links) (w : Laws beta L) (Turn : ℕ → ℕ → Type 0) (both : (x y : ℕ) → Turn x y → Turn y x) (star : ℕ → ℕ) (fresh : IsFresh L (IsCorner Turn) star) (f : ℕ → ℕ)
    (into : (x y : ℕ) → Turn x y → f (L 0 x) ≡ star x) (onward : (x y : ℕ) → Turn x y → f (star x) ≡ y)
    (kept : (x : ℕ) → ((c y : ℕ) → Turn c y → x ≢ L 0 c) → ((c y : ℕ) → Turn c y → x ≢ star c) → f x ≡ L 1 x) where
  cut_told : (x z : ℕ) → CutPiece Turn star L x z → f x ≡ z
  cut_told x z (inl (c, y, p, e, q)) = ap f e ∙ (into c y p ∙ sym q)
  cut_told x z (inr (c, p, e)) = ap f e ∙ onward c z p

  -- a corner is no new dart
  not_corner : (c y v z : ℕ) → Turn c y → Turn v z → z ≢ star c
  not_corner c y v z p q e = fresh_old beta L w (IsCorner Turn) star fresh z (v, both v z q) (c, (y, p), e)

  cut_pieces_one : (x y z : ℕ) → z ≢ 0 → CutPiece Turn star L x z → CutPiece Turn star L y z → x ≡ y
  cut_pieces_one x y z n (inl (c, u, p, e, q)) (inl (d, v, r, g, m)) =
      let same : c ≡ d = fresh.one c d (u, p) (v, r) (sym q ∙ m) in e ∙ (ap (L 0) same ∙ sym g)
  cut_pieces_one x y z n (inl (c, u, p, e, q)) (inr (d, r, g)) = absurd (not_corner c u d z p r q)
  cut_pieces_one x y z n (inr (c, p, e)) (inl (d, v, r, g, m)) = absurd (not_corner d v c z r p m)
  cut_pieces_one x y z n (inr (c, p, e)) (inr (d, r, g)) =
      let same : c ≡ d = sym (onward z c (both c z p)) ∙ onward z d (both d z r) in e ∙ (ap star same ∙ sym g)

  cut_led : (x y : ℕ) → L 1 y ≢ 0 → CutPiece Turn star L x (L 1 y) → (z : ℕ) × CutPiece Turn star L y z
  cut_led x y n (inl (c, u, p, e, q)) = absurd (fresh_link beta L w (IsCorner Turn) star fresh 1 y (c, (u, p), q))
  cut_led x y n (inr (c, p, e)) = (star (L 1 y), inl (L 1 y, c, both c (L 1 y) p, sym (w.back 1 y n), refl))

  pub cut_one : (x y : ℕ) → f x ≢ 0 → f x ≡ f y → x ≡ y
  cut_one = pieces_one L w (CutPiece Turn star L) f (record {
    told = cut_told;
    one = cut_pieces_one;
    led = cut_led;
    kept = λ x n. kept x (λ c y p e. n (star c) (inl (c, y, p, e, refl))) (λ c y p e. n y (inr (c, p, e)));
  })
