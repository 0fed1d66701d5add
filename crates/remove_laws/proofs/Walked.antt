-- A combinatorial map whose link p is drawn across a cell obeys the laws. The walk follows link p and a step Q in turn.
-- Its reverse, and its mirror beyond a distant link, follow the inverse of p and Q, so one form serves both.
use Rattle.std.proofs.Common.{◌≡◌, ◌≢◌, ◌⊎◌, ◌≤◌, ◌↔◌, ℕ, inl, inr, refl, sym, ap, subst, ◌∙◌}
use Rattle.map_defs.specs.Kind.{beta, inverse, IsDistant}
use Rattle.map_defs.specs.Links.{Links}
use Rattle.map_defs.specs.Laws.{Laws}
use Rattle.map_defs.specs.Walks.{Walk, stop, go}
use Rattle.link_laws.proofs.Basics.{same_or_not, by_cases, stable, inverse_twice, IsDistant-turned, IsDistant-inverse_right}
use Rattle.link_laws.proofs.LawFacts.{dart_of_link, link_one}
use Rattle.link_laws.proofs.Relink.{IsEither, either_inverse, either_or_not, either_distant_back, distant_neither}
use Rattle.link_laws.proofs.Walking.{by_not_not, walk_one, walk_outside, leaves, found}

-- the set C can be crossed along link p and the step Q
pub record CanBeWalked (p made : ℕ) (C : ℕ → Type 0) (Q : ℕ → ℕ) (L : Links) : Type 0 where
  pub laws : Laws beta L
  pub nowhere : C 0 → ⊥
  pub bounded : (x : ℕ) → C x → x ≤ made
  -- C is closed under Q and under all links but p and its inverse
  pub inside : (c : ℕ) → C c → Q c ≢ 0 → C (Q c)
  pub closed : (t c : ℕ) → (IsEither beta p t → ⊥) → C c → L t c ≢ 0 → C (L t c)
  -- Q is its own inverse, and distant links turn it round
  pub nil : Q 0 ≡ 0
  pub twice : (c : ℕ) → C c → Q c ≢ 0 → Q (Q c) ≡ c
  pub mirror : (j c : ℕ) → IsDistant beta p j → C c → Q (L (inverse beta j) c) ≡ L j (Q c)

module _ (p made : ℕ) (C : ℕ → Type 0) (Q : ℕ → ℕ) (L : Links) (c : CanBeWalked p made C Q L) where
  -- the walk along link t, which is p or its inverse
  abbrev Along : ℕ → ℕ → ℕ → Type 0
  Along t = Walk C (λ x. L t (Q x))

  begins : (t : ℕ) {x y : ℕ} → Along t x y → y ≢ 0 → x ≢ 0
  begins t {x = x} {y = y} w m e = m (sym (walk_one (stop c.nowhere) (subst (λ z. Along t z y) e w)))

  back_at : (t x : ℕ) → L t x ≢ 0 → L (inverse beta t) (L t x) ≡ x
  back_at t x h = c.laws.back t x h

  reverse_on : (t : ℕ) {x y : ℕ} → (z : ℕ) → Along t x y → y ≢ 0 → (C x → Q x ≢ 0 → Along (inverse beta t) (Q x) z) → ((C x → ⊥) → Along (inverse beta t) (L (inverse beta t) x) z) → Along (inverse beta t) (L (inverse beta t) y) z
  reverse_on t z (stop n) m f g = g n
  reverse_on t {x = x} z (go h w) m f g = reverse_on t z w m onward out_there
    where
      there : L t (Q x) ≢ 0
      there = begins t w m

      beside : Along (inverse beta t) (Q x) z
      beside = f h (dart_of_link beta L c.laws t (Q x) there)

      out_there : (C (L t (Q x)) → ⊥) → Along (inverse beta t) (L (inverse beta t) (L t (Q x))) z
      out_there n = subst (λ v. Along (inverse beta t) v z) (sym (back_at t (Q x) there)) beside

      onward : C (L t (Q x)) → Q (L t (Q x)) ≢ 0 → Along (inverse beta t) (Q (L t (Q x))) z
      onward k q = go (c.inside (L t (Q x)) k q) (subst (λ v. Along (inverse beta t) v z) (cc (back_at t (Q x) there, c.twice (L t (Q x)) k q)) beside)

  -- the walk back
  reverse : (t x y : ℕ) → (C x → ⊥) → Along t (L t x) y → y ≢ 0 → Along (inverse beta t) (L (inverse beta t) y) x
  reverse t x y n w m = reverse_on t x w m onward out_there
    where
      back : L (inverse beta t) (L t x) ≡ x
      back = back_at t x (begins t w m)

      out_there : (C (L t x) → ⊥) → Along (inverse beta t) (L (inverse beta t) (L t x)) x
      out_there k = subst (λ v. Along (inverse beta t) v x) (sym back) (stop n)

      onward : C (L t x) → Q (L t x) ≢ 0 → Along (inverse beta t) (Q (L t x)) x
      onward k q = go (c.inside (L t x) k q) (subst (λ v. Along (inverse beta t) v x) (cc (back, c.twice (L t x) k q)) (stop n))

  neither_inverse : (t : ℕ) → (IsEither beta p t → ⊥) → IsEither beta p (inverse beta t) → ⊥
  neither_inverse t n e = n (subst (IsEither beta p) (inverse_twice beta t) (either_inverse beta p (inverse beta t) e))

  out : (t x : ℕ) → (IsEither beta p t → ⊥) → (C x → ⊥) → C (L t x) → ⊥
  out t x n m h = m (subst C back (c.closed (inverse beta t) (L t x) (neither_inverse t n) h (λ z. dart_of_link beta L c.laws t x there (cc (back, z)))))
    where
      there : L t x ≢ 0
      there z = c.nowhere (subst C z h)

      back : L (inverse beta t) (L t x) ≡ x
      back = back_at t x there

  -- the walk beyond a distant link, which may be free all along
  mirror : (t j : ℕ) → IsDistant beta p j → IsDistant beta t j → {x y : ℕ} → Walk C (λ x. L t (Q x)) x y → Walk C (λ x. L (inverse beta t) (Q x)) (L (inverse beta j) x) (L (inverse beta j) y)
  mirror t j far far_t (stop n) = stop (out (inverse beta j) _ (distant_neither beta p (inverse beta j) (IsDistant-inverse_right beta p j far)) n)
  mirror t j far far_t {x = x} {y = y} (go h w) = before (mirror t j far far_t w)
    where
      step : L (inverse beta t) (Q (L (inverse beta j) x)) ≡ L (inverse beta j) (L t (Q x))
      step = cc (c.mirror j x far h, c.laws.square t j (Q x) far_t)

      nowhere : Along (inverse beta t) (L (inverse beta j) (L t (Q x))) (L (inverse beta j) y) → L (inverse beta j) x ≡ 0 → Along (inverse beta t) (L (inverse beta j) x) (L (inverse beta j) y)
      nowhere rest e = subst (λ v. Along (inverse beta t) v (L (inverse beta j) y)) (cc (e, step, c.nil, c.laws.nil (inverse beta t))) rest

      onward : Along (inverse beta t) (L (inverse beta j) (L t (Q x))) (L (inverse beta j) y) → L (inverse beta j) x ≢ 0 → Along (inverse beta t) (L (inverse beta j) x) (L (inverse beta j) y)
      onward rest m = go (c.closed (inverse beta j) x (distant_neither beta p (inverse beta j) (IsDistant-inverse_right beta p j far)) h m) (subst (λ v. Along (inverse beta t) v (L (inverse beta j) y)) (sym step) rest)

      before : Along (inverse beta t) (L (inverse beta j) (L t (Q x))) (L (inverse beta j) y) → Along (inverse beta t) (L (inverse beta j) x) (L (inverse beta j) y)
      before rest = elim (same_or_not (L (inverse beta j) x) 0) [ inl e ↦ nowhere rest e | inr m ↦ onward rest m ]

  one_step : (t y z : ℕ) → C y → C z → C (L t (Q y)) → L t (Q y) ≡ L t (Q z) → y ≡ z
  one_step t y z hy hz hs e =
      let there : L t (Q y) ≢ 0 = λ q. c.nowhere (subst C q hs) in
      let same : Q y ≡ Q z = link_one beta L c.laws t (Q y) (Q z) there e in
      let m : Q y ≢ 0 = dart_of_link beta L c.laws t (Q y) there in
      cc (same, c.twice y hy m, c.twice z hz (λ q. m (cc (same, q))))

  fresh_step : (t x : ℕ) → (C x → ⊥) → L t x ≢ 0 → (y : ℕ) → C y → L t (Q y) ≢ L t x
  fresh_step t x n m y h e =
      let there : L t (Q y) ≢ 0 = λ q. m (cc (q, e)) in
      n (subst C (link_one beta L c.laws t (Q y) x there e) (c.inside y h (dart_of_link beta L c.laws t (Q y) there)))

  stop_free : (t x : ℕ) → L t x ≡ 0 → Along t (L t x) 0
  stop_free t x e = subst (λ v. Along t v 0) (sym e) (stop c.nowhere)

  -- each walk from a remaining dart ends
  pub walk_ends : (t x : ℕ) → (C x → ⊥) → ((y : ℕ) → Walk C (λ z. L t (Q z)) (L t x) y → ⊥) → ⊥
  walk_ends t x n = elim (same_or_not (L t x) 0) [
    | inl e ↦ (λ never. never 0 (stop_free t x e))
    | inr m ↦ leaves C (λ z. L t (Q z)) made (L t x) c.bounded (one_step t) (fresh_step t x n m)
  ]

  pub walk_found : ((x : ℕ) → C x ⊎ (C x → ⊥)) → (t x : ℕ) → (C x → ⊥) → (y : ℕ) × Walk C (λ z. L t (Q z)) (L t x) y
  walk_found decide t x n = elim (same_or_not (L t x) 0) [
    | inl e ↦ (0, stop_free t x e)
    | inr m ↦ found C (λ z. L t (Q z)) made (L t x) c.bounded (one_step t) (fresh_step t x n m) decide
  ]

  -- two walks that end at one dart begin at one
  pub walk_back_one : (t x y z : ℕ) → (C x → ⊥) → (C y → ⊥) → z ≢ 0 → Walk C (λ z. L t (Q z)) (L t x) z → Walk C (λ z. L t (Q z)) (L t y) z → x ≡ y
  walk_back_one t x y z n m k v w = walk_one (reverse t x z n v k) (reverse t y z m w k)

-- N are the links after link p is drawn across C
pub record IsWalked (p : ℕ) (C : ℕ → Type 0) (Q : ℕ → ℕ) (L N : Links) : Type 0 where
  pub gone : (x t : ℕ) → C x → N t x ≡ 0
  pub nothing : (t : ℕ) → N t 0 ≡ 0
  pub kept : (x t : ℕ) → (C x → ⊥) → (IsEither beta p t → ⊥) → N t x ≡ L t x
  pub lands : (x y : ℕ) → (C x → ⊥) → Walk C (λ z. L p (Q z)) (L p x) y → N p x ≡ y
  -- where p has another inverse, that is the inverse of the new link p
  pub turned : inverse beta p ≢ p → (x y : ℕ) → x ≢ 0 → y ≢ 0 → (N p x ≡ y) ↔ (N (inverse beta p) y ≡ x)
  -- and where it is its own, no dart is joined to itself
  pub apart : inverse beta p ≡ p → (x : ℕ) → x ≢ 0 → (C x → ⊥) → Walk C (λ z. L p (Q z)) (L p x) x → ⊥

module _ (p made : ℕ) (C : ℕ → Type 0) (Q : ℕ → ℕ) (L N : Links) (c : CanBeWalked p made C Q L) (b : IsWalked p C Q L N) where
  reverse_from_inverse : (x y : ℕ) → (C x → ⊥) → Walk C (λ z. L (inverse beta p) (Q z)) (L (inverse beta p) x) y → y ≢ 0 → Walk C (λ z. L p (Q z)) (L p y) x
  reverse_from_inverse x y n w m = subst (λ t. Walk C (λ z. L t (Q z)) (L t y) x) (inverse_twice beta p) (reverse p made C Q L c (inverse beta p) x y n w m)

  lands_back : inverse beta p ≢ p → (x y : ℕ) → (C x → ⊥) → Walk C (λ z. L (inverse beta p) (Q z)) (L (inverse beta p) x) y → N (inverse beta p) x ≡ y
  lands_back m x y n w = elim (same_or_not y 0) [ inl e ↦ free e | inr k ↦ there k ]
    where
      q : ℕ
      q = inverse beta p

      there : y ≢ 0 → N (inverse beta p) x ≡ y
      there k =
          let x_there : x ≢ 0 = λ e. k (sym (walk_one (stop c.nowhere) (subst (λ z. Walk C (λ z'. L (inverse beta p) (Q z')) z y) (ap (L (inverse beta p)) e ∙ c.laws.nil (inverse beta p)) w))) in
          (b.turned m y x k x_there).0 (b.lands y x (walk_outside w) (reverse_from_inverse x y n w k))

      none : (v u : ℕ) → v ≢ 0 → (C v → ⊥) → N p v ≡ x → x ≢ 0 → y ≡ 0 → Walk C (λ z. L p (Q z)) (L p v) u → ⊥
      none v u k g e h z a =
          let u_is : u ≡ x = sym (b.lands v u g a) ∙ e in
          let r : Walk C (λ z'. L (inverse beta p) (Q z')) (L (inverse beta p) x) v = reverse p made C Q L c p v x g (subst (λ s. Walk C (λ z'. L p (Q z')) (L p v) s) u_is a) h in
          k (walk_one r w ∙ z)

      free : y ≡ 0 → N (inverse beta p) x ≡ y
      free e = stable _ _ (λ k.
          let v_there : N (inverse beta p) x ≢ 0 = λ z. k (cc (z, e)) in
          let x_there : x ≢ 0 = λ z. v_there (cc (z, b.nothing (inverse beta p))) in
          let leads : N p (N (inverse beta p) x) ≡ x = (b.turned m (N (inverse beta p) x) x v_there x_there).1 refl in
          let stays : C (N (inverse beta p) x) → ⊥ = λ h. x_there (cc (leads, b.gone (N (inverse beta p) x) p h)) in
          walk_ends p made C Q L c p (N (inverse beta p) x) stays (λ u a. none (N (inverse beta p) x) u v_there stays leads x_there e a))

  lands_along : (t x y : ℕ) → IsEither beta p t → (C x → ⊥) → Walk C (λ z. L t (Q z)) (L t x) y → N t x ≡ y
  lands_along t x y (inl e) n w = subst (λ s. N s x ≡ y) (sym e) (b.lands x y n (subst (λ s. Walk C (λ z. L s (Q z)) (L s x) y) e w))
  lands_along t x y (inr e) n w = subst (λ s. N s x ≡ y) (sym e) (at (same_or_not (inverse beta p) p))
    where
      v : Walk C (λ z. L (inverse beta p) (Q z)) (L (inverse beta p) x) y
      v = subst (λ s. Walk C (λ z. L s (Q z)) (L s x) y) e w

      at : (inverse beta p ≡ p) ⊎ (inverse beta p ≢ p) → N (inverse beta p) x ≡ y
      at (inl f) = subst (λ s. N s x ≡ y) (sym f) (b.lands x y n (subst (λ s. Walk C (λ z. L s (Q z)) (L s x) y) f v))
      at (inr m) = lands_back m x y n v

  -- what is said of a link of a remaining dart may be proved of the end of its walk
  by_walk : (t x : ℕ) → (C x → ⊥) → (l r : ℕ) → ((y : ℕ) → Walk C (λ z. L t (Q z)) (L t x) y → l ≡ r) → l ≡ r
  by_walk t x n l r f = by_not_not ((y : ℕ) × Walk C (λ z. L t (Q z)) (L t x) y) l r (λ never. walk_ends p made C Q L c t x n (λ y w. never (y, w))) (λ w. f w.0 w.1)

  back : (t x : ℕ) → N t x ≢ 0 → N (inverse beta t) (N t x) ≡ x
  back t x h = by_cases (C x) _ _ (λ k. absurd (h (b.gone x t k))) (λ n. at n (either_or_not beta p t))
    where
      at : (C x → ⊥) → IsEither beta p t ⊎ (IsEither beta p t → ⊥) → N (inverse beta t) (N t x) ≡ x
      at n (inl e) = by_walk t x n _ _ (λ y w.
          let is : N t x ≡ y = lands_along t x y e n w in
          is_back y is (lands_along (inverse beta t) y x (either_inverse beta p t e) (walk_outside w) (reverse p made C Q L c t x y n w (λ z. h (is ∙ z)))))
        where
          is_back : (y : ℕ) → N t x ≡ y → N (inverse beta t) y ≡ x → N (inverse beta t) (N t x) ≡ x
          is_back y f g = cc (f, g)
      at n (inr m) =
          let is : N t x ≡ L t x = b.kept x t n m in
          let there : L t x ≢ 0 = λ z. h (is ∙ z) in
          cc (is, b.kept (L t x) (inverse beta t) (out p made C Q L c t x m n) (neither_inverse p made C Q L c t m), c.laws.back t x there)

  apart : (t x : ℕ) → inverse beta t ≡ t → x ≢ 0 → N t x ≢ x
  apart t x own k e = no (λ h. k (cc (b.gone x t h, e))) (λ n. at n (either_or_not beta p t))
    where
      no : (C x → ⊥) → ((C x → ⊥) → ⊥) → ⊥
      no f g = g f

      at_p : (C x → ⊥) → t ≡ p → ⊥
      at_p n f = walk_ends p made C Q L c p x n (λ y w. b.apart (subst (λ s. inverse beta s ≡ s) f own) x k n (subst (Walk C (λ z. L p (Q z)) (L p x)) (cc (b.lands x y n w, f, e)) w))

      at : (C x → ⊥) → IsEither beta p t ⊎ (IsEither beta p t → ⊥) → ⊥
      at n (inl (inl f)) = at_p n f
      at n (inl (inr f)) = at_p n (cc (own, f, inverse_twice beta p))
      at n (inr m) = c.laws.apart t x own k (cc (b.kept x t n m, e))

  square_at : (t j x : ℕ) → IsEither beta p t → IsDistant beta t j → N (inverse beta t) (N j x) ≡ N (inverse beta j) (N t x)
  square_at t j x e far_t = by_cases (C x) _ _ (λ h. cc (b.gone x t h, b.gone x j h, b.nothing (inverse beta t), b.nothing (inverse beta j))) (λ n. by_walk t x n _ _ (λ y w. at n y w))
    where
      far : IsDistant beta p j
      far = either_distant_back beta p t j e far_t

      at : (C x → ⊥) → (y : ℕ) → Walk C (λ z. L t (Q z)) (L t x) y → N (inverse beta t) (N j x) ≡ N (inverse beta j) (N t x)
      at n y w =
          let m : IsEither beta p j → ⊥ = distant_neither beta p j far in
          let v : Walk C (λ z. L (inverse beta t) (Q z)) (L (inverse beta t) (L j x)) (L (inverse beta j) y) = subst (λ s. Walk C (λ z. L (inverse beta t) (Q z)) s (L (inverse beta j) y)) (sym (c.laws.square t j x far_t)) (mirror p made C Q L c t j far far_t w) in
          cc (lands_along t x y e n w, b.kept x j n m, b.kept y (inverse beta j) (walk_outside w) (neither_inverse p made C Q L c j m), lands_along (inverse beta t) (L j x) (L (inverse beta j) y) (either_inverse beta p t e) (out p made C Q L c j x m n) v)

  square_off : (t j x : ℕ) → (IsEither beta p t → ⊥) → (IsEither beta p j → ⊥) → IsDistant beta t j → N (inverse beta t) (N j x) ≡ N (inverse beta j) (N t x)
  square_off t j x m l far = by_cases (C x) _ _ (λ h. cc (b.gone x t h, b.gone x j h, b.nothing (inverse beta t), b.nothing (inverse beta j))) (λ n.
      cc (b.kept x t n m, b.kept x j n l, b.kept (L j x) (inverse beta t) (out p made C Q L c j x l n) (neither_inverse p made C Q L c t m), b.kept (L t x) (inverse beta j) (out p made C Q L c t x m n) (neither_inverse p made C Q L c j l), c.laws.square t j x far))

  square : (t j x : ℕ) → IsDistant beta t j → N (inverse beta t) (N j x) ≡ N (inverse beta j) (N t x)
  square t j x far = at (either_or_not beta p t) (either_or_not beta p j)
    where
      at : IsEither beta p t ⊎ (IsEither beta p t → ⊥) → IsEither beta p j ⊎ (IsEither beta p j → ⊥) → N (inverse beta t) (N j x) ≡ N (inverse beta j) (N t x)
      at (inl e) r = square_at t j x e far
      at (inr m) (inl e) = sym (square_at j t x e (IsDistant-turned beta t j far))
      at (inr m) (inr l) = square_off t j x m l far

  pub walked_laws : Laws beta N
  walked_laws = record { nil = b.nothing; back = back; apart = apart; square = square }
