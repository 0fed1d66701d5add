-- The links of a combinatorial map without a vertex, and that they obey the laws.
use Rattle.std.proofs.Common.{◌≡◌, ◌≢◌, ◌⊎◌, ◌≤◌, ℕ, zero, suc, inl, inr, refl, sym, ap, subst, ◌∙◌, arith}
use Rattle.map_defs.specs.Kind.{beta, inverse, IsDistant}
use Rattle.map_defs.specs.Links.{Links}
use Rattle.map_defs.specs.Laws.{Laws}
use Rattle.map_defs.specs.Walks.{Walk, stop, go}
use Rattle.map_defs.specs.Removal.{RunsTo, IsSmoothed}
use Rattle.link_laws.proofs.Basics.{same_or_not, by_cases, stable, inverse_own, distant_zero, distant_zero_is, distant_one_is, IsDistant-turned}
use Rattle.link_laws.proofs.LawFacts.{link_one}
use Rattle.link_laws.proofs.Walking.{by_not_not, walk_outside, leaves}
use Rattle.remove_laws.proofs.Smoothed.{CanBeSmoothed, own, free_on, free_back, beyond, beyond_out, run_ends}

module _ (made : ℕ) (C : ℕ → Type 0) (L N : Links) (c : CanBeSmoothed made C L) (b : IsSmoothed C L N)
    (apart_runs : (j x y : ℕ) → 2 ≤ j → x ≢ 0 → (C x → ⊥) → RunsTo L C x y → L j y ≢ x) where
  -- what is said of the new links of a remaining dart may be proved of the end of its run
  by_run : (x : ℕ) → (C x → ⊥) → (l r : ℕ) → ((y : ℕ) → RunsTo L C x y → l ≡ r) → l ≡ r
  by_run x n l r f = by_not_not ((y : ℕ) × RunsTo L C x y) l r (λ never. run_ends made C L c x n (λ y w. never (y, w))) (λ w. f w.0 w.1)

  own_at : (j x : ℕ) → 2 ≤ j → L j x ≢ 0 → L j (L j x) ≡ x
  own_at = own made C L c

  dart_at : (t x : ℕ) → N t x ≢ 0 → x ≢ 0
  dart_at t x h e = h (cc (e, b.nothing t))

  back_high : (t x : ℕ) → 2 ≤ t → N t x ≢ 0 → N t (N t x) ≡ x
  back_high t x h k = by_cases (C x) _ _ (λ g. absurd (k (b.gone x t g))) (λ n. by_run x n _ _ (λ y r. at n y r))
    where
      at : (C x → ⊥) → (y : ℕ) → RunsTo L C x y → N t (N t x) ≡ x
      at n y r =
          let is : N t x ≡ L t y = b.lands x y t n (omega arith) r in
          let far : L t y ≢ 0 = λ z. k (is ∙ z) in
          let near : L t x ≢ 0 = λ z. far (free_on made C L c t h r z) in
          cc (is, b.lands (L t y) (L t x) t (beyond_out made C L c t x y h r far) (omega arith) (beyond made C L c t x y h n r near), own_at t x h near)

  back : (t x : ℕ) → N t x ≢ 0 → N (inverse beta t) (N t x) ≡ x
  back zero x h = (b.turned.back (N 0 x) x h (dart_at 0 x h)).1 refl
  back (suc zero) x h = (b.turned.back x (N 1 x) (dart_at 1 x h) h).0 refl
  back (suc (suc t)) x h = back_high (suc (suc t)) x (omega arith) h

  apart : (t x : ℕ) → inverse beta t ≡ t → x ≢ 0 → N t x ≢ x
  apart zero x e m f = absurd (omega arith)
  apart (suc zero) x e m f = absurd (omega arith)
  apart (suc (suc t)) x e m f = no (λ g. m (cc (b.gone x (suc (suc t)) g, f))) (λ n. run_ends made C L c x n (λ y r. apart_runs (suc (suc t)) x y (omega arith) m n r (sym (b.lands x y (suc (suc t)) n (omega arith) r) ∙ f)))
    where
      no : (C x → ⊥) → ((C x → ⊥) → ⊥) → ⊥
      no f g = g f

  -- after a new link from 2 upwards the new links are the old ones after the old link
  after_high : (t j x : ℕ) → 1 ≤ t → 2 ≤ j → (C x → ⊥) → N t (N j x) ≡ L t (L j x)
  after_high t j x ht hj n = by_run x n _ _ (λ y r. at y r (same_or_not (L j x) 0))
    where
      at : (y : ℕ) → RunsTo L C x y → (L j x ≡ 0) ⊎ (L j x ≢ 0) → N t (N j x) ≡ L t (L j x)
      at y r (inl e) = cc (b.lands x y j n (omega arith) r, free_on made C L c j hj r e, e, b.nothing t, c.laws.nil t)
      at y r (inr m) = cc (b.lands x y j n (omega arith) r, b.lands (L j y) (L j x) t (beyond_out made C L c j x y hj r (λ z. m (free_back made C L c j hj r z))) ht (beyond made C L c j x y hj n r m))

  -- where a remaining dart had none before it, it has none
  none_before : (x : ℕ) → (C x → ⊥) → x ≢ 0 → L 0 x ≡ 0 → N 0 x ≡ 0
  none_before x n m e = stable _ _ (λ k. run_ends made C L c (N 0 x) (stays k) (λ u r. m (at k u r)))
    where
      leads : N 0 x ≢ 0 → N 1 (N 0 x) ≡ x
      leads k = (b.turned.back (N 0 x) x k m).1 refl

      stays : N 0 x ≢ 0 → C (N 0 x) → ⊥
      stays k h = m (cc (b.gone (N 0 x) 1 h, leads k))

      at : N 0 x ≢ 0 → (u : ℕ) → RunsTo L C (N 0 x) u → x ≡ 0
      at k u r =
          let is : L 1 u ≡ x = sym (b.lands (N 0 x) u 1 (stays k) (omega arith) r) ∙ leads k in
          let b1 : L 0 (L 1 u) ≡ u = c.laws.back 1 u (λ z. m (sym is ∙ z)) in
          cc (is, b1, e, c.laws.nil 1)

  -- the run that ends at v, found by going back through C
  back_run : {x w : ℕ} → (z : ℕ) → Walk C (L 0) x w → RunsTo L C x z → RunsTo L C w z
  back_run z (stop n) r = r
  back_run {x = x} z (go h v) r = back_run z v (go (subst C (sym is) h) (subst (λ s. RunsTo L C s z) (sym is) r))
    where
      is : L 1 (L 0 x) ≡ x
      is = c.laws.back 0 x (c.flat x h).0

  back_there : {x w : ℕ} → Walk C (L 0) x w → x ≢ 0 → w ≢ 0
  back_there (stop n) m = m
  back_there {x = x} (go h v) m = back_there v (c.flat x h).0

  -- link j from 2 upwards of the new dart before x is that of the old dart before it
  high_before : (j x : ℕ) → 2 ≤ j → (C x → ⊥) → N j (N 0 x) ≡ L j (L 0 x)
  high_before j x h n = at (same_or_not x 0) (same_or_not (L 0 x) 0)
    where
      led : L 0 x ≢ 0 → L 1 (L 0 x) ≡ x
      led m = c.laws.back 0 x m

      found_back : x ≢ 0 → L 0 x ≢ 0 → (w : ℕ) → Walk C (L 0) (L 0 x) w → N j (N 0 x) ≡ L j (L 0 x)
      found_back k m w v =
          let out : C w → ⊥ = walk_outside v in
          let run : RunsTo L C w (L 0 x) = back_run (L 0 x) v (stop (λ g. n (subst C (led m) g))) in
          let there : w ≢ 0 = back_there v m in
          let onward : N 1 w ≡ x = b.lands w (L 0 x) 1 out (omega arith) run ∙ led m in
          cc ((b.turned.back w x there k).0 onward, b.lands w (L 0 x) j out (omega arith) run)

      ends_back : L 0 x ≢ 0 → ((w : ℕ) → Walk C (L 0) (L 0 x) w → ⊥) → ⊥
      ends_back m = leaves C (L 0) made (L 0 x) c.bounded (λ y z p q r e. link_one beta L c.laws 0 y z (c.flat y p).0 e) (λ y g e. n (subst C (link_one beta L c.laws 0 y x (c.flat y g).0 e) g))

      at : (x ≡ 0) ⊎ (x ≢ 0) → (L 0 x ≡ 0) ⊎ (L 0 x ≢ 0) → N j (N 0 x) ≡ L j (L 0 x)
      at (inl e) r = cc (e, b.nothing 0, b.nothing j, c.laws.nil 0, c.laws.nil j)
      at (inr k) (inl e) = cc (none_before x n k e, e, b.nothing j, c.laws.nil j)
      at (inr k) (inr m) = by_not_not ((w : ℕ) × Walk C (L 0) (L 0 x) w) _ _ (λ never. ends_back m (λ w v. never (w, v))) (λ v. found_back k m v.0 v.1)

  square_high : (t j x : ℕ) → 2 ≤ t → 2 ≤ j → IsDistant beta t j → N t (N j x) ≡ N j (N t x)
  square_high t j x ht hj far = by_cases (C x) _ _ (λ h. cc (b.gone x t h, b.gone x j h, b.nothing t, b.nothing j)) (λ n.
      let e = after_high t j x (omega arith) hj n in
      let f = after_high j t x (omega arith) ht n in
      let q = c.laws.square t j x far in
      cc (e, f, q, ap (λ s. L s (L j x)) (inverse_own beta t ht), ap (λ s. L s (L t x)) (inverse_own beta j hj)))

  -- the squares of link j with links 0 and 1
  square_zero : (j x : ℕ) → 3 ≤ j → IsDistant beta 0 j → N 1 (N j x) ≡ N j (N 0 x)
  square_zero j x h far = by_cases (C x) _ _ (λ g. cc (b.gone x 0 g, b.gone x j g, b.nothing 1, b.nothing j)) (λ n.
      let e = after_high 1 j x (omega arith) (omega arith) n in
      let f = high_before j x (omega arith) n in
      let q = c.laws.square 0 j x far in
      cc (e, f, q, ap (λ s. L s (L 0 x)) (inverse_own beta j (omega arith))))

  free_after_one : (j x : ℕ) → 3 ≤ j → IsDistant beta 1 j → (C x → ⊥) → N j x ≡ 0 → N j (N 1 x) ≡ 0
  free_after_one j x h far n z = by_run x n _ _ (λ y r. at y r (b.lands x y 1 n (omega arith) r) (b.lands x y j n (omega arith) r))
    where
      at : (y : ℕ) → RunsTo L C x y → N 1 x ≡ L 1 y → N j x ≡ L j y → N j (N 1 x) ≡ 0
      at y r e f =
          let q = c.laws.square 1 j y far in
          let u_free : L j (L 1 y) ≡ 0 = cc (q, f, z, c.laws.nil 0, ap (λ s. L s (L 1 y)) (inverse_own beta j (omega arith))) in
          by_run (L 1 y) (walk_outside r) _ _ (λ v s. cc (e, b.lands (L 1 y) v j (walk_outside r) (omega arith) s, free_on made C L c j (omega arith) s u_free))

  -- the new dart before the one beyond link j, where there is none after x
  none_beyond : (j x : ℕ) → 3 ≤ j → IsDistant beta 1 j → (C x → ⊥) → N j x ≢ 0 → N 1 x ≡ 0 → N 0 (N j x) ≡ 0
  none_beyond j x h far n k e = stable _ _ (λ m. at m (same_or_not (L 0 (N j x)) 0))
    where
      back_x : N j (N j x) ≡ x
      back_x = back_high j x (omega arith) k

      x_there : x ≢ 0
      x_there = dart_at j x k

      out : C (N j x) → ⊥
      out g = x_there (cc (back_x, b.gone (N j x) j g))

      before_free : N j (N 0 (N j x)) ≡ 0
      before_free = sym (square_zero j (N j x) h (distant_zero j h)) ∙ (ap (N 1) back_x ∙ e)

      at : N 0 (N j x) ≢ 0 → (L 0 (N j x) ≡ 0) ⊎ (L 0 (N j x) ≢ 0) → ⊥
      at m (inl z) = m (none_before (N j x) out k z)
      at m (inr l) =
          let q = c.laws.square 1 j (L 0 (N j x)) far in
          let old_free : L j (L 0 (N j x)) ≡ 0 = sym (high_before j (N j x) (omega arith) out) ∙ before_free in
          let led : L 1 (L 0 (N j x)) ≡ N j x = c.laws.back 0 (N j x) l in
          let free : L j (N j x) ≡ 0 = cc (q, old_free, led, c.laws.nil 0, ap (λ s. L s (L 1 (L 0 (N j x)))) (inverse_own beta j (omega arith))) in
          run_ends made C L c (N j x) out (λ u r. x_there (cc (back_x, b.lands (N j x) u j out (omega arith) r, free_on made C L c j (omega arith) r free)))

  square_one : (j x : ℕ) → 3 ≤ j → IsDistant beta 1 j → N 0 (N j x) ≡ N j (N 1 x)
  square_one j x h far = by_cases (C x) _ _ (λ g. cc (b.gone x 1 g, b.gone x j g, b.nothing 0, b.nothing j)) (λ n. at n (same_or_not (N j x) 0) (same_or_not (N 1 x) 0))
    where
      at : (C x → ⊥) → (N j x ≡ 0) ⊎ (N j x ≢ 0) → (N 1 x ≡ 0) ⊎ (N 1 x ≢ 0) → N 0 (N j x) ≡ N j (N 1 x)
      at n (inl z) r = cc (z, b.nothing 0, free_after_one j x h far n z)
      at n (inr k) (inl e) = cc (none_beyond j x h far n k e, e, b.nothing j)
      at n (inr k) (inr m) =
          let s = square_zero j (N j x) h (distant_zero j h) in
          let f = back_high j x (omega arith) k in
          let g : N j (N 0 (N j x)) ≡ N 1 x = cc (s, f) in
          cc (g, back_high j (N 0 (N j x)) (omega arith) (λ z. m (cc (g, z))))

  square : (t j x : ℕ) → IsDistant beta t j → N (inverse beta t) (N j x) ≡ N (inverse beta j) (N t x)
  square zero j x far = square_zero j x (distant_zero_is j far) far ∙ ap (λ s. N s (N 0 x)) (sym (inverse_own beta j (omega (arith, distant_zero_is j far))))
  square (suc zero) j x far = square_one j x (distant_one_is j far) far ∙ ap (λ s. N s (N 1 x)) (sym (inverse_own beta j (omega (arith, distant_one_is j far))))
  square (suc (suc t)) zero x far =
      let h = IsDistant-turned beta (suc (suc t)) 0 far in
      sym (square_zero (suc (suc t)) x (distant_zero_is (suc (suc t)) h) h)
  square (suc (suc t)) (suc zero) x far =
      let h = IsDistant-turned beta (suc (suc t)) 1 far in
      sym (square_one (suc (suc t)) x (distant_one_is (suc (suc t)) h) h)
  square (suc (suc t)) (suc (suc j)) x far = square_high (suc (suc t)) (suc (suc j)) x (omega arith) (omega arith) far

  pub smoothed_laws : Laws beta N
  smoothed_laws = record { nil = b.nothing; back = back; apart = apart; square = square }
