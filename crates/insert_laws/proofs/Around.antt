-- Around a boundary: from one free dart to the next.
use Rattle.std.proofs.Common.{ℕ, zero, suc, ◌≡◌, ◌≢◌, refl, sym, ap, subst, ⊎_elim, ◌∙◌}
use Rattle.map_defs.specs.Kind.{Kind, inverse, IsDistant}
use Rattle.map_defs.specs.Links.{Links, IsMadeUpTo, LeadsToLive}
use Rattle.map_defs.specs.Laws.{Laws}
use Rattle.map_defs.specs.Walks.{Walk, stop, go}
use Rattle.map_defs.specs.Closing.{IsAround}
use Rattle.link_laws.proofs.Basics.{stable, same_or_not, inverse_twice, IsDistant-turned, IsDistant-inverse_left, IsDistant-inverse_right}
use Rattle.link_laws.proofs.LawFacts.{link_one, alike}
use Rattle.link_laws.proofs.Walking.{leaves, walk_outside}

-- an even number of steps
double : ℕ → ℕ
double zero = zero
double (suc n) = suc (suc (double n))

-- n steps along link a and link b in turn
alternate : Links → ℕ → ℕ → ℕ → ℕ → ℕ
alternate L a b zero z = z
alternate L a b (suc n) z = alternate L b a n (L a z)

alternate_last : (L : Links) (a b n z : ℕ) → alternate L a b (suc (double n)) z ≡ L a (alternate L a b (double n) z)
unfolding double alternate
alternate_last L a b zero z = refl
alternate_last L a b (suc n) z = alternate_last L a b n (L b (L a z))

-- no odd number of steps leads back
alternate_moves : (k : Kind) (L : Links) → Laws k L → (a b n z : ℕ) → inverse k a ≡ a → inverse k b ≡ b → z ≢ 0 → alternate L a b (suc (double n)) z ≢ z
unfolding double alternate
alternate_moves k L w a b zero z own_a own_b hz e = w.apart a z own_a hz e
alternate_moves k L w a b (suc n) z own_a own_b hz e =
    let v : ℕ = alternate L a b (double (suc n)) z in
    let f : L a v ≡ z = sym (alternate_last L a b (suc n) z) ∙ e in
    let g : L (inverse k a) (L a v) ≡ v = w.back a v (λ o. hz (sym f ∙ o)) in
    let h : L a z ≡ v = cc in
    alternate_moves k L w b a n (L a z) own_b own_a (λ o. hz (sym f ∙ (ap (L a) (sym h ∙ o) ∙ w.nil a))) (sym h)

module _ (k : Kind) (L : Links) (w : Laws k L) (i : ℕ) (own : inverse k i ≡ i) (t : ℕ) where
  C : ℕ → Type 0
  C c = L i c ≢ 0

  step_on : ℕ → ℕ
  step_on c = L (inverse k t) (L i c)

  step_back : ℕ → ℕ
  step_back c = L (inverse k (inverse k t)) (L i c)

  -- a walk from none ends at none
  none_stays : (c y : ℕ) → Walk C step_on c y → c ≡ 0 → y ≡ 0
  unfolding C step_on
  none_stays c y (stop n) o = o
  none_stays c y (go h p) o = absurd (h (ap (L i) o ∙ w.nil i))

  -- the walk ends where link i is free
  pub around_free : (x y : ℕ) → IsAround k i t L x y → L i y ≡ 0
  around_free x y p = stable (L i y) 0 (λ n. walk_outside p n)

  ends_live : (Live : ℕ → Type 0) → LeadsToLive Live L → (u c y : ℕ) → Walk C step_on c y → c ≡ L (inverse k t) u → y ≢ 0 → Live y
  unfolding C step_on
  ends_live Live live u c y (stop n) e hy = rw e (live (inverse k t) u (λ o. hy (e ∙ o)))
  ends_live Live live u c y (go h p) e hy = ends_live Live live (L i c) (step_on c) y p refl hy

  pub around_live : (Live : ℕ → Type 0) → LeadsToLive Live L → (x y : ℕ) → IsAround k i t L x y → y ≢ 0 → Live y
  unfolding C step_on
  around_live Live live x y p hy = ends_live Live live x (L (inverse k t) x) y p refl hy

  -- where link t's inverse is nowhere free, the walk meets no free link
  meets_live : (Live : ℕ → Type 0) → LeadsToLive Live L → ((x : ℕ) → Live x → L (inverse k t) x ≢ 0) → (c y : ℕ) → Walk C step_on c y → c ≢ 0 → y ≢ 0
  unfolding C step_on
  meets_live Live live full c y (stop n) hc = hc
  meets_live Live live full c y (go h p) hc = meets_live Live live full (step_on c) y p (full (L i c) (live i c h))

  pub around_dart : (Live : ℕ → Type 0) → LeadsToLive Live L → ((x : ℕ) → Live x → L (inverse k t) x ≢ 0) → (x y : ℕ) → Live x → IsAround k i t L x y → y ≢ 0
  unfolding C step_on
  around_dart Live live full x y hx p = meets_live Live live full (L (inverse k t) x) y p (full x hx)

  ap_walk : {c d x : ℕ} → Walk C step_back c x → c ≡ d → Walk C step_back d x
  ap_walk {x = x} q e = subst (λ c. Walk C step_back c x) e q

  -- the walk leads back the other way
  walk_back : (x c y : ℕ) → Walk C step_on c y → y ≢ 0 → Walk C step_back (L (inverse k (inverse k t)) c) x → Walk C step_back (L (inverse k (inverse k t)) y) x
  unfolding C step_on step_back
  walk_back x c y (stop n) hy q = q
  walk_back x c y (go h p) hy q =
      let c' : ℕ = L (inverse k t) (L i c) in
      let hc' : c' ≢ 0 = λ o. hy (none_stays c' y p o) in
      let b : L (inverse k (inverse k t)) c' ≡ L i c = w.back (inverse k t) (L i c) hc' in
      let g : L i (L i c) ≡ c = cc (own, w.back i c h) in
      let hc : C (L i c) = λ o. h (ap (L i) (sym g ∙ o) ∙ w.nil i) in
      let r : Walk C step_back (step_back (L i c)) x = ap_walk q (ap (L (inverse k (inverse k t))) (sym g)) in
      walk_back x c' y p hy (rw b (go hc r))

  pub around_back : (x y : ℕ) → L i x ≡ 0 → y ≢ 0 → IsAround k i t L x y → IsAround k i (inverse k t) L y x
  unfolding C step_on step_back
  around_back x y z hy p =
      let n : L (inverse k t) x ≢ 0 = λ o. hy (none_stays (L (inverse k t) x) y p o) in
      let b : L (inverse k (inverse k t)) (L (inverse k t) x) ≡ x = w.back (inverse k t) x n in
      walk_back x (L (inverse k t) x) y p hy (rw b (stop (λ h. h z)))

  -- and where link t is its own inverse it does not lead back to its begin
  alternates : (c y : ℕ) → Walk C step_on c y → (n : ℕ) × (y ≡ alternate L i (inverse k t) (double n) c)
  unfolding C step_on double alternate
  alternates c y (stop n) = (0, refl)
  alternates c y (go h p) = let q : (n : ℕ) × (y ≡ alternate L i (inverse k t) (double n) (step_on c)) = alternates (step_on c) y p in (suc q.0, q.1)

  pub around_moves : (x y : ℕ) → x ≢ 0 → inverse k t ≡ t → IsAround k i t L x y → x ≢ y
  unfolding C step_on alternate
  around_moves x y hx own_t p e =
      let q : (n : ℕ) × (y ≡ alternate L i (inverse k t) (double n) (L (inverse k t) x)) = alternates (L (inverse k t) x) y p in
      alternate_moves k L w (inverse k t) i q.0 x (ap (inverse k) own_t) own hx (sym q.1 ∙ sym e)

  -- the walk has its mirror beyond each link distant from both
  mirror : (j c y : ℕ) → IsDistant k i j → IsDistant k t j → Walk C step_on c y → Walk C step_back (L (inverse k j) c) (L (inverse k j) y)
  unfolding C step_on step_back
  mirror j c y fi ft (stop n) = stop (λ h. n (λ o. h (
      let a : L (inverse k i) (L (inverse k j) y) ≡ L (inverse k (inverse k j)) (L i y) = w.square i (inverse k j) y (IsDistant-inverse_right k i j fi) in
      cc (own, w.nil (inverse k (inverse k j))))))
  mirror j c y fi ft (go h p) =
      let a : L (inverse k i) (L (inverse k j) c) ≡ L (inverse k (inverse k j)) (L i c) = w.square i (inverse k j) c (IsDistant-inverse_right k i j fi) in
      let a' : L i (L (inverse k j) c) ≡ L j (L i c) = cc (own, inverse_twice k j) in
      let b : L (inverse k (inverse k t)) (L j (L i c)) ≡ L (inverse k j) (step_on c) = w.square (inverse k t) j (L i c) (IsDistant-inverse_left k t j ft) in
      let e : step_back (L (inverse k j) c) ≡ L (inverse k j) (step_on c) = ap (L (inverse k (inverse k t))) a' ∙ b in
      let q : Walk C step_back (L (inverse k j) (step_on c)) (L (inverse k j) y) = mirror j (step_on c) y fi ft p in
      ⊎_elim
      (λ (z : L (inverse k j) c ≡ 0).
      let r : L (inverse k j) (step_on c) ≡ L (inverse k j) c = sym e ∙ (ap step_back z ∙ (ap (L (inverse k (inverse k t))) (w.nil i) ∙ (w.nil (inverse k (inverse k t)) ∙ sym z))) in
      rw r at q)
      (λ (n : L (inverse k j) c ≢ 0).
      let hc : C (L (inverse k j) c) = λ o. h ((alike k L w (inverse k j) i c (IsDistant-inverse_left k j i (IsDistant-turned k i j fi)) n).1 (cc (own))) in
      go hc (rw e q))
      (same_or_not (L (inverse k j) c) 0)

  pub around_mirror : (j x y : ℕ) → IsDistant k i j → IsDistant k t j → IsAround k i t L x y → IsAround k i (inverse k t) L (L j x) (L (inverse k j) y)
  unfolding C step_on step_back
  around_mirror j x y fi ft p =
      let b : L (inverse k (inverse k t)) (L j x) ≡ L (inverse k j) (L (inverse k t) x) = w.square (inverse k t) j x (IsDistant-inverse_left k t j ft) in
      rw b (mirror j (L (inverse k t) x) y fi ft p)

  -- where link j is free at the one end of a walk, its inverse is free at the other
  pub around_even : (j x y : ℕ) → IsDistant k i j → IsDistant k t j → IsAround k i t L x y → L j x ≡ 0 → L (inverse k j) y ≡ 0
  unfolding C step_on step_back
  around_even j x y fi ft p z =
      let b : L (inverse k (inverse k t)) (L j x) ≡ L (inverse k j) (L (inverse k t) x) = w.square (inverse k t) j x (IsDistant-inverse_left k t j ft) in
      ends_at_none (L (inverse k j) (L (inverse k t) x)) (L (inverse k j) y) (mirror j (L (inverse k t) x) y fi ft p) (sym b ∙ (ap (L (inverse k (inverse k t))) z ∙ w.nil (inverse k (inverse k t))))
    where
      ends_at_none : (c e : ℕ) → Walk C step_back c e → c ≡ 0 → e ≡ 0
      ends_at_none c e (stop n) o = o
      ends_at_none c e (go h q) o = absurd (h (ap (L i) o ∙ w.nil i))

  -- the walk ends, since only the darts up to made have links
  pub around_some : (made x : ℕ) → IsMadeUpTo made L → L i x ≡ 0 → ((y : ℕ) → IsAround k i t L x y → ⊥) → ⊥
  unfolding C step_on
  around_some made x bound z never = ⊎_elim
      (λ (o : L (inverse k t) x ≡ 0). never (L (inverse k t) x) (stop (λ h. h (ap (L i) o ∙ w.nil i))))
      (λ (n : L (inverse k t) x ≢ 0). leaves C step_on made (L (inverse k t) x)
      (λ c h. bound i c h)
      (λ c d hc hd hs e.
      let s0 : step_on c ≢ 0 = λ o. hs (ap (L i) o ∙ w.nil i) in
      link_one k L w i c d hc (link_one k L w (inverse k t) (L i c) (L i d) s0 e))
      (λ c hc e.
      let q : L (inverse k t) x ≡ L (inverse k t) (L i c) = sym e in
      let f : x ≡ L i c = link_one k L w (inverse k t) x (L i c) n q in
      let g : L (inverse k i) (L i c) ≡ c = w.back i c hc in
      hc (ap (L i) (sym g ∙ cc (own)) ∙ w.nil i))
      never)
      (same_or_not (L (inverse k t) x) 0)
