-- A cell of new darts can be removed, and its removal gives all links back.
use Rattle.std.proofs.Common.{ℕ, zero, suc, ◌≡◌, ◌≢◌, refl, sym, ap, inl, inr, ⊎_elim, ◌∙◌, arith}
use Rattle.map_defs.specs.Kind.{Kind, alpha, beta, inverse, IsDistant}
use Rattle.map_defs.specs.Links.{Links}
use Rattle.map_defs.specs.Laws.{Laws}
use Rattle.map_defs.specs.Cells.{InCell}
use Rattle.map_defs.specs.Births.{IsFresh}
use Rattle.map_defs.specs.Walks.{Walk, stop, go, step}
use Rattle.map_defs.specs.Removal.{CommutesAt, IsBridged}
use Rattle.map_defs.specs.Insertion.{IsInsertable, IsInserted}
use Rattle.link_laws.proofs.Basics.{by_cases, same_or_not}
use Rattle.link_laws.proofs.LawFacts.{alike}
use Rattle.remove_laws.proofs.TotalSteps.{step_free, step_there}
use Rattle.insert_laws.proofs.Fresh.{IsNew, fresh_link, fresh_old, fresh_none}
use Rattle.insert_laws.proofs.InsertAny.{inserted_old, inserted_outside, inserted_nil}
use Rattle.link_laws.proofs.CellOf.{RunsAlongAll}
use Rattle.back_laws.proofs.Grown.{GrowsFrom, cell_new, cell_all}

-- the steps of two distant links that are their own inverses commute
pub steps_commute : (k : Kind) (L : Links) → Laws k L → (a b x : ℕ) → inverse k a ≡ a → inverse k b ≡ b → IsDistant k a b → step L a (step L b x) ≡ step L b (step L a x)
steps_commute k L w a b x own_a own_b far =
    let q : L (inverse k a) (L b x) ≡ L (inverse k b) (L a x) = w.square a b x far in
    let q' : L a (L b x) ≡ L b (L a x) = cc in
    ⊎_elim
    (λ (za : L a x ≡ 0). ⊎_elim
    (λ (zb : L b x ≡ 0). let c : step L a x ≡ x = step_free L a x za in let d : step L b x ≡ x = step_free L b x zb in cc)
    (λ (nb : L b x ≢ 0).
    let c : step L a x ≡ x = step_free L a x za in
    let d : step L b x ≡ L b x = step_there L b x nb in
    let e : step L a (L b x) ≡ L b x = step_free L a (L b x) (cc (w.nil b)) in cc)
    (same_or_not (L b x) 0))
    (λ (na : L a x ≢ 0). ⊎_elim
    (λ (zb : L b x ≡ 0).
    let c : step L a x ≡ L a x = step_there L a x na in
    let d : step L b x ≡ x = step_free L b x zb in
    let e : step L b (L a x) ≡ L a x = step_free L b (L a x) (cc (w.nil a)) in cc)
    (λ (nb : L b x ≢ 0).
    let c : step L a x ≡ L a x = step_there L a x na in
    let d : step L b x ≡ L b x = step_there L b x nb in
    let g : L (inverse k b) (L a x) ≢ 0 = λ o. nb ((alike k L w a b x far na).1 o) in
    let h : L a (L b x) ≢ 0 = λ o. g (sym q ∙ (ap (λ t. L t (L b x)) own_a ∙ o)) in
    let e : step L a (L b x) ≡ L a (L b x) = step_there L a (L b x) h in
    let f : step L b (L a x) ≡ L b (L a x) = step_there L b (L a x) (λ o. h (q' ∙ o)) in cc)
    (same_or_not (L b x) 0))
    (same_or_not (L a x) 0)

-- the link two places on is distant from a link that is its own inverse, and its own inverse
two_on : (k : Kind) (i : ℕ) → inverse k i ≡ i → (inverse k (suc (suc i)) ≡ suc (suc i)) × IsDistant k i (suc (suc i))
unfolding IsDistant
two_on alpha i own = (refl, inl (omega arith))
two_on beta zero own = absurd (omega arith)
two_on beta (suc i) own = (refl, inl (omega arith))

module _ (k : Kind) (i : ℕ) (K : ℕ → Type 0) (P : ℕ → ℕ → ℕ → Type 0) (star : ℕ → ℕ) (L : Links) (w : Laws k L) (can : IsInsertable k i K P L) (fresh : IsFresh L K star) (runs : RunsAlongAll k i) (N : Links) (s : IsInserted k i K P star L N) (b : ℕ) (hb : K b) (grows : GrowsFrom k i K P L b) (x0 : ℕ) (h0 : K x0) where
  C : ℕ → Type 0
  C = InCell k N i (star x0)

  pub old_outside : (x : ℕ) → (IsNew K star x → ⊥) → InCell k N i (star x0) x → ⊥
  old_outside x n c = cell_new k i K P star L w can fresh runs N s (star x0) x (x0, h0, refl) c n

  pub new_inside : (x : ℕ) → K x → InCell k N i (star x0) (star x)
  new_inside x h = cell_all k i K P star L w can fresh runs N s b x0 x grows hb h0 h

  -- a step from a new dart is a step from the dart that it is made of
  star_step : (t u x : ℕ) → K x → N t (star x) ≡ star (L u x) → (L u x ≢ 0 → K (L u x)) → step N t (star x) ≡ star (step L u x)
  star_step t u x h e to = ⊎_elim
      (λ (z : L u x ≡ 0).
      let a : step L u x ≡ x = step_free L u x z in
      let c : step N t (star x) ≡ star x = step_free N t (star x) (e ∙ (ap star z ∙ fresh.nothing)) in cc)
      (λ (n : L u x ≢ 0).
      let a : step L u x ≡ L u x = step_there L u x n in
      let c : step N t (star x) ≡ N t (star x) = step_there N t (star x) (λ o. fresh.dart (L u x) (to n) (sym e ∙ o)) in cc)
      (same_or_not (L u x) 0)

  step_in : (u x : ℕ) → K x → (L u x ≢ 0 → K (L u x)) → K (step L u x)
  step_in u x h to = ⊎_elim
      (λ (z : L u x ≡ 0). rw (step_free L u x z) h)
      (λ (n : L u x ≢ 0). rw (step_there L u x n) (to n))
      (same_or_not (L u x) 0)

  own_to : (x : ℕ) → K x → L i x ≢ 0 → K (L i x)
  own_to x h n = can.carried x i h (inl refl) n

  two_to : (x : ℕ) → K x → L (suc (suc i)) x ≢ 0 → K (L (suc (suc i)) x)
  two_to x h n = can.carried x (suc (suc i)) h (inr (two_on k i can.own).1) n

  next_step : (x : ℕ) → K x → step N (suc i) (star x) ≡ star (step L i x)
  next_step x h = star_step (suc i) i x h (s.beyond x h) (own_to x h)

  two_step : (x : ℕ) → K x → step N (suc (suc i)) (star x) ≡ star (step L (suc (suc i)) x)
  two_step x h =
      let q : (inverse k (suc (suc i)) ≡ suc (suc i)) × IsDistant k i (suc (suc i)) = two_on k i can.own in
      star_step (suc (suc i)) (suc (suc i)) x h (s.along x (suc (suc i)) h q.1 ∙ ap (λ t. star (L t x)) q.0) (two_to x h)

  commutes_star : (x : ℕ) → K x → CommutesAt N (suc i) (suc (suc i)) (star x)
  commutes_star x h =
      let q : (inverse k (suc (suc i)) ≡ suc (suc i)) × IsDistant k i (suc (suc i)) = two_on k i can.own in
      let a : step N (suc (suc i)) (star x) ≡ star (step L (suc (suc i)) x) = two_step x h in
      let c : step N (suc i) (star x) ≡ star (step L i x) = next_step x h in
      let d : step N (suc i) (star (step L (suc (suc i)) x)) ≡ star (step L i (step L (suc (suc i)) x)) = next_step (step L (suc (suc i)) x) (step_in (suc (suc i)) x h (two_to x h)) in
      let e : step N (suc (suc i)) (star (step L i x)) ≡ star (step L (suc (suc i)) (step L i x)) = two_step (step L i x) (step_in i x h (own_to x h)) in
      let f : step L i (step L (suc (suc i)) x) ≡ step L (suc (suc i)) (step L i x) = steps_commute k L w i (suc (suc i)) x can.own q.0 q.1 in cc

  -- each dart of the cell meets the condition of its removal
  pub commutes_new : (x : ℕ) → InCell k N i (star x0) x → CommutesAt N (suc i) (suc (suc i)) x
  commutes_new x c = by_cases (IsNew K star x) (step N (suc i) (step N (suc (suc i)) x)) (step N (suc (suc i)) (step N (suc i) x))
      (λ v. rw v.2 (commutes_star v.0 v.1))
      (λ n. absurd (old_outside x n c))

  old_dart : (x : ℕ) → K x → InCell k N i (star x0) x → ⊥
  old_dart x h = old_outside x (fresh_old k L w K star fresh x h)

  -- a dart of K and a new dart, or none
  down : (u : ℕ) → (u ≢ 0 → K u) → N i (star u) ≡ u
  down u to = ⊎_elim
      (λ (o : u ≡ 0). let a : N i 0 ≡ 0 = inserted_nil k i K P star L w can fresh N s i in cc (fresh.nothing))
      (λ (n : u ≢ 0). s.old u (to n))
      (same_or_not u 0)

  -- the walk from a dart of K across the cell: to its old link, in steps or in links
  step_across : (x : ℕ) → K x → step N i (step N (suc i) (star x)) ≡ step L i x
  step_across x h =
      let z : ℕ = step L i x in
      let hz : K z = step_in i x h (own_to x h) in
      let a : step N (suc i) (star x) ≡ star z = next_step x h in
      let c : N i (star z) ≡ z = s.old z hz in
      let d : step N i (star z) ≡ N i (star z) = step_there N i (star z) (λ o. can.dart z hz (sym c ∙ o)) in cc

  link_across : (x : ℕ) → K x → N i (N (suc i) (star x)) ≡ L i x
  link_across x h = let a : N (suc i) (star x) ≡ star (L i x) = s.beyond x h in let c : N i (star (L i x)) ≡ L i x = down (L i x) (own_to x h) in cc

  not_in : (x : ℕ) → (x ≢ 0 → K x) → InCell k N i (star x0) x → ⊥
  not_in x to = ⊎_elim
      (λ (o : x ≡ 0). old_outside x (rw o (fresh_none k L w K star fresh)))
      (λ (n : x ≢ 0). old_dart x (to n))
      (same_or_not x 0)

  pub walk_steps : (x : ℕ) → K x → Walk (InCell k N i (star x0)) (λ c. step N i (step N (suc i) c)) (N i x) (step L i x)
  walk_steps x h =
      let e : step N i (step N (suc i) (star x)) ≡ step L i x = step_across x h in
      let t : Walk (InCell k N i (star x0)) (λ c. step N i (step N (suc i) c)) (step L i x) (step L i x) = stop (old_dart (step L i x) (step_in i x h (own_to x h))) in
      let u : Walk (InCell k N i (star x0)) (λ c. step N i (step N (suc i) c)) (step N i (step N (suc i) (star x))) (step L i x) = rw e t in
      rw (s.new x h) (go (new_inside x h) u)

  pub walk_links : (x : ℕ) → K x → Walk (InCell k N i (star x0)) (λ c. N i (N (suc i) c)) (N i x) (L i x)
  walk_links x h =
      let e : N i (N (suc i) (star x)) ≡ L i x = link_across x h in
      let t : Walk (InCell k N i (star x0)) (λ c. N i (N (suc i) c)) (L i x) (L i x) = stop (not_in (L i x) (own_to x h)) in
      let u : Walk (InCell k N i (star x0)) (λ c. N i (N (suc i) c)) (N i (N (suc i) (star x))) (L i x) = rw e t in
      rw (s.new x h) (go (new_inside x h) u)

  pub walk_stops : (Step : ℕ → ℕ) (x : ℕ) → (IsNew K star x → ⊥) → (K x → ⊥) → Walk (InCell k N i (star x0)) Step (N i x) (L i x)
  walk_stops Step x n m =
      let t : Walk (InCell k N i (star x0)) Step (L i x) (L i x) = stop (old_outside (L i x) (fresh_link k L w K star fresh i x)) in
      rw (inserted_outside k i K P star L w can fresh N s i x n m) t

  -- the links after the removal, but link i
  module _ (Step : ℕ → ℕ) (M : Links) (r : IsBridged k i (InCell k N i (star x0)) Step N M) where
    pub gone_back : (t x : ℕ) → K x → M t (star x) ≡ L t (star x)
    gone_back t x h = r.gone (star x) t (new_inside x h) ∙ sym (fresh.unlinked t x h)

    pub kept_back : (t x : ℕ) → (IsNew K star x → ⊥) → t ≢ i → M t x ≡ L t x
    kept_back t x n o = r.kept x t (old_outside x n) o (λ e. o (e ∙ can.own)) ∙ inserted_old k i K P star L w can fresh N s t x n o
