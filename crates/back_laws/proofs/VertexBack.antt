-- Removal at a new dart of a vertex in a combinatorial map is possible and gives all links back.
use Rattle.std.proofs.Common.{ℕ, zero, suc, ◌≡◌, ◌≢◌, ◌≤◌, refl, sym, ap, inl, inr, ⊎_elim, ◌∙◌, arith}
use Rattle.map_defs.specs.Kind.{beta}
use Rattle.map_defs.specs.Links.{Links}
use Rattle.map_defs.specs.Laws.{Laws}
use Rattle.map_defs.specs.LinkWords.{LinkWord, one_link, two_links, through, IsCellWord, inverse_word}
use Rattle.map_defs.specs.Cells.{InOrbit, here, onward, Leads, InCell}
use Rattle.map_defs.specs.Births.{IsFresh}
use Rattle.map_defs.specs.Walks.{stop, go}
use Rattle.map_defs.specs.Removal.{IsFlatAt, RunsTo, IsRemovable, IsRemoved}
use Rattle.map_defs.specs.Insertion.{IsBetaVertex}
use Rattle.link_laws.proofs.Basics.{by_cases, same_or_not, inverse_own}
use Rattle.link_laws.proofs.VertexWords.{IsVertexStep, leave, enter, pass, vertex_word}
use Rattle.link_laws.proofs.Walking.{walk_one}
use Rattle.link_laws.proofs.InverseLinks.{turned_one, turned_of_laws}
use Rattle.link_laws.proofs.Orbits.{orbit_back, orbit_trans}
use Rattle.insert_laws.proofs.Fresh.{IsNew, InOrNone, fresh_link, fresh_zero}
use Rattle.insert_laws.proofs.BetaParts.{back_of, apart_of}
use Rattle.insert_laws.proofs.BetaVertex.{IsEdgeSet, edge_set, on_or_none, out, new_at, first_at, back_new}

-- the words of an edge are the links from 2 upwards, and they lead back
pub high_word : (word : LinkWord) → IsCellWord beta 1 word → (j : ℕ) × (2 ≤ j) × (word ≡ one_link j)
high_word word (inl p) = p
high_word word (inr (v, (j, l, e), g)) = (j, l, g ∙ (ap (inverse_word beta) e ∙ ap one_link (inverse_own beta j l)))

pub edge_word_back : (L : Links) → Laws beta L → (x y : ℕ) → x ≢ 0 → Leads L (IsCellWord beta 1) x y → Leads L (IsCellWord beta 1) y x
edge_word_back L w x y hx (word, c, e, n) =
    let q : (j : ℕ) × (2 ≤ j) × (word ≡ one_link j) = high_word word c in
    let a : L q.0 x ≡ y = ap (λ v. through L v x) (sym q.2) ∙ e in
    (one_link q.0, inl (q.0, q.1, refl), ap (L q.0) (sym a) ∙ back_of L w q.0 x q.1 (λ o. n (sym a ∙ o)), hx)

module _ (L : Links) (w : Laws beta L) (d : ℕ) (hd : d ≢ 0) (star : ℕ → ℕ) (fresh : IsFresh L (InCell beta L 1 d) star) (N : Links) (s : IsBetaVertex d star L N) where
  set : IsEdgeSet L (InCell beta L 1 d)
  set = edge_set L d hd

  high_none : (x j : ℕ) → InOrNone (InCell beta L 1 d) x → 2 ≤ j → InOrNone (InCell beta L 1 d) (L j x)
  high_none = on_or_none L w (InCell beta L 1 d) set star fresh N s

  new_links : (j u : ℕ) → 2 ≤ j → InOrNone (InCell beta L 1 d) u → N j u ≡ star (L j u)
  new_links = new_at L w (InCell beta L 1 d) set star fresh N s

  -- the vertex holds new darts alone
  step_new : (v : LinkWord) → IsVertexStep v → (x : ℕ) → InCell beta L 1 d x → (u : ℕ) × InOrNone (InCell beta L 1 d) u × (through N v (star x) ≡ star u)
  step_new v (leave j l) x h =
      let o : InOrNone (InCell beta L 1 d) (L j x) = high_none x j (inl h) l in
      (L j x, o, ap (N 1) (s.old x j h l) ∙ first_at L w (InCell beta L 1 d) set star fresh N s (L j x) o)
  step_new v (enter j l) x h =
      (L j x, high_none x j (inl h) l, ap (N j) (back_new L w (InCell beta L 1 d) set star fresh N s x (inl h)) ∙ s.new x j h l)
  step_new v (pass i j a b) x h =
      let o : InOrNone (InCell beta L 1 d) (L i x) = high_none x i (inl h) a in
      (L j (L i x), high_none (L i x) j o b, ap (N j) (s.old x i h a) ∙ new_links j (L i x) b o)

  cell_new : (x0 x : ℕ) → InCell beta L 1 d x0 → InCell beta N 0 (star x0) x → IsNew (InCell beta L 1 d) star x
  cell_new x0 x h0 here = (x0, h0, refl)
  cell_new x0 x h0 (onward {x = y} {y = z} o (v, c, e, n)) =
      let q : IsNew (InCell beta L 1 d) star y = cell_new x0 y h0 o in
      let r : (u : ℕ) × InOrNone (InCell beta L 1 d) u × (through N v (star q.0) ≡ star u) = step_new v (vertex_word v c) q.0 q.1 in
      let a : z ≡ star r.0 = sym e ∙ (ap (through N v) q.2 ∙ r.2) in
      (r.0, fresh_zero beta L w (InCell beta L 1 d) star fresh r.0 r.1 (λ t. n (a ∙ t)), a)

  -- and holds them all
  cell_on : (c x j : ℕ) → 2 ≤ j → InCell beta L 1 d x → L j x ≢ 0 → InCell beta N 0 c (star x) → InCell beta N 0 c (star (L j x))
  cell_on c x j l h n o =
      let g : InCell beta L 1 d (L j x) = set.on x j h l n in
      let e : N 1 (N j (star x)) ≡ star (L j x) = ap (N 1) (s.old x j h l) ∙ s.first (L j x) g in
      onward o (two_links j 1, inl (1, j, omega arith, omega arith, refl), e, fresh.dart (L j x) g)

  cell_from : (c x0 x : ℕ) → InCell beta L 1 d x0 → InCell beta N 0 c (star x0) → InOrbit (Leads L (IsCellWord beta 1)) x0 x → InCell beta L 1 d x × InCell beta N 0 c (star x)
  cell_from c x0 x h0 o here = (h0, o)
  cell_from c x0 x h0 o (onward {x = y} {y = z} p (v, cw, e, n)) =
      let r : InCell beta L 1 d y × InCell beta N 0 c (star y) = cell_from c x0 y h0 o p in
      let q : (j : ℕ) × (2 ≤ j) × (v ≡ one_link j) = high_word v cw in
      let a : L q.0 y ≡ z = ap (λ t. through L t y) (sym q.2) ∙ e in
      let m : L q.0 y ≢ 0 = λ t. n (sym a ∙ t) in
      (rw (← a) (set.on y q.0 r.0 q.1 m), rw (← a) (cell_on c y q.0 q.1 r.0 m r.1))

  cell_all : (x0 x : ℕ) → InCell beta L 1 d x0 → InCell beta L 1 d x → InCell beta N 0 (star x0) (star x)
  cell_all x0 x h0 h = (cell_from (star x0) x0 x h0 here
      (orbit_trans (Leads L (IsCellWord beta 1)) x0 d x (orbit_back (Leads L (IsCellWord beta 1)) (λ a b g. g.3) (edge_word_back L w) d x0 hd h0) h)).1

  module _ (x0 : ℕ) (h0 : InCell beta L 1 d x0) where
    C : ℕ → Type 0
    C = InCell beta N 0 (star x0)

    outside : (x : ℕ) → (IsNew (InCell beta L 1 d) star x → ⊥) → InCell beta N 0 (star x0) x → ⊥
    outside x n c = n (cell_new x0 x h0 c)

    old_dart : (x : ℕ) → (InCell beta N 0 (star x0) x → ⊥) → IsNew (InCell beta L 1 d) star x → ⊥
    old_dart x n v = n (rw v.2 (cell_all x0 v.0 h0 v.1))

    -- from a dart of the edge the way runs over its new dart
    run_in : (x : ℕ) → InCell beta L 1 d x → RunsTo N (InCell beta N 0 (star x0)) x (star x)
    run_in x h =
        let e : N 1 x ≡ star x = s.first x h in
        let free : InCell beta N 0 (star x0) (N 1 (star x)) → ⊥ = rw (s.second x h) (outside (L 1 x) (fresh_link beta L w (InCell beta L 1 d) star fresh 1 x)) in
        let t : RunsTo N (InCell beta N 0 (star x0)) (star x) (star x) = stop free in
        let u : RunsTo N (InCell beta N 0 (star x0)) (N 1 x) (star x) = rw e t in
        go (rw e (cell_all x0 x h0 h)) u

    run_out : (x : ℕ) → (IsNew (InCell beta L 1 d) star x → ⊥) → (InCell beta L 1 d x → ⊥) → RunsTo N (InCell beta N 0 (star x0)) x x
    run_out x n m = stop (rw (out L w (InCell beta L 1 d) set star fresh N s 1 x (omega arith) n m) (outside (L 1 x) (fresh_link beta L w (InCell beta L 1 d) star fresh 1 x)))

    -- what a dart's run ends with are its old links
    after_new : (t x : ℕ) → 1 ≤ t → InCell beta L 1 d x → N t (star x) ≡ L t x
    after_new zero x l h = absurd (omega arith)
    after_new (suc zero) x l h = s.second x h
    after_new (suc (suc t)) x l h = s.old x (suc (suc t)) h (omega arith)

    run_links : (t x y : ℕ) → 1 ≤ t → (IsNew (InCell beta L 1 d) star x → ⊥) → RunsTo N (InCell beta N 0 (star x0)) x y → N t y ≡ L t x
    run_links t x y l n r = by_cases (InCell beta L 1 d x) (N t y) (L t x)
        (λ h. ap (N t) (walk_one r (run_in x h)) ∙ after_new t x l h)
        (λ m. ap (N t) (walk_one r (run_out x n m)) ∙ out L w (InCell beta L 1 d) set star fresh N s t x l n m)

    flat : (x : ℕ) → InCell beta L 1 d x → IsFlatAt N (star x)
    flat x h =
        let z : N 0 (star x) ≡ x = back_new L w (InCell beta L 1 d) set star fresh N s x (inl h) in
        let a : N 2 (star x) ≡ L 2 x = s.old x 2 h (omega arith) in
        let b : N 2 x ≡ star (L 2 x) = s.new x 2 h (omega arith) in
        let c : N 2 (N 0 (star x)) ≡ star (L 2 x) = ap (N 2) z ∙ b in (
          (λ o. set.dart x h (sym z ∙ o)),
          ⊎_elim
              (λ (o : L 2 x ≡ 0). inr (a ∙ o, c ∙ (ap star o ∙ fresh.nothing)))
              (λ (n : L 2 x ≢ 0).
              let g : InCell beta L 1 d (L 2 x) = set.on x 2 h (omega arith) n in
              let e : N 1 (N 2 (star x)) ≡ star (L 2 x) = ap (N 1) a ∙ s.first (L 2 x) g in
              inl ((λ o. fresh.dart (L 2 x) g (sym e ∙ o)), e ∙ sym c))
              (same_or_not (L 2 x) 0),
        )

    pub vertex_removable : IsRemovable beta N 0 (star x0)
    vertex_removable = record {
      each = λ b c. let v : IsNew (InCell beta L 1 d) star b = cell_new x0 b h0 c in rw v.2 (flat v.0 v.1);
      apart = λ j x y l hx n r e. apart_of L w j x l hx (sym (run_links j x y (omega arith) (old_dart x n) r) ∙ e);
    }

    module _ (M : Links) (r : IsRemoved beta 0 (star x0) N M) where
      upper_back : (t x : ℕ) → 1 ≤ t → M t x ≡ L t x
      upper_back t x l = by_cases (IsNew (InCell beta L 1 d) star x) (M t x) (L t x)
          (λ v. rw v.2 (r.gone (star v.0) t (cell_all x0 v.0 h0 v.1) ∙ sym (fresh.unlinked t v.0 v.1)))
          (λ n. by_cases (InCell beta L 1 d x) (M t x) (L t x)
          (λ h. r.lands x (star x) t (outside x n) l (run_in x h) ∙ after_new t x l h)
          (λ m. r.lands x x t (outside x n) l (run_out x n m) ∙ out L w (InCell beta L 1 d) set star fresh N s t x l n m))

      pub vertex_back : (t x : ℕ) → M t x ≡ L t x
      vertex_back zero x = turned_one M L r.turned (turned_of_laws L w) (λ y. upper_back 1 y (omega arith)) x
      vertex_back (suc t) x = upper_back (suc t) x (omega arith)
