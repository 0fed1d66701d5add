-- Contraction of an edge, a face and a volume of a combinatorial map: what their conditions say of the walks.
use Rattle.std.proofs.Common.{◌≡◌, ◌≢◌, ◌⊎◌, ◌+◌, ◌≤◌, ℕ, zero, suc, inl, inr, refl, sym, ap, subst, ◌∙◌, arith}
use Rattle.map_defs.specs.Kind.{beta, inverse, IsDistant}
use Rattle.map_defs.specs.Links.{Links, IsMadeUpTo}
use Rattle.map_defs.specs.Laws.{Laws}
use Rattle.map_defs.specs.Cells.{InCell}
use Rattle.map_defs.specs.Walks.{Walk, stop, go}
use Rattle.map_defs.specs.Removal.{IsFlatAt, IsMatchedAt, IsOpenAt}
use Rattle.link_laws.proofs.Basics.{same_or_not, inverse_own, distant_zero, distant_one_is}
use Rattle.link_laws.proofs.LawFacts.{link_one}
use Rattle.link_laws.proofs.Relink.{IsEither}
use Rattle.link_laws.proofs.Walking.{leaves}
use Rattle.link_laws.proofs.CellFacts.{orbit_bounded, beta_closed, edge_closed}
use Rattle.remove_laws.proofs.Walked.{CanBeWalked}
use Rattle.remove_laws.proofs.BetaCrossed.{nowhere, own_back, own_mirror}

distant_two_is : (j : ℕ) → IsDistant beta 2 j → 4 ≤ j
unfolding IsDistant
distant_two_is zero h = absurd (omega arith)
distant_two_is (suc j) h = omega arith

-- what is distant from link 3: links 0 and 1, and what is distant from link 2 too
distant_three_is : (j : ℕ) → IsDistant beta 3 j → (j ≡ 0) ⊎ (j ≡ 1) ⊎ IsDistant beta 2 j
unfolding IsDistant
distant_three_is zero h = grind arith
distant_three_is (suc j) h = grind arith

module _ (L : Links) (w : Laws beta L) (made d : ℕ) (live : d ≢ 0) (bound : IsMadeUpTo made L) where
  -- what is neither link 1 nor its inverse is a link from 2 upwards
  high : (t : ℕ) → (IsEither beta 1 t → ⊥) → 2 ≤ t
  high zero n = absurd (n (inr refl))
  high (suc zero) n = absurd (n (inl refl))
  high (suc (suc t)) n = omega arith

  pub edge_inside : (t c : ℕ) → (IsEither beta 1 t → ⊥) → InCell beta L 1 d c → L t c ≢ 0 → InCell beta L 1 d (L t c)
  edge_inside t c n h m = edge_closed L t d c (high t n) h m

  -- contraction of an edge: the walk follows link 1 alone
  pub edge_walked : CanBeWalked 1 (made + d) (InCell beta L 1 d) (λ c. c) L
  edge_walked = record {
    laws = w;
    nowhere = nowhere L w made d live bound 1;
    bounded = λ x h. orbit_bounded beta L w made bound _ h;
    inside = λ c h n. h;
    closed = edge_inside;
    nil = refl;
    twice = λ c h n. refl;
    mirror = λ j c far h. ap (λ s. L s c) (inverse_own beta j (let g = distant_one_is j far in omega arith));
  }

  pub cell_inside : (i t c : ℕ) → (IsEither beta (suc (suc i)) t → ⊥) → InCell beta L (suc (suc i)) d c → L t c ≢ 0 → InCell beta L (suc (suc i)) d (L t c)
  cell_inside i t c n h m = beta_closed L i t d c (λ e. n (inl e)) h m

  -- contraction of a face of two sides: the walk follows link 0, which is link 1 on it
  module _ (each : (b : ℕ) → InCell beta L 2 d b → L 1 (L 1 b) ≡ b) where
    there : (b : ℕ) → InCell beta L 2 d b → L 1 b ≢ 0
    there b h z = nowhere L w made d live bound 2 (subst (InCell beta L 2 d) (cc (each b h, z, w.nil 1)) h)

    sides_same : (b : ℕ) → InCell beta L 2 d b → L 0 b ≡ L 1 b
    sides_same b h = cc (w.back 1 (L 1 b) (λ z. nowhere L w made d live bound 2 (subst (InCell beta L 2 d) (cc (each b h, z)) h)), each b h)

    face_mirror : (j c : ℕ) → IsDistant beta 2 j → InCell beta L 2 d c → L 0 (L (inverse beta j) c) ≡ L j (L 0 c)
    face_mirror j c far h = at (same_or_not (L j c) 0)
      where
        high_j : 4 ≤ j
        high_j = distant_two_is j far

        own : inverse beta j ≡ j
        own = inverse_own beta j (omega (arith, high_j))

        e : L 1 (L j c) ≡ L j (L 0 c)
        e = w.square 0 j c (distant_zero j (omega (arith, high_j))) ∙ ap (λ s. L s (L 0 c)) own

        at : (L j c ≡ 0) ⊎ (L j c ≢ 0) → L 0 (L (inverse beta j) c) ≡ L j (L 0 c)
        at (inl z) = cc (ap (λ s. L 0 (L s c)) own, e, z, w.nil 0, w.nil 1)
        at (inr m) = cc (ap (λ s. L 0 (L s c)) own, e, sides_same (L j c) (cell_inside 0 j c not_face h m))
          where
            not_face : IsEither beta 2 j → ⊥
            not_face (inl f) = omega (arith, high_j)
            not_face (inr f) = omega (arith, high_j)

    pub face_walked : CanBeWalked 2 (made + d) (InCell beta L 2 d) (L 0) L
    face_walked = record {
      laws = w;
      nowhere = nowhere L w made d live bound 2;
      bounded = λ x h. orbit_bounded beta L w made bound _ h;
      inside = λ c h n. cell_inside 0 0 c (λ e. absurd (not_two e)) h n;
      closed = cell_inside 0;
      nil = w.nil 0;
      twice = λ c h n. cc (sides_same c h, w.back 1 c (there c h));
      mirror = face_mirror;
    }
      where
        not_two : IsEither beta 2 0 → ⊥
        not_two (inl e) = omega arith
        not_two (inr e) = omega arith

  -- contraction of a volume all of whose edges are flat: the walk follows link 2, which turns the sides round
  module _ (each : (b : ℕ) → InCell beta L 3 d b → IsFlatAt L b) where
    not_three : (t : ℕ) → t ≤ 2 → IsEither beta 3 t → ⊥
    not_three t h (inl e) = omega arith
    not_three t h (inr e) = omega arith

    -- each dart has a side before it, and so a side after it, since the volume is finite
    stays : {x y : ℕ} → Walk (InCell beta L 3 d) (L 0) x y → InCell beta L 3 d x → ⊥
    stays (stop n) h = n h
    stays (go {x = x} k v) h = stays v (cell_inside 1 0 x (not_three 0 (omega arith)) h (each x h).0)

    after : (c : ℕ) → InCell beta L 3 d c → L 1 c ≢ 0
    after c h z =
        leaves (InCell beta L 3 d) (L 0) (made + d) c (λ x k. orbit_bounded beta L w made bound _ k)
        (λ x y p q r e. link_one beta L w 0 x y (each x p).0 e)
        (λ b k e. nowhere L w made d live bound 3 (subst (InCell beta L 3 d) (cc (w.back 0 b (each b k).0, e, z)) k))
        (λ y v. stays v h)

    -- beyond link 2 the side after c is the side before
    turned : (c : ℕ) → InCell beta L 3 d c → L 1 (L 2 c) ≡ L 2 (L 0 c)
    turned c h = at (each c h).1
      where
        at : IsMatchedAt L c ⊎ IsOpenAt L c → L 1 (L 2 c) ≡ L 2 (L 0 c)
        at (inl m) = m.1
        at (inr o) = cc (o.0, o.1, w.nil 1)

    turned_back : (c : ℕ) → InCell beta L 3 d c → L 2 (L 1 c) ≡ L 0 (L 2 c)
    turned_back c h = at (each (L 1 c) next).1
      where
        next : InCell beta L 3 d (L 1 c)
        next = cell_inside 1 1 c (not_three 1 (omega arith)) h (after c h)

        back : L 0 (L 1 c) ≡ c
        back = w.back 1 c (after c h)

        at : IsMatchedAt L (L 1 c) ⊎ IsOpenAt L (L 1 c) → L 2 (L 1 c) ≡ L 0 (L 2 c)
        at (inl m) = cc (w.back 1 (L 2 (L 1 c)) m.0, m.1, back)
        at (inr o) = cc (o.0, o.1, back, w.nil 0)

    volume_mirror : (j c : ℕ) → IsDistant beta 3 j → InCell beta L 3 d c → L 2 (L (inverse beta j) c) ≡ L j (L 2 c)
    volume_mirror j c far h = at (distant_three_is j far)
      where
        at : (j ≡ 0) ⊎ (j ≡ 1) ⊎ IsDistant beta 2 j → L 2 (L (inverse beta j) c) ≡ L j (L 2 c)
        at (inl e) = subst (λ s. L 2 (L (inverse beta s) c) ≡ L s (L 2 c)) (sym e) (turned_back c h)
        at (inr (inl e)) = subst (λ s. L 2 (L (inverse beta s) c) ≡ L s (L 2 c)) (sym e) (sym (turned c h))
        at (inr (inr k)) = own_mirror L w 2 j c (omega arith) k

    pub volume_walked : CanBeWalked 3 (made + d) (InCell beta L 3 d) (L 2) L
    volume_walked = record {
      laws = w;
      nowhere = nowhere L w made d live bound 3;
      bounded = λ x h. orbit_bounded beta L w made bound _ h;
      inside = λ c h n. cell_inside 1 2 c (not_three 2 (omega arith)) h n;
      closed = cell_inside 1;
      nil = w.nil 2;
      twice = λ c h n. own_back L w 2 c (omega arith) n;
      mirror = volume_mirror;
    }
