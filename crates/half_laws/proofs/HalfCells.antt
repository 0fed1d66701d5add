-- The half has the cells of its map: by its origins each is the set of the positive darts of a cell. A walk of the half is a
-- walk of the map with two links a step. A walk of the map meets darts that are not positive too: for such a dart stands the
-- positive one at its link 0, and in a vertex the one at its link 1.
use Rattle.std.proofs.Common.{ℕ, zero, suc, ◌≡◌, ◌≢◌, ◌⊎◌, ◌↔◌, ◌≤◌, inl, inr, refl, sym, ap, subst, ◌∙◌, List, length, arith}
use Rattle.map_defs.specs.Kind.{alpha, beta}
use Rattle.map_defs.specs.Links.{Links, HasDimension, LeadsToLive}
use Rattle.map_defs.specs.LinkWords.{LinkWord, one_link, two_links, through, inverse_word, IsCellWord}
use Rattle.map_defs.specs.Cells.{InOrbit, here, onward, Leads, InCell}
use Rattle.map_defs.specs.Laws.{Laws}
use Rattle.link_laws.proofs.Basics.{inverse_own}
use Rattle.link_laws.proofs.Orbits.{orbit_trans}
use Rattle.link_laws.proofs.CellFacts.{alpha_closed, beta_closed, edge_closed, by_two_links}
use Rattle.link_laws.proofs.CellOf.{all_alpha, all_beta, word_one, cell_in}
use Rattle.link_laws.proofs.VertexWords.{IsVertexStep, leave, enter, pass, vertex_word}
use Rattle.half_defs.specs.Orientation.{Sign, IsPositive, IsOriented}
use Rattle.half_defs.specs.Halves.{AreOrigins, origin, IsHalf}
use Rattle.half_laws.proofs.HalfRanks.{within_or_above, IsRank, rank_some}
use Rattle.half_laws.proofs.HalfSigns.{IsLiveOrNone, leads_on, led_live, twice, led, flipped}
use Rattle.half_laws.proofs.HalfLaws.{half_link, square_zero, zero_around, origin_some, origin_positive, origin_live, origin_case, origin_one, half_along, half_nil, linked_within, zero_back}

-- a word of an edge of a combinatorial map is one link from 2 upwards
edge_word : (v : LinkWord) → IsCellWord beta 1 v → (j : ℕ) × (2 ≤ j) × (v ≡ one_link j)
edge_word v (inl p) = p
edge_word v (inr (u, (j, l, e), g)) = (j, l, g ∙ (ap (inverse_word beta) e ∙ ap one_link (inverse_own beta j l)))

-- a cell of dimension 1 or more of a combinatorial map is closed under its links
cell_on_link : (N : Links) (i j r s : ℕ) → j ≢ suc i → (i ≡ 0 → 2 ≤ j) → InCell beta N (suc i) r s → N j s ≢ 0 → InCell beta N (suc i) r (N j s)
cell_on_link N zero j r s m low c k = edge_closed N j r s (low refl) c k
cell_on_link N (suc i) j r s m low c k = beta_closed N i j r s m c k

-- two links of a generalized map that are not the cell's own stay in the cell
two_on : (L : Links) (i a b d : ℕ) → a ≢ i → b ≢ i → L a d ≢ 0 → L b (L a d) ≢ 0 → InCell alpha L i d (L b (L a d))
two_on L i a b d na nb ma mb = alpha_closed L i b d (L a d) nb (alpha_closed L i a d d na here ma) mb

module _ (n : ℕ) (Live : ℕ → Type 0) (L : Links) (w : Laws alpha L) (to : LeadsToLive Live L) (dim : HasDimension n L) (signs : List Sign) (o : IsOriented n Live L signs) (origins : List ℕ) (a : AreOrigins (IsPositive signs) origins) (N : Links) (h : IsHalf n L origins N) where
  along : (i r : ℕ) → 1 ≤ n → i ≤ n → origin origins (N i r) ≡ half_link L i (origin origins r)
  along = half_along n Live L w to signs o origins a N h

  case_of : (r : ℕ) → IsLiveOrNone Live (origin origins r)
  case_of = origin_case n Live L w to signs o origins a

  live_of : (r : ℕ) → IsRank origins r → Live (origin origins r)
  live_of = origin_live n Live L w to signs o origins a

  around : (j d : ℕ) → 2 ≤ j → IsLiveOrNone Live d → L 0 (L j (L 0 d)) ≡ L j d
  around = zero_around n Live L w to signs o

  some_of : (r : ℕ) → IsRank origins r → origin origins r ≢ 0
  some_of r k = rank_some origins a.ascending (origin_some n Live L w to signs o origins a) r k

  led_within : (i d : ℕ) → L i d ≢ 0 → i ≤ n
  led_within i d m = elim (within_or_above n i) [ inl l ↦ l | inr l ↦ absurd (m (dim i d l)) ]

  -- what a link of the half leads to has a rank
  led_rank : (i r : ℕ) → N i r ≢ 0 → IsRank origins (N i r)
  led_rank i r m = (omega arith, h.within i r)

  -- a rank that is led to by a link is one if its dart is one
  led_some : (i r : ℕ) → origin origins (N i r) ≢ 0 → N i r ≢ 0
  led_some i r m e = m (ap (origin origins) e)

  -- The two-link words of a vertex: in the map the links 0 on their way cancel.
  leave_is : (j r : ℕ) → 2 ≤ j → j ≤ n → origin origins (N 1 (N j r)) ≡ L 1 (L j (origin origins r))
  leave_is j r two l =
      let x : origin origins (N 1 (N j r)) ≡ L 1 (L 0 (origin origins (N j r))) = h.along 1 (N j r) (omega arith) (omega arith) in
      let y : origin origins (N j r) ≡ L j (L 0 (origin origins r)) = h.along j r (omega arith) l in
      let z : L 0 (L j (L 0 (origin origins r))) ≡ L j (origin origins r) = around j (origin origins r) two (case_of r) in cc

  enter_is : (j r : ℕ) → 2 ≤ j → j ≤ n → origin origins (N j (N 0 r)) ≡ L j (L 1 (origin origins r))
  enter_is j r two l =
      let x : origin origins (N j (N 0 r)) ≡ L j (L 0 (origin origins (N 0 r))) = h.along j (N 0 r) (omega arith) l in
      let y : origin origins (N 0 r) ≡ L 0 (L 1 (origin origins r)) = along 0 r (omega arith) (omega arith) in
      let z : L 0 (L 0 (L 1 (origin origins r))) ≡ L 1 (origin origins r) = twice n Live L w to signs o 0 (L 1 (origin origins r)) (omega arith) (led n Live L w to signs o 1 (origin origins r) (omega arith) (case_of r)) in cc

  pass_is : (i j r : ℕ) → 2 ≤ i → i ≤ n → 2 ≤ j → j ≤ n → origin origins (N j (N i r)) ≡ L j (L i (origin origins r))
  pass_is i j r ti li tj lj =
      let x : origin origins (N j (N i r)) ≡ L j (L 0 (origin origins (N i r))) = h.along j (N i r) (omega arith) lj in
      let y : origin origins (N i r) ≡ L i (L 0 (origin origins r)) = h.along i r (omega arith) li in
      let z : L 0 (L i (L 0 (origin origins r))) ≡ L i (origin origins r) = around i (origin origins r) ti (case_of r) in cc

  before_some : (i j r : ℕ) → N j (N i r) ≢ 0 → N i r ≢ 0
  before_some i j r m e = m (ap (N j) e ∙ half_nil n Live L w to signs o origins a N h j)

  -- A step of the half from rank r is a walk of the map.
  two_live : (i b c r : ℕ) → IsRank origins r → b ≢ i → c ≢ i → b ≤ n → c ≤ n → InCell alpha L i (origin origins r) (L c (L b (origin origins r)))
  two_live i b c r k nb nc lb lc = two_on L i b c (origin origins r) nb nc
      (leads_on n Live L w to signs o b (origin origins r) lb (live_of r k))
      (leads_on n Live L w to signs o c (L b (origin origins r)) lc (led_live n Live L w to signs o b (origin origins r) lb (live_of r k)))

  link_walk : (i j r : ℕ) → j ≢ suc i → (i ≡ 0 → 2 ≤ j) → IsRank origins r → N j r ≢ 0 → InCell alpha L (suc i) (origin origins r) (origin origins (N j r))
  link_walk i zero r m low k s =
      let one : 1 ≤ n = linked_within n Live L w to signs o origins a N h 1 (N 0 r) (λ e. let g = k.0 in let f = sym (zero_back n Live L w to signs o origins a N h r s) ∙ e in omega arith) in
      let e : origin origins (N 0 r) ≡ L 0 (L 1 (origin origins r)) = along 0 r one (omega arith) in
      rw e (two_live (suc i) 1 0 r k (λ z. let g = low (omega arith) in omega arith) (omega arith) one (omega arith))
  link_walk i (suc j) r m low k s =
      let l : suc j ≤ n = linked_within n Live L w to signs o origins a N h (suc j) r s in
      let e : origin origins (N (suc j) r) ≡ L (suc j) (L 0 (origin origins r)) = h.along (suc j) r (omega arith) l in
      rw e (two_live (suc i) 0 (suc j) r k (omega arith) m (omega arith) l)

  vertex_walk : (v : LinkWord) (r : ℕ) → IsVertexStep v → IsRank origins r → through N v r ≢ 0 → IsRank origins (through N v r) × InCell alpha L 0 (origin origins r) (origin origins (through N v r))
  vertex_walk v r (leave j two) k m =
      let l : j ≤ n = linked_within n Live L w to signs o origins a N h j r (before_some j 1 r m) in
      (led_rank 1 (N j r) m, rw (leave_is j r two l) (two_live 0 j 1 r k (omega arith) (omega arith) l (omega arith)))
  vertex_walk v r (enter j two) k m =
      let l : j ≤ n = linked_within n Live L w to signs o origins a N h j (N 0 r) m in
      (led_rank j (N 0 r) m, rw (enter_is j r two l) (two_live 0 1 j r k (omega arith) (omega arith) (omega arith) l))
  vertex_walk v r (pass i j ti tj) k m =
      let li : i ≤ n = linked_within n Live L w to signs o origins a N h i r (before_some i j r m) in
      let lj : j ≤ n = linked_within n Live L w to signs o origins a N h j (N i r) m in
      (led_rank j (N i r) m, rw (pass_is i j r ti li tj lj) (two_live 0 i j r k (omega arith) (omega arith) li lj))

  one_link_walk : (i j r q : ℕ) → j ≢ suc i → (i ≡ 0 → 2 ≤ j) → IsRank origins r → N j r ≡ q → q ≢ 0 → IsRank origins q × InCell alpha L (suc i) (origin origins r) (origin origins q)
  one_link_walk i j r q m low k e s =
      subst (λ t. IsRank origins t × InCell alpha L (suc i) (origin origins r) (origin origins t)) e
      (led_rank j r (λ z. s (sym e ∙ z)), link_walk i j r m low k (λ z. s (sym e ∙ z)))

  step_walk : (i r q : ℕ) → IsRank origins r → Leads N (IsCellWord beta i) r q → IsRank origins q × InCell alpha L i (origin origins r) (origin origins q)
  step_walk zero r q k s =
      subst (λ t. IsRank origins t × InCell alpha L 0 (origin origins r) (origin origins t)) s.2
      (vertex_walk s.0 r (vertex_word s.0 s.1) k (λ z. s.3 (sym s.2 ∙ z)))
  step_walk (suc zero) r q k s =
      let v : (j : ℕ) × (2 ≤ j) × (s.0 ≡ one_link j) = edge_word s.0 s.1 in
      one_link_walk 0 v.0 r q (let g = v.1 in omega arith) (λ z. v.1) k (ap (λ u. through N u r) (sym v.2) ∙ s.2) s.3
  step_walk (suc (suc i)) r q k s =
      let v : (j : ℕ) × (j ≢ suc (suc i)) × (s.0 ≡ one_link j) = word_one beta (suc (suc i)) all_beta s.0 s.1 in
      one_link_walk (suc i) v.0 r q v.1 (λ z. omega arith) k (ap (λ u. through N u r) (sym v.2) ∙ s.2) s.3

  cell_walk : (i r q : ℕ) → IsRank origins r → InOrbit (Leads N (IsCellWord beta i)) r q → IsRank origins q × InCell alpha L i (origin origins r) (origin origins q)
  cell_walk i r q k here = (k, here)
  cell_walk i r q k (onward {x = u} {y = y} c s) =
      let b : IsRank origins u × InCell alpha L i (origin origins r) (origin origins u) = cell_walk i r u k c in
      let t : IsRank origins y × InCell alpha L i (origin origins u) (origin origins y) = step_walk i u y b.0 s in
      (t.0, orbit_trans (Leads L (IsCellWord alpha i)) (origin origins r) (origin origins u) (origin origins y) b.1 t.1)

  -- a dart of the half's cell stands for d: its origin is d, or it is the dart at link p of d
  StandsFor : ℕ → ℕ → ℕ → ℕ → Type 0
  StandsFor i p r d = (s : ℕ) × IsRank origins s × InCell beta N i r s × ((origin origins s ≡ d) ⊎ (origin origins s ≡ L p d))

  -- where the origin of a rank is led to, the rank is
  stand_at : (i p r j s d : ℕ) → (N j s ≢ 0 → InCell beta N i r (N j s)) → (origin origins (N j s) ≡ d) ⊎ (origin origins (N j s) ≡ L p d) → origin origins (N j s) ≢ 0 → StandsFor i p r d
  unfolding StandsFor
  stand_at i p r j s d c e m = let k : N j s ≢ 0 = led_some j s m in (N j s, led_rank j s k, c k, e)

  -- A step of the map's cell, by link j from x, where a dart of the half's cell stands for x.
  vertex_stands : (r j x : ℕ) → j ≢ 0 → StandsFor 0 1 r x → L j x ≢ 0 → StandsFor 0 1 r (L j x)
  unfolding StandsFor
  vertex_stands r zero x m t k = absurd (m refl)
  vertex_stands r (suc zero) x m (s, ks, c, inl e) k = (s, ks, c, inr (e ∙ sym (w.back 1 x k)))
  vertex_stands r (suc zero) x m (s, ks, c, inr e) k = (s, ks, c, inl e)
  vertex_stands r (suc (suc j)) x m (s, ks, c, inl e) k =
      let l : suc (suc j) ≤ n = led_within (suc (suc j)) x k in
      let f : origin origins (N 1 (N (suc (suc j)) s)) ≡ L 1 (L (suc (suc j)) x) = leave_is (suc (suc j)) s (omega arith) l ∙ ap (λ d. L 1 (L (suc (suc j)) d)) e in
      stand_at 0 1 r 1 (N (suc (suc j)) s) (L (suc (suc j)) x)
      (λ z. by_two_links beta N 0 (suc (suc j)) 1 r s (inl (1, suc (suc j), omega arith, omega arith, refl)) c z)
      (inr f)
      (λ z. leads_on n Live L w to signs o 1 (L (suc (suc j)) x) (omega arith) (to (suc (suc j)) x k) (sym f ∙ z))
  vertex_stands r (suc (suc j)) x m (s, ks, c, inr e) k =
      let l : suc (suc j) ≤ n = led_within (suc (suc j)) x k in
      let b : L 1 (L 1 x) ≡ x = w.back 1 x (λ z. some_of s ks (e ∙ z)) in
      let f : origin origins (N (suc (suc j)) (N 0 s)) ≡ L (suc (suc j)) x = enter_is (suc (suc j)) s (omega arith) l ∙ ap (L (suc (suc j))) (ap (L 1) e ∙ b) in
      stand_at 0 1 r (suc (suc j)) (N 0 s) (L (suc (suc j)) x)
      (λ z. by_two_links beta N 0 0 (suc (suc j)) r s (inr (two_links (suc (suc j)) 1, (1, suc (suc j), omega arith, omega arith, refl), refl)) c z)
      (inl f)
      (λ z. k (sym f ∙ z))

  cell_stands : (i r j x : ℕ) → j ≢ suc i → StandsFor (suc i) 0 r x → L j x ≢ 0 → StandsFor (suc i) 0 r (L j x)
  unfolding StandsFor
  cell_stands i r zero x m (s, ks, c, inl e) k = (s, ks, c, inr (e ∙ sym (w.back 0 x k)))
  cell_stands i r zero x m (s, ks, c, inr e) k = (s, ks, c, inl e)
  cell_stands i r (suc zero) x m (s, ks, c, inl e) k =
      let l : 1 ≤ n = led_within 1 x k in
      let f : origin origins (N 0 s) ≡ L 0 (L 1 x) = along 0 s l (omega arith) ∙ ap (λ d. L 0 (L 1 d)) e in
      stand_at (suc i) 0 r 0 s (L 1 x)
      (cell_on_link N i 0 r s (omega arith) (λ z. absurd (m (ap suc (sym z)))) c)
      (inr f)
      (λ z. leads_on n Live L w to signs o 0 (L 1 x) (omega arith) (to 1 x k) (sym f ∙ z))
  cell_stands i r (suc (suc j)) x m (s, ks, c, inl e) k =
      let l : suc (suc j) ≤ n = led_within (suc (suc j)) x k in
      let f : origin origins (N (suc (suc j)) s) ≡ L 0 (L (suc (suc j)) x) = h.along (suc (suc j)) s (omega arith) l ∙ (ap (λ d. L (suc (suc j)) (L 0 d)) e ∙ sym (square_zero n Live L w to signs o (suc (suc j)) x (omega arith))) in
      stand_at (suc i) 0 r (suc (suc j)) s (L (suc (suc j)) x)
      (cell_on_link N i (suc (suc j)) r s m (λ z. omega arith) c)
      (inr f)
      (λ z. leads_on n Live L w to signs o 0 (L (suc (suc j)) x) (omega arith) (to (suc (suc j)) x k) (sym f ∙ z))
  cell_stands i r (suc j) x m (s, ks, c, inr e) k =
      let l : suc j ≤ n = led_within (suc j) x k in
      let b : L 0 (L 0 x) ≡ x = w.back 0 x (λ z. some_of s ks (e ∙ z)) in
      let f : origin origins (N (suc j) s) ≡ L (suc j) x = h.along (suc j) s (omega arith) l ∙ ap (L (suc j)) (ap (L 0) e ∙ b) in
      stand_at (suc i) 0 r (suc j) s (L (suc j) x)
      (cell_on_link N i (suc j) r s m (λ z. low z) c)
      (inl f)
      (λ z. k (sym f ∙ z))
    where
      low : i ≡ 0 → 2 ≤ suc j
      low z = omega arith

  -- the dart of the half that stands for a positive dart is its rank
  stands_alone : (i p r q : ℕ) → IsRank origins q → StandsFor i p r (origin origins q) → InCell beta N i r q
  unfolding StandsFor
  stands_alone i p r q k (s, ks, c, inl e) = subst (InCell beta N i r) (origin_one n Live L w to signs o origins a s q ks.1 k.1 e) c
  stands_alone i p r q k (s, ks, c, inr e) =
      absurd (flipped n Live L w to signs o p (origin origins q) (led_within p (origin origins q) (λ z. some_of s ks (e ∙ z)))
      (origin_positive n Live L w to signs o origins a q k)
      (subst (IsPositive signs) e (origin_positive n Live L w to signs o origins a s ks)))

  cell_of_map : (i r q : ℕ) → IsRank origins r → IsRank origins q → InCell alpha L i (origin origins r) (origin origins q) → InCell beta N i r q
  unfolding StandsFor
  cell_of_map zero r q kr kq c = stands_alone 0 1 r q kq (cell_in alpha 0 all_alpha L (StandsFor 0 1 r) (vertex_stands r) (origin origins r) (origin origins q) (r, kr, here, inl refl) c)
  cell_of_map (suc i) r q kr kq c = stands_alone (suc i) 0 r q kq (cell_in alpha (suc i) all_alpha L (StandsFor (suc i) 0 r) (cell_stands i r) (origin origins r) (origin origins q) (r, kr, here, inl refl) c)

  pub half_cell : (i r q : ℕ) → 1 ≤ r → r ≤ length origins → InCell beta N i r q ↔ ((1 ≤ q) × (q ≤ length origins) × InCell alpha L i (origin origins r) (origin origins q))
  half_cell i r q one low = (
    λ c. (let t : IsRank origins q × InCell alpha L i (origin origins r) (origin origins q) = cell_walk i r q (one, low) c in (t.0.0, t.0.1, t.1)),
    λ c. cell_of_map i r q (one, low) (c.0, c.1) c.2,
  )
