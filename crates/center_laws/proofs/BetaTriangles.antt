-- What a vertex in the middle of a face of a combinatorial map makes: triangles around one vertex.
use Rattle.std.proofs.Common.{ℕ, zero, suc, ◌≡◌, ◌≢◌, ◌≤◌, ◌⊎◌, ◌↔◌, refl, sym, ap, inl, inr, ⊎_elim, ◌∙◌, arith}
use Rattle.map_defs.specs.Kind.{beta}
use Rattle.map_defs.specs.Links.{Links}
use Rattle.map_defs.specs.Laws.{Laws}
use Rattle.map_defs.specs.LinkWords.{LinkWord, one_link, two_links, through, IsCellWord}
use Rattle.map_defs.specs.Cells.{InOrbit, here, onward, Leads, InCell}
use Rattle.map_defs.specs.Births.{IsFresh}
use Rattle.map_defs.specs.Insertion.{IsLinkedBy}
use Rattle.map_defs.specs.Closing.{IsBetaCentred, IsBesideCentre}
use Rattle.link_laws.proofs.Basics.{same_or_not}
use Rattle.link_laws.proofs.CellFacts.{cell_back, beta_closed}
use Rattle.link_laws.proofs.CellOf.{all_beta, word_one, cell_in}
use Rattle.link_laws.proofs.VertexWords.{IsVertexStep, leave, enter, pass, vertex_word}
use Rattle.link_laws.proofs.Orbits.{orbit_trans}
use Rattle.insert_laws.proofs.Fresh.{IsNew, InOrNone, fresh_old, fresh_zero}
use Rattle.center_laws.proofs.BetaCentre as centre

module _ (L : Links) (w : Laws beta L) (d : ℕ) (hd : d ≢ 0) (star tip : ℕ → ℕ) (fresh_star : IsFresh L (InCell beta L 2 d) star) (fresh_tip : IsFresh L (InCell beta L 2 d) tip) (two : (x y : ℕ) → InCell beta L 2 d x → InCell beta L 2 d y → star x ≢ tip y) (N : Links) (s : IsBetaCentred d star tip L N) where
  abbrev InFace : ℕ → Type 0
  InFace = InCell beta L 2 d

  on : (j x : ℕ) → j ≢ 2 → InOrNone InFace x → InOrNone InFace (L j x)
  on = centre.on L w d hd star tip fresh_star fresh_tip two N s

  -- three steps along link 1 lead back
  pub triangle_around : (x : ℕ) → InFace x → N 1 (N 1 (N 1 x)) ≡ x
  triangle_around x h =
      let a : N 1 x ≡ star x = s.into x h in
      let b : N 1 (star x) ≡ tip x = s.onward x h in
      let c : N 1 (tip x) ≡ x = s.out x h in cc

  -- a higher link of a begin leads to an end, and one of an end to a begin
  begin_up : (j y : ℕ) → 2 ≤ j → InOrNone InFace y → (u : ℕ) × InOrNone InFace u × (N j (star y) ≡ tip u)
  begin_up j y l h = ⊎_elim
      (λ (e : j ≡ 2). (L 1 y, on 1 y (λ o. omega arith) h, ap (λ t. N t (star y)) e ∙ centre.star_two L w d hd star tip fresh_star fresh_tip two N s y h))
      (λ (m : j ≢ 2). (L j y, on j y m h, centre.star_high L w d hd star tip fresh_star fresh_tip two N s j y (omega arith) h))
      (same_or_not j 2)

  end_up : (j y : ℕ) → 2 ≤ j → InOrNone InFace y → (u : ℕ) × InOrNone InFace u × (N j (tip y) ≡ star u)
  end_up j y l h = ⊎_elim
      (λ (e : j ≡ 2). (L 0 y, on 0 y (λ o. omega arith) h, ap (λ t. N t (tip y)) e ∙ centre.tip_two L w d hd star tip fresh_star fresh_tip two N s y h))
      (λ (m : j ≢ 2). (L j y, on j y m h, centre.tip_high L w d hd star tip fresh_star fresh_tip two N s j y (omega arith) h))
      (same_or_not j 2)

  -- the vertex in the middle holds the ends of the new edges alone
  end_word : (v : LinkWord) → IsVertexStep v → (y : ℕ) → InFace y → (u : ℕ) × InOrNone InFace u × (through N v (tip y) ≡ tip u)
  end_word v (leave j l) y h =
      let a : (u : ℕ) × InOrNone InFace u × (N j (tip y) ≡ star u) = end_up j y l (inl h) in
      (a.0, a.1, ap (N 1) a.2 ∙ centre.one_star L w d hd star tip fresh_star fresh_tip two N s a.0 a.1)
  end_word v (enter j l) y h =
      let a : (u : ℕ) × InOrNone InFace u × (N j (star y) ≡ tip u) = begin_up j y l (inl h) in
      (a.0, a.1, ap (N j) (centre.zero_tip L w d hd star tip fresh_star fresh_tip two N s y (inl h)) ∙ a.2)
  end_word v (pass i j l m) y h =
      let a : (u : ℕ) × InOrNone InFace u × (N i (tip y) ≡ star u) = end_up i y l (inl h) in
      let b : (u : ℕ) × InOrNone InFace u × (N j (star a.0) ≡ tip u) = begin_up j a.0 m a.1 in
      (b.0, b.1, ap (N j) a.2 ∙ b.2)

  ends_alone : (x z : ℕ) → InFace x → InCell beta N 0 (tip x) z → IsNew InFace tip z
  ends_alone x z h here = (x, h, refl)
  ends_alone x z h (onward {x = u} {y = v} o (word, c, e, n)) =
      let q : IsNew InFace tip u = ends_alone x u h o in
      let r : (t : ℕ) × InOrNone InFace t × (through N word (tip q.0) ≡ tip t) = end_word word (vertex_word word c) q.0 q.1 in
      let a : v ≡ tip r.0 = sym e ∙ (ap (through N word) q.2 ∙ r.2) in
      (r.0, fresh_zero beta L w InFace tip fresh_tip r.0 r.1 (λ z. n (a ∙ z)), a)

  -- and holds them all
  over : (c j u v : ℕ) → 2 ≤ j → InCell beta N 0 c u → N 1 (N j u) ≡ v → v ≢ 0 → InCell beta N 0 c v
  over c j u v l o e n = onward o (two_links j 1, inl (1, j, omega arith, omega arith, refl), e, n)

  under : (c u v : ℕ) → InCell beta N 0 c u → N 2 (N 0 u) ≡ v → v ≢ 0 → InCell beta N 0 c v
  under c u v o e n = onward o (two_links 0 2, inr (two_links 2 1, (1, 2, omega arith, omega arith, refl), refl), e, n)

  in_face : (j u : ℕ) → j ≢ 2 → InFace u → L j u ≢ 0 → InFace (L j u)
  in_face j u n h m = beta_closed L 0 j d u n h m

  end_step : (c j u : ℕ) → j ≢ 2 → InFace u → InCell beta N 0 c (tip u) → L j u ≢ 0 → InFace (L j u) × InCell beta N 0 c (tip (L j u))
  end_step c zero u n h o m =
      let k : InFace (L 0 u) = in_face 0 u n h m in
      let a : N 2 (tip u) ≡ star (L 0 u) = s.sides_back u h in
      let b : N 1 (star (L 0 u)) ≡ tip (L 0 u) = s.onward (L 0 u) k in
      (k, over c 2 (tip u) (tip (L 0 u)) (omega arith) o (ap (N 1) a ∙ b) (fresh_tip.dart (L 0 u) k))
  end_step c (suc zero) u n h o m =
      let k : InFace (L 1 u) = in_face 1 u n h m in
      let a : N 0 (tip u) ≡ star u = centre.zero_tip L w d hd star tip fresh_star fresh_tip two N s u (inl h) in
      let b : N 2 (star u) ≡ tip (L 1 u) = s.sides u h in
      (k, under c (tip u) (tip (L 1 u)) o (ap (N 2) a ∙ b) (fresh_tip.dart (L 1 u) k))
  end_step c (suc (suc zero)) u n h o m = absurd (n refl)
  end_step c (suc (suc (suc j))) u n h o m =
      let k : InFace (L (suc (suc (suc j))) u) = in_face (suc (suc (suc j))) u n h m in
      let a : N (suc (suc (suc j))) (tip u) ≡ star (L (suc (suc (suc j))) u) = s.along_tip u (suc (suc (suc j))) h (omega arith) in
      let b : N 1 (star (L (suc (suc (suc j))) u)) ≡ tip (L (suc (suc (suc j))) u) = s.onward (L (suc (suc (suc j))) u) k in
      (k, over c (suc (suc (suc j))) (tip u) (tip (L (suc (suc (suc j))) u)) (omega arith) o (ap (N 1) a ∙ b) (fresh_tip.dart (L (suc (suc (suc j))) u) k))

  end_from : (x y : ℕ) → InFace x → InCell beta L 2 x y → InFace y × InCell beta N 0 (tip x) (tip y)
  end_from x y h here = (h, here)
  end_from x y h (onward {x = u} {y = v} o (word, c, e, n)) =
      let q : (j : ℕ) × (j ≢ 2) × (word ≡ one_link j) = word_one beta 2 all_beta word c in
      let a : L q.0 u ≡ v = ap (λ t. through L t u) (sym q.2) ∙ e in
      let r : InFace u × InCell beta N 0 (tip x) (tip u) = end_from x u h o in
      let m : L q.0 u ≢ 0 = λ z. n (sym a ∙ z) in
      rw a at (end_step (tip x) q.0 u q.1 r.0 r.1 m)

  pub triangle_middle : (x z : ℕ) → InFace x → InCell beta N 0 (tip x) z ↔ ((y : ℕ) × InFace y × (z ≡ tip y))
  triangle_middle x z h = (
    λ o. ends_alone x z h o,
    λ (y, k, e). rw e (end_from x y h (orbit_trans (Leads L (IsCellWord beta 2)) x d y (cell_back beta L w 2 d x h) k)).1,
  )

  -- the new face of a dart of the old one
  abbrev Beside : ℕ → ℕ → Type 0
  Beside = InOrbit (IsLinkedBy L (IsBesideCentre beta))

  -- z is a dart beside x, or one of the two new darts that are made of it
  AroundTriangle : ℕ → ℕ → Type 0
  AroundTriangle x z = (y : ℕ) × Beside x y × InFace y × ((z ≡ y) ⊎ (z ≡ star y) ⊎ (z ≡ tip y))

  beside_on : (x y j : ℕ) → Beside x y → InFace y → 3 ≤ j → L j y ≢ 0 → Beside x (L j y) × InFace (L j y)
  beside_on x y j b h l n = (onward b (j, l, refl, n), in_face j y (λ e. omega arith) h n)

  stays : (j x : ℕ) → InFace x → 2 ≤ j → N j x ≡ L j x
  stays j x h l = centre.in_high L w d hd star tip fresh_star fresh_tip two N s j x l h

  face_on : (x j z : ℕ) → j ≢ 2 → AroundTriangle x z → N j z ≢ 0 → AroundTriangle x (N j z)
  unfolding AroundTriangle
  face_on x zero z n (y, b, h, inl e) m = (y, b, h, inr (inr (ap (N 0) e ∙ centre.zero_in L w d hd star tip fresh_star fresh_tip two N s y (inl h))))
  face_on x zero z n (y, b, h, inr (inl e)) m = (y, b, h, inl (ap (N 0) e ∙ centre.zero_star L w d hd star tip fresh_star fresh_tip two N s y (inl h)))
  face_on x zero z n (y, b, h, inr (inr e)) m = (y, b, h, inr (inl (ap (N 0) e ∙ centre.zero_tip L w d hd star tip fresh_star fresh_tip two N s y (inl h))))
  face_on x (suc zero) z n (y, b, h, inl e) m = (y, b, h, inr (inl (ap (N 1) e ∙ s.into y h)))
  face_on x (suc zero) z n (y, b, h, inr (inl e)) m = (y, b, h, inr (inr (ap (N 1) e ∙ s.onward y h)))
  face_on x (suc zero) z n (y, b, h, inr (inr e)) m = (y, b, h, inl (ap (N 1) e ∙ s.out y h))
  face_on x (suc (suc zero)) z n v m = absurd (n refl)
  face_on x (suc (suc (suc j))) z n (y, b, h, inl e) m =
      let a : N (suc (suc (suc j))) z ≡ L (suc (suc (suc j))) y = ap (N (suc (suc (suc j)))) e ∙ stays (suc (suc (suc j))) y h (omega arith) in
      let q : Beside x (L (suc (suc (suc j))) y) × InFace (L (suc (suc (suc j))) y) = beside_on x y (suc (suc (suc j))) b h (omega arith) (λ o. m (a ∙ o)) in
      (L (suc (suc (suc j))) y, q.0, q.1, inl a)
  face_on x (suc (suc (suc j))) z n (y, b, h, inr (inl e)) m =
      let a : N (suc (suc (suc j))) z ≡ tip (L (suc (suc (suc j))) y) = ap (N (suc (suc (suc j)))) e ∙ s.along y (suc (suc (suc j))) h (omega arith) in
      let q : Beside x (L (suc (suc (suc j))) y) × InFace (L (suc (suc (suc j))) y) = beside_on x y (suc (suc (suc j))) b h (omega arith) (λ o. m (a ∙ (ap tip o ∙ fresh_tip.nothing))) in
      (L (suc (suc (suc j))) y, q.0, q.1, inr (inr a))
  face_on x (suc (suc (suc j))) z n (y, b, h, inr (inr e)) m =
      let a : N (suc (suc (suc j))) z ≡ star (L (suc (suc (suc j))) y) = ap (N (suc (suc (suc j)))) e ∙ s.along_tip y (suc (suc (suc j))) h (omega arith) in
      let q : Beside x (L (suc (suc (suc j))) y) × InFace (L (suc (suc (suc j))) y) = beside_on x y (suc (suc (suc j))) b h (omega arith) (λ o. m (a ∙ (ap star o ∙ fresh_star.nothing))) in
      (L (suc (suc (suc j))) y, q.0, q.1, inr (inl a))

  -- a dart of the old face in the new one is a dart beside
  beside_of : (x y : ℕ) → InFace y → AroundTriangle x y → Beside x y
  unfolding AroundTriangle
  beside_of x y h (u, b, k, inl e) = rw e b
  beside_of x y h (u, b, k, inr (inl e)) = absurd (fresh_old beta L w InFace star fresh_star y h (u, k, e))
  beside_of x y h (u, b, k, inr (inr e)) = absurd (fresh_old beta L w InFace tip fresh_tip y h (u, k, e))

  along : (x y j : ℕ) → InFace y → InCell beta N 2 x y → 3 ≤ j → L j y ≢ 0 → InFace (L j y) × InCell beta N 2 x (L j y)
  along x y j h o l n =
      let a : N j y ≡ L j y = stays j y h (omega arith) in
      (in_face j y (λ e. omega arith) h n, rw a at (beta_closed N 0 j x y (λ e. omega arith) o (λ z. n (sym a ∙ z))))

  face_from : (x y : ℕ) → InFace x → Beside x y → InFace y × InCell beta N 2 x y
  face_from x y h here = (h, here)
  face_from x y h (onward {x = u} {y = v} o (j, c, e, n)) =
      let r : InFace u × InCell beta N 2 x u = face_from x u h o in
      rw e at (along x u j r.0 r.1 c (λ z. n (sym e ∙ z)))

  pub triangle_face : (x y : ℕ) → InFace x → InFace y → InCell beta N 2 x y ↔ InOrbit (IsLinkedBy L (IsBesideCentre beta)) x y
  unfolding AroundTriangle
  triangle_face x y h k = (
    λ o. beside_of x y k (cell_in beta 2 all_beta N (AroundTriangle x) (face_on x) x y (x, here, h, inl refl) o),
    λ o. (face_from x y h o).1,
  )
