-- What a vertex in the middle of a face of a generalized map makes: triangles around one vertex.
use Rattle.std.proofs.Common.{ℕ, zero, suc, ◌≡◌, ◌≢◌, ◌≤◌, ◌⊎◌, ◌↔◌, refl, sym, ap, inl, inr, ◌∙◌, arith}
use Rattle.map_defs.specs.Kind.{alpha}
use Rattle.map_defs.specs.Links.{Links}
use Rattle.map_defs.specs.Laws.{Laws}
use Rattle.map_defs.specs.LinkWords.{one_link, through, IsCellWord}
use Rattle.map_defs.specs.Cells.{InOrbit, here, onward, Leads, InCell}
use Rattle.map_defs.specs.Births.{IsFresh}
use Rattle.map_defs.specs.Insertion.{IsLinkedBy}
use Rattle.map_defs.specs.Closing.{IsAlphaCentred, IsBesideCentre}
use Rattle.link_laws.proofs.CellFacts.{cell_back, alpha_closed}
use Rattle.link_laws.proofs.CellOf.{all_alpha, word_one, cell_in}
use Rattle.link_laws.proofs.Orbits.{orbit_trans}
use Rattle.insert_laws.proofs.Fresh.{IsNew, fresh_old}
use Rattle.center_laws.proofs.Hung.{beside, beside_closed, IsHangingSet, old_in, kept_old, tip_high}
use Rattle.center_laws.proofs.HangingSets.{face_hangs}

module _ (L : Links) (w : Laws alpha L) (d : ℕ) (hd : d ≢ 0) (star tip : ℕ → ℕ) (fresh_star : IsFresh L (InCell alpha L 2 d) star) (fresh_tip : IsFresh L (InCell alpha L 2 d) tip) (two : (x y : ℕ) → InCell alpha L 2 d x → InCell alpha L 2 d y → star x ≢ tip y) (N : Links) (s : IsAlphaCentred d star tip L N) where
  abbrev InFace : ℕ → Type 0
  InFace = InCell alpha L 2 d

  set : IsHangingSet 0 L InFace
  set = face_hangs L d hd

  -- a link of a dart of the face other than link 1 stays
  stays : (j x : ℕ) → InFace x → j ≢ 1 → N j x ≡ L j x
  stays j x h n = kept_old 0 L w InFace set star tip fresh_star fresh_tip two N s j x (old_in 0 L w InFace set star tip fresh_star fresh_tip two N s x h) (λ _. n)

  -- three steps along links 0 and 1 lead back
  pub triangle_around : (x : ℕ) → InFace x → L 0 x ≢ 0 → N 1 (N 0 (N 1 (N 0 (N 1 (N 0 x))))) ≡ x
  triangle_around x h n =
      let hy : InFace (L 0 x) = set.on x 0 h (inr (inr refl)) n in
      let a : N 0 x ≡ L 0 x = stays 0 x h (λ e. omega arith) in
      let b : N 1 (L 0 x) ≡ star (L 0 x) = s.new (L 0 x) hy in
      let c : N 0 (star (L 0 x)) ≡ tip (L 0 x) = s.ends (L 0 x) hy in
      let e : N 1 (tip (L 0 x)) ≡ tip (L 0 (L 0 x)) = s.turns (L 0 x) hy in
      let f : L 0 (L 0 x) ≡ x = w.back 0 x n in
      let g : N 0 (tip x) ≡ star x = s.begins x h in
      let k : N 1 (star x) ≡ x = s.old x h in cc

  -- the vertex in the middle holds the ends of the new edges alone
  IsEnd : ℕ → Type 0
  IsEnd z = IsNew InFace tip z

  end_on : (j z : ℕ) → j ≢ 0 → IsEnd z → N j z ≢ 0 → IsEnd (N j z)
  unfolding IsEnd
  end_on zero z n v m = absurd (n refl)
  end_on (suc zero) z n (y, h, e) m =
      let a : N 1 z ≡ tip (L 0 y) = ap (N 1) e ∙ s.turns y h in
      (L 0 y, set.on y 0 h (inr (inr refl)) (λ o. m (a ∙ (ap tip o ∙ fresh_tip.nothing))), a)
  end_on (suc (suc j)) z n (y, h, e) m =
      let a : N (suc (suc j)) z ≡ tip (L (beside (suc (suc j))) y) = ap (N (suc (suc j))) e ∙ tip_high 0 L w InFace set star tip fresh_star fresh_tip two N s (suc (suc j)) y (omega arith) (inl h) in
      (L (beside (suc (suc j))) y, set.on y (beside (suc (suc j))) h (beside_closed 0 L w InFace set star tip fresh_star fresh_tip two N s (suc (suc j)) (omega arith)) (λ o. m (a ∙ (ap tip o ∙ fresh_tip.nothing))), a)

  -- and holds them all
  end_step : (c j u : ℕ) → j ≢ 2 → InFace u → InCell alpha N 0 c (tip u) → L j u ≢ 0 → InFace (L j u) × InCell alpha N 0 c (tip (L j u))
  end_step c zero u n h o m =
      let k : InFace (L 0 u) = set.on u 0 h (inr (inr refl)) m in
      let a : N 1 (tip u) ≡ tip (L 0 u) = s.turns u h in
      (k, rw a at (alpha_closed N 0 1 c (tip u) (λ e. omega arith) o (λ z. fresh_tip.dart (L 0 u) k (sym a ∙ z))))
  end_step c (suc zero) u n h o m =
      let k : InFace (L 1 u) = set.on u 1 h (inl refl) m in
      let a : N 2 (tip u) ≡ tip (L 1 u) = s.beyond_tip u h in
      (k, rw a at (alpha_closed N 0 2 c (tip u) (λ e. omega arith) o (λ z. fresh_tip.dart (L 1 u) k (sym a ∙ z))))
  end_step c (suc (suc zero)) u n h o m = absurd (n refl)
  end_step c (suc (suc (suc j))) u n h o m =
      let k : InFace (L (suc (suc (suc j))) u) = set.on u (suc (suc (suc j))) h (inr (inl (omega arith))) m in
      let a : N (suc (suc (suc j))) (tip u) ≡ tip (L (suc (suc (suc j))) u) = s.along_tip u (suc (suc (suc j))) h (omega arith) in
      (k, rw a at (alpha_closed N 0 (suc (suc (suc j))) c (tip u) (λ e. omega arith) o (λ z. fresh_tip.dart (L (suc (suc (suc j))) u) k (sym a ∙ z))))

  end_from : (x y : ℕ) → InFace x → InCell alpha L 2 x y → InFace y × InCell alpha N 0 (tip x) (tip y)
  end_from x y h here = (h, here)
  end_from x y h (onward {x = u} {y = v} o (word, c, e, n)) =
      let q : (j : ℕ) × (j ≢ 2) × (word ≡ one_link j) = word_one alpha 2 all_alpha word c in
      let a : L q.0 u ≡ v = ap (λ t. through L t u) (sym q.2) ∙ e in
      let r : InFace u × InCell alpha N 0 (tip x) (tip u) = end_from x u h o in
      let m : L q.0 u ≢ 0 = λ z. n (sym a ∙ z) in
      rw a at (end_step (tip x) q.0 u q.1 r.0 r.1 m)

  pub triangle_middle : (x z : ℕ) → InFace x → InCell alpha N 0 (tip x) z ↔ ((y : ℕ) × InFace y × (z ≡ tip y))
  unfolding IsEnd
  triangle_middle x z h = (
    λ o. cell_in alpha 0 all_alpha N IsEnd end_on (tip x) z (x, h, refl) o,
    λ (y, k, e). rw e (end_from x y h (orbit_trans (Leads L (IsCellWord alpha 2)) x d y (cell_back alpha L w 2 d x h) k)).1,
  )

  -- the new face of a dart of the old one
  abbrev Beside : ℕ → ℕ → Type 0
  Beside = InOrbit (IsLinkedBy L (IsBesideCentre alpha))

  -- z is a dart beside x, or one of the two new darts that are made of it
  AroundTriangle : ℕ → ℕ → Type 0
  AroundTriangle x z = (y : ℕ) × Beside x y × InFace y × ((z ≡ y) ⊎ (z ≡ star y) ⊎ (z ≡ tip y))

  beside_on : (x y j : ℕ) → Beside x y → InFace y → (j ≡ 0) ⊎ (3 ≤ j) → L j y ≢ 0 → Beside x (L j y) × InFace (L j y)
  beside_on x y j b h c n = (onward b (j, c, refl, n), set.on y j h (elim c [ inl e ↦ inr (inr e) | inr l ↦ inr (inl l) ]) n)

  face_on : (x j z : ℕ) → j ≢ 2 → AroundTriangle x z → N j z ≢ 0 → AroundTriangle x (N j z)
  unfolding AroundTriangle
  face_on x zero z n (y, b, h, inl e) m =
      let a : N 0 z ≡ L 0 y = ap (N 0) e ∙ stays 0 y h (λ o. omega arith) in
      let q : Beside x (L 0 y) × InFace (L 0 y) = beside_on x y 0 b h (inl refl) (λ o. m (a ∙ o)) in
      (L 0 y, q.0, q.1, inl a)
  face_on x zero z n (y, b, h, inr (inl e)) m = (y, b, h, inr (inr (ap (N 0) e ∙ s.ends y h)))
  face_on x zero z n (y, b, h, inr (inr e)) m = (y, b, h, inr (inl (ap (N 0) e ∙ s.begins y h)))
  face_on x (suc zero) z n (y, b, h, inl e) m = (y, b, h, inr (inl (ap (N 1) e ∙ s.new y h)))
  face_on x (suc zero) z n (y, b, h, inr (inl e)) m = (y, b, h, inl (ap (N 1) e ∙ s.old y h))
  face_on x (suc zero) z n (y, b, h, inr (inr e)) m =
      let a : N 1 z ≡ tip (L 0 y) = ap (N 1) e ∙ s.turns y h in
      let q : Beside x (L 0 y) × InFace (L 0 y) = beside_on x y 0 b h (inl refl) (λ o. m (a ∙ (ap tip o ∙ fresh_tip.nothing))) in
      (L 0 y, q.0, q.1, inr (inr a))
  face_on x (suc (suc zero)) z n v m = absurd (n refl)
  face_on x (suc (suc (suc j))) z n (y, b, h, inl e) m =
      let a : N (suc (suc (suc j))) z ≡ L (suc (suc (suc j))) y = ap (N (suc (suc (suc j)))) e ∙ stays (suc (suc (suc j))) y h (λ o. omega arith) in
      let q : Beside x (L (suc (suc (suc j))) y) × InFace (L (suc (suc (suc j))) y) = beside_on x y (suc (suc (suc j))) b h (inr (omega arith)) (λ o. m (a ∙ o)) in
      (L (suc (suc (suc j))) y, q.0, q.1, inl a)
  face_on x (suc (suc (suc j))) z n (y, b, h, inr (inl e)) m =
      let a : N (suc (suc (suc j))) z ≡ star (L (suc (suc (suc j))) y) = ap (N (suc (suc (suc j)))) e ∙ s.along y (suc (suc (suc j))) h (omega arith) in
      let q : Beside x (L (suc (suc (suc j))) y) × InFace (L (suc (suc (suc j))) y) = beside_on x y (suc (suc (suc j))) b h (inr (omega arith)) (λ o. m (a ∙ (ap star o ∙ fresh_star.nothing))) in
      (L (suc (suc (suc j))) y, q.0, q.1, inr (inl a))
  face_on x (suc (suc (suc j))) z n (y, b, h, inr (inr e)) m =
      let a : N (suc (suc (suc j))) z ≡ tip (L (suc (suc (suc j))) y) = ap (N (suc (suc (suc j)))) e ∙ s.along_tip y (suc (suc (suc j))) h (omega arith) in
      let q : Beside x (L (suc (suc (suc j))) y) × InFace (L (suc (suc (suc j))) y) = beside_on x y (suc (suc (suc j))) b h (inr (omega arith)) (λ o. m (a ∙ (ap tip o ∙ fresh_tip.nothing))) in
      (L (suc (suc (suc j))) y, q.0, q.1, inr (inr a))

  -- a dart of the old face in the new one is a dart beside
  beside_of : (x y : ℕ) → InFace y → AroundTriangle x y → Beside x y
  unfolding AroundTriangle
  beside_of x y h (u, b, k, inl e) = rw e b
  beside_of x y h (u, b, k, inr (inl e)) = absurd (fresh_old alpha L w InFace star fresh_star y h (u, k, e))
  beside_of x y h (u, b, k, inr (inr e)) = absurd (fresh_old alpha L w InFace tip fresh_tip y h (u, k, e))

  along : (x y j : ℕ) → InFace y → InCell alpha N 2 x y → (j ≡ 0) ⊎ (3 ≤ j) → L j y ≢ 0 → InFace (L j y) × InCell alpha N 2 x (L j y)
  along x y j h o c n =
      let not_one : j ≢ 1 = elim c [ inl e ↦ (λ q. omega arith) | inr l ↦ (λ q. omega arith) ] in
      let not_two : j ≢ 2 = elim c [ inl e ↦ (λ q. omega arith) | inr l ↦ (λ q. omega arith) ] in
      let a : N j y ≡ L j y = stays j y h not_one in
      (set.on y j h (elim c [ inl e ↦ inr (inr e) | inr l ↦ inr (inl l) ]) n, rw a at (alpha_closed N 2 j x y not_two o (λ z. n (sym a ∙ z))))

  face_from : (x y : ℕ) → InFace x → Beside x y → InFace y × InCell alpha N 2 x y
  face_from x y h here = (h, here)
  face_from x y h (onward {x = u} {y = v} o (j, c, e, n)) =
      let r : InFace u × InCell alpha N 2 x u = face_from x u h o in
      rw e at (along x u j r.0 r.1 c (λ z. n (sym e ∙ z)))

  pub triangle_face : (x y : ℕ) → InFace x → InFace y → InCell alpha N 2 x y ↔ InOrbit (IsLinkedBy L (IsBesideCentre alpha)) x y
  unfolding AroundTriangle
  triangle_face x y h k = (
    λ o. beside_of x y k (cell_in alpha 2 all_alpha N (AroundTriangle x) (face_on x) x y (x, here, h, inl refl) o),
    λ o. (face_from x y h o).1,
  )
