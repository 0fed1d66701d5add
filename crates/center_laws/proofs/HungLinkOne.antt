-- Link 1 is one-to-one where edges are hung on the darts of a combinatorial map.
use Rattle.std.proofs.Common.{ℕ, ◌≡◌, ◌≢◌, ◌⊎◌, refl, sym, ap, subst, inl, inr, ◌∙◌, arith}
use Rattle.map_defs.specs.Kind.{beta}
use Rattle.map_defs.specs.Links.{Links}
use Rattle.map_defs.specs.Laws.{Laws}
use Rattle.map_defs.specs.Cells.{InCell}
use Rattle.map_defs.specs.Births.{IsFresh}
use Rattle.link_laws.proofs.LawFacts.{dart_of_link}
use Rattle.link_laws.proofs.CellFacts.{beta_closed}
use Rattle.insert_laws.proofs.Fresh.{fresh_link, fresh_old}
use Rattle.insert_laws.proofs.OneToOne.{pieces_one}

-- what stands before a dart of K leads to the begin of its edge, this to the end, and this to the dart of K
abbrev HungPiece : (ℕ → Type 0) → (ℕ → ℕ) → (ℕ → ℕ) → (ℕ → ℕ) → ℕ → ℕ → Type 0
HungPiece K from star tip x z = ((c : ℕ) × K c × (x ≡ from c) × (z ≡ star c)) ⊎ (((c : ℕ) × K c × (x ≡ star c) × (z ≡ tip c)) ⊎ (K z × (x ≡ tip z)))

module _ (L : Links) (w : Laws beta L) (K : ℕ → Type 0) (from : ℕ → ℕ)
    (led_in : (y : ℕ) → L 1 y ≢ 0 → K (L 1 y) → (c : ℕ) × K c × (y ≡ from c))
    (star tip : ℕ → ℕ) (fresh_star : IsFresh L K star) (fresh_tip : IsFresh L K tip) (two : (x y : ℕ) → K x → K y → star x ≢ tip y) (f : ℕ → ℕ)
    (into : (x : ℕ) → K x → f (from x) ≡ star x) (onward : (x : ℕ) → K x → f (star x) ≡ tip x) (out : (x : ℕ) → K x → f (tip x) ≡ x)
    (kept : (x : ℕ) → ((y : ℕ) → K y → x ≢ from y) → ((y : ℕ) → K y → x ≢ star y) → ((y : ℕ) → K y → x ≢ tip y) → f x ≡ L 1 x) where
  hung_told : (x z : ℕ) → HungPiece K from star tip x z → f x ≡ z
  hung_told x z (inl (c, h, e, q)) = ap f e ∙ (into c h ∙ sym q)
  hung_told x z (inr (inl (c, h, e, q))) = ap f e ∙ (onward c h ∙ sym q)
  hung_told x z (inr (inr (h, e))) = ap f e ∙ out z h

  -- a dart of K is neither the begin nor the end of a new edge
  not_star : (c z : ℕ) → K c → K z → z ≢ star c
  not_star c z h g e = fresh_old beta L w K star fresh_star z g (c, h, e)

  not_tip : (c z : ℕ) → K c → K z → z ≢ tip c
  not_tip c z h g e = fresh_old beta L w K tip fresh_tip z g (c, h, e)

  hung_pieces_one : (x y z : ℕ) → z ≢ 0 → HungPiece K from star tip x z → HungPiece K from star tip y z → x ≡ y
  hung_pieces_one x y z n (inl (c, h, e, q)) (inl (d, g, r, m)) = e ∙ (ap from (fresh_star.one c d h g (sym q ∙ m)) ∙ sym r)
  hung_pieces_one x y z n (inl (c, h, e, q)) (inr (inl (d, g, r, m))) = absurd (two c d h g (sym q ∙ m))
  hung_pieces_one x y z n (inl (c, h, e, q)) (inr (inr (g, r))) = absurd (not_star c z h g q)
  hung_pieces_one x y z n (inr (inl (c, h, e, q))) (inl (d, g, r, m)) = absurd (two d c g h (sym m ∙ q))
  hung_pieces_one x y z n (inr (inl (c, h, e, q))) (inr (inl (d, g, r, m))) = e ∙ (ap star (fresh_tip.one c d h g (sym q ∙ m)) ∙ sym r)
  hung_pieces_one x y z n (inr (inl (c, h, e, q))) (inr (inr (g, r))) = absurd (not_tip c z h g q)
  hung_pieces_one x y z n (inr (inr (h, e))) (inl (d, g, r, m)) = absurd (not_star d z g h m)
  hung_pieces_one x y z n (inr (inr (h, e))) (inr (inl (d, g, r, m))) = absurd (not_tip d z g h m)
  hung_pieces_one x y z n (inr (inr (h, e))) (inr (inr (g, r))) = e ∙ sym r

  hung_led : (x y : ℕ) → L 1 y ≢ 0 → HungPiece K from star tip x (L 1 y) → (z : ℕ) × HungPiece K from star tip y z
  hung_led x y n (inl (c, h, e, q)) = absurd (fresh_link beta L w K star fresh_star 1 y (c, h, q))
  hung_led x y n (inr (inl (c, h, e, q))) = absurd (fresh_link beta L w K tip fresh_tip 1 y (c, h, q))
  hung_led x y n (inr (inr (h, e))) = let b : (c : ℕ) × K c × (y ≡ from c) = led_in y n h in (star b.0, inl (b.0, b.1, b.2, refl))

  pub hung_one : (x y : ℕ) → f x ≢ 0 → f x ≡ f y → x ≡ y
  hung_one = pieces_one L w (HungPiece K from star tip) f (record {
    told = hung_told;
    one = hung_pieces_one;
    led = hung_led;
    kept = λ x n. kept x
        (λ y h e. n (star y) (inl (y, h, e, refl)))
        (λ y h e. n (tip y) (inr (inl (y, h, e, refl))))
        (λ y h e. n y (inr (inr (h, e))));
  })

-- what leads to a corner stands before it, and what leads into a face lies in it
pub led_to_corner : (L : Links) → Laws beta L → (K : ℕ → Type 0) → (y : ℕ) → L 1 y ≢ 0 → K (L 1 y) → (c : ℕ) × K c × (y ≡ L 0 c)
led_to_corner L w K y n h = (L 1 y, h, sym (w.back 1 y n))

pub led_to_face : (L : Links) → Laws beta L → (d y : ℕ) → L 1 y ≢ 0 → InCell beta L 2 d (L 1 y) → (c : ℕ) × InCell beta L 2 d c × (y ≡ c)
led_to_face L w d y n h =
    let b : L 0 (L 1 y) ≡ y = w.back 1 y n in
    let m : L 0 (L 1 y) ≢ 0 = λ o. dart_of_link beta L w 1 y n (sym b ∙ o) in
    (y, subst (λ c. InCell beta L 2 d c) b (beta_closed L 0 0 d (L 1 y) (omega arith) h m), refl)
