-- Where the links of a new dart lead: link t of the new dart of x leads to the new dart of y.
use Rattle.std.proofs.Common.{ℕ, suc, ◌≡◌, ◌≢◌, ◌+◌, refl, sym, ap, inl, inr, ⊎_elim, ◌∙◌, arith}
use Rattle.map_defs.specs.Kind.{Kind, inverse, place, IsDistant}
use Rattle.map_defs.specs.Links.{Links}
use Rattle.map_defs.specs.Laws.{Laws}
use Rattle.map_defs.specs.Insertion.{IsInsertable, GoesAlong}
use Rattle.link_laws.proofs.Basics.{same_or_not, IsDistant-turned, IsDistant-inverse_right, IsDistant-inverses}
use Rattle.insert_laws.proofs.Fresh.{InOrNone}
use Rattle.insert_laws.proofs.Places.{IsBeside, same, next, below, far, link_cases, next_own, place_near}

-- for a dart x of K: over link i at the next link, along a distant link, or by a pair
pub data Leads (k : Kind) (i : ℕ) (P : ℕ → ℕ → ℕ → Type 0) (L : Links) : ℕ → ℕ → ℕ → Type 0 where
  over : {t x y : ℕ} → t ≡ suc i → y ≡ L i x → Leads k i P L t x y
  along : {t x y : ℕ} → IsDistant k i t → y ≡ L (inverse k t) x → Leads k i P L t x y
  paired : {t x y : ℕ} → P x y t → Leads k i P L t x y

-- and from no dart to none
pub data Stands (k : Kind) (i : ℕ) (K : ℕ → Type 0) (P : ℕ → ℕ → ℕ → Type 0) (L : Links) : ℕ → ℕ → ℕ → Type 0 where
  none : {t x y : ℕ} → x ≡ 0 → y ≡ 0 → Stands k i K P L t x y
  some : {t x y : ℕ} → K x → Leads k i P L t x y → Stands k i K P L t x y

-- two distant links of a new dart close a square
abbrev pub Square : (k : Kind) (i : ℕ) (K : ℕ → Type 0) (P : ℕ → ℕ → ℕ → Type 0) (L : Links) (t j y z : ℕ) → Type 0
Square k i K P L t j y z = (v : ℕ) × Stands k i K P L (inverse k j) y v × Stands k i K P L (inverse k t) z v

module _ (k : Kind) (i : ℕ) (K : ℕ → Type 0) (P : ℕ → ℕ → ℕ → Type 0) (L : Links) (w : Laws k L) (can : IsInsertable k i K P L) where
  carried_link : (x j : ℕ) → K x → IsDistant k i j → InOrNone K (L j x)
  carried_link x j h f = ⊎_elim (λ z. inr z) (λ n. inl (can.carried x j h (inr f) n)) (same_or_not (L j x) 0)

  carried_own : (x : ℕ) → K x → InOrNone K (L i x)
  carried_own x h = ⊎_elim (λ z. inr z) (λ n. inl (can.carried x i h (inl refl) n)) (same_or_not (L i x) 0)

  leads_end : (t x y : ℕ) → K x → Leads k i P L t x y → InOrNone K y
  leads_end t x y h (over e g) = rw g (carried_own x h)
  leads_end t x y h (along f g) = rw g (carried_link x (inverse k t) h (IsDistant-inverse_right k i t f))
  leads_end t x y h (paired p) = ⊎_elim (λ z. inr z) (λ n. inl (can.ends x y t p n)) (same_or_not y 0)

  pub stands_end : (t x y : ℕ) → Stands k i K P L t x y → InOrNone K y
  stands_end t x y (none a b) = inr b
  stands_end t x y (some h l) = leads_end t x y h l

  pub stands_turned : (t x y : ℕ) → Stands k i K P L t x y → y ≢ 0 → Stands k i K P L (inverse k t) y x
  stands_turned t x y (none a b) n = absurd (n b)
  stands_turned t x y (some h l) n = some (⊎_elim (λ g. g) (λ z. absurd (n z)) (leads_end t x y h l)) (turn l)
    where
      turn : Leads k i P L t x y → Leads k i P L (inverse k t) y x
      turn (over e g) =
          let b : L (inverse k i) (L i x) ≡ x = w.back i x (λ z. n (g ∙ z)) in
          over (ap (inverse k) e ∙ next_own k i can.own) (cc (can.own))
      turn (along f g) =
          let b : L (inverse k (inverse k t)) (L (inverse k t) x) ≡ x = w.back (inverse k t) x (λ z. n (g ∙ z)) in
          along (IsDistant-inverse_right k i t f) (cc)
      turn (paired p) = paired (can.turned x y t p n)

  -- each link of a new dart but link i leads somewhere
  pub stands_some : (t x : ℕ) → K x → t ≢ i → ((y : ℕ) → Stands k i K P L t x y → ⊥) → ⊥
  stands_some t x h n nope = by (link_cases k i t can.own)
    where
      by : IsBeside k i t → ⊥
      by (same e) = n e
      by (next e) = nope (L i x) (some h (over e refl))
      by (below b) = can.some x t h b (λ y p. nope y (some h (paired p)))
      by (far f) = nope (L (inverse k t) x) (some h (along f refl))

  pub stands_apart : (t x : ℕ) → x ≢ 0 → inverse k t ≡ t → Stands k i K P L t x x → ⊥
  stands_apart t x hx own (none a b) = hx a
  stands_apart t x hx own (some h (over e g)) = w.apart i x can.own hx (sym g)
  stands_apart t x hx own (some h (along f g)) = w.apart t x own hx (ap (λ j. L j x) (sym own) ∙ sym g)
  stands_apart t x hx own (some h (paired p)) = can.moves x x t p own refl

  -- from the end of one lead another starts
  from : (t y v : ℕ) → InOrNone K y → (K y → Leads k i P L t y v) → (y ≡ 0 → v ≡ 0) → Stands k i K P L t y v
  from t y v (inl h) f g = some h (f h)
  from t y v (inr z) f g = none z (g z)

  over_along : (t j x y z : ℕ) → t ≡ suc i → y ≡ L i x → IsDistant k i j → z ≡ L (inverse k j) x → InOrNone K y → InOrNone K z → Square k i K P L t j y z
  over_along t j x y z e a f b hy hz =
      let q : L (inverse k i) (L (inverse k j) x) ≡ L (inverse k (inverse k j)) (L i x) = w.square i (inverse k j) x (IsDistant-inverse_right k i j f) in
      let c : L (inverse k (inverse k j)) y ≡ L i z = cc (can.own) in (
        L i z,
        from (inverse k j) y (L i z) hy (λ _. along (IsDistant-inverse_right k i j f) (sym c)) (λ o. sym c ∙ (ap (L (inverse k (inverse k j))) o ∙ w.nil (inverse k (inverse k j)))),
        from (inverse k t) z (L i z) hz (λ _. over (ap (inverse k) e ∙ next_own k i can.own) refl) (λ o. ap (L i) o ∙ w.nil i),
      )

  over_paired : (t j x y z : ℕ) → t ≡ suc i → y ≡ L i x → P x z j → InOrNone K y → InOrNone K z → Square k i K P L t j y z
  over_paired t j x y z e a p hy hz =
      let g : GoesAlong k i j i = inl refl in
      let own : inverse k i ≡ i = can.own in (
        L i z,
        from (inverse k j) y (L i z) hy
            (λ h. paired (rw (a, ← ap (λ u. L u z) own) (can.across x z j i p g (λ o. can.dart y h (a ∙ o)))))
            (λ o. ap (λ u. L u z) (sym own) ∙ can.even x z j i p g (sym a ∙ o)),
        from (inverse k t) z (L i z) hz (λ _. over (ap (inverse k) e ∙ next_own k i can.own) refl) (λ o. ap (L i) o ∙ w.nil i),
      )

  along_along : (t j x y z : ℕ) → IsDistant k t j → IsDistant k i t → y ≡ L (inverse k t) x → IsDistant k i j → z ≡ L (inverse k j) x → InOrNone K y → InOrNone K z → Square k i K P L t j y z
  along_along t j x y z far' f a g b hy hz =
      let q : L (inverse k (inverse k t)) (L (inverse k j) x) ≡ L (inverse k (inverse k j)) (L (inverse k t) x) = w.square (inverse k t) (inverse k j) x (IsDistant-inverses k t j far') in
      let c : L (inverse k (inverse k j)) y ≡ L (inverse k (inverse k t)) z = cc in (
        L (inverse k (inverse k t)) z,
        from (inverse k j) y (L (inverse k (inverse k t)) z) hy (λ _. along (IsDistant-inverse_right k i j g) (sym c)) (λ o. sym c ∙ (ap (L (inverse k (inverse k j))) o ∙ w.nil (inverse k (inverse k j)))),
        from (inverse k t) z (L (inverse k (inverse k t)) z) hz (λ _. along (IsDistant-inverse_right k i t f) refl) (λ o. ap (L (inverse k (inverse k t))) o ∙ w.nil (inverse k (inverse k t))),
      )

  along_paired : (t j x y z : ℕ) → IsDistant k t j → IsDistant k i t → y ≡ L (inverse k t) x → P x z j → InOrNone K y → InOrNone K z → Square k i K P L t j y z
  along_paired t j x y z far' f a p hy hz =
      let g : GoesAlong k i j (inverse k t) = inr (IsDistant-inverse_right k i t f, IsDistant-inverse_right k j t (IsDistant-turned k t j far')) in
      let v : ℕ = L (inverse k (inverse k t)) z in (
        v,
        from (inverse k j) y v hy
            (λ h. paired (rw a (can.across x z j (inverse k t) p g (λ o. can.dart y h (a ∙ o)))))
            (λ o. can.even x z j (inverse k t) p g (sym a ∙ o)),
        from (inverse k t) z v hz (λ _. along (IsDistant-inverse_right k i t f) refl) (λ o. ap (L (inverse k (inverse k t))) o ∙ w.nil (inverse k (inverse k t))),
      )

  turn_square : (t j y z : ℕ) → Square k i K P L j t z y → Square k i K P L t j y z
  turn_square t j y z s = (s.0, s.2, s.1)

  leads_square : (t j x y z : ℕ) → IsDistant k t j → Leads k i P L t x y → Leads k i P L j x z → InOrNone K y → InOrNone K z → Square k i K P L t j y z
  leads_square t j x y z f (over e a) (over g b) hy hz = absurd (place_near k t j (ap (place k) (e ∙ sym g)) f)
  leads_square t j x y z f (over e a) (along g b) hy hz = over_along t j x y z e a g b hy hz
  leads_square t j x y z f (over e a) (paired p) hy hz = over_paired t j x y z e a p hy hz
  leads_square t j x y z f (along g b) (over e a) hy hz = turn_square t j y z (over_along j t x z y e a g b hz hy)
  leads_square t j x y z f (along g b) (along h c) hy hz = along_along t j x y z f g b h c hy hz
  leads_square t j x y z f (along g b) (paired p) hy hz = along_paired t j x y z f g b p hy hz
  leads_square t j x y z f (paired p) (over e a) hy hz = turn_square t j y z (over_paired j t x z y e a p hz hy)
  leads_square t j x y z f (paired p) (along g b) hy hz = turn_square t j y z (along_paired j t x z y (IsDistant-turned k t j f) g b p hz hy)
  leads_square t j x y z f (paired p) (paired q) hy hz =
      let a : place k t + 1 ≡ place k i = (can.begins x y t p).1 in
      let b : place k j + 1 ≡ place k i = (can.begins x z j q).1 in absurd (place_near k t j (omega arith) f)

  pub stands_square : (t j x y z : ℕ) → IsDistant k t j → Stands k i K P L t x y → Stands k i K P L j x z → Square k i K P L t j y z
  stands_square t j x y z f (none a b) (none c d) = (0, none b refl, none d refl)
  stands_square t j x y z f (none a b) (some h l) = absurd (can.dart x h a)
  stands_square t j x y z f (some h l) (none c d) = absurd (can.dart x h c)
  stands_square t j x y z f (some h l) (some g m) = leads_square t j x y z f l m (leads_end t x y h l) (leads_end j x z h m)
