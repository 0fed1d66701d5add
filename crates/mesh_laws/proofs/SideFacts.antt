-- The links of sewn sides, dart by dart.
use Rattle.std.proofs.Common.{◌≡◌, ◌≢◌, ℕ, zero, suc, ◌+◌, ◌-◌, ◌*◌, ◌/◌, ◌%◌, ◌<◌, ◌≤◌, min, max, nat_le, ◌==◌, ◌&&◌, Bool, true, false, cond, List, length, Option, Some, None, refl, sym, ap, subst, ◌∙◌, ◌⊎◌, inl, inr, eq-eqb, arith}
use Rattle.std.proofs.lemmas.Bool.{cases_lt, cases_eq, eqb-true, and_parts, ne_eqb}
use Rattle.std.proofs.lemmas.Bool.Decides.{nat_tests}
use Rattle.map_defs.specs.Kind.{Kind, alpha, inverse, IsDistant}
use Rattle.map_defs.specs.Links.{Links}
use Rattle.map_defs.specs.Laws.{Laws}
use Rattle.map_defs.specs.MeshMap.{Side, start, finish, has_ends, AreJoined}
use Rattle.mesh_laws.specs.Sides.{side_of, partner_of, IsAlone, IsPair, HasPartner, IsSewn}
use Rattle.mesh_laws.specs.SideLinks.{Entries, entry, start_to, finish_to, start_entries, finish_entries, dart_entries, dart_count, mesh_links}

module _ (k : Kind) (sides : List Side) (partners : List (Option ℕ)) where
  -- the links of a dart are its entries
  pub reads : (i d : ℕ) → 1 ≤ d → d ≤ dart_count k sides → mesh_links k sides partners i d ≡ entry (dart_entries k sides partners d) i
  reads i d low high =
      let test : nat_le 1 d && nat_le d (dart_count k sides) ≡ true = grind (arith, nat_tests) in
      rw test refl

  pub none-outside : (i d : ℕ) → (d ≡ 0) ⊎ (dart_count k sides < d) → mesh_links k sides partners i d ≡ 0
  none-outside i d (inl low) =
      let test : nat_le 1 d && nat_le d (dart_count k sides) ≡ false = grind (arith, nat_tests) in
      rw test refl
  none-outside i d (inr high) =
      let test : nat_le 1 d && nat_le d (dart_count k sides) ≡ false = grind (arith, nat_tests) in
      rw test refl

-- two sides with the same two points lead alike or against each other
pub same-way : (s t : Side) → has_ends s t ≡ true → s.from ≡ t.from → s.to ≡ t.to
same-way s t e f =
    let p = and_parts (min t.from t.to == min s.from s.to) (max t.from t.to == max s.from s.to) e in
    let low = eqb-true (min t.from t.to) (min s.from s.to) p.0 in
    let high = eqb-true (max t.from t.to) (max s.from s.to) p.1 in
    omega arith

pub other-way : (s t : Side) → has_ends s t ≡ true → s.from ≢ t.from → (s.from ≡ t.to) × (s.to ≡ t.from)
other-way s t e f =
    let p = and_parts (min t.from t.to == min s.from s.to) (max t.from t.to == max s.from s.to) e in
    let low = eqb-true (min t.from t.to) (min s.from s.to) p.0 in
    let high = eqb-true (max t.from t.to) (max s.from s.to) p.1 in
    (omega arith, omega arith)

module _ (sides : List Side) (partners : List (Option ℕ)) (sewn : IsSewn false sides partners) (L : Links) (is : (i d : ℕ) → L i d ≡ mesh_links alpha sides partners i d) where
  abbrev pub S : ℕ → ℕ
  S s = start alpha s

  abbrev pub T : ℕ → ℕ
  T s = finish s

  first-entries : (s : ℕ) → dart_entries alpha sides partners (S s) ≡ start_entries alpha sides partners s
  first-entries s =
      let odd : (2 * s + 1) % 2 == 1 ≡ true = grind arith in
      let half : (2 * s + 1 - 1) / 2 ≡ s = omega arith in
      rw (odd, half) refl

  second-entries : (s : ℕ) → dart_entries alpha sides partners (T s) ≡ finish_entries sides partners s
  second-entries s =
      let even : (2 * s + 2) % 2 == 1 ≡ false = grind arith in
      let half : (2 * s + 2 - 1) / 2 ≡ s = omega arith in
      rw (even, half) refl

  pub at-first : (i s : ℕ) → s < length sides → L i (S s) ≡ entry (start_entries alpha sides partners s) i
  at-first i s h = is i (S s) ∙ (reads alpha sides partners i (S s) (omega arith) (omega arith) ∙ ap (λ (e : Entries). entry e i) (first-entries s))

  pub at-second : (i s : ℕ) → s < length sides → L i (T s) ≡ entry (finish_entries sides partners s) i
  at-second i s h = is i (T s) ∙ (reads alpha sides partners i (T s) (omega arith) (omega arith) ∙ ap (λ (e : Entries). entry e i) (second-entries s))

  pub nil_alpha : (i d : ℕ) → (d ≡ 0) ⊎ (2 * length sides < d) → L i d ≡ 0
  nil_alpha i d h = is i d ∙ none-outside alpha sides partners i d h

  -- a dart of no side, or one of the two of a side
  pub darts : (d : ℕ) → ((d ≡ 0) ⊎ (2 * length sides < d)) ⊎ ((s : ℕ) × (s < length sides) × ((d ≡ S s) ⊎ (d ≡ T s)))
  darts d = elim (cases_eq d 0) [
    | inl none ↦ inl (inl none)
    | inr some ↦ elim (cases_lt (2 * length sides) d) [
      | inl past ↦ inl (inr past)
      | inr within ↦ elim (cases_eq ((d - 1) % 2) 0) [
        | inl even ↦ inr ((d - 1) / 2, omega arith, inl (omega arith))
        | inr odd ↦ inr ((d - 1) / 2, omega arith, inr (omega arith))
      ]
    ]
  ]

  pub flat_alpha : (i d : ℕ) → L (suc (suc (suc i))) d ≡ 0
  flat_alpha i d = elim (darts d) [
    | inl outside ↦ nil_alpha (suc (suc (suc i))) d outside
    | inr (s, within, inl at) ↦ ap (L (suc (suc (suc i)))) at ∙ at-first (suc (suc (suc i))) s within
    | inr (s, within, inr at) ↦ ap (L (suc (suc (suc i)))) at ∙ at-second (suc (suc (suc i))) s within
  ]

  -- what link 2 does at side s: nothing, or it joins the darts of another side
  abbrev pub Meets : ℕ → ℕ → Type 0
  Meets s t =
      (((side_of sides s).from ≡ (side_of sides t).from) × AreJoined L (S s) (S t) × AreJoined L (T s) (T t))
      ⊎ (((side_of sides s).from ≢ (side_of sides t).from) × AreJoined L (S s) (T t) × AreJoined L (T s) (S t))

  abbrev pub Across : ℕ → Type 0
  Across s = ((L 2 (S s) ≡ 0) × (L 2 (T s) ≡ 0) × IsAlone sides s) ⊎ ((t : ℕ) × IsPair false sides s t × Meets s t)

  across-of : (s : ℕ) → s < length sides → (p : Option ℕ) → partner_of partners s ≡ p → HasPartner false sides partners s p → Across s
  across-of s h None e alone = inl (at-first 2 s h ∙ ap (start_to alpha sides s) e, at-second 2 s h ∙ ap (finish_to sides s) e, alone)
  across-of s h (Some t) e (pair, back) =
      let from_s : ℕ = (side_of sides s).from in
      let from_t : ℕ = (side_of sides t).from in
      let s1 : L 2 (S s) ≡ start_to alpha sides s (Some t) = at-first 2 s h ∙ ap (start_to alpha sides s) e in
      let s2 : L 2 (T s) ≡ finish_to sides s (Some t) = at-second 2 s h ∙ ap (finish_to sides s) e in
      let t1 : L 2 (S t) ≡ start_to alpha sides t (Some s) = at-first 2 t pair.within ∙ ap (start_to alpha sides t) back in
      let t2 : L 2 (T t) ≡ finish_to sides t (Some s) = at-second 2 t pair.within ∙ ap (finish_to sides t) back in
      inr (
        t,
        pair,
        elim (cases_eq from_s from_t) [
          | inl same ↦
              let test : from_s == from_t ≡ true = eq-eqb from_s from_t same in
              let turn : from_t == from_s ≡ true = eq-eqb from_t from_s (sym same) in
              inl (
                same,
                (s1 ∙ ap (λ (b : Bool). cond b (S t) (T t)) test, t1 ∙ ap (λ (b : Bool). cond b (S s) (T s)) turn),
                (s2 ∙ ap (λ (b : Bool). cond b (T t) (S t)) test, t2 ∙ ap (λ (b : Bool). cond b (T s) (S s)) turn),
              )
          | inr other ↦
              let test : from_s == from_t ≡ false = ne_eqb from_s from_t other in
              let turn : from_t == from_s ≡ false = ne_eqb from_t from_s (λ e. other (sym e)) in
              inr (
                other,
                (s1 ∙ ap (λ (b : Bool). cond b (S t) (T t)) test, t2 ∙ ap (λ (b : Bool). cond b (T s) (S s)) turn),
                (s2 ∙ ap (λ (b : Bool). cond b (T t) (S t)) test, t1 ∙ ap (λ (b : Bool). cond b (S s) (T s)) turn),
              )
        ],
      )

  pub across : (s : ℕ) → s < length sides → Across s
  across s h = across-of s h (partner_of partners s) refl (sewn.each s h)

  nil0 : (i : ℕ) → L i 0 ≡ 0
  nil0 i = nil_alpha i 0 (inl refl)

  -- the inverse link leads back
  back-first : (i s : ℕ) → s < length sides → L i (S s) ≢ 0 → L i (L i (S s)) ≡ S s
  back-first zero s h some = ap (L 0) (at-first 0 s h) ∙ at-second 0 s h
  back-first (suc zero) s h some =
      let r = sewn.ring s h in
      ap (L 1) (at-first 1 s h) ∙ (at-second 1 (side_of sides s).previous r.previous ∙ ap S r.back)
  back-first (suc (suc zero)) s h some = elim (across s h) [
    | inl none ↦ absurd (some none.0)
    | inr (t, pair, inl meets) ↦ ap (L 2) meets.1.0 ∙ meets.1.1
    | inr (t, pair, inr meets) ↦ ap (L 2) meets.1.0 ∙ meets.1.1
  ]
  back-first (suc (suc (suc i))) s h some = absurd (some (flat_alpha i (S s)))

  back-second : (i s : ℕ) → s < length sides → L i (T s) ≢ 0 → L i (L i (T s)) ≡ T s
  back-second zero s h some = ap (L 0) (at-second 0 s h) ∙ at-first 0 s h
  back-second (suc zero) s h some =
      let r = sewn.ring s h in
      ap (L 1) (at-second 1 s h) ∙ (at-first 1 (side_of sides s).next r.next ∙ ap T r.on)
  back-second (suc (suc zero)) s h some = elim (across s h) [
    | inl none ↦ absurd (some none.1)
    | inr (t, pair, inl meets) ↦ ap (L 2) meets.2.0 ∙ meets.2.1
    | inr (t, pair, inr meets) ↦ ap (L 2) meets.2.0 ∙ meets.2.1
  ]
  back-second (suc (suc (suc i))) s h some = absurd (some (flat_alpha i (T s)))

  pub back_alpha : (i x : ℕ) → L i x ≢ 0 → L (inverse alpha i) (L i x) ≡ x
  back_alpha i x some = elim (darts x) [
    | inl outside ↦ absurd (some (nil_alpha i x outside))
    | inr (s, h, inl at) ↦ ap (λ (d : ℕ). L i (L i d)) at ∙ (back-first i s h (λ e. some (ap (L i) at ∙ e)) ∙ sym at)
    | inr (s, h, inr at) ↦ ap (λ (d : ℕ). L i (L i d)) at ∙ (back-second i s h (λ e. some (ap (L i) at ∙ e)) ∙ sym at)
  ]

  apart-first : (i s : ℕ) → s < length sides → L i (S s) ≢ S s
  apart-first zero s h e = let f = at-first 0 s h in absurd (omega arith)
  apart-first (suc zero) s h e = let f = at-first 1 s h in absurd (omega arith)
  apart-first (suc (suc zero)) s h e = elim (across s h) [
    | inl none ↦ let f = none.0 in absurd (omega arith)
    | inr (t, pair, inl meets) ↦ let f = meets.1.0 in let g = pair.apart in absurd (g (omega arith))
    | inr (t, pair, inr meets) ↦ let f = meets.1.0 in absurd (omega arith)
  ]
  apart-first (suc (suc (suc i))) s h e = let f = flat_alpha i (S s) in absurd (omega arith)

  apart-second : (i s : ℕ) → s < length sides → L i (T s) ≢ T s
  apart-second zero s h e = let f = at-second 0 s h in absurd (omega arith)
  apart-second (suc zero) s h e = let f = at-second 1 s h in absurd (omega arith)
  apart-second (suc (suc zero)) s h e = elim (across s h) [
    | inl none ↦ let f = none.1 in absurd (omega arith)
    | inr (t, pair, inl meets) ↦ let f = meets.2.0 in let g = pair.apart in absurd (g (omega arith))
    | inr (t, pair, inr meets) ↦ let f = meets.2.0 in absurd (omega arith)
  ]
  apart-second (suc (suc (suc i))) s h e = let f = flat_alpha i (T s) in absurd (omega arith)

  apart_alpha : (i x : ℕ) → inverse alpha i ≡ i → x ≢ 0 → L i x ≢ x
  apart_alpha i x self some e = elim (darts x) [
    | inl outside ↦ some (sym e ∙ nil_alpha i x outside)
    | inr (s, h, inl at) ↦ apart-first i s h (ap (L i) (sym at) ∙ (e ∙ at))
    | inr (s, h, inr at) ↦ apart-second i s h (ap (L i) (sym at) ∙ (e ∙ at))
  ]

  -- links 0 and 2 commute
  square-first : (s : ℕ) → s < length sides → L 0 (L 2 (S s)) ≡ L 2 (L 0 (S s))
  square-first s h = elim (across s h) [
    | inl none ↦ ap (L 0) none.0 ∙ (nil0 0 ∙ sym (ap (L 2) (at-first 0 s h) ∙ none.1))
    | inr (t, pair, inl meets) ↦ ap (L 0) meets.1.0 ∙ (at-first 0 t pair.within ∙ sym (ap (L 2) (at-first 0 s h) ∙ meets.2.0))
    | inr (t, pair, inr meets) ↦ ap (L 0) meets.1.0 ∙ (at-second 0 t pair.within ∙ sym (ap (L 2) (at-first 0 s h) ∙ meets.2.0))
  ]

  square-second : (s : ℕ) → s < length sides → L 0 (L 2 (T s)) ≡ L 2 (L 0 (T s))
  square-second s h = elim (across s h) [
    | inl none ↦ ap (L 0) none.1 ∙ (nil0 0 ∙ sym (ap (L 2) (at-second 0 s h) ∙ none.0))
    | inr (t, pair, inl meets) ↦ ap (L 0) meets.2.0 ∙ (at-second 0 t pair.within ∙ sym (ap (L 2) (at-second 0 s h) ∙ meets.1.0))
    | inr (t, pair, inr meets) ↦ ap (L 0) meets.2.0 ∙ (at-first 0 t pair.within ∙ sym (ap (L 2) (at-second 0 s h) ∙ meets.1.0))
  ]

  square-two : (x : ℕ) → L 0 (L 2 x) ≡ L 2 (L 0 x)
  square-two x = elim (darts x) [
    | inl outside ↦ ap (L 0) (nil_alpha 2 x outside) ∙ (nil0 0 ∙ sym (ap (L 2) (nil_alpha 0 x outside) ∙ nil0 2))
    | inr (s, h, inl at) ↦ subst (λ (d : ℕ). L 0 (L 2 d) ≡ L 2 (L 0 d)) (sym at) (square-first s h)
    | inr (s, h, inr at) ↦ subst (λ (d : ℕ). L 0 (L 2 d) ≡ L 2 (L 0 d)) (sym at) (square-second s h)
  ]

  square-up : (i j x : ℕ) → i + 2 ≤ j → L i (L j x) ≡ L j (L i x)
  square-up i zero x h = absurd (omega arith)
  square-up i (suc zero) x h = absurd (omega arith)
  square-up zero (suc (suc zero)) x h = square-two x
  square-up (suc i) (suc (suc zero)) x h = absurd (omega arith)
  square-up i (suc (suc (suc j))) x h = ap (L i) (flat_alpha j x) ∙ (nil0 i ∙ sym (flat_alpha j (L i x)))

  square_alpha : (i j x : ℕ) → IsDistant alpha i j → L (inverse alpha i) (L j x) ≡ L (inverse alpha j) (L i x)
  unfolding IsDistant
  square_alpha i j x (inl below) = square-up i j x below
  square_alpha i j x (inr above) = sym (square-up j i x above)

  pub laws_alpha : Laws alpha L
  laws_alpha = record { nil = nil0; back = back_alpha; apart = apart_alpha; square = square_alpha }
