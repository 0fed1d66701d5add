-- Ids that go to the other end one dimension after another.
use Rattle.std.proofs.Common.{ℕ, ◌≡◌, ◌≢◌, ◌↔◌, ◌+◌, ◌-◌, ◌<◌, ◌≤◌, inl, inr, refl, sym, ap, subst, ◌∙◌, arith}
use Rattle.std.proofs.lemmas.Bool.{cases_lt, lt-ltb, le-ltb, eq-eqb}
use Rattle.std.proofs.lemmas.Bool.Decides.{eqb_tells}
use Rattle.store_defs.specs.Labelings.{Labeling, id_of, HasPlaces, exchanged}
use Rattle.label_laws.specs.Turning.{turned_below, AreTurnedBelow}

below-low : (n m i : ℕ) → i < m → turned_below n m i ≡ n - i
below-low n m i h = rw (lt-ltb i m h) refl

below-high : (n m i : ℕ) → m ≤ i → n < i → turned_below n m i ≡ i
below-high n m i h g = rw (le-ltb i m h, lt-ltb n i g) refl

below-other : (n m i : ℕ) → m ≤ i → i ≤ n → n - i < m → turned_below n m i ≡ n - i
below-other n m i h g f = rw (le-ltb i m h, le-ltb n i g, lt-ltb (n - i) m f) refl

below-middle : (n m i : ℕ) → m ≤ i → i ≤ n → m ≤ n - i → turned_below n m i ≡ i
below-middle n m i h g f = rw (le-ltb i m h, le-ltb n i g, le-ltb (n - i) m f) refl

exchanged-one : (one other i : ℕ) → i ≡ one → exchanged one other i ≡ other
exchanged-one one other i e = rw (eq-eqb i one e) refl

exchanged-other : (one other i : ℕ) → i ≡ other → exchanged one other i ≡ one
exchanged-other one other i e = elim (eqb_tells i one) [
  | inl same ↦ exchanged-one one other i same.1 ∙ sym e ∙ same.1
  | inr apart ↦ rw (apart.0, eq-eqb i other e) refl
]

exchanged-else : (one other i : ℕ) → i ≢ one → i ≢ other → exchanged one other i ≡ i
exchanged-else one other i h g = elim (eqb_tells i one) [
  | inl same ↦ absurd (h same.1)
  | inr apart ↦ elim (eqb_tells i other) [
    | inl same ↦ absurd (g same.1)
    | inr apart' ↦ rw (apart.0, apart'.0) refl
  ]
]

-- dimension m and the one at the other end change places
next-turned : (n m i : ℕ) → m ≤ n - m → m ≤ n → turned_below n m (exchanged m (n - m) i) ≡ turned_below n (m + 1) i
next-turned n m i h in_range = elim (eqb_tells i m) [
  | inl same ↦
      let at : exchanged m (n - m) i ≡ n - m = exchanged-one m (n - m) i same.1 in
      ap (turned_below n m) at ∙ below-middle n m (n - m) h (omega arith) (omega arith) ∙ (let e = same.1 in omega arith)
      ∙ sym (below-low n (m + 1) i (let e = same.1 in omega arith))
  | inr apart ↦ elim (eqb_tells i (n - m)) [
    | inl same ↦
        let at : exchanged m (n - m) i ≡ m = exchanged-other m (n - m) i same.1 in
        let other = apart.1 in
        let e = same.1 in
        let near : m + 1 ≤ i = omega arith in
        ap (turned_below n m) at ∙ below-middle n m m (omega arith) in_range h ∙ (let back : m ≡ n - i = omega arith in back)
        ∙ sym (below-other n (m + 1) i near (omega arith) (omega arith))
    | inr apart' ↦
        let other = apart.1 in
        let other' = apart'.1 in
        ap (turned_below n m) (exchanged-else m (n - m) i other other') ∙ elim (cases_lt i m) [
          | inl low ↦ below-low n m i low ∙ sym (below-low n (m + 1) i (omega arith))
          | inr far ↦ elim (cases_lt n i) [
            | inl high ↦ below-high n m i far high ∙ sym (below-high n (m + 1) i (omega arith) high)
            | inr within ↦ elim (cases_lt (n - i) m) [
              | inl mirror ↦ below-other n m i far within mirror ∙ sym (below-other n (m + 1) i (omega arith) within (omega arith))
              | inr middle ↦ below-middle n m i far within middle ∙ sym (below-middle n (m + 1) i (omega arith) within (omega arith))
            ]
          ]
        ]
  ]
]

pub turned-next : (n m : ℕ) (l b c : Labeling) → m ≤ n - m → m ≤ n → AreTurnedBelow n m l b → c.made ≡ b.made
    → ((i d : ℕ) → id_of c i d ≡ id_of b (exchanged m (n - m) i) d) → ((i : ℕ) → HasPlaces c i ↔ HasPlaces b (exchanged m (n - m) i))
    → AreTurnedBelow n (m + 1) l c
turned-next n m l b c h within t made ids places = record {
  ids = λ i d. ids i d ∙ t.ids (exchanged m (n - m) i) d ∙ ap (λ (j : ℕ). id_of l j d) (next-turned n m i h within);
  places = λ i. subst (λ (j : ℕ). HasPlaces c i ↔ HasPlaces l j) (next-turned n m i h within)
      ((λ here. (t.places (exchanged m (n - m) i)).0 ((places i).0 here)), λ there. (places i).1 ((t.places (exchanged m (n - m) i)).1 there));
  made = made ∙ t.made;
}
