-- The oriented half of a generalized map whose darts have signs exists.
use Rattle.std.proofs.Common.{ℕ, zero, suc, ◌≡◌, ◌≢◌, ◌<◌, ◌≤◌, ◌⊎◌, List, [], ◌∷◌, length, get_or, Contains, Bool, true, false, not, refl, sym, ap, ◌∙◌, subst, inl, inr, arith}
use Rattle.std.proofs.lemmas.Bool.{cases_lt, false≢true, cases_eq}
use Rattle.map_defs.specs.Kind.{alpha}
use Rattle.map_defs.specs.Links.{Links, HasDimension, LeadsToLive}
use Rattle.map_defs.specs.Laws.{Laws}
use Rattle.map_defs.specs.Rows.{Rows, links_of}
use Rattle.half_defs.specs.Orientation.{Sign, darts_of, IsPositive, AreSigns}
use Rattle.half_defs.specs.Halves.{AreOrigins, origin, IsHalf, HasDarts}
use Rattle.half_laws.proofs.DoubleRanks.{origin_past, origin_has, origin_one, rank_or_none}
use Rattle.half_laws.proofs.HalfSigns.{dart_listed, sign_at}
use Rattle.half_laws.proofs.ThereRows.{rows_there}
use Rattle.half_laws.proofs.ThereLists.{origins_among}

-- a sign is told by its dart and by whether it is positive
pub sign_named : (signs : List Sign) (s : Sign) (d : ℕ) (b : Bool) → Contains signs s → s.dart ≡ d → s.positive ≡ b → Contains signs (record { dart = d; positive = b })
sign_named signs s d b h dart positive =
    subst (λ (t : Sign). Contains signs t) (ap (λ (y : ℕ). record { dart = y; positive = s.positive }) dart ∙ ap (λ (c : Bool). record { dart = d; positive = c }) positive) h

-- signs tell of each dart whether it is positive
positive_told : (signs : List Sign) (d : ℕ) → IsPositive signs d ⊎ (IsPositive signs d → ⊥)
positive_told [] d = inr (λ h. let l = h.1 in omega arith)
positive_told (s ∷ signs) d = elim (positive_told signs d) [
  | inl later ↦ inl (suc later.0, (let l = later.1 in omega arith), later.2)
  | inr out ↦ first s.dart s.positive refl refl out
]
  where
    first : (dart : ℕ) (positive : Bool) → s.dart ≡ dart → s.positive ≡ positive → (IsPositive signs d → ⊥) → IsPositive (s ∷ signs) d ⊎ (IsPositive (s ∷ signs) d → ⊥)
    first dart false e p out = inr (λ h. held h.0 h.1 h.2)
      where
        held : (k : ℕ) → k < length (s ∷ signs) → get_or (s ∷ signs) k (record { dart = d; positive = true }) ≡ record { dart = d; positive = true } → ⊥
        held zero l is = false≢true (sym p ∙ ap (λ (sign : Sign). sign.positive) is)
        held (suc k) l is = out (k, omega arith, is)
    first dart true e p out = elim (cases_eq dart d) [
      | inl same ↦ inl (0, omega arith, is_sign s d (e ∙ same) p)
      | inr other ↦ inr (λ h. held other h.0 h.1 h.2)
    ]
      where
        is_sign : (t : Sign) (x : ℕ) → t.dart ≡ x → t.positive ≡ true → t ≡ record { dart = x; positive = true }
        is_sign t x a b = ap (λ (y : ℕ). record { dart = y; positive = t.positive }) a ∙ ap (λ (y : Bool). record { dart = x; positive = y }) b

        held : dart ≢ d → (k : ℕ) → k < length (s ∷ signs) → get_or (s ∷ signs) k (record { dart = d; positive = true }) ≡ record { dart = d; positive = true } → ⊥
        held other zero l is = other (sym e ∙ ap (λ (sign : Sign). sign.dart) is)
        held other (suc k) l is = out (k, omega arith, is)

pub half_same : (n : ℕ) (L : Links) (origins : List ℕ) (N O : Links) → ((i d : ℕ) → O i d ≡ N i d) → IsHalf n L origins N → IsHalf n L origins O
half_same n L origins N O same half = record {
  within = λ i r. subst (λ x. x ≤ length origins) (sym (same i r)) (half.within i r);
  along = λ i r low up. ap (origin origins) (same i r) ∙ half.along i r low up;
  turned = record {
    nothing = same 0 0 ∙ half.turned.nothing;
    back = λ x y hx hy. let b = half.turned.back x y hx hy in
        ((λ e. same 0 y ∙ b.0 (sym (same 1 x) ∙ e)), λ e. same 1 x ∙ b.1 (sym (same 0 y) ∙ e));
  };
  above = λ i d up. same i d ∙ half.above i d up;
}

module _ (n : ℕ) (Live : ℕ → Type 0) (L : Links) (w : Laws alpha L) (leads : LeadsToLive Live L) (high : HasDimension n L) (none : Live 0 → ⊥) (signs : List Sign) (signed : AreSigns n Live L signs) where
  -- the positive darts make origins
  pub positives_there : (origins : List ℕ) × AreOrigins (IsPositive signs) origins
  positives_there = origins_among (IsPositive signs) (positive_told signs) (darts_of signs) signed.ascending (λ d h. dart_listed signs (record { dart = d; positive = true }) h)

  positive_live : (d : ℕ) → IsPositive signs d → Live d
  positive_live d h = (signed.members d).0 (dart_listed signs (record { dart = d; positive = true }) h)

  low_link : (i d : ℕ) → L i d ≢ 0 → i ≤ n
  low_link i d linked = elim (cases_lt n i) [ inl up ↦ absurd (linked (high i d up)) | inr low ↦ low ]

  -- a link flips the sign
  flipped : (i : ℕ) (s : Sign) → Contains signs s → L i s.dart ≢ 0 → (t : Sign) × Contains signs t × (t.dart ≡ L i s.dart) × (t.positive ≡ not s.positive)
  flipped i s h linked =
      let t = sign_at signs (L i s.dart) ((signed.members (L i s.dart)).1 (leads i s.dart linked)) in
      (t.0, t.1, t.2, signed.flips s t.0 i h t.1 (low_link i s.dart linked) (sym t.2))

  -- two links lead from a positive dart to a positive one
  two_links : (i j d : ℕ) → IsPositive signs d → L j (L i d) ≢ 0 → IsPositive signs (L j (L i d))
  two_links i j d h linked =
      let s : Sign = record { dart = d; positive = true } in
      let t = flipped i s h (λ free. linked (ap (L j) free ∙ w.nil j)) in
      let u = flipped j t.0 t.1 (λ free. linked (ap (L j) (sym t.2) ∙ free)) in
      sign_named signs u.0 (L j (L i d)) true u.1 (u.2 ∙ ap (L j) t.2) (u.3 ∙ ap not t.3)

  module _ (origins : List ℕ) (are : AreOrigins (IsPositive signs) origins) where
    no_zero : IsPositive signs 0 → ⊥
    no_zero h = none (positive_live 0 h)

    -- where a link of the half leads: link i runs along link 0 and then link i, and link 0 back along link 1 and then link 0
    onward : Links
    onward zero d = L 0 (L 1 d)
    onward (suc i) d = L (suc i) (L 0 d)

    onward_positive : (i d : ℕ) → IsPositive signs d → onward i d ≢ 0 → IsPositive signs (onward i d)
    unfolding onward
    onward_positive zero d h linked = two_links 1 0 d h linked
    onward_positive (suc i) d h linked = two_links 0 (suc i) d h linked

    onward_nil : (i : ℕ) → onward i 0 ≡ 0
    unfolding onward
    onward_nil zero = ap (L 0) (w.nil 1) ∙ w.nil 0
    onward_nil (suc i) = ap (L (suc i)) (w.nil 0) ∙ w.nil (suc i)

    no_dart : (i r : ℕ) → origin origins r ≡ 0 → onward i (origin origins r) ≡ 0
    no_dart i r e = ap (onward i) e ∙ onward_nil i

    from_origin : (i r : ℕ) → onward i (origin origins r) ≢ 0 → IsPositive signs (onward i (origin origins r))
    from_origin i r linked = elim (cases_lt (length origins) r) [
      | inl past ↦ absurd (linked (no_dart i r (origin_past origins r past)))
      | inr low ↦ elim (cases_lt 0 r) [
        | inl dart ↦ onward_positive i (origin origins r) (origin_has (IsPositive signs) origins are r dart low) linked
        | inr first ↦ absurd (linked (no_dart i r (ap (origin origins) (let z : r ≡ 0 = omega arith in z))))
      ]
    ]

    found : (i r : ℕ) → (s : ℕ) × (s ≤ length origins) × (onward i (origin origins r) ≡ origin origins s)
    found i r = rank_or_none (IsPositive signs) origins are (onward i (origin origins r)) (from_origin i r)

    H : Links
    H i r = (found i r).0

    within : (i r : ℕ) → H i r ≤ length origins
    unfolding H
    within i r = (found i r).1

    is : (i r : ℕ) → origin origins (H i r) ≡ onward i (origin origins r)
    unfolding H
    is i r = sym (found i r).2

    one : (r s : ℕ) → r ≤ length origins → s ≤ length origins → origin origins r ≡ origin origins s → r ≡ s
    one r s hr hs e = origin_one (IsPositive signs) origins are no_zero r s hr hs e

    free : (i r : ℕ) → onward i (origin origins r) ≡ 0 → H i r ≡ 0
    free i r e = one (H i r) 0 (within i r) (omega arith) (is i r ∙ e)

    past : (i r : ℕ) → length origins < r → H i r ≡ 0
    past i r up = free i r (no_dart i r (origin_past origins r up))

    low_rank : (i r : ℕ) → H i r ≢ 0 → r ≤ length origins
    low_rank i r linked = elim (cases_lt (length origins) r) [ inl up ↦ absurd (linked (past i r up)) | inr low ↦ low ]

    some_origin : (r : ℕ) → r ≢ 0 → r ≤ length origins → origin origins r ≢ 0
    some_origin r dart low e = dart (one r 0 low (omega arith) e)

    -- links 1 and 0 of the half lead back and forth
    there_back : (x y : ℕ) → y ≢ 0 → H 1 x ≡ y → H 0 y ≡ x
    unfolding onward
    there_back x y hy e =
        let low : y ≤ length origins = subst (λ z. z ≤ length origins) e (within 1 x) in
        let led : L 1 (L 0 (origin origins x)) ≡ origin origins y = sym (is 1 x) ∙ ap (origin origins) e in
        let dart : origin origins y ≢ 0 = some_origin y hy low in
        let first : L 1 (origin origins y) ≡ L 0 (origin origins x) = ap (L 1) (sym led) ∙ w.back 1 (L 0 (origin origins x)) (λ z. dart (sym led ∙ z)) in
        let second : L 0 (L 0 (origin origins x)) ≡ origin origins x = w.back 0 (origin origins x) (λ z. dart (sym led ∙ (ap (L 1) z ∙ w.nil 1))) in
        one (H 0 y) x (within 0 y) (low_rank 1 x (λ z. hy (sym e ∙ z))) (is 0 y ∙ (ap (L 0) first ∙ second))

    back_there : (x y : ℕ) → x ≢ 0 → H 0 y ≡ x → H 1 x ≡ y
    unfolding onward
    back_there x y hx e =
        let low : x ≤ length origins = subst (λ z. z ≤ length origins) e (within 0 y) in
        let led : L 0 (L 1 (origin origins y)) ≡ origin origins x = sym (is 0 y) ∙ ap (origin origins) e in
        let dart : origin origins x ≢ 0 = some_origin x hx low in
        let first : L 0 (origin origins x) ≡ L 1 (origin origins y) = ap (L 0) (sym led) ∙ w.back 0 (L 1 (origin origins y)) (λ z. dart (sym led ∙ z)) in
        let second : L 1 (L 1 (origin origins y)) ≡ origin origins y = w.back 1 (origin origins y) (λ z. dart (sym led ∙ (ap (L 0) z ∙ w.nil 0))) in
        one (H 1 x) y (within 1 x) (low_rank 0 y (λ z. hx (sym e ∙ z))) (is 1 x ∙ (ap (L 1) first ∙ second))

    along : (i r : ℕ) → 1 ≤ i → origin origins (H i r) ≡ L i (L 0 (origin origins r))
    unfolding onward
    along zero r low = absurd (omega arith)
    along (suc i) r low = is (suc i) r

    above : (i r : ℕ) → n < i → H i r ≡ 0
    above i r up = one (H i r) 0 (within i r) (omega arith) (along i r (omega arith) ∙ high i (L 0 (origin origins r)) up)

    is_half : IsHalf n L origins H
    is_half = record {
      within = within;
      along = λ i r low up. along i r low;
      turned = record {
        nothing = free 0 0 (onward_nil 0);
        back = λ x y hx hy. (there_back x y hy, back_there x y hx);
      };
      above = above;
    }

    pub half_there : (rows : Rows) × HasDarts n (length origins) rows × IsHalf n L origins (links_of rows)
    half_there =
        let found_rows = rows_there n (length origins) H above (λ i. free i 0 (onward_nil i)) past in
        (found_rows.0, found_rows.1, half_same n L origins H (links_of found_rows.0) found_rows.2 is_half)

  -- the positive darts, and rows of the half
  pub half_found : (origins : List ℕ) × (half : Rows) × AreOrigins (IsPositive signs) origins × HasDarts n (length origins) half × IsHalf n L origins (links_of half)
  half_found =
      let listed = positives_there in
      let there = half_there listed.0 listed.1 in
      (listed.0, there.0, listed.1, there.1, there.2)
