-- The changes from links to other links: what each tells, that each difference is told, and that none is told twice.
use Rattle.std.proofs.Common.{ℕ, zero, suc, ◌≡◌, ◌≢◌, ◌+◌, ◌-◌, ◌<◌, ◌≤◌, ◌==◌, Bool, true, false, cond, List, [], ◌∷◌, ◌++◌, get_or, Contains, refl, sym, subst, inl, inr, append_assoc, arith}
use Rattle.std.specs.List.{AllPairs, flat_map, range_with_len}
use Rattle.std.proofs.lemmas.Bool.{eq-eqb, ne_eqb}
use Rattle.std.proofs.lemmas.List.Kept.{AllPairs-cons}
use Rattle.std.proofs.lemmas.List.Elements.{All-append, Contains-get_or, Contains-append_left, Contains-append_right, Contains-append_cases}
use Rattle.map_defs.specs.Links.{Links}
use Rattle.map_defs.specs.Edits.{Change}
use Rattle.link_laws.proofs.Basics.{same_or_not}
use Rattle.edit_laws.proofs.PolygonSides.{flat_map-range_more}
use Rattle.dual_map.specs.Differences.{link_changes, dart_changes, map_changes}

-- ---- lists that are put together
pairs-append : (R : Change → Change → Type 0) (xs ys : List Change) → AllPairs R xs → AllPairs R ys → ((x y : Change) → Contains xs x → Contains ys y → R x y) → AllPairs R (xs ++ ys)
pairs-append R [] ys first then across = then
pairs-append R (x ∷ xs) ys first then across =
    AllPairs-cons R x (xs ++ ys)
    (All-append (R x) xs ys (λ k d h. first 0 (suc k) d (omega arith) (omega arith)) (λ k d h. across x (get_or ys k d) (0, omega arith, refl) (Contains-get_or ys k d h)))
    (pairs-append R xs ys (λ i j d a b. first (suc i) (suc j) d (omega arith) (omega arith)) then (λ u v has had. across u v (later u has) had))
  where
    later : (u : Change) → Contains xs u → Contains (x ∷ xs) u
    later u has = (suc has.0, omega (arith, has.1), has.2)

module _ (f : ℕ → List Change) where
  -- an element is one of the list of some number
  flat-of : (a n : ℕ) (c : Change) → Contains (flat_map f (range_with_len a n)) c → (i : ℕ) × (a ≤ i) × (i < a + n) × Contains (f i) c
  flat-of a zero c has = absurd (omega (arith, has.1))
  flat-of a (suc n) c has = elim (Contains-append_cases (f a) (flat_map f (range_with_len (a + 1) n)) c has) [
    | inl own ↦ (a, omega arith, omega arith, own)
    | inr rest ↦ let e = flat-of (a + 1) n c rest in (e.0, omega (arith, e.1), omega (arith, e.2), e.3)
  ]

  flat-has : (a n i : ℕ) (c : Change) → a ≤ i → i < a + n → Contains (f i) c → Contains (flat_map f (range_with_len a n)) c
  flat-has a zero i c low high has = absurd (omega arith)
  flat-has a (suc n) i c low high has = elim (same_or_not i a) [
    | inl is ↦ Contains-append_left (f a) (flat_map f (range_with_len (a + 1) n)) c (subst (λ j. Contains (f j) c) is has)
    | inr other ↦ Contains-append_right (f a) (flat_map f (range_with_len (a + 1) n)) c (flat-has (a + 1) n i c (omega arith) (omega arith) has)
  ]

  flat-pairs : (R : Change → Change → Type 0) → ((i : ℕ) → AllPairs R (f i)) → ((i j : ℕ) (b c : Change) → i < j → Contains (f i) b → Contains (f j) c → R b c)
      → (a n : ℕ) → AllPairs R (flat_map f (range_with_len a n))
  flat-pairs R own across a zero = λ i j d low within. absurd (omega arith)
  flat-pairs R own across a (suc n) =
      pairs-append R (f a) (flat_map f (range_with_len (a + 1) n)) (own a) (flat-pairs R own across (a + 1) n)
      (λ b c has had. let e = flat-of (a + 1) n c had in across a e.0 b c (omega (arith, e.1)) has e.3)

  -- the list of one more number, behind others
  pub flat-grown : (m : ℕ) (start old new : List Change) → new ≡ old ++ f m → old ≡ start ++ flat_map f (range_with_len 0 m)
      → new ≡ start ++ flat_map f (range_with_len 0 (m + 1))
  flat-grown m start old new grown is = rw (grown, is, flat_map-range_more f m) (append_assoc start (flat_map f (range_with_len 0 m)) (f m))

-- the two changes are of different places
abbrev pub AreApart : Change → Change → Type 0
AreApart b c = b.dart ≡ c.dart → b.link ≡ c.link → ⊥

module _ (L N : Links) where
  -- a change from L to N
  pub record TellsChange (c : Change) : Type 0 where
    pub old : c.old ≡ L c.link c.dart
    pub new : c.new ≡ N c.link c.dart
    pub differ : c.old ≢ c.new

  -- ---- of one link
  change : ℕ → ℕ → Change
  change d i = record { dart = d; link = i; old = L i d; new = N i d }

  link-of : (d i : ℕ) (c : Change) → Contains (link_changes L N d i) c → (c.dart ≡ d) × (c.link ≡ i) × TellsChange c
  unfolding change
  link-of d i c has = elim (same_or_not (L i d) (N i d)) [
    | inl same ↦ absurd (none (L i d == N i d) (eq-eqb (L i d) (N i d) same) has)
    | inr other ↦ one other (rw (ne_eqb (L i d) (N i d) other) at has)
  ]
    where
      none : (b : Bool) → b ≡ true → Contains (cond b [] (change d i ∷ [])) c → ⊥
      none b is has = let e = rw is at has in omega (arith, e.1)

      one : L i d ≢ N i d → Contains (change d i ∷ []) c → (c.dart ≡ d) × (c.link ≡ i) × TellsChange c
      one other (zero, low, is) = subst (λ (b : Change). (b.dart ≡ d) × (b.link ≡ i) × TellsChange b) is (refl, refl, record { old = refl; new = refl; differ = other })
      one other (suc p, low, is) = absurd (omega arith)

  link-has : (d i : ℕ) → L i d ≢ N i d → Contains (link_changes L N d i) (change d i)
  unfolding change
  link-has d i other = rw (ne_eqb (L i d) (N i d) other) (0, omega arith, refl)

  link-pairs : (R : Change → Change → Type 0) (d i : ℕ) → AllPairs R (link_changes L N d i)
  link-pairs R d i = at (L i d == N i d)
    where
      at : (b : Bool) → AllPairs R (cond b [] (record { dart = d; link = i; old = L i d; new = N i d } ∷ []))
      at true = λ p q z low within. absurd (omega arith)
      at false = λ p q z low within. absurd (omega arith)

  module _ (n : ℕ) where
    -- ---- of one dart
    dart-of : (d : ℕ) (c : Change) → Contains (dart_changes n L N d) c → (c.dart ≡ d) × (c.link ≤ n) × TellsChange c
    dart-of d c has =
        let e = flat-of (link_changes L N d) 0 (n + 1) c has in
        let t = link-of d e.0 c e.3 in
        (t.0, omega (arith, e.2, t.1), t.2)

    dart-pairs : (d : ℕ) → AllPairs AreApart (dart_changes n L N d)
    dart-pairs d = flat-pairs (link_changes L N d) AreApart (link-pairs AreApart d)
        (λ i j b c low has had. λ dart link. omega (arith, (link-of d i b has).1, (link-of d j c had).1)) 0 (n + 1)

    -- ---- of the darts 1 to made
    pub map-of : (made : ℕ) (c : Change) → Contains (map_changes n L N made) c → (c.link ≤ n) × TellsChange c
    map-of made c has =
        let e = flat-of (λ p. dart_changes n L N (p + 1)) 0 made c has in
        let t = dart-of (e.0 + 1) c e.3 in
        (t.1, t.2)

    pub map-has : (made d i : ℕ) → 1 ≤ d → d ≤ made → i ≤ n → L i d ≢ N i d → Contains (map_changes n L N made) (record { dart = d; link = i; old = L i d; new = N i d })
    unfolding change
    map-has made d i low high within other =
        let at : (d - 1) + 1 ≡ d = omega arith in
        flat-has (λ p. dart_changes n L N (p + 1)) 0 made (d - 1) (change d i) (omega arith) (omega arith)
        (subst (λ x. Contains (dart_changes n L N x) (change d i)) (sym at) (flat-has (link_changes L N d) 0 (n + 1) i (change d i) (omega arith) (omega arith) (link-has d i other)))

    pub map-pairs : (made : ℕ) → AllPairs AreApart (map_changes n L N made)
    map-pairs made = flat-pairs (λ p. dart_changes n L N (p + 1)) AreApart (λ p. dart-pairs (p + 1))
        (λ i j b c low has had. λ dart link. omega (arith, (dart-of (i + 1) b has).0, (dart-of (j + 1) c had).0)) 0 made
