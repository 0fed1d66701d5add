-- An edit that lists the links of darts makes just these links.
use Rattle.std.proofs.Common.{◌≡◌, ◌≢◌, ℕ, zero, suc, ◌+◌, ◌-◌, ◌<◌, ◌≤◌, ◌==◌, Bool, true, false, cond, List, [], ◌∷◌, ◌++◌, length, get_or, Option, None, is_some, refl, sym, ap, subst, ◌∙◌, ◌⊎◌, inl, inr, arith}
use Rattle.std.specs.Prelude.{All}
use Rattle.std.specs.List.{AllPairs, flat_map, range_with_len}
use Rattle.std.proofs.lemmas.Bool.{cases_lt, cases_eq, ne_eqb}
use Rattle.std.proofs.lemmas.List.{get_or_append_left, get_or-append_right, length-append}
use Rattle.std.proofs.lemmas.List.Elements.{All-nil, All-cons, All-append}
use Rattle.map_defs.specs.Kind.{Kind, inverse}
use Rattle.map_defs.specs.Links.{Links}
use Rattle.map_defs.specs.Rows.{Rows, links_of, IsLive}
use Rattle.map_defs.specs.Edits.{Change, Edit, with_births, linked, Fits}
use Rattle.edit_laws.proofs.RowWrites.{IsWide, births-wide, births-links, births-new}
use Rattle.edit_laws.proofs.EditLinks.{touched, untouched}
use Rattle.mesh_laws.specs.SideLinks.{Entries, entry, entry_change, entry_changes}

-- pairs of a list that is put together
AllPairs-append : {X : Type 0} (R : X → X → Type 0) (xs ys : List X) → AllPairs R xs → AllPairs R ys → ((i j : ℕ) (d : X) → i < length xs → j < length ys → R (get_or xs i d) (get_or ys j d)) → AllPairs R (xs ++ ys)
AllPairs-append R xs ys first second across i j d lt within = elim (cases_lt j (length xs)) [
  | inl low ↦ rw (get_or_append_left xs ys d i (omega arith), get_or_append_left xs ys d j low) (first i j d lt low)
  | inr high ↦ rw (get_or-append_right xs ys (length xs) j d refl high) (elim (cases_lt i (length xs)) [
    | inl low ↦ rw (get_or_append_left xs ys d i low) (across i (j - length xs) d low (omega (arith, length-append xs ys)))
    | inr up ↦ rw (get_or-append_right xs ys (length xs) i d refl up) (second (i - length xs) (j - length xs) d (omega arith) (omega (arith, length-append xs ys)))
  ])
]

abbrev Apart : Change → Change → Type 0
Apart b c = b.dart ≡ c.dart → b.link ≡ c.link → ⊥

-- some change of the list is of this link of this dart
abbrev Has : List Change → ℕ → ℕ → Type 0
Has [] d i = ⊥
Has (c ∷ cs) d i = ((c.dart ≡ d) × (c.link ≡ i)) ⊎ Has cs d i

Has-left : (xs ys : List Change) (d i : ℕ) → Has xs d i → Has (xs ++ ys) d i
Has-left [] ys d i h = absurd h
Has-left (x ∷ xs) ys d i (inl here) = inl here
Has-left (x ∷ xs) ys d i (inr there) = inr (Has-left xs ys d i there)

Has-right : (xs ys : List Change) (d i : ℕ) → Has ys d i → Has (xs ++ ys) d i
Has-right [] ys d i h = h
Has-right (x ∷ xs) ys d i h = inr (Has-right xs ys d i h)

Has-use : (P : Change → Type 0) (cs : List Change) (d i : ℕ) → Has cs d i → All P cs → (c : Change) × P c × (c.dart ≡ d) × (c.link ≡ i)
Has-use P [] d i h all = absurd h
Has-use P (c ∷ cs) d i (inl here) all = (c, all 0 c (omega arith), here.0, here.1)
Has-use P (c ∷ cs) d i (inr there) all = Has-use P cs d i there (λ k z h. all (suc k) z (omega arith))

-- the changes of one link
one-all : (P : Change → Type 0) (d link x : ℕ) → (x ≢ 0 → P (record { dart = d; link = link; old = 0; new = x })) → All P (entry_change d link x)
one-all P d link x h = elim (cases_eq x 0) [
  | inl none ↦ rw none (All-nil P)
  | inr some ↦ at (x == 0) (ne_eqb x 0 some) (h some)
]
  where
    at : (b : Bool) → b ≡ false → P (record { dart = d; link = link; old = 0; new = x }) → All P (cond b [] (record { dart = d; link = link; old = 0; new = x } ∷ []))
    at b e p = rw e (All-cons P (record { dart = d; link = link; old = 0; new = x }) [] p (All-nil P))

one-has : (d link x : ℕ) → x ≢ 0 → Has (entry_change d link x) d link
one-has d link x some = rw (ne_eqb x 0 some) (inl (refl, refl))

one-pairs : (d link x : ℕ) → AllPairs Apart (entry_change d link x)
one-pairs d link x = at (x == 0)
  where
    at : (b : Bool) → AllPairs Apart (cond b [] (record { dart = d; link = link; old = 0; new = x } ∷ []))
    at true i j z lt within = absurd (omega arith)
    at false i j z lt within = absurd (omega arith)

-- what is told of each change of a dart
pub record TellsEntry (d : ℕ) (e : Entries) (c : Change) : Type 0 where
  pub dart : c.dart ≡ d
  pub link : c.link ≤ 2
  pub old : c.old ≡ 0
  pub new : c.new ≡ entry e c.link
  pub some : c.new ≢ 0

dart-all : (d : ℕ) (e : Entries) → All (TellsEntry d e) (entry_changes d e)
dart-all d e =
    All-append (TellsEntry d e) (entry_change d 0 e.zeroth ++ entry_change d 1 e.first) (entry_change d 2 e.second)
    (All-append (TellsEntry d e) (entry_change d 0 e.zeroth) (entry_change d 1 e.first)
    (one-all (TellsEntry d e) d 0 e.zeroth (λ some. record { dart = refl; link = omega arith; old = refl; new = refl; some = some }))
    (one-all (TellsEntry d e) d 1 e.first (λ some. record { dart = refl; link = omega arith; old = refl; new = refl; some = some })))
    (one-all (TellsEntry d e) d 2 e.second (λ some. record { dart = refl; link = omega arith; old = refl; new = refl; some = some }))

links-all : (d link x : ℕ) → All (λ (c : Change). c.link ≡ link) (entry_change d link x)
links-all d link x = one-all (λ (c : Change). c.link ≡ link) d link x (λ some. refl)

dart-pairs : (d : ℕ) (e : Entries) → AllPairs Apart (entry_changes d e)
dart-pairs d e =
    let zeroth : List Change = entry_change d 0 e.zeroth in
    let first : List Change = entry_change d 1 e.first in
    let second : List Change = entry_change d 2 e.second in
    let low : All (λ (c : Change). c.link ≤ 1) (zeroth ++ first) =
    All-append (λ (c : Change). c.link ≤ 1) zeroth first (one-all (λ (c : Change). c.link ≤ 1) d 0 e.zeroth (λ some. omega arith)) (one-all (λ (c : Change). c.link ≤ 1) d 1 e.first (λ some. omega arith)) in
    AllPairs-append Apart (zeroth ++ first) second
    (AllPairs-append Apart zeroth first (one-pairs d 0 e.zeroth) (one-pairs d 1 e.first)
    (λ i j z h k. λ dart link. let a = links-all d 0 e.zeroth i z h in let b = links-all d 1 e.first j z k in absurd (omega arith)))
    (one-pairs d 2 e.second)
    (λ i j z h k. λ dart link. let a = low i z h in let b = links-all d 2 e.second j z k in absurd (omega arith))

dart-has : (d i : ℕ) (e : Entries) → entry e i ≢ 0 → Has (entry_changes d e) d i
dart-has d zero e some = Has-left (entry_change d 0 e.zeroth ++ entry_change d 1 e.first) (entry_change d 2 e.second) d 0 (Has-left (entry_change d 0 e.zeroth) (entry_change d 1 e.first) d 0 (one-has d 0 e.zeroth some))
dart-has d (suc zero) e some = Has-left (entry_change d 0 e.zeroth ++ entry_change d 1 e.first) (entry_change d 2 e.second) d 1 (Has-right (entry_change d 0 e.zeroth) (entry_change d 1 e.first) d 1 (one-has d 1 e.first some))
dart-has d (suc (suc zero)) e some = Has-right (entry_change d 0 e.zeroth ++ entry_change d 1 e.first) (entry_change d 2 e.second) d 2 (one-has d 2 e.second some)
dart-has d (suc (suc (suc i))) e some = absurd (some refl)

module _ (E : ℕ → Entries) where
  -- the changes of the darts from a on
  abbrev changes_from : ℕ → ℕ → List Change
  changes_from a len = flat_map (λ d. entry_changes d (E d)) (range_with_len a len)

  -- what is told of each change
  abbrev Told : ℕ → ℕ → Change → Type 0
  Told a len c = (a ≤ c.dart) × (c.dart < a + len) × TellsEntry c.dart (E c.dart) c

  told-of : (d : ℕ) (c : Change) → TellsEntry d (E d) c → TellsEntry c.dart (E c.dart) c
  told-of d c t = subst (λ (x : ℕ). TellsEntry x (E x) c) (sym t.dart) t

  all-told : (a len : ℕ) → All (Told a len) (changes_from a len)
  all-told a zero = All-nil (Told a 0)
  all-told a (suc len) =
      All-append (Told a (suc len)) (entry_changes a (E a)) (changes_from (a + 1) len)
      (λ k z h. let t = dart-all a (E a) k z h in (omega (arith, t.dart), omega (arith, t.dart), told-of a (get_or (entry_changes a (E a)) k z) t))
      (λ k z h. let t = all-told (a + 1) len k z h in (omega arith, omega arith, t.2))

  all-pairs : (a len : ℕ) → AllPairs Apart (changes_from a len)
  all-pairs a zero = λ i j z lt within. absurd (omega arith)
  all-pairs a (suc len) =
      AllPairs-append Apart (entry_changes a (E a)) (changes_from (a + 1) len) (dart-pairs a (E a)) (all-pairs (a + 1) len)
      (λ i j z h k. λ dart link. let t = dart-all a (E a) i z h in let u = all-told (a + 1) len j z k in absurd (omega (arith, t.dart, u.0)))

  all-has : (a len d i : ℕ) → a ≤ d → d < a + len → entry (E d) i ≢ 0 → Has (changes_from a len) d i
  all-has a zero d i low high some = absurd (omega arith)
  all-has a (suc len) d i low high some = elim (cases_eq a d) [
    | inl is ↦ Has-left (entry_changes a (E a)) (changes_from (a + 1) len) d i (subst (λ (x : ℕ). Has (entry_changes x (E x)) d i) (sym is) (dart-has d i (E d) some))
    | inr other ↦ Has-right (entry_changes a (E a)) (changes_from (a + 1) len) d i (all-has (a + 1) len d i (omega arith) (omega arith) some)
  ]

-- The links N are those of the darts 1 to m by their entries.
pub record AreEntries (m : ℕ) (E : ℕ → Entries) (N : Links) : Type 0 where
  pub reads : (i d : ℕ) → 1 ≤ d → d ≤ m → N i d ≡ entry (E d) i
  pub none : (i d : ℕ) → (d ≡ 0) ⊎ (m < d) → N i d ≡ 0

abbrev pub listed : ℕ → (ℕ → Entries) → Edit
listed m E = record { births = m; deaths = []; changes = changes_from E 1 m }

module _ (k : Kind) (n m : ℕ) (E : ℕ → Entries) (N : Links) (dim : 2 ≤ n) (are : AreEntries m E N) (back : (i x : ℕ) → N i x ≢ 0 → N (inverse k i) (N i x) ≡ x) where
  abbrev nothing : Rows
  nothing = None ∷ []

  abbrev rows : Rows
  rows = with_births n m nothing

  abbrev changes : List Change
  changes = changes_from E 1 m

  no-links : (i d : ℕ) → links_of nothing i d ≡ 0
  no-links i zero = refl
  no-links i (suc d) = refl

  wide : IsWide n rows
  wide = births-wide n m nothing wide-nothing
    where
      wide-nothing : IsWide n nothing
      wide-nothing zero row is = absurd (cc)
      wide-nothing (suc x) row is = absurd (cc)

  living : All (λ (c : Change). IsLive rows c.dart) changes
  living p z h = let t = all-told E 1 m p z h in ap (λ (o : Option (List ℕ)). is_some o) (births-new n m nothing (get_or changes p z).dart (omega (arith, t.0)) (omega (arith, t.1)))

  within : All (λ (c : Change). c.link ≤ n) changes
  within p z h = let t = all-told E 1 m p z h in omega (arith, t.2.link)

  -- the links that the changes make
  pub same : (i d : ℕ) → links_of (linked changes rows) i d ≡ N i d
  same i d = elim (cases_eq (N i d) 0) [
    | inl none ↦ untouched changes rows i d (λ p z h. λ dart link.
        let t = all-told E 1 m p z h in
        let c : Change = get_or changes p z in
        t.2.some (t.2.new ∙ (sym (are.reads c.link c.dart t.0 (omega (arith, t.1))) ∙ (ap (λ (x : ℕ). N x c.dart) (sym link) ∙ (ap (N i) (sym dart) ∙ none)))))
        ∙ (births-links n m nothing i d ∙ (no-links i d ∙ sym none))
    | inr some ↦
        let low : 1 ≤ d = elim (cases_lt 0 d) [ inl lt ↦ lt | inr ge ↦ absurd (some (are.none i d (inl (omega arith)))) ] in
        let high : d ≤ m = elim (cases_lt m d) [ inl lt ↦ absurd (some (are.none i d (inr lt))) | inr ge ↦ ge ] in
        let has = all-has E 1 m d i low (omega arith) (λ e. some (are.reads i d low high ∙ e)) in
        let P : Change → Type 0 = λ c. (links_of (linked changes rows) c.link c.dart ≡ c.new) × Told E 1 m c in
        let at = touched n changes rows wide living within (all-pairs E 1 m) in
        let u = Has-use P changes d i has (λ p z h. (at p z h, all-told E 1 m p z h)) in
        let told : u.0.new ≡ N u.0.link u.0.dart = u.1.1.2.new ∙ sym (are.reads u.0.link u.0.dart u.1.1.0 (omega (arith, u.1.1.1))) in
        let whole : links_of (linked changes rows) u.0.link u.0.dart ≡ N u.0.link u.0.dart = u.1.0 ∙ told in
        subst (λ (x : ℕ). links_of (linked changes rows) i x ≡ N i x) u.2 (subst (λ (x : ℕ). links_of (linked changes rows) x u.0.dart ≡ N x u.0.dart) u.3 whole)
  ]

  -- The edit fits.
  pub listed-fits : Fits k n nothing (listed m E)
  listed-fits = record {
    darts = living;
    links = within;
    stands = λ p z h. let t = all-told E 1 m p z h in no-links (get_or changes p z).link (get_or changes p z).dart ∙ sym t.2.old;
    once = all-pairs E 1 m;
    back = λ i x some.
        let is : N i x ≢ 0 = λ none. some (same i x ∙ none) in
        ap (links_of (linked changes rows) (inverse k i)) (same i x) ∙ (same (inverse k i) (N i x) ∙ back i x is);
    living = λ p z h. absurd (omega arith);
    ends = λ i j z lt h. absurd (omega arith);
    free = λ p z h. absurd (omega arith);
  }
