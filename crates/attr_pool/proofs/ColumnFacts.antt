-- The columns of labels as they are lengthened, shortened and written, one after the other.
use Rattle.std.proofs.Common.{◌≡◌, ◌≢◌, ◌⊎◌, ◌↔◌, inl, inr, ℕ, zero, suc, ◌+◌, ◌<◌, ◌≤◌, List, [], length, get_or, set, take, None, refl, sym, ◌∙◌, ap, arith, length-set, get_or-set_other, get_or-set_same}
use Rattle.std.proofs.lemmas.List.{get_or-take, get_or_past, get_or_default, set-get_or, length-take}
use Rattle.store_defs.specs.Labelings.{as_id, id_at}
use Rattle.attr_pool.specs.Columns.{KeepsColumn, AreLong}

abbrev pub at : List (List ℕ) → ℕ → List ℕ
at columns i = get_or columns i []

told : (j n : ℕ) → (j ≡ n) ⊎ (j ≢ n)
told j n = grind arith

-- a column after one was written
pub at_set : (cs : List (List ℕ)) (n j : ℕ) (col : List ℕ) → n < length cs → ((j ≡ n) × (at (set cs n col) j ≡ col)) ⊎ ((j ≢ n) × (at (set cs n col) j ≡ at cs j))
at_set cs n j col h = go (told j n)
  where
    go : (j ≡ n) ⊎ (j ≢ n) → ((j ≡ n) × (at (set cs n col) j ≡ col)) ⊎ ((j ≢ n) × (at (set cs n col) j ≡ at cs j))
    go (inl e) = inl (e, rw (e, get_or-set_same) refl)
    go (inr e) = inr (e, get_or-set_other cs n j col [] e)

-- what a column is, as it is read
pub at_read : (cs : List (List ℕ)) (n : ℕ) (c : List ℕ) → n < length cs → c ≡ get_or cs n c → c ≡ at cs n
at_read cs n c h e = e ∙ get_or_default cs n c [] h

-- the columns below n were lengthened to the darts up to made
pub record AreGrown (old new : List (List ℕ)) (made n : ℕ) : Type 0 where
  pub size : length new ≡ length old
  pub kept : (i : ℕ) → KeepsColumn (at old i) (at new i)
  pub none : (i : ℕ) → length (at old i) ≡ 0 → length (at new i) ≡ 0
  pub long : (i : ℕ) → i < n → 0 < length (at old i) → made < length (at new i)

pub kept_same : (c : List ℕ) → KeepsColumn c c
kept_same c = record { ids = λ d. refl; longer = omega arith }

pub grown_begun : (cs : List (List ℕ)) (made : ℕ) → AreGrown cs cs made 0
grown_begun cs made = record { size = refl; kept = λ i. kept_same (at cs i); none = λ i h. h; long = λ i l h. absurd (omega arith) }

pub grown_more : (old new : List (List ℕ)) (made n : ℕ) (col : List ℕ) → AreGrown old new made n → n < length new
    → KeepsColumn (at new n) col → (0 < length (at new n) → made < length col) → (length (at new n) ≡ 0 → length col ≡ 0)
    → AreGrown old (set new n col) made (suc n)
grown_more old new made n col g within keeps long none = record { size = length-set new n col ∙ g.size; kept = kept; none = bare; long = longer }
  where
    joined : KeepsColumn (at old n) col
    joined = record { ids = λ d. keeps.ids d ∙ (g.kept n).ids d; longer = (let a = keeps.longer in let b = (g.kept n).longer in omega arith) }

    kept : (i : ℕ) → KeepsColumn (at old i) (at (set new n col) i)
    kept i = elim (at_set new n i col within) [ inl p ↦ rw (p.1, p.0) joined | inr p ↦ rw p.1 (g.kept i) ]

    bare : (i : ℕ) → length (at old i) ≡ 0 → length (at (set new n col) i) ≡ 0
    bare i h = elim (at_set new n i col within) [ inl p ↦ rw p.1 (none (g.none n (rw p.0 at h))) | inr p ↦ rw p.1 (g.none i h) ]

    longer : (i : ℕ) → i < suc n → 0 < length (at old i) → made < length (at (set new n col) i)
    longer i l h = elim (at_set new n i col within) [
      | inl p ↦ (let h' = rw p.0 at h in let b = (g.kept n).longer in rw p.1 (long (omega arith)))
      | inr p ↦ (let e = p.0 in let l' : i < n = omega arith in rw p.1 (g.long i l' h))
    ]

-- the labels stay whole while columns are lengthened
pub grown_long : (old new : List (List ℕ)) (made further n : ℕ) → AreLong made old → AreGrown old new further n → AreLong made new
grown_long old new made further n a g = record { all = g.size ∙ a.all; long = long; bare = λ i d h. (g.kept i).ids d ∙ a.bare i d h }
  where
    long : (i : ℕ) → 0 < length (at new i) → made < length (at new i)
    long i h = let b = (g.kept i).longer in let z = g.none i in let w = a.long i in grind arith

pub grown_all : (old new : List (List ℕ)) (made further n : ℕ) → AreLong made old → AreGrown old new further n → made ≤ further → 9 ≤ n → AreLong further new
grown_all old new made further n a g more far = record { all = g.size ∙ a.all; long = long; bare = λ i d h. (g.kept i).ids d ∙ a.bare i d (omega arith) }
  where
    some : (i : ℕ) → 0 < length (at new i) → 0 < length (at old i)
    some i h = let z = g.none i in grind arith

    case : (i : ℕ) → (i < n) ⊎ (length old ≤ i)
    case i = let e = a.all in grind arith

    long : (i : ℕ) → 0 < length (at new i) → further < length (at new i)
    long i h = elim (case i) [ inl l ↦ g.long i l (some i h) | inr l ↦ (let s = some i h in let e = ap length (get_or_past old i [] l) in absurd (omega arith)) ]

take_empty : (n : ℕ) → take {A = ℕ} n [] ≡ []
take_empty zero = refl
take_empty (suc n) = refl

-- the columns below n were shortened
pub record AreCut (old new : List (List ℕ)) (made n : ℕ) : Type 0 where
  pub size : length new ≡ length old
  pub cut : (i : ℕ) → i < n → at new i ≡ take (made + 1) (at old i)
  pub rest : (i : ℕ) → n ≤ i → at new i ≡ at old i

pub cut_begun : (cs : List (List ℕ)) (made : ℕ) → AreCut cs cs made 0
cut_begun cs made = record { size = refl; cut = λ i l. absurd (omega arith); rest = λ i l. refl }

pub cut_more : (old new : List (List ℕ)) (made n : ℕ) (col : List ℕ) → AreCut old new made n → n < length new → col ≡ take (made + 1) (at new n) → AreCut old (set new n col) made (suc n)
cut_more old new made n col g within is = record { size = length-set new n col ∙ g.size; cut = cut; rest = rest }
  where
    cut : (i : ℕ) → i < suc n → at (set new n col) i ≡ take (made + 1) (at old i)
    cut i l = elim (at_set new n i col within) [
      | inl p ↦ p.1 ∙ is ∙ ap (take (made + 1)) (g.rest n (omega arith)) ∙ ap (λ j. take (made + 1) (at old j)) (sym p.0)
      | inr p ↦ (let e = p.0 in let l' : i < n = omega arith in p.1 ∙ g.cut i l')
    ]

    rest : (i : ℕ) → suc n ≤ i → at (set new n col) i ≡ at old i
    rest i l = elim (at_set new n i col within) [ inl p ↦ absurd (let e = p.0 in omega arith) | inr p ↦ p.1 ∙ g.rest i (omega arith) ]

pub cut_all : (old new : List (List ℕ)) (made n : ℕ) → AreCut old new made n → length old ≤ n → (i : ℕ) → at new i ≡ take (made + 1) (at old i)
cut_all old new made n g all i = elim (case i) [ inl l ↦ g.cut i l | inr l ↦ g.rest i l ∙ past i (omega arith) ]
  where
    case : (i : ℕ) → (i < n) ⊎ (n ≤ i)
    case i = grind arith

    past : (i : ℕ) → length old ≤ i → at old i ≡ take (made + 1) (at old i)
    past i l = rw (get_or_past old i [] l, take_empty) refl

pub id_cut : (c : List ℕ) (made d : ℕ) → d ≤ made → id_at (take (made + 1) c) d ≡ id_at c d
id_cut c made d h = ap as_id (get_or-take (made + 1) c d 0 (omega arith))

short : (c : List ℕ) (n : ℕ) → length (take n c) ≤ n
short c n = rw length-take (omega arith)

pub id_gone : (c : List ℕ) (made d : ℕ) → made < d → id_at (take (made + 1) c) d ≡ None
id_gone c made d h = ap as_id (get_or_past (take (made + 1) c) d 0 (let s = short c (made + 1) in omega arith))

some_cut : (c : List ℕ) (made : ℕ) → (0 < length (take (made + 1) c)) ↔ (0 < length c)
some_cut c made = rw length-take (λ h. omega arith, λ h. omega arith)

pub places_cut : (old new : List (List ℕ)) (made : ℕ) → ((i : ℕ) → at new i ≡ take (made + 1) (at old i)) → (i : ℕ) → (0 < length (at new i)) ↔ (0 < length (at old i))
places_cut old new made e i = rw (e i) (some_cut (at old i) made)

pub cut_long : (old new : List (List ℕ)) (made fewer least : ℕ) → AreLong made old → length new ≡ length old → ((i : ℕ) → at new i ≡ take (fewer + 1) (at old i)) → least ≤ made → least ≤ fewer → (fewer ≤ least) ⊎ (made ≤ least) → AreLong least new
cut_long old new made fewer least a size e l m c = record { all = size ∙ a.all; long = long; bare = bare }
  where
    long : (i : ℕ) → 0 < length (at new i) → least < length (at new i)
    long i h =
        let p = (places_cut old new fewer e i).0 h in
        let w = a.long i p in
        rw (e i, length-take) (omega arith)

    none : (i d : ℕ) → (fewer < d) ⊎ (d ≤ fewer) → least < d → id_at (take (fewer + 1) (at old i)) d ≡ None
    none i d (inl o) h = id_gone (at old i) fewer d o
    none i d (inr o) h = id_cut (at old i) fewer d o ∙ a.bare i d (elim c [ inl f ↦ omega arith | inr f ↦ omega arith ])

    case : (d : ℕ) → (fewer < d) ⊎ (d ≤ fewer)
    case d = grind arith

    bare : (i d : ℕ) → least < d → id_at (at new i) d ≡ None
    bare i d h = rw (e i) (none i d (case d) h)

-- one column was written
pub written_long : (cs : List (List ℕ)) (made n : ℕ) (col : List ℕ) → AreLong made cs → n < length cs → length col ≡ length (at cs n) → ((d : ℕ) → made < d → id_at col d ≡ None) → AreLong made (set cs n col)
written_long cs made n col a within same bare = record { all = length-set cs n col ∙ a.all; long = long; bare = none }
  where
    long : (i : ℕ) → 0 < length (at (set cs n col) i) → made < length (at (set cs n col) i)
    long i h = elim (at_set cs n i col within) [
      | inl p ↦ (let f = rw (p.1, same) at h in rw (p.1, same) (a.long n f))
      | inr p ↦ (let f = rw p.1 at h in rw p.1 (a.long i f))
    ]

    none : (i d : ℕ) → made < d → id_at (at (set cs n col) i) d ≡ None
    none i d h = elim (at_set cs n i col within) [ inl p ↦ rw p.1 (bare d h) | inr p ↦ rw p.1 (a.bare i d h) ]

-- the labels stay whole while one column is lengthened
pub opened_long : (cs : List (List ℕ)) (made n : ℕ) (col : List ℕ) → AreLong made cs → n < length cs → KeepsColumn (at cs n) col → (col ≡ at cs n) ⊎ (made < length col) → AreLong made (set cs n col)
opened_long cs made n col a within keeps (inl e) = rw (e, set-get_or) a
opened_long cs made n col a within keeps (inr l) = record { all = length-set cs n col ∙ a.all; long = long; bare = bare }
  where
    long : (i : ℕ) → 0 < length (at (set cs n col) i) → made < length (at (set cs n col) i)
    long i h = elim (at_set cs n i col within) [ inl p ↦ rw p.1 l | inr p ↦ (let f = rw p.1 at h in rw p.1 (a.long i f)) ]

    bare : (i d : ℕ) → made < d → id_at (at (set cs n col) i) d ≡ None
    bare i d h = elim (at_set cs n i col within) [ inl p ↦ rw p.1 (keeps.ids d ∙ a.bare n d h) | inr p ↦ rw p.1 (a.bare i d h) ]

-- a column that is written as it was
pub places_same : (cs : List (List ℕ)) (n : ℕ) (col : List ℕ) → col ≡ at cs n → (i : ℕ) → (0 < length (at (set cs n col) i)) ↔ (0 < length (at cs i))
places_same cs n col e i = rw (e, set-get_or) (λ h. h, λ h. h)
