-- The first side and the first face with a fault, as they are found one after the other and by their places.
use Rattle.std.proofs.Common.{◌≡◌, ℕ, ◌+◌, ◌<◌, ◌≤◌, Bool, true, false, cond, List, [], ◌∷◌, ◌++◌, length, filter, take, get_or, Option, Some, None, refl, sym, ap, subst, ◌∙◌, inl, inr, append_assoc, arith}
use Rattle.std.proofs.lemmas.Bool.{cases_eq, cases_lt, cases_order}
use Rattle.std.proofs.lemmas.List.{append-nil, length-append, length_push, get_or_at, get_or_past, take_at, take_all}
use Rattle.map_defs.specs.Kind.{Kind}
use Rattle.map_defs.specs.MeshMap.{Side, MapFault, Repeated, or_else, repeats, has_ends, face_sides, sides_from, sides_of, side_fault, sides_fault, face_fault, faces_fault}
use Rattle.mesh_laws.proofs.FaceSides.{length-face_sides}
use Rattle.reading_laws.specs.MeshFaults.{RepeatsCorner, IsSideFault, IsSideOf, IsFaceFault, repeated, of_side}
use Rattle.reading_laws.proofs.SidesMet.{Told, side-told, one-side-fault}
use Rattle.reading_laws.proofs.Repeating.{comes-twice, comes-once}

-- the fault of the first of these things that has one, from place low on and below high
abbrev pub IsFirstIn : (ℕ → MapFault → Type 0) → ℕ → ℕ → MapFault → Type 0
IsFirstIn P low high fault = (p : ℕ) × (low ≤ p) × (p < high) × P p fault × ((q : ℕ) (other : MapFault) → low ≤ q → q < p → P q other → ⊥)

pub first-on : (P : ℕ → MapFault → Type 0) (low high : ℕ) (here there : Option MapFault) → low < high → Told (P low) here → Told (IsFirstIn P (low + 1) high) there → Told (IsFirstIn P low high) (or_else here there)
first-on P low high (Some x) there lt here later = (low, omega arith, lt, here, λ q other le below. absurd (omega arith))
first-on P low high None (Some y) lt here (p, le, h, is, none) = (p, omega arith, h, is, before)
  where
    before : (q : ℕ) (other : MapFault) → low ≤ q → q < p → P q other → ⊥
    before q other le below is = elim (cases_eq q low) [
      | inl same ↦ here other (subst (λ (r : ℕ). P r other) same is)
      | inr past ↦ none q other (omega arith) below is
    ]
first-on P low high None None lt here later = λ fault first. nothing fault first.0 first.1 first.2 first.3 first.4
  where
    nothing : (fault : MapFault) (p : ℕ) → low ≤ p → p < high → P p fault → ((q : ℕ) (other : MapFault) → low ≤ q → q < p → P q other → ⊥) → ⊥
    nothing fault p le h is none = elim (cases_eq p low) [
      | inl same ↦ here fault (subst (λ (r : ℕ). P r fault) same is)
      | inr past ↦ later fault (p, omega arith, h, is, λ (q : ℕ) (other : MapFault) (le : low + 1 ≤ q) (below : q < p) (at : P q other). none q other (omega arith) below at)
    ]

pub first-none : (P : ℕ → MapFault → Type 0) (low high : ℕ) → high ≤ low → Told (IsFirstIn P low high) None
first-none P low high le fault (p, from, to, is, none) = absurd (omega arith)

-- the fault of the first is one
pub one-first : (P : ℕ → MapFault → Type 0) (low high : ℕ) → ((p : ℕ) (x y : MapFault) → P p x → P p y → x ≡ y) → (x y : MapFault) → IsFirstIn P low high x → IsFirstIn P low high y → x ≡ y
one-first P low high one x y (p, lp, hp, is, none) (q, lq, hq, at, nothing) = elim (cases_order p q) [
  | inl same ↦ one q x y (subst (λ (r : ℕ). P r x) same is) at
  | inr (inl below) ↦ absurd (nothing p x lp below is)
  | inr (inr above) ↦ absurd (none q y lq above at)
]

-- the sides of a face, behind earlier ones and before others
sides-told : (k : Kind) (f : ℕ) (own earlier others all : List Side) (low high : ℕ) → all ≡ earlier ++ (own ++ others) → low ≡ length earlier → high ≡ low + length own
    → Told (IsFirstIn (IsSideFault k all f) low high) (sides_fault k f earlier own)
sides-told k f [] earlier others all low high split from to = first-none (IsSideFault k all f) low high (omega arith)
sides-told k f (s ∷ own) earlier others all low high split from to =
    first-on (IsSideFault k all f) low high (side_fault k f s (filter (has_ends s) earlier)) (sides_fault k f (earlier ++ s ∷ []) own) (omega arith)
    (subst (λ (sides : List Side). Told (IsSideFault k sides f low) (side_fault k f s (filter (has_ends s) earlier))) (sym split)
    (subst (λ (p : ℕ). Told (IsSideFault k (earlier ++ s ∷ (own ++ others)) f p) (side_fault k f s (filter (has_ends s) earlier))) (sym from) (side-told k f earlier s (own ++ others))))
    (sides-told k f own (earlier ++ s ∷ []) others all (low + 1) high (split ∙ sym (append_assoc earlier (s ∷ []) (own ++ others))) (omega (arith, length_push earlier s)) (omega arith))

-- the sides of faces, and of those behind them
pub sides-split : (base m : ℕ) (one two : List (List ℕ)) → m ≡ base + length (sides_from base one) → sides_from base (one ++ two) ≡ sides_from base one ++ sides_from m two
sides-split base m [] two long = ap (λ (n : ℕ). sides_from n two) (omega arith)
sides-split base m (c ∷ one) two long =
    let own : List Side = face_sides base c in
    let rest : List Side = sides_from (base + length c) one in
    let far : m ≡ base + length c + length rest = omega (arith, length-append own rest, length-face_sides base c) in
    ap (λ (xs : List Side). own ++ xs) (sides-split (base + length c) m one two far) ∙ sym (append_assoc own rest (sides_from m two))

-- the face behind others and before others
module _ (k : Kind) (faces before after : List (List ℕ)) (corners : List ℕ) (split : faces ≡ before ++ corners ∷ after) where
  abbrev f : ℕ
  f = length before

  abbrev low : ℕ
  low = length (sides_of before)

  -- its sides
  at-face : get_or faces f [] ≡ corners
  at-face = ap (λ (fs : List (List ℕ)). get_or fs f []) split ∙ get_or_at before corners after [] f refl

  all-sides : sides_of faces ≡ sides_of before ++ (face_sides low corners ++ sides_from (low + length corners) after)
  all-sides = ap sides_of split ∙ sides-split 0 low before (corners ∷ after) (omega arith)

  take-before : take f faces ≡ before
  take-before = ap (take f) split ∙ take_at before (corners ∷ after) f refl

  take-with : take (f + 1) faces ≡ before ++ corners ∷ []
  take-with =
      ap (take (f + 1)) (split ∙ sym (append_assoc before (corners ∷ []) after))
      ∙ take_at (before ++ corners ∷ []) after (f + 1) (length_push before corners)

  from : length (sides_of (take f faces)) ≡ low
  from = ap (λ (fs : List (List ℕ)). length (sides_of fs)) take-before

  to : length (sides_of (take (f + 1) faces)) ≡ low + length corners
  to =
      let own : List Side = face_sides low corners in
      let joined : sides_of (before ++ corners ∷ []) ≡ sides_of before ++ (own ++ []) = sides-split 0 low before (corners ∷ []) (omega arith) in
      ap (λ (fs : List (List ℕ)). length (sides_of fs)) take-with
      ∙ (ap length joined ∙ omega (arith, length-append (sides_of before) (own ++ []), length-append own [], length-face_sides low corners))

  to-side : (p : ℕ) → low ≤ p → p < low + length corners → IsSideOf faces f p
  to-side p l h = (omega (arith, from), omega (arith, to))

  of-face : (p : ℕ) → IsSideOf faces f p → (low ≤ p) × (p < low + length corners)
  of-face p is = (omega (arith, from, is.0), omega (arith, to, is.1))

  abbrev IsHere : MapFault → Type 0
  IsHere = IsFirstIn (IsSideFault k (sides_of faces) f) low (low + length corners)

  once-there : (RepeatsCorner corners → ⊥) → RepeatsCorner (get_or faces f []) → ⊥
  once-there once twice = once (subst RepeatsCorner at-face twice)

  told-once : (RepeatsCorner corners → ⊥) → (found : Option MapFault) → Told IsHere found → Told (IsFaceFault k faces f) found
  told-once once (Some x) (p, l, h, is, none) =
      of_side p (once-there once) (to-side p l h) is (λ q other below at. none q other (of-face q at).0 below)
  told-once once None nothing = sound
    where
      sound : (fault : MapFault) → IsFaceFault k faces f fault → ⊥
      sound fault (repeated twice is) = once-there once twice
      sound fault (of_side p o at is none) =
          nothing fault (
            p,
            (of-face p at).0,
            (of-face p at).1,
            is,
            λ (q : ℕ) (other : MapFault) (le : low ≤ q) (below : q < p) (bad : IsSideFault k (sides_of faces) f q other).
                none q other below (to-side q le (omega (arith, (of-face p at).1))) bad,
          )

  pub face-told : Told (IsFaceFault k faces f) (face_fault k f (sides_of before) corners)
  face-told = at (repeats [] corners) refl
    where
      found : Told IsHere (sides_fault k f (sides_of before) (face_sides low corners))
      found =
          sides-told k f (face_sides low corners) (sides_of before) (sides_from (low + length corners) after) (sides_of faces) low (low + length corners) all-sides refl
          (ap (λ (n : ℕ). low + n) (sym (length-face_sides low corners)))

      at : (b : Bool) → repeats [] corners ≡ b → Told (IsFaceFault k faces f) (cond b (Some (Repeated f)) (sides_fault k f (sides_of before) (face_sides low corners)))
      at true e = repeated (subst RepeatsCorner (sym at-face) (comes-twice corners e)) refl
      at false e = told-once (comes-once corners e) (sides_fault k f (sides_of before) (face_sides low corners)) found

  -- the sides of these faces and of those before
  pub sides-with : sides_of (before ++ corners ∷ []) ≡ sides_of before ++ face_sides low corners
  sides-with = sides-split 0 low before (corners ∷ []) (omega arith) ∙ ap (λ (xs : List Side). sides_of before ++ xs) (append-nil (face_sides low corners))

-- the faces behind others
pub faces-told : (k : Kind) (after before faces : List (List ℕ)) (f high : ℕ) (earlier : List Side) → faces ≡ before ++ after → f ≡ length before → high ≡ length faces → earlier ≡ sides_of before
    → Told (IsFirstIn (IsFaceFault k faces) f high) (faces_fault k f earlier after)
faces-told k [] before faces f high earlier split from to sides = first-none (IsFaceFault k faces) f high (omega (arith, ap length split, ap length (append-nil before)))
faces-told k (corners ∷ after) before faces f high earlier split from to sides =
    let long = length-append before (corners ∷ after) in
    first-on (IsFaceFault k faces) f high (face_fault k f earlier corners) (faces_fault k (f + 1) (earlier ++ face_sides (length earlier) corners) after) (omega (arith, ap length split, long))
    (rw (from, sides) (face-told k faces before after corners split))
    (faces-told k after (before ++ corners ∷ []) faces (f + 1) high (earlier ++ face_sides (length earlier) corners) (split ∙ sym (append_assoc before (corners ∷ []) after)) (omega (arith, length_push before corners)) to
    (ap (λ (xs : List Side). xs ++ face_sides (length xs) corners) sides ∙ sym (sides-with k faces before after corners split)))

-- a face has one fault at most
pub one-face-fault : (k : Kind) (faces : List (List ℕ)) (f : ℕ) (x y : MapFault) → IsFaceFault k faces f x → IsFaceFault k faces f y → x ≡ y
one-face-fault k faces f x y (repeated twice e) (repeated again g) = e ∙ sym g
one-face-fault k faces f x y (repeated twice e) (of_side q once at is none) = absurd (once twice)
one-face-fault k faces f x y (of_side p once at is none) (repeated twice e) = absurd (once twice)
one-face-fault k faces f x y (of_side p o at is none) (of_side q u there bad nothing) = elim (cases_order p q) [
  | inl same ↦ one-side-fault k (sides_of faces) f q x y (subst (λ (r : ℕ). IsSideFault k (sides_of faces) f r x) same is) bad
  | inr (inl below) ↦ absurd (nothing p x below at is)
  | inr (inr above) ↦ absurd (none q y above there bad)
]

-- a face with a fault is one of the faces
pub face-there : (k : Kind) (faces : List (List ℕ)) (f : ℕ) (fault : MapFault) → IsFaceFault k faces f fault → f < length faces
face-there k faces f fault (repeated (i, j, lt, h, same) e) = elim (cases_lt f (length faces)) [
  | inl within ↦ within
  | inr past ↦ let none : length (get_or faces f []) ≡ 0 = ap length (get_or_past faces f [] past) in absurd (omega arith)
]
face-there k faces f fault (of_side p once (low, high) is none) = elim (cases_lt f (length faces)) [
  | inl within ↦ within
  | inr past ↦
      let one : take f faces ≡ faces = take_all f faces past in
      let two : take (f + 1) faces ≡ faces = take_all (f + 1) faces (omega arith) in
      let same : length (sides_of (take (f + 1) faces)) ≡ length (sides_of (take f faces)) = ap (λ (fs : List (List ℕ)). length (sides_of fs)) (two ∙ sym one) in
      absurd (omega arith)
]
