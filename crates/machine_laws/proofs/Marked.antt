-- What the marks of a state keep, kept by a step, a new mark and an undo.
use Rattle.std.proofs.Common.{◌≡◌, ◌≢◌, ℕ, zero, suc, ◌+◌, ◌<◌, ◌≤◌, List, [], ◌∷◌, ◌++◌, length, get_or, take, Some, All, slice_get, refl, sym, ap, ◌∙◌, subst, inl, inr, arith}
use Rattle.std.specs.List.{AllPairs}
use Rattle.std.proofs.lemmas.Bool.{cases_lt}
use Rattle.std.proofs.lemmas.List.{length-append, length-take, length-take-le, get_or-take, get_or_append_left, get_or_push, take-append-le}
use Rattle.std.proofs.lemmas.List.Elements.{All-push}
use Rattle.std.proofs.lemmas.List.Quantifiers.{all_pairs_push}
use Rattle.std.proofs.lemmas.Option.{slice_get_within, get_or_from_slice_get, slice_get-get_or}
use Rattle.machine_defs.specs.State.{Content, Mark, kept_past}
use Rattle.machine_defs.specs.Kept.{AreNamedApart, AreMarksKept}
use Rattle.machine_defs.specs.Marking.{IsMark, HasMark}

slice-take : {X : Type 0} (n i : ℕ) (xs : List X) → i < n → slice_get (take n xs) i ≡ slice_get xs i
slice-take zero i xs h = absurd (omega arith)
slice-take (suc n) i [] h = refl
slice-take (suc n) zero (x ∷ xs) h = refl
slice-take (suc n) (suc i) (x ∷ xs) h = slice-take n i xs (omega arith)

slice-left : {X : Type 0} (i : ℕ) (xs ys : List X) → i < length xs → slice_get (xs ++ ys) i ≡ slice_get xs i
slice-left i [] ys h = absurd (omega arith)
slice-left zero (x ∷ xs) ys h = refl
slice-left (suc i) (x ∷ xs) ys h = slice-left i xs ys (omega arith)

slice-last : {X : Type 0} (xs : List X) (y : X) → slice_get (xs ++ y ∷ []) (length xs) ≡ Some y
slice-last [] y = refl
slice-last (x ∷ xs) y = slice-last xs y

some-is : {X : Type 0} (x y : X) → Some x ≡ Some y → x ≡ y
some-is x y e = cc

take-through : {X : Type 0} (n : ℕ) (xs : List X) (x : X) → slice_get xs n ≡ Some x → take (suc n) xs ≡ take n xs ++ x ∷ []
take-through n [] x is = absurd (cc (is))
take-through zero (y ∷ xs) x is = ap (λ z. z ∷ []) (some-is y x is)
take-through (suc n) (y ∷ xs) x is = ap (λ zs. y ∷ zs) (take-through n xs x is)

pairs-take : {X : Type 0} (R : X → X → Type 0) (n : ℕ) (xs : List X) → AllPairs R xs → AllPairs R (take n xs)
pairs-take R n xs all i j d low within =
    let long = length-take n xs in
    let below : i < n = omega (arith, long, low, within) in
    let below' : j < n = omega (arith, long, low, within) in
    rw (get_or-take n xs i d below, get_or-take n xs j d below') (all i j d low (omega (arith, long, within)))

abbrev AreApart : Mark → Mark → Type 0
AreApart m n = m.name ≢ n.name

abbrev Rise : Mark → Mark → Type 0
Rise m n = m.place ≤ n.place

-- two marks that have one name are one
pub mark-one : (marks : List Mark) (name : List ℕ) → AreNamedApart marks → (j k : ℕ) (m n : Mark) → IsMark marks name j m → IsMark marks name k n → (j ≡ k) × (m ≡ n)
mark-one marks name apart j k m n p q = elim (cases_lt j k) [
  | inl less ↦ absurd (clash j k m n less p q)
  | inr more ↦ elim (cases_lt k j) [
    | inl less ↦ absurd (clash k j n m less q p)
    | inr other ↦
        let same : j ≡ k = omega (arith, more, other) in
        (same, some-is m n (sym p.there ∙ ap (slice_get marks) same ∙ q.there))
  ]
]
  where
    clash : (j k : ℕ) (m n : Mark) → j < k → IsMark marks name j m → IsMark marks name k n → ⊥
    clash j k m n less p q =
        apart j k m less (slice_get_within marks k n q.there)
        (ap (λ (mark : Mark). mark.name) (get_or_from_slice_get marks j m m p.there) ∙ p.named
        ∙ sym (ap (λ (mark : Mark). mark.name) (get_or_from_slice_get marks k n m q.there) ∙ q.named))

-- what holds of all marks holds of one of them
pub at-mark : (P : Mark → Type 0) (marks : List Mark) (name : List ℕ) (k : ℕ) (mark : Mark) → All P marks → IsMark marks name k mark → P mark
at-mark P marks name k mark all is =
    subst P (get_or_from_slice_get marks k mark mark is.there) (all k mark (slice_get_within marks k mark is.there))

-- a step to another content
pub marks-stepped : (marks : List Mark) (past : List Content) (present next : Content) → AreMarksKept marks past present → AreMarksKept marks (kept_past marks past present) next
marks-stepped [] past present next kept = record {
  named = kept.named;
  rising = kept.rising;
  within = λ p z h. absurd (omega arith);
  nothing = λ none. refl;
  copies = λ p z h. absurd (omega arith);
}
marks-stepped (mark ∷ marks) past present next kept = record {
  named = kept.named;
  rising = kept.rising;
  within = λ p z h. (let low = kept.within p z h in omega (arith, length-append past (present ∷ [])));
  nothing = λ none. absurd (cc (none));
  copies = λ p z h. (let low = kept.within p z h in slice-left _ (past ++ present ∷ []) (next ∷ []) (omega (arith, length-append past (present ∷ []))) ∙ kept.copies p z h);
}

module _ (marks : List Mark) (past : List Content) (present : Content) (kept : AreMarksKept marks past present) where
  -- one more mark, with a new name
  pub marks-set : (name : List ℕ) → (HasMark marks name → ⊥) → AreMarksKept (marks ++ record { name = name; content = present; place = length past } ∷ []) past present
  marks-set name free = record {
    named = all_pairs_push AreApart marks mark kept.named (λ j z h same. free (j, get_or marks j z, record { there = slice_get-get_or marks j z h; named = same }));
    rising = all_pairs_push Rise marks mark kept.rising (λ k z h. kept.within k z h);
    within = All-push (λ m. m.place ≤ length past) marks mark kept.within (omega arith);
    nothing = λ none. absurd (let e = ap length none in omega (arith, length-append marks (mark ∷ [])));
    copies = All-push (λ m. slice_get (past ++ present ∷ []) m.place ≡ Some m.content) marks mark kept.copies (slice-last past present);
  }
    where
      mark : Mark
      mark = record { name = name; content = present; place = length past }

  -- undo to a mark
  module _ (name : List ℕ) (k : ℕ) (mark : Mark) (is : IsMark marks name k mark) where
    pub mark-within : mark.place ≤ length past
    mark-within = at-mark (λ m. m.place ≤ length past) marks name k mark kept.within is

    pub mark-copy : slice_get (past ++ present ∷ []) mark.place ≡ Some mark.content
    mark-copy = at-mark (λ m. slice_get (past ++ present ∷ []) m.place ≡ Some m.content) marks name k mark kept.copies is

    -- the contents that are left are the first of those that there were
    pub left-front : take (suc mark.place) (past ++ present ∷ []) ≡ take mark.place past ++ mark.content ∷ []
    left-front =
        take-through mark.place (past ++ present ∷ []) mark.content mark-copy
        ∙ ap (λ (cs : List Content). cs ++ mark.content ∷ []) (take-append-le mark.place past (present ∷ []) mark-within)

    left-place : (p : ℕ) (z : Mark) → p ≤ k → (get_or marks p z).place ≤ mark.place
    left-place p z low = elim (cases_lt p k) [
      | inl less ↦ subst (λ (m : Mark). (get_or marks p z).place ≤ m.place) (get_or_from_slice_get marks k mark z is.there) (kept.rising p k z less (slice_get_within marks k mark is.there))
      | inr more ↦
          let same : p ≡ k = omega (arith, low, more) in
          let e = ap (λ (m : Mark). m.place) (ap (λ (q : ℕ). get_or marks q z) same ∙ get_or_from_slice_get marks k mark z is.there) in
          omega arith
    ]

    left-same : (p : ℕ) (z : Mark) → p < length (take (k + 1) marks) → get_or (take (k + 1) marks) p z ≡ get_or marks p z
    left-same p z h = get_or-take (k + 1) marks p z (omega (arith, length-take (k + 1) marks))

    pub marks-left : AreMarksKept (take (k + 1) marks) (take mark.place past) mark.content
    marks-left = record {
      named = pairs-take AreApart (k + 1) marks kept.named;
      rising = pairs-take Rise (k + 1) marks kept.rising;
      within = within;
      nothing = λ none. absurd (let e = ap length none in let h = slice_get_within marks k mark is.there in omega (arith, length-take-le (k + 1) marks (omega arith)));
      copies = copies;
    }
      where
        below : (p : ℕ) (z : Mark) → p < length (take (k + 1) marks) → (get_or marks p z).place ≤ mark.place
        below p z h = left-place p z (omega (arith, length-take (k + 1) marks))

        within : All (λ m. m.place ≤ length (take mark.place past)) (take (k + 1) marks)
        within p z h =
            rw (left-same p z h, length-take-le mark.place past mark-within) (below p z h)

        copies : All (λ m. slice_get (take mark.place past ++ mark.content ∷ []) m.place ≡ Some m.content) (take (k + 1) marks)
        copies p z h =
            let low = below p z h in
            rw (left-same p z h, sym left-front)
            (slice-take (suc mark.place) (get_or marks p z).place (past ++ present ∷ []) (omega arith) ∙ kept.copies p z (omega (arith, length-take (k + 1) marks)))

-- a list with one more at its end: the others and the last are what they are, and what holds of all holds of them
pub last-one : {X : Type 0} (xs ys : List X) (x y : X) → xs ++ x ∷ [] ≡ ys ++ y ∷ [] → (xs ≡ ys) × (x ≡ y)
last-one [] [] x y e = let same : x ≡ y = cc in (refl, same)
last-one [] (b ∷ ys) x y e = absurd (let long = ap length e in let more = length-append ys (y ∷ []) in omega arith)
last-one (a ∷ xs) [] x y e = absurd (let long = ap length e in let more = length-append xs (x ∷ []) in omega arith)
last-one (a ∷ xs) (b ∷ ys) x y e =
    let first : a ≡ b = cc in
    let rest : xs ++ x ∷ [] ≡ ys ++ y ∷ [] = cc in
    let same = last-one xs ys x y rest in
    let others : a ∷ xs ≡ b ∷ ys = ap (λ z. z ∷ xs) first ∙ ap (λ zs. b ∷ zs) same.0 in
    (others, same.1)

pub all-front : {X : Type 0} (P : X → Type 0) (xs : List X) (x : X) → All P (xs ++ x ∷ []) → All P xs
all-front P xs x all i z h = subst P (get_or_append_left xs (x ∷ []) z i h) (all i z (omega (arith, length-append xs (x ∷ []))))

pub all-last : {X : Type 0} (P : X → Type 0) (xs : List X) (x : X) → All P (xs ++ x ∷ []) → P x
all-last P xs x all = subst P (get_or_push xs x x (length xs) refl) (all (length xs) x (omega (arith, length-append xs (x ∷ []))))
