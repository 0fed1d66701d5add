-- The contents that steps lead through, and many steps put forward and taken back.
use Rattle.std.proofs.Common.{◌≡◌, ℕ, zero, suc, ◌+◌, ◌<◌, ◌≤◌, List, [], ◌∷◌, ◌++◌, length, get_or, take, drop, refl, sym, ap, subst, arith}
use Rattle.machine_defs.specs.State.{Content}
use Rattle.machine_defs.specs.Difference.{Difference, IsDifference, AreDifferences, put_forward, taken_back}
use Rattle.journal_laws.specs.Following.{Follows, AllFollow, all_put_forward, all_taken_back}
use Rattle.trail_laws.specs.Told.{contents_along}

-- there is one content more than steps
pub along-long : (ss : List Difference) (c : Content) → length (contents_along ss c) ≡ length ss + 1
along-long [] c = refl
along-long (s ∷ ss) c = let e = along-long ss (put_forward s c) in omega arith

-- the content at a place is the first one with the steps before it put forward
pub along-at : (ss : List Difference) (c : Content) (j : ℕ) (d : Content) → j ≤ length ss → get_or (contents_along ss c) j d ≡ all_put_forward (take j ss) c
along-at [] c zero d h = refl
along-at [] c (suc j) d h = absurd (omega arith)
along-at (s ∷ ss) c zero d h = refl
along-at (s ∷ ss) c (suc j) d h = along-at ss (put_forward s c) j d (omega arith)

-- the contents along a front
pub along-front : (j : ℕ) (ss : List Difference) (c : Content) → contents_along (take j ss) c ≡ take (suc j) (contents_along ss c)
along-front zero [] c = refl
along-front zero (s ∷ ss) c = refl
along-front (suc j) [] c = refl
along-front (suc j) (s ∷ ss) c = ap (λ (cs : List Content). c ∷ cs) (along-front j ss (put_forward s c))

-- one step more
pub along-push : (ss : List Difference) (s : Difference) (c : Content)
    → contents_along (ss ++ s ∷ []) c ≡ contents_along ss c ++ put_forward s (all_put_forward ss c) ∷ []
along-push [] s c = refl
along-push (t ∷ ss) s c = ap (λ (cs : List Content). c ∷ cs) (along-push ss s (put_forward t c))

pub forward-push : (ss : List Difference) (s : Difference) (c : Content) → all_put_forward (ss ++ s ∷ []) c ≡ put_forward s (all_put_forward ss c)
forward-push [] s c = refl
forward-push (t ∷ ss) s c = forward-push ss s (put_forward t c)

-- steps taken back in two parts, the later ones first
pub back-append : (ss ts : List Difference) (c : Content) → all_taken_back (ss ++ ts) c ≡ all_taken_back ss (all_taken_back ts c)
back-append [] ts c = refl
back-append (s ∷ ss) ts c = ap (taken_back s) (back-append ss ts c)

-- a content follows the one before it, and the step between them is their difference
pub follow-at : (cs : List Content) (i : ℕ) (d : Content) → AllFollow cs → suc i < length cs → Follows (get_or cs i d) (get_or cs (suc i) d)
follow-at [] i d follow h = absurd (omega arith)
follow-at (a ∷ []) i d follow h = absurd (omega arith)
follow-at (a ∷ b ∷ more) zero d (f, follow) h = f
follow-at (a ∷ b ∷ more) (suc i) d (f, follow) h = follow-at (b ∷ more) i d follow (omega arith)

pub differ-at : (cs : List Content) (ss : List Difference) (i : ℕ) (d : Content) (e : Difference) → AreDifferences cs ss → suc i < length cs
    → IsDifference (get_or cs i d) (get_or cs (suc i) d) (get_or ss i e)
differ-at [] ss i d e are h = absurd (omega arith)
differ-at (a ∷ []) ss i d e are h = absurd (omega arith)
differ-at (a ∷ b ∷ more) ss zero d e (s, rest, is, one, are) h = subst (λ (ts : List Difference). IsDifference a b (get_or ts 0 e)) (sym is) one
differ-at (a ∷ b ∷ more) ss (suc i) d e (s, rest, is, one, are) h =
    subst (λ (ts : List Difference). IsDifference (get_or (b ∷ more) i d) (get_or (b ∷ more) (suc i) d) (get_or ts (suc i) e)) (sym is)
    (differ-at (b ∷ more) rest i d e are (omega arith))

-- the last contents alone
pub differences-rest : (i : ℕ) (cs : List Content) (ss : List Difference) → AreDifferences cs ss → AreDifferences (drop i cs) (drop i ss)
differences-rest zero cs ss are = are
differences-rest (suc i) [] ss are = ap (drop (suc i)) are
differences-rest (suc zero) (a ∷ []) ss are = ap (drop 1) are
differences-rest (suc (suc i)) (a ∷ []) ss are = ap (drop (suc (suc i))) are
differences-rest (suc i) (a ∷ b ∷ more) ss (s, rest, is, one, are) =
    subst (λ (ts : List Difference). AreDifferences (drop i (b ∷ more)) (drop (suc i) ts)) (sym is) (differences-rest i (b ∷ more) rest are)
