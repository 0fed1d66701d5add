-- Contents that follow one another, by the differences between neighbours.
use Rattle.std.proofs.Common.{◌≡◌, ℕ, zero, suc, ◌-◌, ◌<◌, ◌≤◌, List, [], ◌∷◌, ◌++◌, length, get_or, take, drop, refl, sym, ap, ◌∙◌, arith}
use Rattle.std.proofs.lemmas.List.{take_all}
use Rattle.machine_defs.specs.State.{Content}
use Rattle.machine_defs.specs.Difference.{Difference, IsDifference, AreDifferences, taken_back}
use Rattle.journal_laws.specs.Following.{Follows, AllFollow, all_put_forward, all_taken_back}
use Rattle.journal_laws.proofs.Leading.{leads-on, leads-back}

pub steps-long : (cs : List Content) (ss : List Difference) → AreDifferences cs ss → length ss ≡ length cs - 1
steps-long [] ss are = ap length are
steps-long (a ∷ []) ss are = ap length are
steps-long (a ∷ b ∷ more) ss (s, rest, is, one, are) = let e = ap length is in let e' = steps-long (b ∷ more) rest are in omega arith

-- from the first content on
pub on-to : (cs : List Content) (ss : List Difference) (d : Content) (j : ℕ) → AllFollow cs → AreDifferences cs ss → j < length cs
    → all_put_forward (take j ss) (get_or cs 0 d) ≡ get_or cs j d
on-to [] ss d j follow are h = absurd (omega arith)
on-to (a ∷ cs) ss d zero follow are h = refl
on-to (a ∷ []) ss d (suc j) follow are h = absurd (omega arith)
on-to (a ∷ b ∷ more) ss d (suc j) (f, follow) (s, rest, is, one, are) h =
    ap (λ (ts : List Difference). all_put_forward (take (suc j) ts) a) is
    ∙ ap (all_put_forward (take j rest)) (leads-on a b s f one)
    ∙ on-to (b ∷ more) rest d j follow are (omega arith)

pub back-to : (cs : List Content) (ss : List Difference) (d : Content) (j : ℕ) → AllFollow cs → AreDifferences cs ss → j < length cs
    → all_taken_back (take j ss) (get_or cs j d) ≡ get_or cs 0 d
back-to [] ss d j follow are h = absurd (omega arith)
back-to (a ∷ cs) ss d zero follow are h = refl
back-to (a ∷ []) ss d (suc j) follow are h = absurd (omega arith)
back-to (a ∷ b ∷ more) ss d (suc j) (f, follow) (s, rest, is, one, are) h =
    ap (λ (ts : List Difference). all_taken_back (take (suc j) ts) (get_or (b ∷ more) j d)) is
    ∙ ap (taken_back s) (back-to (b ∷ more) rest d j follow are (omega arith))
    ∙ leads-back a b s f one

-- from each content to each later one
pub on-between : (cs : List Content) (ss : List Difference) (d : Content) (i j : ℕ) → AllFollow cs → AreDifferences cs ss → i ≤ j → j < length cs
    → all_put_forward (drop i (take j ss)) (get_or cs i d) ≡ get_or cs j d
on-between cs ss d zero j follow are low h = on-to cs ss d j follow are h
on-between cs ss d (suc i) zero follow are low h = absurd (omega arith)
on-between [] ss d (suc i) (suc j) follow are low h = absurd (omega arith)
on-between (a ∷ []) ss d (suc i) (suc j) follow are low h = absurd (omega arith)
on-between (a ∷ b ∷ more) ss d (suc i) (suc j) (f, follow) (s, rest, is, one, are) low h =
    ap (λ (ts : List Difference). all_put_forward (drop (suc i) (take (suc j) ts)) (get_or (b ∷ more) i d)) is
    ∙ on-between (b ∷ more) rest d i j follow are (omega arith) (omega arith)

pub back-between : (cs : List Content) (ss : List Difference) (d : Content) (i j : ℕ) → AllFollow cs → AreDifferences cs ss → i ≤ j → j < length cs
    → all_taken_back (drop i (take j ss)) (get_or cs j d) ≡ get_or cs i d
back-between cs ss d zero j follow are low h = back-to cs ss d j follow are h
back-between cs ss d (suc i) zero follow are low h = absurd (omega arith)
back-between [] ss d (suc i) (suc j) follow are low h = absurd (omega arith)
back-between (a ∷ []) ss d (suc i) (suc j) follow are low h = absurd (omega arith)
back-between (a ∷ b ∷ more) ss d (suc i) (suc j) (f, follow) (s, rest, is, one, are) low h =
    ap (λ (ts : List Difference). all_taken_back (drop (suc i) (take (suc j) ts)) (get_or (b ∷ more) j d)) is
    ∙ back-between (b ∷ more) rest d i j follow are (omega arith) (omega arith)

module _ (cs : List Content) (ss : List Difference) (d : Content) (follow : AllFollow cs) (are : AreDifferences cs ss) (some : 1 ≤ length cs) where
  whole : take (length cs - 1) ss ≡ ss
  whole = take_all (length cs - 1) ss (let e = steps-long cs ss are in omega arith)

  pub to-last : all_put_forward ss (get_or cs 0 d) ≡ get_or cs (length cs - 1) d
  to-last = ap (λ (ts : List Difference). all_put_forward ts (get_or cs 0 d)) (sym whole) ∙ on-to cs ss d (length cs - 1) follow are (omega arith)

  pub to-first : all_taken_back ss (get_or cs (length cs - 1) d) ≡ get_or cs 0 d
  to-first =
      ap (λ (ts : List Difference). all_taken_back ts (get_or cs (length cs - 1) d)) (sym whole)
      ∙ back-to cs ss d (length cs - 1) follow are (omega arith)

-- one more content behind the last
pub follow-more : (cs : List Content) (a b : Content) → AllFollow (cs ++ a ∷ []) → Follows a b → AllFollow (cs ++ a ∷ b ∷ [])
follow-more [] a b follow f = (f, tt)
follow-more (c ∷ []) a b (g, follow) f = (g, (f, tt))
follow-more (c ∷ c' ∷ cs) a b (g, follow) f = (g, follow-more (c' ∷ cs) a b follow f)

pub differences-more : (cs : List Content) (a b : Content) (ss : List Difference) (s : Difference) → AreDifferences (cs ++ a ∷ []) ss → IsDifference a b s
    → AreDifferences (cs ++ a ∷ b ∷ []) (ss ++ s ∷ [])
differences-more [] a b ss s are one = (s, [], ap (λ (ts : List Difference). ts ++ s ∷ []) are, one, refl)
differences-more (c ∷ []) a b ss s (t, rest, is, first, are) one =
    (t, rest ++ s ∷ [], ap (λ (ts : List Difference). ts ++ s ∷ []) is, first, differences-more [] a b rest s are one)
differences-more (c ∷ c' ∷ cs) a b ss s (t, rest, is, first, are) one =
    (t, rest ++ s ∷ [], ap (λ (ts : List Difference). ts ++ s ∷ []) is, first, differences-more (c' ∷ cs) a b rest s are one)

-- the first contents alone
pub follow-front : (j : ℕ) (cs : List Content) → AllFollow cs → AllFollow (take j cs)
follow-front zero cs follow = tt
follow-front (suc j) [] follow = tt
follow-front (suc zero) (a ∷ cs) follow = tt
follow-front (suc (suc j)) (a ∷ []) follow = tt
follow-front (suc (suc j)) (a ∷ b ∷ more) (f, follow) = (f, follow-front (suc j) (b ∷ more) follow)

pub differences-front : (j : ℕ) (cs : List Content) (ss : List Difference) → AreDifferences cs ss → AreDifferences (take (suc j) cs) (take j ss)
differences-front zero [] ss are = refl
differences-front (suc j) [] ss are = ap (take (suc j)) are
differences-front zero (a ∷ cs) ss are = refl
differences-front (suc j) (a ∷ []) ss are = ap (take (suc j)) are
differences-front (suc j) (a ∷ b ∷ more) ss (s, rest, is, one, are) = (s, take j rest, ap (take (suc j)) is, one, differences-front j (b ∷ more) rest are)
