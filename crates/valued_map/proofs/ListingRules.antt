-- The rules of a listing, one dimension after another.
use Rattle.std.proofs.Common.{◌≡◌, ℕ, zero, suc, ◌+◌, ◌<◌, List, [], ◌∷◌, ◌++◌, length, get_or, take, Option, Some, None, refl, replicate}
use Rattle.map_defs.specs.Values.{Rule}
use Rattle.machine_defs.specs.Listing.{rules_from}
use Rattle.label_laws.specs.Contents.{all_rules}
use Rattle.list_text.proofs.LiveRows.{from-more}

-- one more dimension
pub rules-more : (rules : List (Option Rule)) (k : ℕ) → k < length rules
    → rules_from 0 (take (k + 1) rules) ≡ rules_from 0 (take k rules) ++ rules_from k (get_or rules k None ∷ [])
rules-more rules k h = from-more rules_from (λ d. refl) next rules k None h
  where
    next : (d : ℕ) (o : Option Rule) (rules : List (Option Rule)) → rules_from d (o ∷ rules) ≡ rules_from d (o ∷ []) ++ rules_from (d + 1) rules
    next d None rules = refl
    next d (Some rule) rules = refl

-- where no places are made for rules, none is listed
no-rules : (n d : ℕ) → rules_from d (replicate n None) ≡ []
no-rules zero d = refl
no-rules (suc n) d = no-rules n (d + 1)

pub rules-all : (n : ℕ) (rules : List (Option Rule)) → rules_from 0 (all_rules n rules) ≡ rules_from 0 rules
rules-all n [] = no-rules (n + 1) 0
rules-all n (rule ∷ rules) = refl
