-- Rules that are put in their places.
use Rattle.std.proofs.Common.{ℕ, ◌≡◌, ◌⊎◌, ◌+◌, ◌∙◌, ◌==◌, List, [], ◌∷◌, length, replicate, cond, Bool, false, Option, None, inl, inr, refl, ap, arith, rules, tests}
use Rattle.std.proofs.lemmas.List.{length-replicate, length-set}
use Rattle.map_defs.specs.Values.{Rule}
use Rattle.std.specs.Prelude.{slice_set}
use Rattle.machine_defs.specs.Difference.{RuleChange}
use Rattle.label_laws.specs.Contents.{all_rules}
use Rattle.valued_map.specs.Ways.{rule_put, with_rules}
use Rattle.valued_map.specs.declared.way.Way.{Way}

pub with-long : (way : Way) (cs : List RuleChange) (rules : List (Option Rule)) → length (with_rules way cs rules) ≡ length rules
with-long way [] rules = refl
with-long way (c ∷ cs) rules = with-long way cs (slice_set rules c.dim (rule_put way c)) ∙ length-set rules c.dim (rule_put way c)

-- rules that have places are all rules
pub all-is : (n : ℕ) (rules : List (Option Rule)) → length rules ≡ n + 1 → all_rules n rules ≡ rules
all-is n [] long = absurd (omega arith)
all-is n (rule ∷ rules) long = refl

not-zero : (rule : Option Rule) (rest : List (Option Rule)) → (length (rule ∷ rest) == 0) ≡ false
not-zero rule rest = search (rules, tests)

module _ (n : ℕ) (given placed : List (Option Rule)) (long : (given ≡ []) ⊎ (length given ≡ n + 1)) (is : placed ≡ cond (length given == 0) (replicate (n + 1) None) given) where
  -- the places that were made, if there were none
  go : (rs : List (Option Rule)) → (rs ≡ []) ⊎ (length rs ≡ n + 1) → cond (length rs == 0) (replicate (n + 1) None) rs ≡ all_rules n rs
  go [] h = refl
  go (rule ∷ rs) h = ap (λ (b : Bool). cond b (replicate (n + 1) None) (rule ∷ rs)) (not-zero rule rs)

  pub placed-is : placed ≡ all_rules n given
  placed-is = is ∙ go given long

  all-long : (rs : List (Option Rule)) → (rs ≡ []) ⊎ (length rs ≡ n + 1) → length (all_rules n rs) ≡ n + 1
  all-long [] h = length-replicate (n + 1) (let none : Option Rule = None in none)
  all-long (rule ∷ rs) (inl e) = absurd (omega (arith, ap (λ (xs : List (Option Rule)). length xs) e))
  all-long (rule ∷ rs) (inr e) = e

  pub placed-long : length placed ≡ n + 1
  placed-long = ap (λ (rs : List (Option Rule)). length rs) placed-is ∙ all-long given long
