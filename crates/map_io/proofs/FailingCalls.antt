-- The numbers of the calls that fail.
use Rattle.std.proofs.Common.{◌≡◌, ◌↔◌, ℕ, List, Bool, IsTrue, eqb, Contains, subst}
use Rattle.std.proofs.lemmas.Bool.{eqb-true, eq-eqb}
use Rattle.std.proofs.lemmas.List.Elements.{Decides-contains, contains_decides}
use Rattle.std.specs.List.{IsAnyAnswer}

-- what `contains` tells of a number
pub told-contains : (told numbers : List ℕ) (call number : ℕ) (r : Bool) → told ≡ numbers → call ≡ number →
    IsAnyAnswer (λ y b. eqb y call ≡ b) told r → IsTrue r ↔ Contains numbers number
told-contains told numbers call number r same is cases =
    subst (λ xs. IsTrue r ↔ Contains xs number) same (subst (λ n. IsTrue r ↔ Contains told n) is
    (Decides-contains told call r (contains_decides eqb (λ a b. (λ e. eqb-true a b e, λ e. eq-eqb a b e)) told call r cases)))
