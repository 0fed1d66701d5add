use Rattle.std.proofs.Common.{List, ℕ, IsPermutation, subst, rules}
use Rattle.std.proofs.lemmas.List.Filters.{dedup_is}
use Rattle.std.proofs.lemmas.List.Kept.{Contains-dedup_nat, Contains-from_dedup}
use Rattle.std.proofs.lemmas.List.Sorted.{Contains-permutation, IsPermutation-sym}
use Rattle.std.proofs.lemmas.Map.Keys.{IsStrictlyIncreasing-dedup}
use Rattle.transport.proofs.wanted.Wanted.new.Goals as goal

pub invariant_of-result : goal.invariant_of-result
invariant_of-result c =
    let is = dedup_is _ _ _ c.dedup.ensures.filtered in
    (rw is (IsStrictlyIncreasing-dedup _ c.sort_unstable.ensures.sorted), search rules)

pub returns-clause-members : goal.returns-clause-members
returns-clause-members c =
    let is = dedup_is _ _ _ c.dedup.ensures.filtered in
    let moved = subst (λ (xs : List ℕ). IsPermutation xs c.sort_unstable.new.self.items) c.in_ok-ascending.ensures.items c.sort_unstable.ensures.permutation in
    λ d. (
      λ h. Contains-permutation _ _ d (IsPermutation-sym _ _ moved) (Contains-from_dedup _ _ d (rw is at h)),
      λ h. rw is (Contains-dedup_nat _ d (Contains-permutation _ _ d moved h)),
    )
