use Rattle.std.proofs.Common.{◌≢◌, ◌+◌, ◌≡◌, AllPairs, rules, arith, sym}
use Rattle.std.proofs.lemmas.List.Sorted.{Contains-permutation, IsPermutation-sym, answers_always}
use Rattle.map_defs.specs.Edits.{Change}
use Rattle.machine_defs.specs.Difference.{IsLinkBefore}
use Rattle.journal_laws.proofs.Reordered.{AllPairs-permutation}
use Rattle.valued_map.proofs.Retained.{retained-are, retained-ordered, pairs-from-neighbours, pair-after}
use Rattle.valued_map.proofs.SortedEdit.{before-joins}
use Rattle.valued_map.proofs.told.changes_in_order.Goals as goal

pub returns-clause-members : goal.returns-clause-members
returns-clause-members c =
    let moved = c.sort_unstable_by_key.ensures.permutation in
    let kept = retained-are _ (λ (x : Change). x.old ≢ x.new) _ (λ x b g k. search rules) _ _ c.retain.ensures.filtered in
    λ x. (
      λ h. (kept x).0 (Contains-permutation _ _ x (IsPermutation-sym _ _ moved) h),
      λ h. Contains-permutation _ _ x moved ((kept x).1 h),
    )

pub returns-clause-ordered : goal.returns-clause-ordered
returns-clause-ordered c =
    let Apart : Change → Change → Type 0 = λ x y. x.dart ≡ y.dart → x.link ≡ y.link → ⊥ in
    let kept : AllPairs Apart c.retain.new.self.items = retained-ordered _ Apart _ _ _ c.retain.ensures.filtered c.requires in
    let apart : AllPairs Apart c.sort_unstable_by_key.new.self.items =
    AllPairs-permutation Apart (λ x y h dart link. h (sym dart) (sym link)) _ _ c.sort_unstable_by_key.ensures.permutation kept in
    let sorted = c.sort_unstable_by_key.ensures.sorted (λ (x : Change). (x.dart, x.link)) (answers_always _ _ _ (λ f a r g k. search rules)) in
    pairs-from-neighbours IsLinkBefore before-joins c.sort_unstable_by_key.new.self.items
    (λ k d within. pair-after _ _ _ _ (sorted k d (omega arith) within) (apart k (k + 1) d (omega arith) within))
