use Rattle.std.proofs.Common.{◌≡◌, ◌≤◌, length, take}
use Rattle.std.specs.Prelude.{vec_len, vec_capacity}
use Rattle.sewing.proofs.PlanChanges.{changes}
use Rattle.sewing.proofs.plans.parting.Given as goal

abbrev pub invariant-loop-pair : goal.invariant-loop-pair
invariant-loop-pair l =
    (l.changes.items ≡ changes (λ p. p.y) (λ p. 0) (take l.pair-index l.pairs)) × (vec_len l.changes ≡ l.pair-index) × (length l.pairs ≤ vec_capacity l.changes)
