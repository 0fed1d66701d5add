use Rattle.std.specs.Prelude.{◌≤◌, All, length, take}
use Rattle.off_text.proofs.round.refuse_thin.Given as goal

abbrev pub invariant-loop-place : goal.invariant-loop-place
invariant-loop-place l = All (λ round. 3 ≤ length round) (take l.place l.rounds)
