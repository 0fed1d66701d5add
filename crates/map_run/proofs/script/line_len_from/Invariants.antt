use Rattle.std.proofs.Common.{◌≡◌, ◌+◌, ◌-◌, ◌≤◌, ◌==◌, length, drop}
use Rattle.std.specs.List.{position_or_len}
use Rattle.map_run.proofs.script.line_len_from.Given as goal

abbrev pub invariant-loop-end : goal.invariant-loop-end
invariant-loop-end l =
    (l.start + position_or_len (λ b. b == 10) (drop l.start l.text) ≡ l.end + position_or_len (λ b. b == 10) (drop l.end l.text)) × (l.end ≤ length l.text)

abbrev pub decreases-loop-end : goal.decreases-loop-end
decreases-loop-end l = length l.text - l.end
