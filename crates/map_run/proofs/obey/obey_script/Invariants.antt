use Rattle.std.proofs.Common.{◌≡◌, ℕ, ◌≤◌, List, ◌++◌}
use Rattle.machine_defs.specs.Script.{lines_of}
use Rattle.map_run.specs.Lines.{lines_after}
use Rattle.map_run.specs.Going.{IsGoing}
use Rattle.map_run.proofs.Rest.{rest_size}
use Rattle.map_run.proofs.obey.obey_script.Given as goal

abbrev pub invariant-loop-rest : goal.invariant-loop-rest
invariant-loop-rest g l =
    ((done : List (List ℕ)) × (lines_of l.fn.script ≡ done ++ lines_after l.rest)
    × IsGoing (g.H.Hook.hook l.fn.map.hook) l.fn.map.state l.map.state done l.refused (g.S.Sink.written l.fn.out) (g.S.Sink.written l.out))
    × (l.map.hook ≡ l.fn.map.hook)
    × (g.S.Sink.faults l.fn.out ≤ g.S.Sink.faults l.out)

abbrev pub decreases-loop-rest : goal.decreases-loop-rest
decreases-loop-rest g l = rest_size l.rest
