use Rattle.std.proofs.Common.{◌≡◌, ◌+◌, ◌-◌, ◌*◌, ◌≤◌}
use Rattle.map_soak.proofs.ObeyedFacts.{AreBegun}
use Rattle.map_soak.proofs.squares.obey_squares.Given as goal

abbrev pub invariant-loop : goal.invariant-loop
invariant-loop g l =
    (l.map.hook ≡ l.fn.map.hook) × (l.tally.lines ≤ 1 + 4 * l.counter)
    × AreBegun (g.H.Hook.hook l.fn.map.hook) g.K.Kind.kind l.fn.draws.number l.count l.fn.map.state l.fn.tally l.before l.draws.number (l.count - l.counter) l.map.state l.tally
