use Rattle.std.proofs.Common.{◌≤◌, Ok}
use Rattle.std.specs.List.{flat_map}
use Rattle.text_lines.specs.Writing.{WritesText}
use Rattle.text_lines.proofs.put.put_lines.Given as goal

abbrev pub invariant-loop-line : goal.invariant-loop-line
invariant-loop-line g l =
    (goal.iterator-loop-line g).can_next l.line-iterator
    × (goal.iterator-loop-line g).is_finite l.line-iterator
    × WritesText (g.S.Sink.written l.fn.out) (g.S.Sink.written l.out) (Ok tt) (flat_map g.L.TextLine.line l.yielded)
    × (g.S.Sink.faults l.fn.out ≤ g.S.Sink.faults l.out)
