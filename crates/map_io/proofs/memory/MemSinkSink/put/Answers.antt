use Rattle.std.proofs.Common.{rules, take, drop, sym, take-append-drop}
use Rattle.map_io.proofs.memory.MemSinkSink.put.Goals as goal

pub returns-then-is_some-clause-appended : goal.returns-then-is_some-clause-appended
returns-then-is_some-clause-appended c =
    let count = c.min-count.result in
    (take count c.args.piece.now, search rules, (drop count c.args.piece.now, sym (take-append-drop count c.args.piece.now)))
