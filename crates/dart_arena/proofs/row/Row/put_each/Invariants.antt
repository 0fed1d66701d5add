use Rattle.std.proofs.Common.{◌≡◌, take}
use Rattle.dart_arena.specs.RowChanges.{with_links}
use Rattle.dart_arena.proofs.row.Row.put_each.Given as goal

abbrev pub invariant-loop-link : goal.invariant-loop-link
invariant-loop-link g l = l.self ≡ with_links 0 (take l.link l.links) l.initial.self
