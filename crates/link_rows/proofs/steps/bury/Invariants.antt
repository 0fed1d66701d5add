use Rattle.std.proofs.Common.{◌≡◌, ◌+◌, length, drop}
use Rattle.std.specs.List.{AllWithin}
use Rattle.dart_arena.specs.Stock.{IsLive}
use Rattle.map_defs.specs.Edits.{buried}
use Rattle.link_rows.proofs.steps.bury.Given as goal

abbrev pub invariant-loop-dart : goal.invariant-loop-dart
invariant-loop-dart g l =
    (buried (drop l.dart-index l.darts) l.rows.rows ≡ buried l.darts l.fn.rows.rows)
    × (l.rows.spare ≡ l.fn.rows.spare) × (l.rows.room ≡ l.fn.rows.room + l.dart-index)
    × AllWithin (IsLive l.rows) l.darts l.dart-index (length l.darts)
