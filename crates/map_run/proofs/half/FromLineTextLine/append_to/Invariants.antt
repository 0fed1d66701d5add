use Rattle.std.proofs.Common.{◌≡◌, ◌++◌, take, codes}
use Rattle.std.specs.List.{flat_map}
use Rattle.machine_defs.specs.Text.{spaced}
use Rattle.map_run.proofs.half.FromLineTextLine.append_to.Given as goal

abbrev pub invariant-loop-dart : goal.invariant-loop-dart
invariant-loop-dart l = l.text.items ≡ l.fn.text.items ++ (codes "from" ++ flat_map spaced (take l.dart-index l.dart-items))
