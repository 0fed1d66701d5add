use Rattle.std.proofs.Common.{◌≡◌, ◌∷◌, [], ◌++◌, take}
use Rattle.std.specs.Fmt.{decimal}
use Rattle.std.specs.List.{flat_map}
use Rattle.machine_defs.specs.Text.{spaced}
use Rattle.list_text.proofs.line.append_row.Given as goal

abbrev pub invariant-loop-link : goal.invariant-loop-link
invariant-loop-link l =
    l.text.items ≡ l.fn.text.items ++ (decimal l.fn.dart ++ 58 ∷ [] ++ flat_map spaced (take l.link-index l.links))
