use Rattle.std.proofs.Common.{◌≡◌, ◌++◌, length, take}
use Rattle.std.specs.Fmt.{decimal}
use Rattle.std.specs.List.{flat_map}
use Rattle.machine_defs.specs.TextLines.{spaced}
use Rattle.off_text.proofs.line.append_face.Given as goal

abbrev pub invariant-loop-corner : goal.invariant-loop-corner
invariant-loop-corner l =
    l.text.items ≡ l.fn.text.items ++ (decimal (length l.corners) ++ flat_map spaced (take l.corner-index l.corners))
