use Rattle.std.specs.Prelude.{◌≡◌, map, take, slice_index}
use Rattle.off_text.specs.Meanings.{lists_of}
use Rattle.off_text.proofs.faces.faces_of.Given as goal

abbrev pub invariant-loop-face : goal.invariant-loop-face
invariant-loop-face l = lists_of l.faces.items ≡ map (map (slice_index l.places)) (take l.face l.rounds)
