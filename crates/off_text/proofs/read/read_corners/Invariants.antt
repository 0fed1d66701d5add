use Rattle.std.proofs.Common.{◌≡◌, ◌-◌}
use Rattle.map_defs.specs.Off.{corners}
use Rattle.text_words.specs.Taking.{words_in}
use Rattle.off_text.proofs.Corners.{behind}
use Rattle.off_text.proofs.read.read_corners.Given as goal

abbrev pub invariant-loop-place : goal.invariant-loop-place
invariant-loop-place l = behind l.corners.items (corners l.points (l.count - l.place) (words_in l.rest)) ≡ corners l.points l.count (words_in l.row.others.now)
