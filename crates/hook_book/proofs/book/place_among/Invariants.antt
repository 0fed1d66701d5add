use Rattle.std.proofs.Common.{◌≡◌, false, map, take}
use Rattle.map_defs.specs.Values.{is_among}
use Rattle.hook_book.proofs.book.place_among.Given as goal

abbrev pub invariant-loop-place : goal.invariant-loop-place
invariant-loop-place g l = is_among (take l.place (map g.R.Kept.called l.hooks)) l.name ≡ false
