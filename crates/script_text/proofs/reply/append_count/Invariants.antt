use Rattle.std.proofs.Common.{◌≡◌, ◌++◌, take, codes}
use Rattle.std.specs.List.{flat_map}
use Rattle.machine_defs.specs.Text.{spaced}
use Rattle.script_text.proofs.reply.append_count.Given as goal

abbrev pub invariant-loop-count : goal.invariant-loop-count
invariant-loop-count l = l.text.items ≡ l.fn.text.items ++ (codes "count" ++ flat_map spaced (take l.count-index l.counts))
