use Rattle.std.proofs.Common.{◌≡◌, ℕ, map}
use Rattle.std.specs.List.{range_with_len}
use Rattle.map_defs.specs.Rows.{links_of}
use Rattle.list_text.proofs.rows.entries.Given as goal

abbrev pub invariant-loop-link : goal.invariant-loop-link
invariant-loop-link g l = l.entries.items ≡ map (λ (i : ℕ). links_of l.links.rows i l.dart) (range_with_len 0 l.link)
