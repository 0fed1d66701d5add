use Rattle.std.proofs.Common.{◌≡◌}
use Rattle.std.specs.List.{AllWithin}
use Rattle.map_defs.specs.Edits.{Change}
use Rattle.link_rows.proofs.edit.change_among.Given as goal

abbrev pub invariant-loop-change : goal.invariant-loop-change
invariant-loop-change l = AllWithin (λ (c : Change). c.dart ≡ l.dart → c.link ≡ l.link → ⊥) l.changes 0 l.change-index
