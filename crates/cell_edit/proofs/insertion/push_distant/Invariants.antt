use Rattle.std.proofs.Common.{ℕ, ◌≡◌, ◌+◌, ◌≤◌}
use Rattle.std.specs.Prelude.{vec_len, vec_capacity}
use Rattle.cell_edit.specs.Stars.{star_of}
use Rattle.cell_edit.specs.Writing.{Appends, IsDistantCopy}
use Rattle.cell_edit.proofs.insertion.push_distant.Given as goal

abbrev pub invariant-loop-at : goal.invariant-loop-at
invariant-loop-at g l =
    ((L : ℕ → ℕ → ℕ) → ((t : ℕ) → L t l.new ≡ 0) → Appends L (IsDistantCopy g.K.Kind.kind l.link l.row (star_of l.stars) l.from l.at l.new) l.initial.changes.items l.changes.items)
    × (vec_capacity l.changes ≡ vec_capacity l.initial.changes) × (vec_len l.changes + l.from ≤ vec_len l.initial.changes + l.at) × (l.from ≤ l.at) × (l.at ≤ l.to)
