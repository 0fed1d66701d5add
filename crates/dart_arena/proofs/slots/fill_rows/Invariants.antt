use Rattle.std.proofs.Common.{◌≡◌, ℕ, ◌<◌, ◌≤◌, Some}
use Rattle.slab.specs.Slab.{get, slab_len}
use Rattle.map_defs.specs.Edits.{free_row}
use Rattle.dart_arena.specs.Layout.{AreFirst}
use Rattle.dart_arena.proofs.slots.fill_rows.Given as goal

abbrev pub invariant-loop-key : goal.invariant-loop-key
invariant-loop-key g l =
    AreFirst l.rows × (slab_len l.rows ≡ l.key) × (l.count ≤ l.rows.capacity)
    × (slab_len l.fn.rows ≤ l.key) × (slab_len l.rows ≤ l.rows.capacity)
    × ((key : ℕ) → key < slab_len l.fn.rows → get l.rows key ≡ get l.fn.rows key)
    × ((key : ℕ) → slab_len l.fn.rows ≤ key → key < l.key → get l.rows key ≡ Some (free_row g.row.DIM))
