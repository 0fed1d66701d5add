use Rattle.std.proofs.Common.{ℕ, List, ◌∷◌, set, Option, None, sym, ap, ◌∙◌}
use Rattle.dart_arena.specs.Layout.{keys_of, rows_under}
use Rattle.dart_arena.proofs.RowSize.{row-fits}
use Rattle.dart_arena.proofs.RowLemmas.{set-behind-mapped}
use Rattle.dart_arena.proofs.Stages.{has-row, after-write}
use Rattle.dart_arena.proofs.arena.Arena.set_entry.Goals as goal

pub set_in_row-requires : goal.set_in_row-requires
set_in_row-requires g c =
    let keys : List ℕ = keys_of c.self.inside.places in
    rw c.key-key.ensures (
      row-fits g.row.DIM c.self.invariant.0,
      (has-row c.self.inside.places g.row.DIM c.self.inside.rows c.self.inside.count c.self.inside.spare c.self.inside.room c.self.invariant.1 c.place.result, c.requires),
    )

pub invariant_of-self : goal.invariant_of-self
invariant_of-self g c =
    let keys : List ℕ = keys_of c.self.inside.places in
    rw (c.set_in_row.ensures, c.key-key.ensures) (
      c.self.invariant.0,
      (after-write c.self.inside.places g.row.DIM c.self.inside.rows c.self.inside.count c.self.inside.spare c.self.inside.room c.self.invariant.1 c.place.result (λ (row : List ℕ). set row c.args.link c.args.to)).0,
      c.self.invariant.2,
      c.self.invariant.3,
    )

pub returns-clause-rows : goal.returns-clause-rows
returns-clause-rows g c =
    let keys : List ℕ = keys_of c.self.inside.places in
    rw (← c.self.view_is, c.set_in_row.ensures, c.key-key.ensures)
    (ap (λ (rest : List (Option (List ℕ))). let one : List (Option (List ℕ)) = None ∷ rest in one)
    ((after-write c.self.inside.places g.row.DIM c.self.inside.rows c.self.inside.count c.self.inside.spare c.self.inside.room c.self.invariant.1 c.place.result (λ (row : List ℕ). set row c.args.link c.args.to)).1)
    ∙ sym (set-behind-mapped (rows_under c.self.inside.rows keys) c.args.dart c.place.result (λ (row : List ℕ). set row c.args.link c.args.to) c.place.ensures.place))
