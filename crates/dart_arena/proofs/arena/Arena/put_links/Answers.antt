use Rattle.std.proofs.Common.{ℕ, List, ◌∷◌, Option, None, sym, ap, ◌∙◌}
use Rattle.dart_arena.specs.Layout.{keys_of, rows_under}
use Rattle.dart_arena.specs.RowChanges.{with_links}
use Rattle.dart_arena.proofs.RowLinks.{linked-row}
use Rattle.dart_arena.proofs.RowSize.{row-fits}
use Rattle.dart_arena.proofs.RowLemmas.{set-behind-mapped}
use Rattle.dart_arena.proofs.Stages.{has-row, after-write}
use Rattle.dart_arena.proofs.arena.Arena.put_links.Goals as goal

pub put_links_in_row-requires : goal.put_links_in_row-requires
put_links_in_row-requires g c =
    let keys : List ℕ = keys_of c.self.inside.places in
    rw c.key-key.ensures (
      row-fits g.row.DIM c.self.invariant.0,
      (has-row c.self.inside.places g.row.DIM c.self.inside.rows c.self.inside.count c.self.inside.spare c.self.inside.room c.self.invariant.1 c.place.result, c.requires),
    )

pub invariant_of-self : goal.invariant_of-self
invariant_of-self g c =
    let keys : List ℕ = keys_of c.self.inside.places in
    rw (c.put_links_in_row.ensures, c.key-key.ensures) (
      c.self.invariant.0,
      (after-write c.self.inside.places g.row.DIM c.self.inside.rows c.self.inside.count c.self.inside.spare c.self.inside.room c.self.invariant.1 c.place.result (with_links 0 c.args.links.now)).0,
      c.self.invariant.2,
      c.self.invariant.3,
    )

pub returns-clause-rows : goal.returns-clause-rows
returns-clause-rows g c =
    let keys : List ℕ = keys_of c.self.inside.places in
    rw (← c.self.view_is, c.put_links_in_row.ensures, c.key-key.ensures)
    (ap (λ (rest : List (Option (List ℕ))). let one : List (Option (List ℕ)) = None ∷ rest in one)
    ((after-write c.self.inside.places g.row.DIM c.self.inside.rows c.self.inside.count c.self.inside.spare c.self.inside.room c.self.invariant.1 c.place.result (with_links 0 c.args.links.now)).1)
    ∙ sym (set-behind-mapped (rows_under c.self.inside.rows keys) c.args.dart c.place.result (with_links 0 c.args.links.now) c.place.ensures.place)
    ∙ sym (linked-row c.args.dart 0 c.args.links.now (let rows : List (Option (List ℕ)) = None ∷ rows_under c.self.inside.rows keys in rows)))
