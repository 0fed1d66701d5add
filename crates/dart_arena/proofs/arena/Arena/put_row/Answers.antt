use Rattle.std.proofs.Common.{◌≢◌, ◌≡◌, ℕ, List, ◌∷◌, get_or, Option, None, Some, is_some, IsSome, sym, ap, ◌∙◌}
use Rattle.map_defs.specs.Rows.{Rows, row_at}
use Rattle.map_defs.specs.Edits.{free_row}
use Rattle.dart_arena.specs.Layout.{keys_of, key_at, rows_under}
use Rattle.dart_arena.proofs.RowLinks.{linked-whole}
use Rattle.dart_arena.proofs.RowSize.{row-fits}
use Rattle.dart_arena.proofs.RowLemmas.{row_behind, set-behind-mapped}
use Rattle.dart_arena.proofs.Stages.{seen-key, has-row, after-write}
use Rattle.dart_arena.proofs.arena.Arena.put_row.Goals as goal

pub live_key-key-requires : goal.live_key-key-requires
live_key-key-requires g c =
    let keys : List ℕ = keys_of c.self.inside.places in
    let bare = rw (← c.self.view_is) at c.requires.bare in
    record {
      within = c.place.ensures.within;
      lives = seen-key c.self.inside.rows keys c.place.result
          (sym (ap is_some (row_behind (rows_under c.self.inside.rows keys) c.args.dart c.place.result c.place.ensures.place)) ∙ ap is_some bare);
    }

pub put_all_there-requires : goal.put_all_there-requires
put_all_there-requires g c =
    let keys : List ℕ = keys_of c.self.inside.places in
    let p : ℕ = c.place.result in
    let bare = rw (← c.self.view_is) at c.requires.bare in
    let live : IsSome (get_or (rows_under c.self.inside.rows keys) p None) =
    sym (ap is_some (row_behind (rows_under c.self.inside.rows keys) c.args.dart p c.place.ensures.place)) ∙ ap is_some bare in
    let key : key_at keys p ≢ 0 = seen-key c.self.inside.rows keys p live in
    rw c.live_key-key.ensures (
      row-fits g.row.DIM c.self.invariant.0,
      (key, (has-row c.self.inside.places g.row.DIM c.self.inside.rows c.self.inside.count c.self.inside.spare c.self.inside.room c.self.invariant.1 p key, c.requires.wide)),
    )

pub invariant_of-self : goal.invariant_of-self
invariant_of-self g c =
    rw (c.put_all_there.ensures, c.live_key-key.ensures) (
      c.self.invariant.0,
      (after-write c.self.inside.places g.row.DIM c.self.inside.rows c.self.inside.count c.self.inside.spare c.self.inside.room c.self.invariant.1 c.place.result (λ (row : List ℕ). c.args.links.now)).0,
      c.self.invariant.2,
      c.self.invariant.3,
    )

pub returns-clause-rows : goal.returns-clause-rows
returns-clause-rows g c =
    let keys : List ℕ = keys_of c.self.inside.places in
    let rows : Rows = None ∷ rows_under c.self.inside.rows keys in
    let bare : row_at rows c.args.dart ≡ Some (free_row g.row.DIM) = rw (← c.self.view_is) at c.requires.bare in
    rw (← c.self.view_is, c.put_all_there.ensures, c.live_key-key.ensures)
    (ap (λ (rest : List (Option (List ℕ))). let one : List (Option (List ℕ)) = None ∷ rest in one)
    ((after-write c.self.inside.places g.row.DIM c.self.inside.rows c.self.inside.count c.self.inside.spare c.self.inside.room c.self.invariant.1 c.place.result (λ (row : List ℕ). c.args.links.now)).1)
    ∙ sym (set-behind-mapped (rows_under c.self.inside.rows keys) c.args.dart c.place.result (λ (row : List ℕ). c.args.links.now) c.place.ensures.place)
    ∙ sym (linked-whole g.row.DIM c.args.dart c.args.links.now rows bare c.requires.wide))
