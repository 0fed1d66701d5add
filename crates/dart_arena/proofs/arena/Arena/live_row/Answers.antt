use Rattle.std.proofs.Common.{◌≢◌, ℕ, List, get_or, Option, None, is_some, IsSome, sym, ap, ◌∙◌}
use Rattle.map_defs.specs.Rows.{entry_of}
use Rattle.dart_arena.specs.Layout.{keys_of, key_at, row_under, rows_under}
use Rattle.dart_arena.proofs.RowLemmas.{row_behind}
use Rattle.dart_arena.proofs.RowSize.{row-fits}
use Rattle.dart_arena.proofs.SlotLemmas.{rows-at}
use Rattle.dart_arena.proofs.Stages.{seen-key, has-row}
use Rattle.dart_arena.proofs.arena.Arena.live_row.Goals as goal

pub live_key-requires : goal.live_key-requires
live_key-requires g c =
    let keys : List ℕ = keys_of c.self.inside.places in
    let there = rw (← c.self.view_is) at c.requires in
    record {
      within = c.place.ensures.within;
      lives = seen-key c.self.inside.rows keys c.place.result
          (sym (ap is_some (row_behind (rows_under c.self.inside.rows keys) c.args.dart c.place.result c.place.ensures.place)) ∙ there);
    }

pub row_there-requires : goal.row_there-requires
row_there-requires g c =
    let keys : List ℕ = keys_of c.self.inside.places in
    let p : ℕ = c.place.result in
    let there = rw (← c.self.view_is) at c.requires in
    let live : IsSome (get_or (rows_under c.self.inside.rows keys) p None) =
    sym (ap is_some (row_behind (rows_under c.self.inside.rows keys) c.args.dart p c.place.ensures.place)) ∙ there in
    let key : key_at keys p ≢ 0 = seen-key c.self.inside.rows keys p live in
    rw c.live_key.ensures
    (row-fits g.row.DIM c.self.invariant.0, (key, has-row c.self.inside.places g.row.DIM c.self.inside.rows c.self.inside.count c.self.inside.spare c.self.inside.room c.self.invariant.1 p key))

pub returns : goal.returns
returns g c = λ link.
    let keys : List ℕ = keys_of c.self.inside.places in
    let p : ℕ = c.place.result in
    rw (← c.self.view_is)
    (ap (λ (o : Option (List ℕ)). entry_of o link) (sym c.row_there.ensures) ∙ ap (λ (key : ℕ). entry_of (row_under c.self.inside.rows key) link) c.live_key.ensures
    ∙ sym (ap (λ (o : Option (List ℕ)). entry_of o link) (rows-at c.self.inside.rows keys p))
    ∙ sym (ap (λ (o : Option (List ℕ)). entry_of o link) (row_behind (rows_under c.self.inside.rows keys) c.args.dart p c.place.ensures.place)))
