use Rattle.std.proofs.Common.{ℕ, List, Option, sym, ap, ◌∙◌}
use Rattle.map_defs.specs.Rows.{entry_of}
use Rattle.dart_arena.specs.Layout.{keys_of, row_under, rows_under}
use Rattle.dart_arena.proofs.RowLemmas.{row_behind}
use Rattle.dart_arena.proofs.Stages.{entry-read}
use Rattle.dart_arena.proofs.arena.Arena.row.Goals as goal

pub returns : goal.returns
returns g c = λ link.
    let p : ℕ = c.place.result in
    rw (← c.self.view_is)
    (ap (λ (o : Option (List ℕ)). entry_of o link) c.row_in.ensures ∙ ap (λ (key : ℕ). entry_of (row_under c.self.inside.rows key) link) c.key_to_read.ensures
    ∙ entry-read c.self.inside.places g.row.DIM c.self.inside.rows c.self.inside.count c.self.inside.spare c.self.inside.room c.self.invariant.1 p link
    ∙ sym (ap (λ (o : Option (List ℕ)). entry_of o link) (row_behind (rows_under c.self.inside.rows (keys_of c.self.inside.places)) c.args.dart p c.place.ensures.place)))
