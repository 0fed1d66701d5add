use Rattle.std.proofs.Common.{ℕ, List, ◌∙◌, arith, rules}
use Rattle.dart_arena.specs.Layout.{keys_of, rows_under}
use Rattle.dart_arena.proofs.SlotLemmas.{rows-length}
use Rattle.dart_arena.proofs.RowLemmas.{count-le}
use Rattle.dart_arena.proofs.slots.widen.Goals as goal

pub gather-requires : goal.gather-requires
gather-requires g c =
    let keys : List ℕ = keys_of c.args.places.now in (
      search rules,
      (
        search rules,
        (
          c.len-live.ensures ∙ c.requires.freed.counted,
          (
            c.requires.few,
            omega (arith, c.max.ensures, c.len-live.ensures, c.requires.bound, c.requires.few, c.requires.freed.counted, count-le (rows_under c.args.rows.now keys), rows-length c.args.rows.now keys),
          ),
        ),
      ),
    )
