use Rattle.std.proofs.Common.{◌≢◌, ℕ, zero, suc, not, nat_eq, List, get_or, refl, is_some, sym, ap, ◌∙◌, arith}
use Rattle.std.specs.Prelude.{IsTrue}
use Rattle.std.proofs.lemmas.Bool.{ne_eqb, false≢true}
use Rattle.dart_arena.specs.Layout.{keys_of, rows_under}
use Rattle.dart_arena.proofs.RowLemmas.{row_behind}
use Rattle.dart_arena.proofs.Stages.{row-seen, seen-key}
use Rattle.dart_arena.proofs.arena.Arena.is_live.Goals as goal

key-told : (k : ℕ) → IsTrue (not (nat_eq k 0)) → k ≢ 0
key-told zero h same = false≢true h
key-told (suc k) h same = absurd (omega (arith, same))

told-key : (k : ℕ) → k ≢ 0 → IsTrue (not (nat_eq k 0))
told-key k h = rw (ne_eqb k 0 h) refl

pub returns : goal.returns
returns g c =
    let keys : List ℕ = keys_of c.self.inside.places in
    let p : ℕ = c.place.result in
    let is = c.key.ensures in
    rw (← c.self.view_is, is) (
      (λ h. ap is_some (row_behind (rows_under c.self.inside.rows keys) c.args.dart p c.place.ensures.place) ∙ row-seen c.self.inside.places g.row.DIM c.self.inside.rows c.self.inside.count c.self.inside.spare c.self.inside.room c.self.invariant.1 p (key-told (get_or keys p 0) h)),
      (λ h. told-key (get_or keys p 0) (seen-key c.self.inside.rows keys p (sym (ap is_some (row_behind (rows_under c.self.inside.rows keys) c.args.dart p c.place.ensures.place)) ∙ h))),
    )
