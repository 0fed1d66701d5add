use Rattle.std.proofs.Common.{◌≢◌, ℕ, ◌≤◌, List, length, arith}
use Rattle.std.proofs.lemmas.Option.{IfSome_then}
use Rattle.dart_arena.specs.Layout.{keys_of, key_at}
use Rattle.dart_arena.proofs.Arranged.{next-seen, none-above}
use Rattle.dart_arena.proofs.Stages.{row-seen}
use Rattle.dart_arena.proofs.arena.Arena.next_live.Goals as goal

pub returns-then-key-ne0-clause-next : goal.returns-then-key-ne0-clause-next
returns-then-key-ne0-clause-next g c =
    let keys : List ℕ = keys_of c.self.inside.places in
    let p : ℕ = c.loop-place.place in
    let above : c.args.after ≤ p = omega arith in
    let key : key_at keys p ≢ 0 = λ none. absurd (omega (arith, none, c.key.ensures)) in
    let live = row-seen c.self.inside.places g.row.DIM c.self.inside.rows c.self.inside.count c.self.inside.spare c.self.inside.room c.self.invariant.1 p key in
    IfSome_then c.new.result c.new.ensures.same
    (λ d is. rw (← c.self.view_is) (next-seen c.self.inside.rows keys c.self.inside.spare c.self.inside.room c.args.after p d is above c.loop-place.invariant live))

pub returns-clause-none : goal.returns-clause-none
returns-clause-none g c =
    let keys : List ℕ = keys_of c.self.inside.places in
    let end : length keys ≤ c.loop-place.place = omega (arith, c.made-place-end.ensures) in
    rw (← c.self.view_is) (none-above c.self.inside.rows keys c.args.after c.loop-place.place c.loop-place.invariant end)
