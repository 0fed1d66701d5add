use Rattle.std.proofs.Common.{ℕ, ◌+◌, ◌%◌, [], ◌∷◌, ◌++◌, pos, slice_index_or, ap}
use Rattle.map_defs.specs.Rows.{made}
use Rattle.map_defs.specs.Values.{Hook}
use Rattle.machine_defs.specs.State.{State}
use Rattle.machine_defs.specs.Script.{Line, Polygon, Set, Dart}
use Rattle.machine_defs.specs.Soaking.{joining, changes, next_seed, drawn}
use Rattle.map_soak.proofs.ObeyedFacts.{obeys-then, square-as}
use Rattle.map_soak.proofs.square.obey_square.Goals as goal

pub returns-clause-obeyed : goal.returns-clause-obeyed
returns-clause-obeyed g c =
    let hook : Hook = g.H.Hook.hook c.args.map.now.hook in
    let k = g.K.Kind.kind in
    let first : ℕ = c.made-first.result + 1 in
    let worth : ℕ = c.draw-worth.result % 1000 in
    let choice : ℕ = c.draw-choice.result % 4 in
    let give : Line = Set 2 first (record { a = pos worth; b = pos 0; c = pos 0 }) in
    let change : Line = slice_index_or (changes k first) choice Dart in
    let s0 : State = c.args.map.now.state in
    let s1 : State = c.polygon.new.self.state in
    let s2 : State = c.join.new.map.state in
    let s3 : State = c.set.new.self.state in
    let s4 : State = c.change.new.map.state in
    let one = c.in_ok-count_line.ensures.obeyed hook s0 (Polygon 4) s1 c.polygon.ensures.does in
    let two = rw c.polygon.ensures.hook at c.in_ok-join.ensures.obeyed in
    let given = rw (c.from.ensures, c.in_ok-join.ensures.hook, c.polygon.ensures.hook, c.worth_of.ensures) at c.set.ensures.does in
    let three = c.in_ok-count_line-2.ensures.obeyed hook s2 give s3 given in
    let changed = rw (c.set.ensures.hook, c.in_ok-join.ensures.hook, c.polygon.ensures.hook) at c.change.ensures.does in
    let four = c.in_ok-count_line-3.ensures.obeyed hook s3 change s4 changed in
    let first_is = rw c.links.ensures.rows at c.made-first.ensures.made in
    let choice_is = rw c.draw-worth.ensures.next at c.draw-choice.ensures.drawn in
    square-as hook k c.args.before first (made s0.present.rows + 1) c.draw-worth.result (drawn (next_seed c.args.draws.now.number)) c.draw-choice.result (drawn (next_seed (next_seed c.args.draws.now.number)))
    s0 s4 c.args.tally.now c.count_line-3.new.tally (ap (λ (n : ℕ). n + 1) first_is) c.draw-worth.ensures.drawn choice_is
    (obeys-then hook s0 s1 s4 (Polygon 4 ∷ []) (joining k c.args.before first ++ give ∷ change ∷ []) c.args.tally.now c.count_line.new.tally c.count_line-3.new.tally one
    (obeys-then hook s1 s2 s4 (joining k c.args.before first) (give ∷ change ∷ []) c.count_line.new.tally c.join.new.tally c.count_line-3.new.tally two
    (obeys-then hook s2 s3 s4 (give ∷ []) (change ∷ []) c.join.new.tally c.count_line-2.new.tally c.count_line-3.new.tally three four)))
