use Rattle.std.proofs.Common.{ℕ, ◌+◌, List, ap, ◌∙◌, lit<, arith}
use Rattle.std.proofs.lemmas.Result.{err_from_is_err_and, on_ok_weaker, on_err_weaker}
use Rattle.map_defs.specs.Rows.{Rows, made, live_count}
use Rattle.machine_defs.specs.State.{Content}
use Rattle.machine_defs.specs.Difference.{Difference}
use Rattle.journal_laws.specs.Following.{all_put_forward}
use Rattle.label_laws.specs.Contents.{content_of}
use Rattle.valued_map.proofs.Onward.{made-onward, made-few, room-onward, roomy-content, roomy-from, roomy-stored}
use Rattle.valued_map.proofs.map.ValuedMap.put_forward.Goals as goal

pub make_births_room-requires : goal.make_births_room-requires
make_births_room-requires g c =
    let from = rw (← c.self.view_is) at c.requires.steps in
    (lit< tt, (lit< tt, made-few (content_of g.K.Kind.kind g.row.DIM c.self.inside.links.rows c.self.inside.labels c.self.inside.pool c.self.inside.rules) c.args.steps.now from))

pub go_along-requires : goal.go_along-requires
go_along-requires g c =
    let k = g.K.Kind.kind in
    let n : ℕ = g.row.DIM in
    let rows : Rows = c.self.inside.links.rows in
    let steps : List Difference = c.args.steps.now in
    let ready : Content = content_of k n c.make_births_room.new.links.rows c.make_births_room.new.labels c.self.inside.pool c.self.inside.rules in
    let from = roomy-from k n rows c.self.inside.labels c.make_births_room.new.labels c.self.inside.pool c.self.inside.rules c.make_births_room.new.links.rows c.make_births_room.ensures.rows c.make_births_room.ensures.ids steps (rw (← c.self.view_is) at c.requires.steps) in
    let stored = roomy-stored k n rows c.self.inside.labels c.make_births_room.new.labels c.self.inside.pool c.self.inside.rules c.make_births_room.new.links.rows c.make_births_room.ensures.rows c.make_births_room.ensures.ids c.self.invariant c.make_births_room.ensures.places c.make_births_room.ensures.longer in
    let more = made-onward ready steps from in
    let many = ap made c.make_births_room.ensures.rows in
    let places : ℕ = live_count c.make_births_room.new.links.rows + c.make_births_room.new.links.room in
    let room = room-onward ready steps from places (omega (arith, c.in_ok-make_births_room.ensures.room)) in
    (lit< tt, (lit< tt, (stored, (from, (room, (omega (arith, more, c.in_ok-make_births_room.ensures.spare), omega (arith, more, many, c.in_ok-make_births_room.ensures.long)))))))

pub invariant_of-self : goal.invariant_of-self
invariant_of-self g c =
    let k = g.K.Kind.kind in
    let n : ℕ = g.row.DIM in
    let rows : Rows = c.self.inside.links.rows in
    roomy-stored k n rows c.self.inside.labels c.make_births_room.new.labels c.self.inside.pool c.self.inside.rules c.make_births_room.new.links.rows c.make_births_room.ensures.rows c.make_births_room.ensures.ids c.self.invariant c.make_births_room.ensures.places c.make_births_room.ensures.longer

pub returns-in_err-make_births_room-clause-err : goal.returns-in_err-make_births_room-clause-err
returns-in_err-make_births_room-clause-err g c =
    let k = g.K.Kind.kind in
    let n : ℕ = g.row.DIM in
    let rows : Rows = c.self.inside.links.rows in
    let same = roomy-content k n rows c.self.inside.labels c.make_births_room.new.labels c.self.inside.pool c.self.inside.rules c.make_births_room.new.links.rows c.make_births_room.ensures.rows c.make_births_room.ensures.ids in
    let error = err_from_is_err_and c.from_residual.result c.from_residual.ensures.1 in
    rw (error.1, ← c.self.view_is) same

pub returns-clause-forward : goal.returns-clause-forward
returns-clause-forward g c =
    let k = g.K.Kind.kind in
    let n : ℕ = g.row.DIM in
    let rows : Rows = c.self.inside.links.rows in
    let same = roomy-content k n rows c.self.inside.labels c.make_births_room.new.labels c.self.inside.pool c.self.inside.rules c.make_births_room.new.links.rows c.make_births_room.ensures.rows c.make_births_room.ensures.ids in
    rw (← c.self.view_is) (on_ok_weaker c.go_along.result (λ gone. gone ∙ ap (all_put_forward c.args.steps.now) same) c.go_along.ensures.gone)

pub returns-clause-err : goal.returns-clause-err
returns-clause-err g c =
    let k = g.K.Kind.kind in
    let n : ℕ = g.row.DIM in
    let rows : Rows = c.self.inside.links.rows in
    let same = roomy-content k n rows c.self.inside.labels c.make_births_room.new.labels c.self.inside.pool c.self.inside.rules c.make_births_room.new.links.rows c.make_births_room.ensures.rows c.make_births_room.ensures.ids in
    rw (← c.self.view_is) (on_err_weaker c.go_along.result (λ kept. kept ∙ same) c.go_along.ensures.kept)
