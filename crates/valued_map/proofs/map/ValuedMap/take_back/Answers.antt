use Rattle.std.proofs.Common.{◌≤◌, List, lit<, arith}
use Rattle.map_defs.specs.Rows.{Rows, made}
use Rattle.machine_defs.specs.State.{Content}
use Rattle.machine_defs.specs.Difference.{Difference}
use Rattle.journal_laws.specs.Following.{all_taken_back}
use Rattle.label_laws.specs.Contents.{content_of}
use Rattle.valued_map.proofs.Between.{made-before}
use Rattle.valued_map.proofs.map.ValuedMap.take_back.Goals as goal

pub go_along-requires : goal.go_along-requires
go_along-requires g c =
    let steps : List Difference = c.args.steps.now in
    let rows : Rows = c.self.inside.links.rows in
    let now : Content = content_of g.K.Kind.kind g.row.DIM rows c.self.inside.labels c.self.inside.pool c.self.inside.rules in
    let to = rw (← c.self.view_is) at c.requires.steps in
    let few : made (all_taken_back steps now).rows ≤ made rows = made-before now steps to in
    let long = c.self.invariant.long in
    (lit< tt, (lit< tt, (c.self.invariant, (to, (rw (← c.self.view_is) at c.requires.room, (omega (arith, few), omega (arith, few, long)))))))
