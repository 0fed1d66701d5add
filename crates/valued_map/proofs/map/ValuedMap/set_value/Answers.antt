use Rattle.std.proofs.Common.{ℕ, List, Bool, None, sym, subst}
use Rattle.map_defs.specs.Rows.{Rows, made}
use Rattle.machine_defs.specs.Kept.{IsLawfulContent}
use Rattle.machine_defs.specs.Difference.{ValueChange}
use Rattle.label_laws.specs.Contents.{content_of}
use Rattle.label_laws.proofs.Showing.{value-shown, kept-shown}
use Rattle.valued_map.specs.Told.{IsBegun, IsStep}
use Rattle.valued_map.proofs.Revalued.{empty_edit, value-step, value-untold}
use Rattle.valued_map.proofs.map.ValuedMap.set_value.Goals as goal

pub returns-then-not-asked-clause-step : goal.returns-then-not-asked-clause-step
returns-then-not-asked-clause-step g c =
    let kept : IsLawfulContent c.args.self.now.content =
    rw (← c.self.view_is) (kept-shown g.K.Kind.kind g.row.DIM c.self.inside.links.rows c.self.inside.labels c.self.inside.pool c.self.inside.rules c.self.invariant) in
    subst (λ (asked : Bool). IsStep asked c.args.self.now.content c.put_value.new.self.content None) (sym c.if-not-asked.true)
    (value-untold c.args.self.now.content c.put_value.new.self.content kept c.see_lawful.ensures c.args.dim c.args.dart c.args.value c.in_ok-put_value.ensures.valued)

pub returns-clause-step : goal.returns-clause-step
returns-clause-step g c =
    let k = g.K.Kind.kind in
    let n : ℕ = g.row.DIM in
    let rows : Rows = c.self.inside.links.rows in
    let values : List ValueChange = c.new_values-values.result.items in
    let begun : IsBegun c.args.asked (made rows) empty_edit c.in_ok-draft.draft = rw (c.made-made.ensures.made, c.no_edit.ensures) at c.in_ok-draft.ensures in
    let valued = rw (← c.self.view_is, ← c.self-2.view_is) at c.in_ok-put_value-2.ensures.valued in
    rw (← c.self.view_is, ← c.self-2.view_is, c.finish_step.ensures, c.new.ensures.items)
    (value-step (content_of k n rows c.self.inside.labels c.self.inside.pool c.self.inside.rules)
    (content_of k n c.self-2.inside.links.rows c.self-2.inside.labels c.self-2.inside.pool c.self-2.inside.rules)
    (kept-shown k n rows c.self.inside.labels c.self.inside.pool c.self.inside.rules c.self.invariant)
    (kept-shown k n c.self-2.inside.links.rows c.self-2.inside.labels c.self-2.inside.pool c.self-2.inside.rules c.self-2.invariant)
    c.args.dim c.args.dart c.args.value valued c.self.inside.labels c.self-2.inside.labels c.self.inside.pool c.self-2.inside.pool
    (value-shown k n rows c.self.inside.labels c.self.inside.pool c.self.inside.rules c.self.invariant)
    (value-shown k n c.self-2.inside.links.rows c.self-2.inside.labels c.self-2.inside.pool c.self-2.inside.rules c.self-2.invariant)
    c.args.asked c.in_ok-draft.draft begun c.in_ok-olds.olds.items values (λ some. c.in_ok-olds.ensures) c.new_values-values.ensures)
