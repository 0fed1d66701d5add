use Rattle.std.proofs.Common.{◌≡◌, ℕ, List, [], Option, Some, slice_set, sym, subst, ap, ◌∙◌}
use Rattle.std.proofs.lemmas.Result.{err_from_is_err_and}
use Rattle.map_defs.specs.Rows.{Rows}
use Rattle.map_defs.specs.Rows.{made as made_count}
use Rattle.map_defs.specs.Values.{Rule}
use Rattle.machine_defs.specs.Difference.{RuleChange}
use Rattle.label_laws.specs.Contents.{content_of}
use Rattle.label_laws.specs.Maps.{IsStoredMap}
use Rattle.label_laws.proofs.LineSteps.{made_rules, ruled-stored, ruled-content}
use Rattle.label_laws.proofs.Valued.{opened-stored, opened-content}
use Rattle.valued_map.specs.Told.{IsStep, IsBegun, finished}
use Rattle.valued_map.proofs.Revalued.{empty_edit, rule-step}
use Rattle.valued_map.proofs.map.ValuedMap.set_rule.Goals as goal

pub invariant_of-self : goal.invariant_of-self
invariant_of-self g c =
    let k = g.K.Kind.kind in
    let n : ℕ = g.row.DIM in
    let rows : Rows = c.self.inside.links.rows in
    let rules : List (Option Rule) = c.self.inside.rules in
    let stored = opened-stored k n rows c.self.inside.labels c.open.new.self c.self.inside.pool rules c.self.invariant c.args.dim c.open.ensures.ids c.open.ensures.made c.open.ensures.places_stay c.open.ensures.others in
    stored

pub returns-in_err-open-clause-err : goal.returns-in_err-open-clause-err
returns-in_err-open-clause-err g c =
    let k = g.K.Kind.kind in
    let n : ℕ = g.row.DIM in
    let rows : Rows = c.self.inside.links.rows in
    let rules : List (Option Rule) = c.self.inside.rules in
    let shown = opened-content k n rows c.self.inside.labels c.open.new.self c.self.inside.pool rules c.self.invariant c.args.dim c.open.ensures.ids c.open.ensures.made c.open.ensures.places_stay c.open.ensures.others in
    let error = err_from_is_err_and c.from_residual-in_err-open.result c.from_residual-in_err-open.ensures.1 in
    rw (error.1, ← c.self.view_is) shown

pub invariant_of-self-in_err-make_places : goal.invariant_of-self-in_err-make_places
invariant_of-self-in_err-make_places g c =
    let k = g.K.Kind.kind in
    let n : ℕ = g.row.DIM in
    let rows : Rows = c.self.inside.links.rows in
    let rules : List (Option Rule) = c.self.inside.rules in
    let stored = opened-stored k n rows c.self.inside.labels c.open.new.self c.self.inside.pool rules c.self.invariant c.args.dim c.open.ensures.ids c.open.ensures.made c.open.ensures.places_stay c.open.ensures.others in
    subst (λ (rs : List (Option Rule)). IsStoredMap k n rows c.open.new.self c.self.inside.pool rs) (sym c.in_err-make_places.ensures.err) stored

pub returns-in_err-make_places-clause-err : goal.returns-in_err-make_places-clause-err
returns-in_err-make_places-clause-err g c =
    let k = g.K.Kind.kind in
    let n : ℕ = g.row.DIM in
    let rows : Rows = c.self.inside.links.rows in
    let rules : List (Option Rule) = c.self.inside.rules in
    let shown = opened-content k n rows c.self.inside.labels c.open.new.self c.self.inside.pool rules c.self.invariant c.args.dim c.open.ensures.ids c.open.ensures.made c.open.ensures.places_stay c.open.ensures.others in
    let same = ap (λ (rs : List (Option Rule)). content_of k n rows c.open.new.self c.self.inside.pool rs) c.in_err-make_places.ensures.err ∙ shown in
    let error = err_from_is_err_and c.from_residual-in_err-make_places.result c.from_residual-in_err-make_places.ensures.1 in
    rw (error.1, ← c.self.view_is) same

pub invariant_of-self-2 : goal.invariant_of-self-2
invariant_of-self-2 g c =
    let k = g.K.Kind.kind in
    let n : ℕ = g.row.DIM in
    let rows : Rows = c.self.inside.links.rows in
    let rules : List (Option Rule) = c.self.inside.rules in
    let made : c.make_places.new.rules ≡ made_rules n rules = rw (c.dimension-dimension.ensures.dimension) at c.in_ok-make_places.ensures.made in
    let is = c.put_rule.ensures ∙ ap (λ (rs : List (Option Rule)). slice_set rs c.args.dim (Some c.args.rule)) made in
    subst (λ (rs : List (Option Rule)). IsStoredMap k n rows c.open.new.self c.self.inside.pool rs) (sym is) (ruled-stored k n rows c.self.inside.labels c.open.new.self c.self.inside.pool rules c.self.invariant c.args.dim c.requires c.args.rule c.open.ensures.ids c.open.ensures.made c.in_ok-open.ensures.places c.open.ensures.places_stay c.open.ensures.others)

pub returns-clause-set : goal.returns-clause-set
returns-clause-set g c =
    let k = g.K.Kind.kind in
    let n : ℕ = g.row.DIM in
    let rows : Rows = c.self.inside.links.rows in
    let rules : List (Option Rule) = c.self.inside.rules in
    let made : c.make_places.new.rules ≡ made_rules n rules = rw (c.dimension-dimension.ensures.dimension) at c.in_ok-make_places.ensures.made in
    let is = c.put_rule.ensures ∙ ap (λ (rs : List (Option Rule)). slice_set rs c.args.dim (Some c.args.rule)) made in
    rw (← c.self.view_is) (
    ap (λ (rs : List (Option Rule)). content_of k n rows c.open.new.self c.self.inside.pool rs) is
    ∙ ruled-content k n rows c.self.inside.labels c.open.new.self c.self.inside.pool rules c.self.invariant c.args.dim c.requires c.args.rule c.open.ensures.ids c.open.ensures.made c.in_ok-open.ensures.places c.open.ensures.places_stay c.open.ensures.others)

pub returns-clause-step : goal.returns-clause-step
returns-clause-step g c =
    let k = g.K.Kind.kind in
    let n : ℕ = g.row.DIM in
    let rows : Rows = c.self.inside.links.rows in
    let rules : List (Option Rule) = c.self.inside.rules in
    let made : c.make_places.new.rules ≡ made_rules n rules = rw (c.dimension-dimension.ensures.dimension) at c.in_ok-make_places.ensures.made in
    let is = c.put_rule.ensures ∙ ap (λ (rs : List (Option Rule)). slice_set rs c.args.dim (Some c.args.rule)) made in
    let changes : List RuleChange = c.in_ok-changes.changes.items in
    let begun : IsBegun c.args.asked (made_count rows) empty_edit c.in_ok-draft.draft = rw (c.made.ensures.made, c.no_edit.ensures) at c.in_ok-draft.ensures in
    rw (← c.self.view_is, c.finish_step.ensures, c.new.ensures.items)
    (subst (λ (rs : List (Option Rule)). IsStep c.args.asked (content_of k n rows c.self.inside.labels c.self.inside.pool rules) (content_of k n rows c.open.new.self c.self.inside.pool rs) (finished c.in_ok-draft.draft [] changes)) (sym is)
    (rule-step k n rows c.self.inside.labels c.open.new.self c.self.inside.pool rules c.self.invariant c.args.dim c.requires c.args.rule c.open.ensures.ids c.open.ensures.made c.in_ok-open.ensures.places c.open.ensures.places_stay c.open.ensures.others
    c.args.asked c.in_ok-draft.draft begun changes c.in_ok-changes.ensures))
