use Rattle.std.proofs.Common.{Err, refl, sym, ap, subst, ◌∙◌}
use Rattle.std.proofs.lemmas.Result.{err_from_is_err_and}
use Rattle.map_defs.specs.Rows.{Rows}
use Rattle.label_laws.specs.Maps.{IsStoredMap}
use Rattle.valued_map.proofs.Dualled.{dual-unmade, dual-untold, dual-stored, dual-shown, dual-stays}
use Rattle.valued_map.proofs.map.ValuedMap.take_dual.Goals as goal

pub take_dual-requires : goal.take_dual-requires
take_dual-requires g c = c.self.invariant.laws

pub invariant_of-self : goal.invariant_of-self
invariant_of-self g c =
    let same = dual-unmade g.K.Kind.kind g.row.DIM c.self.inside.links.rows c.take_dual.new.links.rows c.in_err-take_dual.field-0.0 c.in_err-take_dual.ensures.turned in
    subst (λ (r : Rows). IsStoredMap g.K.Kind.kind g.row.DIM r c.self.inside.labels c.self.inside.pool c.self.inside.rules) (sym same) c.self.invariant

pub returns-in_err-take_dual-clause-becomes : goal.returns-in_err-take_dual-clause-becomes
returns-in_err-take_dual-clause-becomes g c =
    let p = err_from_is_err_and c.from_residual.result c.from_residual.ensures.1 in
    rw (← c.self.view_is, p.1 ∙ ap Err p.2)
    (dual-untold g.K.Kind.kind g.row.DIM c.self.inside.links.rows c.take_dual.new.links.rows c.self.inside.labels c.self.inside.pool c.self.inside.rules c.in_err-take_dual.field-0.0 c.in_err-take_dual.ensures.turned)

pub returns-in_err-take_dual-clause-err : goal.returns-in_err-take_dual-clause-err
returns-in_err-take_dual-clause-err g c =
    let p = err_from_is_err_and c.from_residual.result c.from_residual.ensures.1 in
    rw (← c.self.view_is, p.1 ∙ ap Err p.2, c.in_err-take_dual.ensures.err) refl

pub invariant_of-self-2 : goal.invariant_of-self-2
invariant_of-self-2 g c =
    let turned = c.in_ok-take_dual.ensures.turned in
    dual-stored g.K.Kind.kind g.row.DIM c.self.inside.links.rows c.take_dual.new.links.rows c.self.inside.labels c.turn_labels.new.labels c.self.inside.pool c.self.inside.rules c.self.invariant
    turned.dualable turned.dual turned.length turned.live turned.sound turned.laws c.turn_labels.ensures c.turn_rules.new.rules c.turn_rules.ensures

pub returns-clause-becomes : goal.returns-clause-becomes
returns-clause-becomes g c =
    let turned = c.in_ok-take_dual.ensures.turned in
    rw (← c.self.view_is) (
      turned.dualable,
      dual-shown g.K.Kind.kind g.row.DIM c.self.inside.links.rows c.take_dual.new.links.rows c.self.inside.labels c.turn_labels.new.labels c.self.inside.pool c.self.inside.rules c.self.invariant
          turned.dualable turned.dual turned.length turned.live turned.sound turned.laws c.turn_labels.ensures c.turn_rules.new.rules c.turn_rules.ensures,
      dual-stays g.K.Kind.kind g.row.DIM c.self.inside.links.rows c.take_dual.new.links.rows c.self.inside.labels c.turn_labels.new.labels c.self.inside.pool c.self.inside.rules c.self.invariant
          turned.dualable turned.dual turned.length turned.live turned.sound turned.laws c.turn_labels.ensures c.turn_rules.new.rules c.turn_rules.ensures,
    )
