use Rattle.std.proofs.Common.{◌<◌, ◌⊎◌, refl, inl, inr, arith}
use Rattle.std.proofs.lemmas.Bool.{cases_lt}
use Rattle.map_defs.specs.Rows.{links_of}
use Rattle.map_defs.specs.Removal.{CommutesAt}
use Rattle.cell_edit.proofs.Commuting.{commutes-above}
use Rattle.cell_edit.proofs.Listed.{one-more, all-told}
use Rattle.cell_edit.proofs.crossing.are_commuting.Goals as goal

pub returns-then-max-dimension : goal.returns-then-max-dimension
returns-then-max-dimension g c =
    let above : (g.row.DIM < c.args.one) ⊎ (g.row.DIM < c.args.other) = elim (cases_lt g.row.DIM c.args.one) [
      | inl beyond ↦ inl beyond
      | inr within ↦ inr (omega (arith, c.max.ensures, c.dimension.ensures.dimension, c.if-max-dimension.true))
    ] in
    ((λ _ b _. commutes-above g.K.Kind.kind g.row.DIM c.args.links.now.rows c.dimension.ensures.sound c.args.one c.args.other b above), λ _. refl)

pub loop-dart-preserved : goal.loop-dart-preserved
loop-dart-preserved g c =
    one-more (CommutesAt (links_of c.args.links.now.rows) c.args.one c.args.other) c.args.darts.now c.loop-dart.dart-index c.dart-item.result c.loop-dart-test.true c.dart-item.is
    (c.is_commuting.ensures.0 c.if-not-is_commuting.false) c.loop-dart.invariant

pub returns : goal.returns
returns g c =
    all-told (CommutesAt (links_of c.args.links.now.rows) c.args.one c.args.other) c.args.darts.now c.loop-dart.dart-index (omega (arith, c.loop-dart-test.false)) c.loop-dart.invariant
