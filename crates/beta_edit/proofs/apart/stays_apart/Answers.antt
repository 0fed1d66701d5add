use Rattle.std.proofs.Common.{ℕ, refl, sym, ◌∙◌}
use Rattle.std.proofs.lemmas.Bool.{false≢true}
use Rattle.map_defs.specs.Rows.{links_of}
use Rattle.beta_edit.specs.Crossing.{IsDrawnBack}
use Rattle.cell_edit.proofs.Listed.{one-more, all-so}
use Rattle.beta_edit.proofs.StaysApart.{joins-none, drawn-back-none}
use Rattle.beta_edit.proofs.apart.stays_apart.Goals as goal

pub returns-then-is_drawn_back : goal.returns-then-is_drawn_back
returns-then-is_drawn_back g c = (
  (λ e. absurd (false≢true e)),
  λ joins. absurd (drawn-back-none (links_of c.args.links.now.rows) c.requires.laws c.args.link c.requires.low c.args.beside c.args.darts.now c.requires.darts joins
      c.dart-item.result (c.loop-dart.dart-index, c.loop-dart-test.true, sym c.dart-item.is) (c.is_drawn_back.ensures.0 c.if-is_drawn_back.true)),
)

pub loop-dart-preserved : goal.loop-dart-preserved
loop-dart-preserved g c =
    one-more (λ (b : ℕ). IsDrawnBack (links_of c.args.links.now.rows) c.args.beside c.args.link c.args.darts.now b → ⊥) c.args.darts.now c.loop-dart.dart-index c.dart-item.result
    c.loop-dart-test.true c.dart-item.is (λ back. false≢true (sym c.if-is_drawn_back.false ∙ c.is_drawn_back.ensures.1 back)) c.loop-dart.invariant

pub returns : goal.returns
returns g c = (
  (λ e. joins-none (links_of c.args.links.now.rows) c.requires.laws c.args.link c.requires.low c.args.beside c.args.darts.now c.requires.darts
      (all-so (λ (b : ℕ). IsDrawnBack (links_of c.args.links.now.rows) c.args.beside c.args.link c.args.darts.now b → ⊥) c.args.darts.now c.loop-dart.dart-index c.loop-dart-test.false c.loop-dart.invariant)),
  λ joins. refl,
)
