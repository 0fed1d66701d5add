use Rattle.std.proofs.Common.{sym, ◌∙◌, refl}
use Rattle.std.proofs.lemmas.Bool.{false≢true}
use Rattle.map_defs.specs.Rows.{links_of}
use Rattle.cell_edit.proofs.Premises.{nothing-linked}
use Rattle.cell_edit.proofs.WalkTurns.{across-free}
use Rattle.cell_edit.proofs.crossing.across.Goals as goal

pub returns-in_err-next-clause-free : goal.returns-in_err-next-clause-free
returns-in_err-next-clause-free g c = (
  λ _. across-free g.K.Kind.kind (links_of c.args.links.now.rows) c.args.link c.args.beside c.args.dart
      (λ is. false≢true (sym c.if-is_generalized.false ∙ c.is_generalized.ensures.1 is))
      (nothing-linked g.K.Kind.kind g.row.DIM c.args.links.now.rows c.see_sound.ensures.sound c.args.link) (c.in_err-next.ensures.free.0 refl),
  λ _. rw c.from_residual.ensures refl,
)
