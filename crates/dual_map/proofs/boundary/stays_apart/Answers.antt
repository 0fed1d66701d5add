use Rattle.std.proofs.Common.{refl, sym, ◌∙◌, arith}
use Rattle.std.proofs.lemmas.Bool.{false≢true}
use Rattle.map_defs.specs.Rows.{links_of}
use Rattle.dual_map.proofs.SelfJoins.{apart-all}
use Rattle.dual_map.proofs.boundary.stays_apart.Goals as goal

pub returns : goal.returns
returns g c = (
  λ _. apart-all g.row.DIM (links_of c.args.links.now.rows) c.args.dart g.K.Kind.kind (λ is. false≢true (sym c.if-is_generalized.false ∙ c.is_generalized.ensures.1 is)) (λ i low high. c.loop-link.invariant i (omega arith) low),
  λ _. refl,
)
