use Rattle.std.proofs.Common.{sym, subst}
use Rattle.std.proofs.lemmas.Bool.{false≢true}
use Rattle.map_defs.specs.Rows.{links_of}
use Rattle.map_defs.specs.Cells.{InCell}
use Rattle.value_laws.proofs.MapValues.{cell_trans}
use Rattle.valued_map.proofs.settled.is_settled.Goals as goal

pub returns-clause-kept : goal.returns-clause-kept
returns-clause-kept g c = λ yes led some.
    let L = links_of c.args.links.now.rows in
    let first : InCell g.K.Kind.kind L c.args.dim c.args.dart c.in-Some.first = subst (InCell g.K.Kind.kind L c.args.dim c.args.dart) (sym c.in-Some.ensures.same) (led (λ none. false≢true (sym (c.in-Some.ensures.zero.1 none)))) in
    cell_trans g.K.Kind.kind L c.args.dim c.args.dart c.in-Some.first c.args.before first (c.is_kept.ensures yes some)
