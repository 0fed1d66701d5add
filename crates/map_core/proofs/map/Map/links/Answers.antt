use Rattle.std.proofs.Common.{subst}
use Rattle.map_defs.specs.Rows.{Rows, links_of}
use Rattle.map_defs.specs.Laws.{IsLawful}
use Rattle.link_laws.proofs.Told.{told_of_laws}
use Rattle.map_core.proofs.map.Map.links.Goals as goal

pub returns-clause-lawful : goal.returns-clause-lawful
returns-clause-lawful g c =
    rw (← c.self.view_is) (subst (λ (r : Rows). IsLawful g.K.Kind.kind (links_of r)) c.links.ensures.rows (told_of_laws g.K.Kind.kind (links_of c.links.result.now.rows) c.links.ensures.laws))
