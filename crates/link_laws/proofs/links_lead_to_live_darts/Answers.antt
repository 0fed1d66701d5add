use Rattle.link_laws.proofs.RowFacts.{rows_lead_to_live}
use Rattle.link_laws.proofs.links_lead_to_live_darts.Goals as goal

pub returns : goal.returns
returns c = rows_lead_to_live
