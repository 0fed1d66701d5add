use Rattle.std.proofs.Common.{Contains}
use Rattle.map_defs.specs.Rows.{IsLive, links_of}
use Rattle.value_laws.proofs.OfRows.{told_live}
use Rattle.link_laws.proofs.RowFacts.{rows_lead_to_live}
use Rattle.value_laws.proofs.Touching.{rerouted_touch}
use Rattle.value_laws.proofs.rerouted_darts_touch.Goals as goal

pub returns : goal.returns
returns c k i old new touched w wn holds =
    rerouted_touch k (IsLive old) (links_of old) (links_of new) w wn (IsLive new) (Contains touched) (told_live old) (rows_lead_to_live k new wn) i holds
