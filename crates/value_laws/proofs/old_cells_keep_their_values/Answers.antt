use Rattle.map_defs.specs.Rows.{IsLive, links_of}
use Rattle.link_laws.proofs.RowFacts.{rows_lead_to_live}
use Rattle.value_laws.proofs.MapValues.{keeps_value, kept_is_carried}
use Rattle.value_laws.proofs.old_cells_keep_their_values.Goals as goal

pub returns-clause-kept : goal.returns-clause-kept
returns-clause-kept c k i rule old new values w wn whole equal d held l o = keeps_value k i rule (links_of old) (links_of new) (IsLive old) (IsLive new) w wn (rows_lead_to_live k new wn) values equal d held l o whole

pub returns-clause-given : goal.returns-clause-given
returns-clause-given c k i rule old new values w wn whole equal d held l o = kept_is_carried k i rule (links_of old) (links_of new) (IsLive old) (IsLive new) w wn (rows_lead_to_live k new wn) values equal d held l o whole
