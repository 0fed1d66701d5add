use Rattle.map_defs.specs.Rows.{IsLive, links_of}
use Rattle.link_laws.proofs.RowFacts.{rows_lead_to_live}
use Rattle.value_laws.proofs.Touching.{cell_live}
use Rattle.value_laws.proofs.MapValues.{one_value, carried_alike}
use Rattle.value_laws.proofs.new_cells_have_one_value.Goals as goal

pub returns-clause-on_cells : goal.returns-clause-on_cells
returns-clause-on_cells c k i rule old new values after w wn a d e l h = one_value k i rule (links_of old) (links_of new) (IsLive old) (IsLive new) w wn values after a d e l (cell_live k (IsLive old) (links_of old) (links_of new) w wn (IsLive new) (rows_lead_to_live k new wn) i d l h) h

pub returns-clause-one : goal.returns-clause-one
returns-clause-one c k i rule old new values after other w wn a b d l = carried_alike k i rule (links_of old) (links_of new) (IsLive old) (IsLive new) w wn values after other a b d l
