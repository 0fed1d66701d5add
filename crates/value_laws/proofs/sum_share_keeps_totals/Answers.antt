use Rattle.map_defs.specs.Rows.{IsLive, links_of}
use Rattle.link_laws.proofs.RowFacts.{rows_lead_to_live}
use Rattle.value_laws.proofs.Touching.{cell_live}
use Rattle.value_laws.proofs.Totalling.{total_stays}
use Rattle.value_laws.proofs.sum_share_keeps_totals.Goals as goal

pub returns : goal.returns
returns c k i hook old new values after cells cells_after w wn stay equal carried within lists lists_after = total_stays k i hook (links_of old) (links_of new) (IsLive old) (IsLive new) w wn
    (λ x y l h. cell_live k (IsLive old) (links_of old) (links_of old) w w (IsLive old) (rows_lead_to_live k old w) i x l h)
    (λ x y l h. cell_live k (IsLive old) (links_of old) (links_of new) w wn (IsLive new) (rows_lead_to_live k new wn) i x l h)
    stay values after equal carried within cells cells_after lists lists_after
