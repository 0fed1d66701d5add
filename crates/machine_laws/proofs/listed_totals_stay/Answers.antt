use Rattle.std.proofs.Common.{sym, subst, ◌∙◌}
use Rattle.map_defs.specs.Rows.{IsLive, links_of}
use Rattle.map_defs.specs.Laws.{Laws}
use Rattle.map_defs.specs.Totals.{ListsValuedCells}
use Rattle.machine_defs.specs.State.{value_at}
use Rattle.link_laws.proofs.RowFacts.{rows_lead_to_live}
use Rattle.value_laws.proofs.Touching.{cell_live}
use Rattle.value_laws.proofs.Totalling.{total_stays}
use Rattle.machine_laws.proofs.ListedTotals.{cells_at, listed_is, listed_cells}
use Rattle.machine_laws.proofs.listed_totals_stay.Goals as goal

pub returns : goal.returns
returns c i hook old new values after same w wn stay live live_after equal carried within lists lists_after =
    let wk : Laws old.kind (links_of new.rows) = subst (λ k. Laws k (links_of new.rows)) (sym same) wn in
    let cells : ListsValuedCells old.kind i (links_of new.rows) (IsLive new.rows) (value_at new i) (cells_at i after) = subst (λ k. ListsValuedCells k i (links_of new.rows) (IsLive new.rows) (value_at new i) (cells_at i after)) (sym same) (listed_cells new i after lists_after live_after) in
    listed_is old i values lists
    ∙ (total_stays old.kind i hook (links_of old.rows) (links_of new.rows) (IsLive old.rows) (IsLive new.rows) w wk
    (λ x y l h. cell_live old.kind (IsLive old.rows) (links_of old.rows) (links_of old.rows) w w (IsLive old.rows) (rows_lead_to_live old.kind old.rows w) i x l h)
    (λ x y l h. cell_live old.kind (IsLive old.rows) (links_of old.rows) (links_of new.rows) w wk (IsLive new.rows) (rows_lead_to_live old.kind new.rows wk) i x l h)
    stay (value_at old i) (value_at new i) equal carried within (cells_at i values) (cells_at i after) (listed_cells old i values lists live) cells
    ∙ sym (listed_is new i after lists_after))
