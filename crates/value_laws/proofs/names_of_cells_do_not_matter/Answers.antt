use Rattle.map_defs.specs.Rows.{IsLive, links_of}
use Rattle.value_laws.proofs.MapValues.{other_labels, by_labels}
use Rattle.value_laws.proofs.names_of_cells_do_not_matter.Goals as goal

pub returns-clause-labels : goal.returns-clause-labels
returns-clause-labels c k i rule old new label other value worth after = other_labels k i rule (links_of new) (IsLive old) (IsLive new) after label other value worth

pub returns-clause-cells : goal.returns-clause-cells
returns-clause-cells c k i rule old new values label value after = by_labels k i rule (links_of new) (IsLive old) (IsLive new) after (links_of old) values label value
