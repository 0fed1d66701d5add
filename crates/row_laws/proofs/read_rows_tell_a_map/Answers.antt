use Rattle.row_laws.proofs.ListedMaps.{listed-map}
use Rattle.row_laws.proofs.read_rows_tell_a_map.Goals as goal

pub returns-clause-laws : goal.returns-clause-laws
returns-clause-laws c text l reads = (listed-map text l reads).laws

pub returns-clause-live : goal.returns-clause-live
returns-clause-live c text l reads = (listed-map text l reads).live

pub returns-clause-dimension : goal.returns-clause-dimension
returns-clause-dimension c text l reads = (listed-map text l reads).dimension

pub returns-clause-nothing : goal.returns-clause-nothing
returns-clause-nothing c text l reads = (listed-map text l reads).nothing
