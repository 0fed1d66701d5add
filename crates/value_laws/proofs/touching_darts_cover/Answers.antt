use Rattle.std.proofs.Common.{Contains}
use Rattle.map_defs.specs.Rows.{IsLive, links_of}
use Rattle.value_laws.proofs.OfRows.{told_live}
use Rattle.value_laws.proofs.Covering.{touching_covers}
use Rattle.value_laws.proofs.touching_darts_cover.Goals as goal

pub returns : goal.returns
returns c k i old new label touched w born labelled = touching_covers k (links_of old) (links_of new) w (IsLive old) (IsLive new) (told_live old) i label born labelled (Contains touched)
