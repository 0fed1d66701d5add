use Rattle.link_laws.proofs.SameRows.{same_rows}
use Rattle.link_laws.proofs.links_tell_the_rows.Goals as goal

pub returns : goal.returns
returns c = same_rows
