use Rattle.reading_laws.proofs.OneReading.{fault-is-there, fault-is-found}
use Rattle.reading_laws.proofs.the_first_wrong_line_is_told.Goals as goal

pub returns : goal.returns
returns c text fault = (fault-is-there text fault, fault-is-found text fault)
