use Rattle.map_defs.specs.Values.{meaning_of}
use Rattle.map_defs.specs.Totals.{sum_share}
use Rattle.value_laws.proofs.Rules.{keeps_whole}
use Rattle.machine_laws.proofs.BornValues.{share-whole, born-carried, born-listed}
use Rattle.machine_laws.proofs.born_darts_keep_values.Goals as goal

pub returns-clause-carried : goal.returns-clause-carried
returns-clause-carried c hook rule i content born kept after whole held = born-carried content kept born after (meaning_of hook rule) i (keeps_whole hook rule whole) held

pub returns-clause-shared : goal.returns-clause-shared
returns-clause-shared c hook i content born kept after held = born-carried content kept born after (sum_share hook) i (share-whole hook) held

pub returns-clause-listed : goal.returns-clause-listed
returns-clause-listed c content born values others kept after lists lists' = born-listed content kept born after values others lists lists'
