use Rattle.machine_laws.proofs.Audits.{reads-one}
use Rattle.listing_laws.proofs.one_reading.Goals as goal

pub returns : goal.returns
returns c text one other a b = reads-one text one other a b
