use Rattle.listing_laws.proofs.VersionOne.{rules-given}
use Rattle.listing_laws.proofs.version_one_gets_its_rules.Goals as goal

pub returns : goal.returns
returns c text t l told one reads = rules-given text t l told one reads
