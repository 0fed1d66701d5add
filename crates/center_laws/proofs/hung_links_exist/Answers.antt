use Rattle.center_laws.proofs.HungLinks.{dangled_links, centred_links}
use Rattle.center_laws.proofs.hung_links_exist.Goals as goal

pub returns-clause-dangling : goal.returns-clause-dangling
returns-clause-dangling c d bound star tip L M w fresh_star fresh_tip two into onward out sides sides_back along along_tip kept low =
    dangled_links L w d star tip M bound low fresh_star fresh_tip two into onward out sides sides_back along along_tip kept

pub returns-clause-centre : goal.returns-clause-centre
returns-clause-centre c d bound star tip L M w fresh_star fresh_tip two into onward out sides sides_back along along_tip kept low =
    centred_links L w d star tip M bound low fresh_star fresh_tip two into onward out sides sides_back along along_tip kept
