use Rattle.machine_laws.proofs.OneStep.{step-kept}
use Rattle.total_laws.proofs.Leading.{step-leads, step-behind, rule-stays}
use Rattle.total_laws.proofs.Stepping.{listed-stays, behind-listed}
use Rattle.total_laws.proofs.Running.{step-total}
use Rattle.total_laws.proofs.lines_keep_totals.Goals as goal

pub returns-clause-listed : goal.returns-clause-listed
returns-clause-listed c hook s new line reply i values after kept rule keeps step within lists lists' =
    listed-stays hook i s.present new.present kept.present (step-kept hook s kept line reply new step).present rule within
    (step-leads hook s line keeps reply new step) values after lists lists'

pub returns-clause-total : goal.returns-clause-total
returns-clause-total c hook s new line reply i total after kept rule keeps step within has has' =
    step-total hook s new line reply i total after kept rule keeps step within has has'

pub returns-clause-rule : goal.returns-clause-rule
returns-clause-rule c hook s new line reply i rule keeps step = rule-stays hook i s.present new.present (step-leads hook s line keeps reply new step) rule

pub returns-clause-made : goal.returns-clause-made
returns-clause-made c hook s new line reply values after kept makes step lists lists' =
    behind-listed s.present new.present kept.present (step-kept hook s kept line reply new step).present
    (step-behind hook s line makes reply new step) values after lists lists'
