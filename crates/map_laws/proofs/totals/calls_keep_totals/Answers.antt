use Rattle.map_laws.proofs.CalledTotals.{call-total}
use Rattle.map_laws.proofs.totals.calls_keep_totals.Goals as goal

pub returns : goal.returns
returns c hook s new line result i before after kept rule keeps does within has has' =
    call-total hook s new line result i before after kept rule keeps does within has has'
