-- A call of a map for a line that keeps totals keeps them, whatever it answers.
use Rattle.std.proofs.Common.{◌≡◌, ℕ, Result, Ok, Err, subst}
use Rattle.map_kind.specs.declared.done.Done.{Done}
use Rattle.map_kind.specs.declared.refusal.Refused.{Refused}
use Rattle.map_kind.specs.declared.refusal.Refused.TheVariants as why
use Rattle.map_defs.specs.Values.{Value, Hook}
use Rattle.machine_defs.specs.State.{State}
use Rattle.machine_defs.specs.Kept.{IsLawfulState}
use Rattle.machine_defs.specs.Script.{Line}
use Rattle.map_core.specs.Calls.{Does}
use Rattle.total_laws.specs.Totals.{HasTotal, IsSumShare, KeepsTotals, SumsStayWithin}
use Rattle.total_laws.proofs.Dimension.{one-total}
use Rattle.total_laws.proofs.Running.{step-total}

pub call-total : (hook : Hook) (s new : State) (line : Line) (result : Result Done Refused) (i : ℕ) (before after : Value) → IsLawfulState s
    → IsSumShare s.present i → KeepsTotals line → Does hook s line result new → SumsStayWithin hook i s.present new.present
    → HasTotal s.present i before → HasTotal new.present i after → before ≡ after
call-total hook s new line (Ok done) i before after kept rule keeps does within has has' =
    step-total hook s new line _ i before after kept rule keeps does within has has'
call-total hook s new line (Err (why.Line r)) i before after kept rule keeps does within has has' =
    step-total hook s new line _ i before after kept rule keeps does within has has'
call-total hook s new line (Err why.NoMemory) i before after kept rule keeps does within has has' =
    one-total s.present i before after has (subst (λ (t : State). HasTotal t.present i after) does has')
