-- Refusals that are passed on.
use Rattle.std.proofs.Common.{◌≡◌, Result, Ok, Err, sym, subst}
use Rattle.std.specs.Prelude.{IfErr, IsErrAnd}
use Rattle.map_defs.specs.Refusal as machine
use Rattle.map_kind.specs.declared.refusal.Refusal.{Refusal}
use Rattle.map_kind.specs.declared.refusal.Refused.{Refused}
use Rattle.map_kind.specs.declared.refusal.Refused.TheVariants.{Line, NoMemory}
use Rattle.map_kind.specs.Refusals.{meaning}
use Rattle.off_text.specs.MapViews.{IfLine}

-- a refusal of a line, and what is known of it
pub refused-line : {Y : Type 0} (result : Result Y Refused) (refusal : Refusal) (Why : machine.Refusal → Type 0) → IsErrAnd result (λ refused. refused ≡ Line refusal)
    → Why (meaning refusal) → IfErr result (λ refused. IfLine refused Why)
refused-line (Ok x) refusal Why is known = absurd is
refused-line (Err refused) refusal Why is known = subst (λ r. IfLine r Why) (sym is) known

-- what was known of a refusal that is passed on as it is
pub refused-again : {Y : Type 0} (result : Result Y Refused) (refused : Refused) (Known Why : machine.Refusal → Type 0) → IsErrAnd result (λ other. other ≡ refused)
    → ((why : machine.Refusal) → Known why → Why why) → IfLine refused Known → IfErr result (λ other. IfLine other Why)
refused-again (Ok x) refused Known Why is f known = absurd is
refused-again (Err other) refused Known Why is f known = subst (λ r. IfLine r Why) (sym is) (go refused known)
  where
    go : (refused : Refused) → IfLine refused Known → IfLine refused Why
    go (Line refusal) known = f (meaning refusal) known
    go NoMemory known = tt
