-- What the machine answers where the OFF text of a map is asked for.
use Rattle.std.proofs.Common.{Result, Ok, Err, IfOk, IfErr, OnOk, refl, ap, inl, inr}
use Rattle.map_defs.specs.Values.{Hook}
use Rattle.map_defs.specs.Refusal as machine
use Rattle.map_defs.specs.OffOfMap.{AreOffRows, HasOffText, LacksOffText}
use Rattle.machine_defs.specs.State.{State, value_at}
use Rattle.machine_defs.specs.Script.{Off}
use Rattle.machine_defs.specs.Machine.{Step}
use Rattle.machine_defs.specs.Text.{Meshed, Refused}
use Rattle.map_kind.specs.declared.refusal.Refused as told
use Rattle.map_kind.specs.declared.refusal.Refused.TheVariants as outcome
use Rattle.map_kind.specs.Refusals.{meaning}
use Rattle.off_text.specs.MapViews.{off_view, IfLine}
use Rattle.off_text.specs.declared.of_map.OffRows.{OffRows}
use Rattle.map_core.specs.Calls.{AnswersQuestion}

-- a map without OFF text is refused for the first reason
lacks-step : (hook : Hook) (s : State) (why : machine.Refusal) → LacksOffText s.present.kind s.present.rows (value_at s.present 0) why → Step hook s Off (Refused why) s
lacks-step hook s why (inl (is, free)) = inl (free, ap Refused is, refl)
lacks-step hook s why (inr (inl (is, closed, lacks))) = inr (closed, inl (lacks, ap Refused is, refl))
lacks-step hook s why (inr (inr (is, closed, pointed, thin))) = inr (closed, inr (pointed, inl (thin, ap Refused is, refl)))

pub off-answered : (hook : Hook) (s : State) (result : Result OffRows told.Refused)
    → IfOk result (λ off. AreOffRows s.present.kind s.present.rows (value_at s.present 0) (off_view off))
    → OnOk result (HasOffText s.present.kind s.present.rows (value_at s.present 0))
    → IfErr result (λ refused. IfLine refused (LacksOffText s.present.kind s.present.rows (value_at s.present 0)))
    → AnswersQuestion hook s Off (λ off. Meshed (off_view off)) result
off-answered hook s (Ok off) rows has lacks = inr (has.0, inr (has.1, inr (has.2, (off_view off, rows, refl, refl))))
off-answered hook s (Err (outcome.Line r)) rows has lacks = lacks-step hook s (meaning r) lacks
off-answered hook s (Err outcome.NoMemory) rows has lacks = tt
