use Rattle.std.proofs.Common.{IsTrue, is_some}
use Rattle.map_defs.specs.Rows.{made, row_at, IsLive}
use Rattle.half_laws.proofs.ThereLists.{test_told, live_made}
use Rattle.half_laws.proofs.ThereSigns.{signs_or_fault}
use Rattle.half_laws.proofs.there_are_signs_or_a_fault.Goals as goal

pub returns-clause-told : goal.returns-clause-told
returns-clause-told c n bound Live L w leads high none low = signs_or_fault n (λ x. IsTrue (Live x)) L w leads high none bound low (λ d. test_told (Live d))

pub returns-clause-rows : goal.returns-clause-rows
returns-clause-rows c n rows L w leads high none = signs_or_fault n (IsLive rows) L w leads high none (made rows) (live_made rows) (λ d. test_told (is_some (row_at rows d)))
