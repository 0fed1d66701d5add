use Rattle.std.proofs.Common.{IsTrue, is_some}
use Rattle.map_defs.specs.Rows.{made, row_at, IsLive}
use Rattle.half_laws.proofs.ThereLists.{test_told, live_made}
use Rattle.half_laws.proofs.ThereDouble.{double_found}
use Rattle.half_laws.proofs.there_is_a_double.Goals as goal

pub returns-clause-told : goal.returns-clause-told
returns-clause-told c n bound Live L w leads high none low = double_found (λ x. IsTrue (Live x)) (λ d. test_told (Live d)) bound low n L w leads high none

pub returns-clause-rows : goal.returns-clause-rows
returns-clause-rows c n rows L w leads high none = double_found (IsLive rows) (λ d. test_told (is_some (row_at rows d))) (made rows) (live_made rows) n L w leads high none
