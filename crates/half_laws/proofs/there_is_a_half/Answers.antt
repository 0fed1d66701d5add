use Rattle.std.proofs.Common.{IsTrue}
use Rattle.map_defs.specs.Rows.{IsLive}
use Rattle.half_laws.proofs.ThereHalf.{half_found}
use Rattle.half_laws.proofs.there_is_a_half.Goals as goal

pub returns-clause-told : goal.returns-clause-told
returns-clause-told c n Live L signs w leads high none signed = half_found n (λ x. IsTrue (Live x)) L w leads high none signs signed

pub returns-clause-rows : goal.returns-clause-rows
returns-clause-rows c n rows L signs w leads high none signed = half_found n (IsLive rows) L w leads high none signs signed
