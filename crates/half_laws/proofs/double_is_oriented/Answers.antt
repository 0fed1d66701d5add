use Rattle.std.proofs.Common.{IsTrue}
use Rattle.map_defs.specs.Rows.{IsLive}
use Rattle.half_laws.proofs.DoubleOriented.{double_oriented}
use Rattle.half_laws.proofs.double_is_oriented.Goals as goal

pub returns-clause-told : goal.returns-clause-told
returns-clause-told c n Live origins L N dim w leads high none closed are double = double_oriented (λ x. IsTrue (Live x)) origins n L N dim w leads high none closed are double

pub returns-clause-rows : goal.returns-clause-rows
returns-clause-rows c n rows origins L N dim w leads high none closed are double = double_oriented (IsLive rows) origins n L N dim w leads high none closed are double
