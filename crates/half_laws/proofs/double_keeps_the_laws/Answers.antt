use Rattle.std.proofs.Common.{IsTrue}
use Rattle.map_defs.specs.Rows.{IsLive}
use Rattle.half_laws.proofs.DoubleLaws.{double_keeps}
use Rattle.half_laws.proofs.double_keeps_the_laws.Goals as goal

pub returns-clause-told : goal.returns-clause-told
returns-clause-told c n Live origins L N w leads high none are double = double_keeps (λ x. IsTrue (Live x)) origins n L N w leads high none are double

pub returns-clause-rows : goal.returns-clause-rows
returns-clause-rows c n rows origins L N w leads high none are double = double_keeps (IsLive rows) origins n L N w leads high none are double
