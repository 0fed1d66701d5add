use Rattle.std.proofs.Common.{IsTrue}
use Rattle.map_defs.specs.Rows.{IsLive}
use Rattle.half_laws.proofs.DoubleOnce.{double_once}
use Rattle.half_laws.proofs.double_is_one.Goals as goal

pub returns-clause-told : goal.returns-clause-told
returns-clause-told c n Live origins L N O leads are first second = double_once (λ x. IsTrue (Live x)) origins are n L leads N O first second

pub returns-clause-rows : goal.returns-clause-rows
returns-clause-rows c n rows origins L N O leads are first second = double_once (IsLive rows) origins are n L leads N O first second
