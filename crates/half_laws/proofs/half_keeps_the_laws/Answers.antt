use Rattle.map_defs.specs.Rows.{IsLive}
use Rattle.half_laws.proofs.HalfLaws.{half_lawful}
use Rattle.half_laws.proofs.half_keeps_the_laws.Goals as goal

pub returns : goal.returns
returns c n rows L N signs origins w to o a h = half_lawful n (IsLive rows) L w to signs o origins a N h
