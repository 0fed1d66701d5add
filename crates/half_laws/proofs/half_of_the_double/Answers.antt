use Rattle.std.proofs.Common.{IsTrue}
use Rattle.map_defs.specs.Rows.{IsLive}
use Rattle.half_laws.proofs.DoubleHalf.{double_half}
use Rattle.half_laws.proofs.half_of_the_double.Goals as goal

pub returns-clause-told : goal.returns-clause-told
returns-clause-told c n Live origins odd_darts L N H w leads high none are double odd half =
    double_half (λ x. IsTrue (Live x)) origins are n L N w leads high none double odd_darts odd H half

pub returns-clause-rows : goal.returns-clause-rows
returns-clause-rows c n rows origins odd_darts L N H w leads high none are double odd half =
    double_half (IsLive rows) origins are n L N w leads high none double odd_darts odd H half
