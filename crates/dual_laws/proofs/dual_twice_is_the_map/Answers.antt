use Rattle.map_defs.specs.Rows.{links_of}
use Rattle.dual_laws.proofs.DualLaws.{dual_back, dual_can, dual_one}
use Rattle.dual_laws.proofs.dual_twice_is_the_map.Goals as goal

pub returns-clause-possible : goal.returns-clause-possible
returns-clause-possible c k n rows N h = dual_can n rows h k N

pub returns-clause-back : goal.returns-clause-back
returns-clause-back c k n rows N M h wide w can b a = dual_one k n N M (links_of rows) a (dual_back n rows h k N wide w can b)
