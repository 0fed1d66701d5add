use Rattle.map_defs.specs.Rows.{IsLive}
use Rattle.half_defs.specs.Orientation.{IsPositive}
use Rattle.half_laws.proofs.HalfLaws.{origin_some}
use Rattle.half_laws.proofs.HalfOnce.{origins_one, signs_one, no_fault, boundary_alone, fold_alone, odd_alone, half_one}
use Rattle.half_laws.proofs.half_is_one.Goals as goal

pub returns-clause-origins : goal.returns-clause-origins
returns-clause-origins c signs a b p q = origins_one (IsPositive signs) a b p q

pub returns-clause-signs : goal.returns-clause-signs
returns-clause-signs c n rows L s t to dim p q = signs_one n (IsLive rows) L to dim s t p.signed q.signed

pub returns-clause-no_fault : goal.returns-clause-no_fault
returns-clause-no_fault c n rows L signs fault w to o h = no_fault n (IsLive rows) L w to signs o fault h

pub returns-clause-boundary : goal.returns-clause-boundary
returns-clause-boundary c n rows L fault h g = boundary_alone n (IsLive rows) L fault h g

pub returns-clause-fold : goal.returns-clause-fold
returns-clause-fold c n d i rows L fault h g = fold_alone n (IsLive rows) L d i fault h g

pub returns-clause-odd : goal.returns-clause-odd
returns-clause-odd c n d links rows L fault h g = odd_alone n (IsLive rows) L d links fault h g

pub returns-clause-links : goal.returns-clause-links
returns-clause-links c n rows L N M signs origins w to o a p q = half_one n L origins a.ascending (origin_some n (IsLive rows) L w to signs o origins a) N M p q
