use Rattle.std.proofs.Common.{IsTrue}
use Rattle.map_defs.specs.Cells.{InCell}
use Rattle.map_defs.specs.Insertion.{InAlphaCorner, InBetaCorner}
use Rattle.center_laws.proofs.TwoSeries.{series_fresh}
use Rattle.center_laws.proofs.numbered_series_are_fresh.Goals as goal

pub returns-clause-told : goal.returns-clause-told
returns-clause-told c K keys made star tip L first second low bound = series_fresh (λ x. IsTrue (K x)) keys made star tip first second L low bound

pub returns-clause-corner_of_alpha : goal.returns-clause-corner_of_alpha
returns-clause-corner_of_alpha c d keys made star tip L first second low bound = series_fresh (InAlphaCorner L d) keys made star tip first second L low bound

pub returns-clause-corner_of_beta : goal.returns-clause-corner_of_beta
returns-clause-corner_of_beta c d keys made star tip L first second low bound = series_fresh (InBetaCorner L d) keys made star tip first second L low bound

pub returns-clause-face : goal.returns-clause-face
returns-clause-face c k d keys made star tip L first second low bound = series_fresh (InCell k L 2 d) keys made star tip first second L low bound
