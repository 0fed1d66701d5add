use Rattle.std.proofs.Common.{refl}
use Rattle.map_defs.specs.Kind.{beta}
use Rattle.map_defs.specs.Cells.{InCell}
use Rattle.map_defs.specs.Insertion.{InBetaCorner}
use Rattle.center_laws.proofs.HungLinkOne.{hung_one, led_to_corner, led_to_face}
use Rattle.center_laws.proofs.hung_link_one_is_one_to_one.Goals as goal

pub returns-clause-dangling : goal.returns-clause-dangling
returns-clause-dangling c d star tip L N w fresh_star fresh_tip two into onward out kept =
    hung_one L w (InBetaCorner L d) (L 0) (led_to_corner L w (InBetaCorner L d)) star tip fresh_star fresh_tip two (N 1) into onward out kept

pub returns-clause-centre : goal.returns-clause-centre
returns-clause-centre c d star tip L N w fresh_star fresh_tip two into onward out kept =
    hung_one L w (InCell beta L 2 d) (λ x. x) (led_to_face L w d) star tip fresh_star fresh_tip two (N 1) into onward out
    (λ x n s t. kept x (λ h. n x h refl) s t)
