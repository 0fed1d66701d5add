use Rattle.center_laws.proofs.Triangles.{triangle_around, triangle_middle, triangle_face}
use Rattle.center_laws.proofs.centre_makes_triangles_of_alpha.Goals as goal

pub returns-clause-around : goal.returns-clause-around
returns-clause-around c d star tip L N w hd fs ft two s = triangle_around L w d hd star tip fs ft two N s

pub returns-clause-middle : goal.returns-clause-middle
returns-clause-middle c d star tip L N w hd fs ft two s = triangle_middle L w d hd star tip fs ft two N s

pub returns-clause-faces : goal.returns-clause-faces
returns-clause-faces c d star tip L N w hd fs ft two s = triangle_face L w d hd star tip fs ft two N s
