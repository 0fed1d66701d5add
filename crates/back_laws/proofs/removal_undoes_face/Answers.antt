use Rattle.back_laws.proofs.FaceBack.{face_removable, face_back}
use Rattle.back_laws.proofs.removal_undoes_face.Goals as goal

pub returns-clause-possible : goal.returns-clause-possible
returns-clause-possible c = face_removable

pub returns-clause-back : goal.returns-clause-back
returns-clause-back c = face_back
