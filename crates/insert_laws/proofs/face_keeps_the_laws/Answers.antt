use Rattle.insert_laws.proofs.Face.{face_keeps}
use Rattle.insert_laws.proofs.face_keeps_the_laws.Goals as goal

pub returns : goal.returns
returns c = face_keeps
