use Rattle.off_text.proofs.Fitting.{read_ok}
use Rattle.off_text.proofs.read.read_off.Goals as goal

pub returns-clause-faces : goal.returns-clause-faces
returns-clause-faces c = read_ok c.args.bytes.now c.read_mesh.result c.read_mesh.ensures
