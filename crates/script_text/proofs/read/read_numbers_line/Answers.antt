use Rattle.std.proofs.Common.{sym}
use Rattle.script_text.proofs.read.read_numbers_line.Goals as goal

pub returns-in-None : goal.returns-in-None
returns-in-None c = sym ((rw c.in-None.is at c.read_numbers.ensures) c.args.first.now)
