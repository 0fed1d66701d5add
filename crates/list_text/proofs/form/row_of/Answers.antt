use Rattle.list_text.proofs.Entries.{row_of-none}
use Rattle.list_text.proofs.form.row_of.Goals as goal
use Rattle.std.proofs.Common.{sym}

pub returns-in_default : goal.returns-in_default
returns-in_default c = sym (row_of-none c.args.dim c.args.made c.args.line.now c.in_default.ensures.1)
