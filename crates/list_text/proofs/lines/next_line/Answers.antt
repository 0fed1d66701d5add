use Rattle.std.proofs.Common.{ap, ◌∙◌}
use Rattle.machine_defs.specs.ListingForm.{line_of}
use Rattle.list_text.proofs.Sections.{line_of-next}
use Rattle.list_text.proofs.lines.next_line.Goals as goal

pub returns-in-Some-clause-line : goal.returns-in-Some-clause-line
returns-in-Some-clause-line c = ap (line_of c.args.cursor.line) c.in-Some.ensures.0 ∙ line_of-next c.args.cursor.line c.in-Some.text.now c.in-Some.rest.now
