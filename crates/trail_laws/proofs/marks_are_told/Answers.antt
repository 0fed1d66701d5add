use Rattle.trail_laws.proofs.Naming.{trail-mark, mark-place, names-told, names-differ, places-ascend}
use Rattle.trail_laws.proofs.marks_are_told.Goals as goal

pub returns-clause-standing : goal.returns-clause-standing
returns-clause-standing c now t name k mark o is = trail-mark now t o name k mark is

pub returns-clause-place : goal.returns-clause-place
returns-clause-place c now t name k mark o is = mark-place now t o name k mark is

pub returns-clause-names : goal.returns-clause-names
returns-clause-names c now t name o = names-told now t o name

pub returns-clause-differ : goal.returns-clause-differ
returns-clause-differ c now t o = names-differ now t o

pub returns-clause-ascending : goal.returns-clause-ascending
returns-clause-ascending c now t o = places-ascend now t o
