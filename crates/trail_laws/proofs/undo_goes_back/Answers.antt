use Rattle.trail_laws.proofs.TrailFacts.{mark_within}
use Rattle.trail_laws.proofs.Naming.{mark-told, mark-stands}
use Rattle.trail_laws.proofs.Returning.{mark-before, told-back, traced-back}
use Rattle.trail_laws.proofs.undo_goes_back.Goals as goal

pub returns-clause-mark : goal.returns-clause-mark
returns-clause-mark c now t name k o is = mark-told now t o name k is

pub returns-clause-copy : goal.returns-clause-copy
returns-clause-copy c now t name k mark h o is = mark-before now t name k h o (mark-stands now t o name k mark is) mark is

pub returns-clause-told : goal.returns-clause-told
returns-clause-told c now t name k mark h o is = told-back now t name k h o (mark-stands now t o name k mark is) mark is

pub returns-clause-kept : goal.returns-clause-kept
returns-clause-kept c now t name k h o is = traced-back now t name k h o (mark_within t name k o is)
