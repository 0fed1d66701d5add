use Rattle.trail_laws.proofs.UndoneNames.{ahead-told, undone-ahead, redo-told, one-ahead}
use Rattle.trail_laws.proofs.undones_are_told.Goals as goal

pub returns-clause-last : goal.returns-clause-last
returns-clause-last c now t name others last o is = undone-ahead now t o name others last is

pub returns-clause-told : goal.returns-clause-told
returns-clause-told c now t name others last o is = ahead-told now t o name others last is

pub returns-clause-names : goal.returns-clause-names
returns-clause-names c now t name o = redo-told now t o name

pub returns-clause-one : goal.returns-clause-one
returns-clause-one c t name other befores others u v is also = one-ahead t name other befores others u v is also
