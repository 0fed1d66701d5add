use Rattle.list_text.proofs.judge.check_laws_of.Goals as goal

pub returns-in-Some-clause-fault : goal.returns-in-Some-clause-fault
returns-in-Some-clause-fault g c = (c.in-Some.place, rw c.requires.kind (rw c.as_slice.ensures.value at c.in-Some.ensures.fails), c.bad.ensures)
