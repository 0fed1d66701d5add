use Rattle.std.proofs.Common.{Result, Ok, Err}
use Rattle.std.specs.Prelude.{IfOk}
use Rattle.valued_map.proofs.changed.ruled_darts.Goals as goal

-- what a clause says of a result that there is
on-result : {T E : Type 0} {P Q : T → Type 0} (r : Result T E) → ((t : T) → P t → Q t) → IfOk r P → IfOk r Q
on-result (Ok t) f p = f t p
on-result (Err e) f p = p

pub returns-clause-all : goal.returns-clause-all
returns-clause-all g c = on-result c.changed_in.result (λ t all x changed. all x changed.1) c.changed_in.ensures.all
