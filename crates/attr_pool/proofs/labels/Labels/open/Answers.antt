use Rattle.std.proofs.Common.{◌≡◌, ◌⊎◌, ◌↔◌, ◌<◌, ℕ, List, [], inl, inr, length, set, arith, OnOk, OnErr, Ok, Err, Result}
use Rattle.std.proofs.lemmas.List.{get_or_default}
use Rattle.attr_pool.proofs.ColumnFacts.{at, opened_long, places_same}
use Rattle.attr_pool.proofs.labels.Labels.open.Goals as goal

either_way : {T E P Q : Type 0} (r : Result T E) → OnOk r P → OnErr r Q → Q ⊎ P
either_way (Ok x) p q = inr p
either_way (Err e) p q = inl q

unchanged : {T E : Type 0} (r : Result T E) (cs : List (List ℕ)) (n : ℕ) (col : List ℕ) → OnErr r (col ≡ at cs n) → OnErr r ((i : ℕ) → (0 < length (at (set cs n col) i)) ↔ (0 < length (at cs i)))
unchanged (Ok x) cs n col e = tt
unchanged (Err x) cs n col e = places_same cs n col e

pub returns-clause-err : goal.returns-clause-err
returns-clause-err g c =
    let nine = c.self.invariant.1.all in
    let high = c.self.invariant.0 in
    let within : c.args.dim < length c.self.inside.columns = omega arith in
    let same = get_or_default c.self.inside.columns c.args.dim c.index-self-dim.result [] within in
    rw (← c.self.view_is) (unchanged c.open.result c.self.inside.columns c.args.dim _ (rw same at c.open.ensures.err))

pub invariant_of-self : goal.invariant_of-self
invariant_of-self g c =
    let nine = c.self.invariant.1.all in
    let high = c.self.invariant.0 in
    let within : c.args.dim < length c.self.inside.columns = omega arith in
    let same = get_or_default c.self.inside.columns c.args.dim c.index-self-dim.result [] within in
    let kept = rw same at c.open.ensures.kept in
    (high, opened_long c.self.inside.columns c.self.inside.made c.args.dim _ c.self.invariant.1 within kept (either_way c.open.result c.open.ensures.long (rw same at c.open.ensures.err)))
