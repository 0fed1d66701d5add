use Rattle.map_laws.proofs.totals.total_of.Goals as goal

pub returns : goal.returns
returns g c =
    let told = c.in_ok-values.ensures in (
      told.0,
      (
        c.in_ok-values.values.items,
        told.1,
        rw c.deref.ensures.value at (c.sum.ensures c.args.dim (λ value has. ((told.1.members value).0 (rw c.deref.ensures.value at has)).0)),
      ),
    )
