use Rattle.std.proofs.Common.{◌≡◌, ◌++◌, List, subst, sym}
use Rattle.machine_defs.specs.Listing.{ListValue, ListsValuesIn}
use Rattle.label_laws.specs.Contents.{content_of}
use Rattle.label_laws.proofs.ListedValues.{lists-values-in}
use Rattle.valued_map.proofs.map.ValuedMap.values_in.Goals as goal

pub returns : goal.returns
returns g c =
    let (values, all, are) = c.in_ok-list_dimension.ensures in
    let same = subst (λ (front : List ListValue). c.list_dimension.new.values.items ≡ front ++ values) c.new-values.ensures.items all in
    let k = g.K.Kind.kind in
    let n = g.row.DIM in
    let m = c.self.inside in
    rw (← c.self.view_is)
    (subst (ListsValuesIn (content_of k n m.links.rows m.labels m.pool m.rules) c.args.dim) (sym same)
    (lists-values-in k n m.links.rows m.labels m.pool m.rules c.self.invariant values c.args.dim are))
