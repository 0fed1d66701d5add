use Rattle.std.specs.BTreeMap.{get}
use Rattle.sewing.specs.PairSteps.{IsKept}
use Rattle.sewing.proofs.BookPlaces.{by_place, clash}
use Rattle.sewing.proofs.book.Book.into_triples.Goals as goal

pub returns-clause-apart : goal.returns-clause-apart
returns-clause-apart c =
    let kept : IsKept (get by_place c.self.inside.more) c.args.self = rw c.self.view_is at c.self.invariant in
    clash c.args.self kept.apart
