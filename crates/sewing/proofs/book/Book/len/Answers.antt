use Rattle.std.specs.BTreeMap.{get}
use Rattle.sewing.specs.PairSteps.{IsKept}
use Rattle.sewing.proofs.BookPlaces.{by_place, one-partner}
use Rattle.sewing.proofs.book.Book.len.Goals as goal

pub returns-clause-one : goal.returns-clause-one
returns-clause-one c =
    let kept : IsKept (get by_place c.self.inside.more) c.args.self.now = rw c.self.view_is at c.self.invariant in
    one-partner c.args.self.now kept.apart
