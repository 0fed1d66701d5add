use Rattle.std.proofs.Common.{◌<◌, ◌≤◌, Some, length, arith, ap}
use Rattle.std.specs.BTreeMap.{get, Updates}
use Rattle.sewing.specs.Triples.{Triple}
use Rattle.sewing.specs.PairSteps.{IsKept}
use Rattle.sewing.proofs.BookPlaces.{by_place, kept-early, kept-later, kept-same}
use Rattle.sewing.proofs.book.Book.put.Goals as goal

pub invariant_of-self : goal.invariant_of-self
invariant_of-self c = rw c.reserve.ensures.items c.self.invariant

pub invariant_of-self-then-len-lt-FEW : goal.invariant_of-self-then-len-lt-FEW
invariant_of-self-then-len-lt-FEW c =
    let kept : IsKept (get by_place c.self.inside.more) c.args.self.now = rw c.self.view_is at c.self.invariant in
    let held : length c.reserve.new.self.items < 16 = omega (arith, c.len.ensures, c.reserve.new.self.ok.0, c.if-len-lt-FEW.true) in
    let few : length c.args.self.now < 16 = rw (c.reserve.ensures.items, c.self.view_is) at held in
    rw (c.push_reserved.ensures.items, c.reserve.ensures.items, c.self.view_is) (kept-early c.args.self.now c.args.triple c.requires (get by_place c.self.inside.more) kept few)

pub invariant_of-self-in_err-insert : goal.invariant_of-self-in_err-insert
invariant_of-self-in_err-insert c =
    rw c.reserve.ensures.items (kept-same c.self.inside.more c.insert.new.self c.self.inside.triples.items c.in_err-insert.ensures.err c.self.invariant)

pub invariant_of-self-2 : goal.invariant_of-self-2
invariant_of-self-2 c =
    let kept : IsKept (get by_place c.self.inside.more) c.args.self.now = rw c.self.view_is at c.self.invariant in
    let held : 16 ≤ length c.reserve.new.self.items = omega (arith, c.len.ensures, c.reserve.new.self.ok.0, c.if-len-lt-FEW.false) in
    let many : 16 ≤ length c.args.self.now = rw (c.reserve.ensures.items, c.self.view_is) at held in
    let updates : Updates by_place c.self.inside.more c.insert.new.self (c.args.triple.x, c.args.triple.t) (Some c.args.triple.y) =
    rw (ap (λ (q : Triple). q.x) c.triple.view_is, ap (λ (q : Triple). q.y) c.triple.view_is, ap (λ (q : Triple). q.t) c.triple.view_is) at c.in_ok-insert.ensures.updates in
    rw (c.push_reserved-2.ensures.items, c.reserve.ensures.items, c.self.view_is)
    (kept-later c.args.self.now c.args.triple c.requires c.self.inside.more c.insert.new.self kept many updates)
