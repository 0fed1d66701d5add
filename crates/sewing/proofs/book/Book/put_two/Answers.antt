use Rattle.std.proofs.Common.{◌+◌, ◌<◌, ◌++◌, ◌∷◌, [], length, arith}
use Rattle.std.specs.BTreeMap.{get}
use Rattle.sewing.specs.PairSteps.{IsKept}
use Rattle.sewing.proofs.BookPlaces.{by_place, kept-early}
use Rattle.sewing.proofs.book.Book.put_two.Goals as goal

pub invariant_of-self-then-len-lt-FEW : goal.invariant_of-self-then-len-lt-FEW
invariant_of-self-then-len-lt-FEW c =
    let kept : IsKept (get by_place c.self.inside.more) c.args.self.now = rw c.self.view_is at c.self.invariant in
    let held : length c.reserve.new.self.items + 1 < 16 = omega (arith, c.len.ensures, c.reserve.new.self.ok.0, c.if-len-lt-FEW.true) in
    let few : length c.args.self.now + 1 < 16 = rw (c.reserve.ensures.items, c.self.view_is) at held in
    let more : IsKept (get by_place c.self.inside.more) (c.args.self.now ++ c.args.one ∷ []) =
    kept-early c.args.self.now c.args.one c.requires.one (get by_place c.self.inside.more) kept (omega (arith, few)) in
    rw (c.push_reserved-then-len-lt-FEW.ensures.items, c.push_reserved.ensures.items, c.reserve.ensures.items, c.self.view_is)
    (kept-early (c.args.self.now ++ c.args.one ∷ []) c.args.other c.requires.other (get by_place c.self.inside.more) more (grind (arith, few)))

pub put-requires : goal.put-requires
put-requires c = λ y has. c.requires.one y (rw (c.reserve.ensures.items, c.self.view_is) at has)

pub put-requires-2 : goal.put-requires-2
put-requires-2 c = λ y has. c.requires.other y (rw (c.in_ok-put.ensures, c.reserve.ensures.items, c.self.view_is) at has)
