use Rattle.std.proofs.Common.{◌≡◌, ◌+◌, length, ap, arith}
use Rattle.std.proofs.lemmas.List.{length-append}
use Rattle.flat_lists.proofs.CutLists.{ends-push, cut-push}
use Rattle.flat_lists.proofs.lists.Lists.push.Goals as goal

pub invariant_of-self-2 : goal.invariant_of-self-2
invariant_of-self-2 g c =
    let long : c.len.result ≡ length c.extend_from_slice.new.self.items = omega (arith, c.len.ensures, c.extend_from_slice.new.self.ok.0) in
    rw (c.push_reserved.ensures.items, c.reserve.ensures.items, long)
    (ends-push 0 c.self.inside.ends.items _ _ c.self.invariant
    (omega (arith, ap length c.in_ok-extend_from_slice.ensures.items, length-append c.self.inside.items.items c.args.items.now)))

pub returns-clause-ok : goal.returns-clause-ok
returns-clause-ok g c =
    let last : c.len.result ≡ length c.self.inside.items.items + length c.args.items.now = omega (
      arith,
      c.len.ensures,
      c.extend_from_slice.new.self.ok.0,
      ap length c.in_ok-extend_from_slice.ensures.items,
      length-append c.self.inside.items.items c.args.items.now,
    ) in
    rw (← c.self.view_is, c.push_reserved.ensures.items, c.reserve.ensures.items, c.in_ok-extend_from_slice.ensures.items)
    (cut-push 0 c.self.inside.items.items c.args.items.now c.self.inside.ends.items _ c.len.result (omega arith) last c.self.invariant)
