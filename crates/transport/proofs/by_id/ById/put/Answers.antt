use Rattle.std.proofs.Common.{rules, ◌≡◌, List, Some, nat_eq, nat_cmp, cond, sym, ◌∙◌, ap}
use Rattle.std.specs.BTreeMap.{get}
use Rattle.transport.specs.Tallies.{told_in}
use Rattle.transport.specs.declared.by_id.Entry.{Entry}
use Rattle.transport.proofs.Telling.{none_if_no_some, place_some, place_none, told_set, told_pushed, told_elsewhere}
use Rattle.transport.proofs.by_id.ById.put.Goals as goal

pub returns-in-Some : goal.returns-in-Some
returns-in-Some g c other =
    let entries : List (Entry g.row.V.Denot) = c.args.self.now.first.items in
    let at = place_some c.index_mut.result.now entries c.args.id c.in-Some.place (sym c.place.ensures ∙ c.in-Some.is) in
    told_set c.index_mut.result.now entries (get nat_cmp c.args.self.now.more other) c.args.id c.in-Some.place c.args.told at other

pub returns-then-len-lt-FEW : goal.returns-then-len-lt-FEW
returns-then-len-lt-FEW g c other =
    let entries : List (Entry g.row.V.Denot) = c.args.self.now.first.items in
    let more = get nat_cmp c.args.self.now.more other in
    let none = place_none c.args.id entries (sym c.place.ensures ∙ none_if_no_some c.place.result c.in_default.not-Some) in
    ap (λ (es : List (Entry g.row.V.Denot)). told_in es more other) c.in_ok-push.ensures.items ∙ told_pushed c.args.id entries more c.args.told none other

pub returns : goal.returns
returns g c other =
    let entries : List (Entry g.row.V.Denot) = c.args.self.now.first.items in
    let none = place_none c.args.id entries (sym c.place.ensures ∙ none_if_no_some c.place.result c.in_default.not-Some) in
    let after : get nat_cmp c.insert.new.self other ≡ cond (nat_eq c.args.id other) (Some c.args.told) (get nat_cmp c.args.self.now.more other) = search rules in
    told_elsewhere c.args.id entries (get nat_cmp c.args.self.now.more other) (get nat_cmp c.insert.new.self other) c.args.told other none after
