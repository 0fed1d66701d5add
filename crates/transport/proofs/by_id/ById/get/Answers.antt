use Rattle.std.proofs.Common.{rules, ◌≡◌, List, Some, nat_cmp, sym, ◌∙◌, ap}
use Rattle.std.specs.BTreeMap.{get}
use Rattle.transport.specs.declared.by_id.Entry.{Entry}
use Rattle.transport.proofs.Telling.{place_some, place_none, told_at}
use Rattle.transport.proofs.by_id.ById.get.Goals as goal

pub returns-in-Some : goal.returns-in-Some
returns-in-Some g c =
    let entries : List (Entry g.row.V.Denot) = c.args.self.now.first.items in
    let at = place_some c.index.result.now entries c.args.id c.in-Some.place (sym c.place.ensures ∙ c.in-Some.is) in
    ap (λ (e : Entry g.row.V.Denot). Some e.told) c.index.ensures ∙ sym (told_at c.index.result.now entries (get nat_cmp c.args.self.now.more c.args.id) c.args.id c.in-Some.place at)

pub returns-in-None : goal.returns-in-None
returns-in-None g c =
    let entries : List (Entry g.row.V.Denot) = c.args.self.now.first.items in
    let none = place_none c.args.id entries (sym c.place.ensures ∙ c.in-None.is) (get nat_cmp c.args.self.now.more c.args.id) in
    let found : c.copied.result ≡ get nat_cmp c.args.self.now.more c.args.id = search rules in
    found ∙ sym none
