use Rattle.std.proofs.Common.{◌≡◌, ℕ, ◌-◌, ◌<◌, List, [], length, get_or, take, drop, ap, ap₂, sym, ◌∙◌, arith}
use Rattle.flat_lists.specs.Cutting.{cut, start_from}
use Rattle.flat_lists.proofs.CutLists.{length-cut, list-within, list-of}
use Rattle.flat_lists.proofs.lists.Lists.list.Goals as goal

there : {X : Type 0} (items : List X) (ends : List ℕ) (lists : List (List X)) (place : ℕ) → cut 0 items ends ≡ lists → place < length lists → place < length ends
there items ends lists place is h = omega (arith, h, ap length is, length-cut 0 items ends)

pub start_of-requires : goal.start_of-requires
start_of-requires g c =
    omega (arith, there c.self.inside.items.items c.self.inside.ends.items c.args.self.now c.args.place c.self.view_is c.requires, ap length c.deref-2.ensures.value)

pub index-requires : goal.index-requires
index-requires g c =
    omega (arith, there c.self.inside.items.items c.self.inside.ends.items c.args.self.now c.args.place c.self.view_is c.requires, c.self.inside.ends.ok.0)

pub between-requires-clause-ordered : goal.between-requires-clause-ordered
between-requires-clause-ordered g c =
    let lt = there c.self.inside.items.items c.self.inside.ends.items c.args.self.now c.args.place c.self.view_is c.requires in
    let within = list-within 0 c.self.inside.ends.items _ c.args.place c.index.result.now c.self.invariant lt in
    let start : c.start_of.result ≡ start_from 0 c.self.inside.ends.items c.args.place =
    c.start_of.ensures ∙ ap (λ (ends : List ℕ). start_from 0 ends c.args.place) c.deref-2.ensures.value in
    omega (arith, within.1, start, c.index.ensures)

pub between-requires-clause-within : goal.between-requires-clause-within
between-requires-clause-within g c =
    let lt = there c.self.inside.items.items c.self.inside.ends.items c.args.self.now c.args.place c.self.view_is c.requires in
    let within = list-within 0 c.self.inside.ends.items _ c.args.place c.index.result.now c.self.invariant lt in
    omega (arith, within.2, ap length c.deref.ensures.value, c.index.ensures)

pub returns : goal.returns
returns g c =
    let lt = there c.self.inside.items.items c.self.inside.ends.items c.args.self.now c.args.place c.self.view_is c.requires in
    let start : c.start_of.result ≡ start_from 0 c.self.inside.ends.items c.args.place =
    c.start_of.ensures ∙ ap (λ (ends : List ℕ). start_from 0 ends c.args.place) c.deref-2.ensures.value in
    c.between.ensures
    ∙ (ap (λ (items : List g.row.T.Denot). take (c.index.result.now - c.start_of.result) (drop c.start_of.result items)) c.deref.ensures.value
    ∙ (ap₂ (λ (end first : ℕ). take (end - first) (drop first c.self.inside.items.items)) c.index.ensures start
    ∙ (sym (list-of c.self.inside.items.items c.self.inside.ends.items c.args.place c.index.result.now c.self.invariant lt)
    ∙ ap (λ (lists : List (List g.row.T.Denot)). get_or lists c.args.place []) c.self.view_is)))
