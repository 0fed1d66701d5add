use Rattle.std.proofs.Common.{◌≡◌, ◌≢◌, ◌↔◌, ℕ, List, AllPairs, Contains, ap, sym, ◌∙◌, subst}
use Rattle.map_defs.specs.Edits.{Edit, Change}
use Rattle.valued_map.proofs.told.sorted_edit.Goals as goal

pub changes_in_order-requires : goal.changes_in_order-requires
changes_in_order-requires c =
    subst (λ (cs : List Change). AllPairs (λ (x y : Change). x.dart ≡ y.dart → x.link ≡ y.link → ⊥) cs) (sym c.in_ok-changes.ensures) c.requires.once

pub returns : goal.returns
returns c =
    let deaths : c.deref.result.now ≡ c.args.edit.now.deaths = c.deref.ensures.value ∙ ap (λ (e : Edit). e.deaths) c.edit.view_is in
    record {
      births = ap (λ (e : Edit). e.births) c.edit.view_is;
      deaths = subst (λ (ds : List ℕ). (d : ℕ) → Contains c.in_ok-ascending.field-0.items d ↔ Contains ds d) deaths c.in_ok-ascending.ensures.members;
      ended_ascending = c.in_ok-ascending.ensures.ascending;
      changes = subst (λ (cs : List Change). (x : Change) → Contains c.changes_in_order.result.items x ↔ (Contains cs x × (x.old ≢ x.new))) c.in_ok-changes.ensures c.changes_in_order.ensures.members;
      links_ordered = c.changes_in_order.ensures.ordered;
    }
