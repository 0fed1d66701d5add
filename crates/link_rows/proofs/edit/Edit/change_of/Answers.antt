use Rattle.std.proofs.Common.{◌≡◌, ◌++◌, List, Contains, refl, ap, sym, subst, inl, inr}
use Rattle.std.proofs.lemmas.List.Elements.{Contains-append_cases, Contains-append_right}
use Rattle.std.proofs.lemmas.Option.{IfSome_then}
use Rattle.map_defs.specs.Edits.{Change, Edit}
use Rattle.link_rows.specs.BornRows.{rows_changes, led_back}
use Rattle.link_rows.proofs.edit.Edit.change_of.Goals as goal

pub returns-in-None-clause-some : goal.returns-in-None-clause-some
returns-in-None-clause-some c =
    let items : List Change = c.self.inside.changes.items in
    let led : List Change = led_back c.self.inside.born.back c.self.inside.born.first c.self.inside.born.rows in
    let told : List Change = led ++ rows_changes c.self.inside.born.first c.self.inside.born.rows in
    let all : items ++ told ≡ c.args.self.now.changes = ap (λ (e : Edit). e.changes) c.self.view_is in
    IfSome_then c.change_of.result c.change_of.ensures.some
    (λ change is. (subst (λ (cs : List Change). Contains cs change) all (Contains-append_right items told change is.0), is.1, is.2))

pub returns-in-None-clause-none : goal.returns-in-None-clause-none
returns-in-None-clause-none c = λ none change held dart link.
    let items : List Change = c.self.inside.changes.items in
    let led : List Change = led_back c.self.inside.born.back c.self.inside.born.first c.self.inside.born.rows in
    let told : List Change = led ++ rows_changes c.self.inside.born.first c.self.inside.born.rows in
    let all : items ++ told ≡ c.args.self.now.changes = ap (λ (e : Edit). e.changes) c.self.view_is in
    elim (Contains-append_cases items told change (subst (λ (cs : List Change). Contains cs change) (sym all) held)) [
      | inl among ↦
          c.in-None.ensures.none refl change (subst (λ (cs : List Change). Contains cs change) (sym c.deref.ensures.value) among) dart link
      | inr born ↦ c.change_of.ensures.none none change born dart link
    ]
