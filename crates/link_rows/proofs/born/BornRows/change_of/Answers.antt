use Rattle.std.proofs.Common.{List, refl, inl, inr}
use Rattle.std.proofs.lemmas.List.Elements.{Contains-append_cases, Contains-append_right}
use Rattle.map_defs.specs.Edits.{Change}
use Rattle.link_rows.specs.BornRows.{rows_changes, led_back}
use Rattle.link_rows.proofs.born.BornRows.change_of.Goals as goal

pub returns-in-Some-clause-some : goal.returns-in-Some-clause-some
returns-in-Some-clause-some c =
    let led : List Change = led_back c.args.self.now.back c.args.self.now.first c.args.self.now.rows in
    let told : List Change = rows_changes c.args.self.now.first c.args.self.now.rows in
    let is = c.in-Some.ensures.some in
    (Contains-append_right led told c.in-Some.change is.0, is.1, is.2)

pub returns-in-None-clause-none : goal.returns-in-None-clause-none
returns-in-None-clause-none c = λ none change held dart link.
    let led : List Change = led_back c.args.self.now.back c.args.self.now.first c.args.self.now.rows in
    let told : List Change = rows_changes c.args.self.now.first c.args.self.now.rows in
    elim (Contains-append_cases led told change held) [
      | inl old ↦ c.back_change_of.ensures.none none change old dart link
      | inr new ↦ c.in-None.ensures.none refl change new dart link
    ]
