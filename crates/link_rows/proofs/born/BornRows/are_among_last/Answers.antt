use Rattle.std.proofs.Common.{◌≡◌, ◌≤◌, ◌+◌, length, sym, ap, ◌∙◌, arith}
use Rattle.std.proofs.lemmas.Bool.{leb-true, le-leb}
use Rattle.link_rows.specs.BornRows.{NewRows}
use Rattle.link_rows.proofs.BornChanges.{rows-count}
use Rattle.link_rows.proofs.born.BornRows.are_among_last.Goals as goal

pub returns-then-made-first : goal.returns-then-made-first
returns-then-made-first c =
    let long : length c.args.self.now.rows ≡ c.self.inside.count =
    sym (ap (λ (b : NewRows). length b.rows) c.self.view_is) ∙ rows-count c.self.inside.width c.self.inside.count c.self.inside.numbers.items in
    let first : c.args.self.now.first ≡ c.self.inside.first = sym (ap (λ (b : NewRows). b.first) c.self.view_is) in (
      λ le.
          let within : c.number-first.result + c.self.inside.count ≤ c.args.made + 1 = leb-true (c.number-first.result + c.self.inside.count) (c.args.made + 1) le in
          (omega (arith, c.if-made-first.true, c.number-first.ensures.same, first), omega (arith, within, c.number-first.ensures.same, first, long)),
      λ both.
          le-leb (c.number-first.result + c.self.inside.count) (c.args.made + 1) (omega (arith, both.1, c.number-first.ensures.same, first, long)),
    )
