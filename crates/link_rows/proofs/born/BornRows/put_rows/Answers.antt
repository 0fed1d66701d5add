use Rattle.std.proofs.Common.{◌+◌, sym, ap, ◌∙◌, arith, lit<}
use Rattle.link_rows.specs.BornRows.{NewRows}
use Rattle.link_rows.proofs.born.BornRows.put_rows.Goals as goal

pub put_whole_rows-requires : goal.put_whole_rows-requires
put_whole_rows-requires g c =
    let among = c.are_among_last.ensures.0 c.if-are_among_last.true in (
      lit< tt,
      (
        sym (ap (λ (b : NewRows). b.width) c.self.view_is) ∙ c.if-self.true,
        λ place within.
            c.requires.bare (c.args.self.now.first + place) (omega (arith, among.0, c.made.ensures.made)) (omega (arith, among.1, c.made.ensures.made, within)),
      ),
    )
