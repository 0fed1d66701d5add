use Rattle.std.proofs.Common.{◌≡◌, ◌+◌, ◌<◌, ◌≤◌, None, [], ◌∷◌, length, sym, ap, subst, ◌∙◌, lit<, arith}
use Rattle.map_defs.specs.Kind.{alpha}
use Rattle.map_defs.specs.Rows.{Rows, IsSound, made, made_max}
use Rattle.link_calls.proofs.BornDarts.{none-sound}
use Rattle.link_calls.proofs.link_rows_tests.a_triangle_is_made_and_taken_back.Goals as goal

pub reverse-requires : goal.reverse-requires
reverse-requires g c =
    let rows : c.reserve.new.self.rows ≡ None ∷ [] = c.reserve.ensures.rows ∙ c.new-links.ensures.rows in
    let births = c.in_ok-triangle.ensures.births in
    let none : Rows = None ∷ [] in
    let few : made none + c.in_ok-triangle.triangle.births ≤ made_max = omega (arith, births) in
    let begun : 0 < length none = lit< tt in
    let no_deaths : length c.in_ok-triangle.triangle.deaths ≡ 0 = ap length c.in_ok-triangle.ensures.deaths in (
      lit< tt,
      (
        (
          c.reserve.new.self.rows,
          record {
            begun = subst (λ (rs : Rows). 0 < length rs) (sym rows) begun;
            sound = subst (IsSound alpha 8) (sym rows) (none-sound alpha 8);
            fits = c.in_ok-triangle.ensures.fits;
            few = subst (λ (rs : Rows). made rs + c.in_ok-triangle.triangle.births ≤ made_max) (sym rows) few;
            after = sym c.apply.ensures.rows;
          },
        ),
        omega (arith, no_deaths),
      ),
    )
