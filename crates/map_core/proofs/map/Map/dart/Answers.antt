use Rattle.std.proofs.Common.{ℕ, ◌+◌, lit<, refl, inr, ap, sym, [], ◌∷◌, ◌∙◌, arith}
use Rattle.map_defs.specs.Rows.{Rows, made}
use Rattle.map_defs.specs.Edits.{free_row}
use Rattle.machine_defs.specs.State.{State, steps_to, with_born}
use Rattle.machine_defs.specs.Text.{Done}
use Rattle.edit_laws.proofs.EditPlain.{births-fit}
use Rattle.edit_laws.proofs.KeptLaws.{births-keep}
use Rattle.map_core.proofs.map.Map.dart.Goals as goal

pub bear-requires : goal.bear-requires
bear-requires g c =
    let n : ℕ = g.row.DIM in
    let rows : Rows = c.args.self.now.state.present.rows in
    let laws = rw c.links.ensures.rows at c.links.ensures.laws in
    rw (c.new.ensures.items, c.new-2.ensures.items, c.none.ensures.rows) (
      lit< tt,
      (
        births-fit g.K.Kind.kind n 1 rows c.links.ensures.sound,
        (births-keep g.K.Kind.kind n 1 rows laws, (c.if-not-has_numbers.ensures.0 refl, (free_row n ∷ [], refl))),
      ),
    )

pub returns-clause-does : goal.returns-clause-does
returns-clause-does g c =
    let n : ℕ = g.row.DIM in
    let few = c.if-not-has_numbers.ensures.0 refl in
    let bore = rw (c.new.ensures.items, c.new-2.ensures.items, c.none.ensures.rows) at c.in_ok-bear.ensures.made in
    let s : State = c.args.self.now.state in
    inr (
      λ full. omega (arith, few),
      (
        ap (λ (m : ℕ). Done (m + 1) 1) (c.made-first.ensures.made ∙ ap made c.links.ensures.rows),
        bore (free_row n ∷ []) refl ∙ ap (λ (m : ℕ). steps_to s (with_born s.present (free_row m ∷ []))) (sym c.links.ensures.dim),
      ),
    )
