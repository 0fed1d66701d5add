use Rattle.std.proofs.Common.{ℕ, ◌≡◌, ◌≤◌, ◌↔◌, ◌∙◌, List, [], map, Contains, lit<, sym, ap, eqb-true, arith}
use Rattle.std.proofs.lemmas.Bool.{eq-eqb}
use Rattle.std.proofs.lemmas.List.{nil_from_length}
use Rattle.std.proofs.lemmas.Result.{IfOk-weaker}
use Rattle.map_defs.specs.Rows.{links_of}
use Rattle.map_defs.specs.LinkWords.{two_links}
use Rattle.link_laws.proofs.RowFacts.{rows_dimension}
use Rattle.cell_edit.proofs.CornerWords.{copies-within, corner-orbit}
use Rattle.cell_edit.proofs.LoneCorner.{lone-corner}
use Rattle.cell_edit.proofs.corner.are_in_one_beta_corner.Goals as goal

pub reaches-requires : goal.reaches-requires
reaches-requires g c =
    let listed : (j : ℕ) → Contains c.in_ok-copying.copying.items j ↔ ((j ≤ g.row.DIM) × (3 ≤ j)) = rw c.dimension.ensures.dimension at c.in_ok-copying.ensures in
    let words : c.deref-2.result.now ≡ map (two_links 0) c.in_ok-copying.copying.items = c.deref-2.ensures.value ∙ c.in_ok-words.ensures ∙ ap (map (two_links 0)) c.deref.ensures.value in
    rw words (lit< tt, copies-within g.row.DIM c.in_ok-copying.copying.items listed)

pub returns : goal.returns
returns g c =
    let rows = c.args.links.now.rows in
    let listed : (j : ℕ) → Contains c.in_ok-copying.copying.items j ↔ ((j ≤ g.row.DIM) × (3 ≤ j)) = rw c.dimension.ensures.dimension at c.in_ok-copying.ensures in
    let words : c.deref-2.result.now ≡ map (two_links 0) c.in_ok-copying.copying.items = c.deref-2.ensures.value ∙ c.in_ok-words.ensures ∙ ap (map (two_links 0)) c.deref.ensures.value in
    let orbit = corner-orbit g.row.DIM (links_of rows) (rows_dimension g.row.DIM rows c.dimension.ensures.sound.wide) c.in_ok-copying.copying.items listed c.args.one c.args.other in
    IfOk-weaker c.reaches.result _ _
    (λ reaches same. (λ true. orbit.0 (same.0 true), λ among. same.1 (orbit.1 among)))
    (rw words at c.reaches.ensures)

pub returns-then-is_empty : goal.returns-then-is_empty
returns-then-is_empty g c =
    let rows = c.args.links.now.rows in
    let copying : List ℕ = c.in_ok-copying.copying.items in
    let listed : (j : ℕ) → Contains copying j ↔ ((j ≤ g.row.DIM) × (3 ≤ j)) = rw c.dimension.ensures.dimension at c.in_ok-copying.ensures in
    let none : copying ≡ [] = nil_from_length copying (grind arith) in
    let alone = lone-corner g.row.DIM (links_of rows) (rows_dimension g.row.DIM rows c.dimension.ensures.sound.wide) copying listed none c.args.one c.args.other in
    (λ yes. alone.0 (eqb-true _ _ (sym c.eq.ensures ∙ yes)), λ among. c.eq.ensures ∙ eq-eqb _ _ (alone.1 among))
