use Rattle.std.proofs.Common.{ℕ, ◌≡◌, ◌≤◌, ◌↔◌, ◌∙◌, List, [], map, Contains, lit<, sym, ap, subst, arith}
use Rattle.std.proofs.lemmas.List.{nil_from_length}
use Rattle.std.proofs.lemmas.Result.{IfOk-weaker}
use Rattle.map_defs.specs.Rows.{links_of}
use Rattle.map_defs.specs.LinkWords.{two_links}
use Rattle.link_laws.proofs.RowFacts.{rows_dimension}
use Rattle.cell_edit.proofs.CornerWords.{copies-within, corner-orbit}
use Rattle.cell_edit.proofs.LoneCorner.{lone-corner}
use Rattle.cell_edit.proofs.ListedDart.{lone-dart, has-lone}
use Rattle.cell_edit.proofs.corner.beta_corner.Goals as goal

pub orbit-requires : goal.orbit-requires
orbit-requires g c =
    let listed : (j : ℕ) → Contains c.in_ok-copying.copying.items j ↔ ((j ≤ g.row.DIM) × (3 ≤ j)) = rw c.dimension.ensures.dimension at c.in_ok-copying.ensures in
    let words : c.deref-2.result.now ≡ map (two_links 0) c.in_ok-copying.copying.items = c.deref-2.ensures.value ∙ c.in_ok-words.ensures ∙ ap (map (two_links 0)) c.deref.ensures.value in
    rw words (lit< tt, copies-within g.row.DIM c.in_ok-copying.copying.items listed)

pub returns-clause-members : goal.returns-clause-members
returns-clause-members g c =
    let rows = c.args.links.now.rows in
    let listed : (j : ℕ) → Contains c.in_ok-copying.copying.items j ↔ ((j ≤ g.row.DIM) × (3 ≤ j)) = rw c.dimension.ensures.dimension at c.in_ok-copying.ensures in
    let words : c.deref-2.result.now ≡ map (two_links 0) c.in_ok-copying.copying.items = c.deref-2.ensures.value ∙ c.in_ok-words.ensures ∙ ap (map (two_links 0)) c.deref.ensures.value in
    IfOk-weaker c.orbit.result _ _
    (λ darts same. λ x. let orbit = corner-orbit g.row.DIM (links_of rows) (rows_dimension g.row.DIM rows c.dimension.ensures.sound.wide) c.in_ok-copying.copying.items listed c.args.dart x in
    (λ has. orbit.0 ((same x).0 has), λ among. (same x).1 (orbit.1 among)))
    (rw words at c.orbit.ensures.members)

pub returns-then-is_empty-clause-members : goal.returns-then-is_empty-clause-members
returns-then-is_empty-clause-members g c =
    let rows = c.args.links.now.rows in
    let copying : List ℕ = c.in_ok-copying.copying.items in
    let listed : (j : ℕ) → Contains copying j ↔ ((j ≤ g.row.DIM) × (3 ≤ j)) = rw c.dimension.ensures.dimension at c.in_ok-copying.ensures in
    let none : copying ≡ [] = nil_from_length copying (grind arith) in
    let alone = lone-corner g.row.DIM (links_of rows) (rows_dimension g.row.DIM rows c.dimension.ensures.sound.wide) copying listed none c.args.dart in
    IfOk-weaker c.from_slice.result _ _
    (λ darts items. λ x. (
      λ has. (alone x).0 (sym (lone-dart c.args.dart x (subst (λ is. Contains is x) items has))),
      λ among. rw items (has-lone c.args.dart x (sym ((alone x).1 among))),
    ))
    c.from_slice.ensures.items
