use Rattle.std.proofs.Common.{◌≡◌, ℕ, ◌+◌, ◌*◌, ◌≤◌, ◌++◌, List, [], length, map, Some, None, ap, sym, subst, ◌∙◌, arith}
use Rattle.map_defs.specs.Laws.{Laws}
use Rattle.map_defs.specs.Rows.{Rows, links_of, made}
use Rattle.map_defs.specs.Edits.{Edit, Fits, after_edit}
use Rattle.map_defs.specs.Polygon.{polygon_rows, side_rows}
use Rattle.edit_laws.proofs.PolygonSides.{flat_map-range_more}
use Rattle.edit_laws.proofs.PolygonRing.{sides-length}
use Rattle.edit_laws.proofs.PolygonEdit.{sides_edit, polygon-fits, polygon-after, polygon-lawful}
use Rattle.link_rows.specs.BornRows.{NewRows}
use Rattle.link_rows.proofs.PolygonRows.{polygon-told}
use Rattle.link_rows.proofs.polygon.polygon_edit.Goals as goal

pub loop-side-init : goal.loop-side-init
loop-side-init g c =
    let first : c.unwrap.result ≡ c.made-first.result + 1 = rw c.unwrap.ensures at c.new.ensures.same in
    c.in_ok-born.ensures
    ∙ (λ k. let born : NewRows = record { first = first k; width = c.dimension.ensures.dimension k + 1; rows = []; back = None } in born)

pub push_side-requires-clause-next : goal.push_side-requires-clause-next
push_side-requires-clause-next g c =
    ap (λ (b : NewRows). length b.rows) c.loop-side.invariant
    ∙ sides-length g.K.Kind.kind g.row.DIM (c.made-first.result + 1) c.args.sides c.loop-side.side

pub loop-side-preserved : goal.loop-side-preserved
loop-side-preserved g c =
    let first : ℕ = c.made-first.result + 1 in
    let side : ℕ = c.loop-side.side in
    let one : ℕ → List (List ℕ) = side_rows g.K.Kind.kind g.row.DIM first c.args.sides in
    let kept = c.loop-side.invariant in
    c.in_ok-push_side.ensures
    ∙ ap (λ (b : NewRows). let born : NewRows = record { first = b.first; width = b.width; rows = b.rows ++ one side; back = b.back } in born) kept
    ∙ ap (λ (rows : List (List ℕ)). let born : NewRows = record { first = first; width = g.row.DIM + 1; rows = rows; back = None } in born)
    (sym (flat_map-range_more one side))

pub returns-clause-fits : goal.returns-clause-fits
returns-clause-fits g c =
    let k = g.K.Kind.kind in
    let n : ℕ = g.row.DIM in
    let sides : ℕ = c.args.sides in
    let rows : Rows = c.args.links.now.rows in
    let first : c.made-first.result + 1 ≡ length rows = omega (arith, c.made-first.ensures.made, c.made-first.ensures.begun) in
    let last : c.loop-side.side ≡ sides = omega (arith, c.loop-side-test.false, c.loop-side.auto.side-end) in
    let told =
    polygon-told k n (c.made-first.result + 1) sides c.loop-side.side _ _ _ c.loop-side.born (ap (λ (m : ℕ). m * sides) c.per_side.ensures)
    c.new-2.ensures.items c.new-3.ensures.items c.loop-side.invariant last (omega arith)
    ∙ ap (λ (f : ℕ). sides_edit k f sides) first in
    let wide : 1 ≤ n = omega (arith, c.made-first.ensures.low) in
    subst (Fits k n rows) (sym told) (polygon-fits k n rows sides wide c.made-first.ensures.begun c.made-first.ensures.sound c.requires.few)

pub returns-clause-rows : goal.returns-clause-rows
returns-clause-rows g c =
    let k = g.K.Kind.kind in
    let n : ℕ = g.row.DIM in
    let sides : ℕ = c.args.sides in
    let rows : Rows = c.args.links.now.rows in
    let first : c.made-first.result + 1 ≡ length rows = omega (arith, c.made-first.ensures.made, c.made-first.ensures.begun) in
    let last : c.loop-side.side ≡ sides = omega (arith, c.loop-side-test.false, c.loop-side.auto.side-end) in
    let told =
    polygon-told k n (c.made-first.result + 1) sides c.loop-side.side _ _ _ c.loop-side.born (ap (λ (m : ℕ). m * sides) c.per_side.ensures)
    c.new-2.ensures.items c.new-3.ensures.items c.loop-side.invariant last (omega arith)
    ∙ ap (λ (f : ℕ). sides_edit k f sides) first in
    let wide : 1 ≤ n = omega (arith, c.made-first.ensures.low) in
    let next : length rows ≡ made rows + 1 = omega (arith, c.made-first.ensures.begun) in
    ap (λ (e : Edit). after_edit n e rows) told
    ∙ polygon-after k n rows sides wide c.made-first.ensures.begun c.made-first.ensures.sound c.requires.few
    ∙ ap (λ (f : ℕ). rows ++ map (λ (row : List ℕ). Some row) (polygon_rows k n f sides)) next

pub returns-clause-laws : goal.returns-clause-laws
returns-clause-laws g c = λ laws.
    let k = g.K.Kind.kind in
    let n : ℕ = g.row.DIM in
    let sides : ℕ = c.args.sides in
    let rows : Rows = c.args.links.now.rows in
    let first : c.made-first.result + 1 ≡ length rows = omega (arith, c.made-first.ensures.made, c.made-first.ensures.begun) in
    let last : c.loop-side.side ≡ sides = omega (arith, c.loop-side-test.false, c.loop-side.auto.side-end) in
    let told =
    polygon-told k n (c.made-first.result + 1) sides c.loop-side.side _ _ _ c.loop-side.born (ap (λ (m : ℕ). m * sides) c.per_side.ensures)
    c.new-2.ensures.items c.new-3.ensures.items c.loop-side.invariant last (omega arith)
    ∙ ap (λ (f : ℕ). sides_edit k f sides) first in
    let wide : 1 ≤ n = omega (arith, c.made-first.ensures.low) in
    subst (λ (e : Edit). Laws k (links_of (after_edit n e rows))) (sym told)
    (polygon-lawful k n rows sides wide c.made-first.ensures.begun c.made-first.ensures.sound c.requires.few laws)
