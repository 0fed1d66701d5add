use Rattle.std.proofs.Common.{◌≡◌, ℕ, List, Option, sym, ◌∙◌}
use Rattle.std.proofs.lemmas.Result.{IfOk-weaker, IfErr-weaker, on_ok_weaker}
use Rattle.map_defs.specs.Rows.{Rows}
use Rattle.map_defs.specs.OffOfMap.{IsCell}
use Rattle.map_defs.specs.Values.{Place, Value}
use Rattle.machine_defs.specs.State.{value_at}
use Rattle.label_laws.specs.Contents.{content_of}
use Rattle.label_laws.proofs.Showing.{value-shown}
use Rattle.off_text.specs.MapViews.{placed, off_view}
use Rattle.valued_map.proofs.MeshPoints.{rows-alike, text-alike, refused-alike}
use Rattle.valued_map.proofs.map.ValuedMap.off_rows.Goals as goal

pub returns-clause-rows : goal.returns-clause-rows
returns-clause-rows g c =
    let k = g.K.Kind.kind in
    let n : ℕ = g.row.DIM in
    let rows : Rows = c.self.inside.links.rows in
    let places : List Place = c.in_ok-places.places.items in
    let values : ℕ → Option Value = value_at (content_of k n rows c.self.inside.labels c.self.inside.pool c.self.inside.rules) 0 in
    let same : (d : ℕ) → IsCell k rows 0 d → placed places d ≡ values d =
    λ d cell. c.in_ok-places.ensures.values d cell ∙ sym (value-shown k n rows c.self.inside.labels c.self.inside.pool c.self.inside.rules c.self.invariant 0 d) in
    rw (← c.self.view_is)
    (IfOk-weaker c.off_of.result _ _ (λ off are. rows-alike k rows (placed places) values same (off_view off) are) (rw c.deref.ensures.value at c.off_of.ensures.rows))

pub returns-clause-answered : goal.returns-clause-answered
returns-clause-answered g c =
    let k = g.K.Kind.kind in
    let n : ℕ = g.row.DIM in
    let rows : Rows = c.self.inside.links.rows in
    let places : List Place = c.in_ok-places.places.items in
    let values : ℕ → Option Value = value_at (content_of k n rows c.self.inside.labels c.self.inside.pool c.self.inside.rules) 0 in
    let same : (d : ℕ) → IsCell k rows 0 d → placed places d ≡ values d =
    λ d cell. c.in_ok-places.ensures.values d cell ∙ sym (value-shown k n rows c.self.inside.labels c.self.inside.pool c.self.inside.rules c.self.invariant 0 d) in
    rw (← c.self.view_is)
    (on_ok_weaker c.off_of.result (text-alike k rows (placed places) values same) (rw c.deref.ensures.value at c.off_of.ensures.answered))

pub returns-clause-refused : goal.returns-clause-refused
returns-clause-refused g c =
    let k = g.K.Kind.kind in
    let n : ℕ = g.row.DIM in
    let rows : Rows = c.self.inside.links.rows in
    let places : List Place = c.in_ok-places.places.items in
    let values : ℕ → Option Value = value_at (content_of k n rows c.self.inside.labels c.self.inside.pool c.self.inside.rules) 0 in
    let same : (d : ℕ) → IsCell k rows 0 d → placed places d ≡ values d =
    λ d cell. c.in_ok-places.ensures.values d cell ∙ sym (value-shown k n rows c.self.inside.labels c.self.inside.pool c.self.inside.rules c.self.invariant 0 d) in
    rw (← c.self.view_is)
    (IfErr-weaker c.off_of.result _ _ (refused-alike k rows (placed places) values same) (rw c.deref.ensures.value at c.off_of.ensures.refused))
