use Rattle.std.proofs.Common.{◌≡◌, ◌≢◌, ℕ, ◌+◌, ◌-◌, ◌<◌, ◌≤◌, List, ◌∷◌, length, get_or, set, drop, Some, None, sym, ap, ◌∙◌, arith, lit<}
use Rattle.std.proofs.lemmas.List.{drop_more, get_or_read, get_or-set_other}
use Rattle.map_defs.specs.Rows.{Rows, row_at}
use Rattle.map_defs.specs.Edits.{revived, free_row}
use Rattle.edit_laws.proofs.EditSteps.{revived-length}
use Rattle.link_rows.proofs.steps.revive.Goals as goal

pub revive-requires : goal.revive-requires
revive-requires g c =
    let ds : List ℕ = c.args.darts.now in
    let j : ℕ = c.loop-index.index - 1 in
    let x : ℕ = c.index-darts-index.result in
    let rows : Rows = c.loop-index.rows.rows in
    let within : j < length ds = omega arith in
    let made = c.requires.made j x within in
    let read = c.index-darts-index.is in
    let same : length rows ≡ length c.args.rows.now.rows =
    ap length c.loop-index.invariant.0 ∙ revived-length g.row.DIM (drop c.loop-index.index ds) c.args.rows.now.rows in
    let below : x ≤ length rows - 1 = omega arith in
    let dead : row_at rows x ≡ None = ap (row_at rows) c.index-darts-index.is ∙ c.loop-index.invariant.3 j x (omega arith) (omega arith) in
    let kept = c.loop-index.invariant.2 in
    let some = c.requires.room in
    let more : 1 ≤ c.loop-index.rows.room = omega arith in
    (lit< tt, (below, (dead, more)))

pub loop-index-preserved : goal.loop-index-preserved
loop-index-preserved g c =
    let ds : List ℕ = c.args.darts.now in
    let j : ℕ = c.loop-index.index - 1 in
    let x : ℕ = c.index-darts-index.result in
    let within : j < length ds = omega arith in
    let one : j + 1 ≡ c.loop-index.index = omega arith in
    let split : drop j ds ≡ x ∷ drop c.loop-index.index ds =
    drop_more ds j x within ∙ ap (λ (y : ℕ). y ∷ drop (j + 1) ds) (sym c.index-darts-index.is) ∙ ap (λ (m : ℕ). x ∷ drop m ds) one in
    let kept = c.loop-index.invariant in
    let room = c.loop-index.invariant.2 in
    rw c.revive.ensures (
      ap (λ (r : Rows). set r x (Some (free_row g.row.DIM))) kept.0 ∙ sym (ap (λ (l : List ℕ). revived g.row.DIM l c.args.rows.now.rows) split),
      kept.1,
      omega arith,
      λ k d low high.
          let other : get_or ds k d ≢ x = λ same. c.requires.once k j d high within (same ∙ get_or_read ds j x within c.index-darts-index.is d) in
          get_or-set_other c.loop-index.rows.rows x (get_or ds k d) (Some (free_row g.row.DIM)) None other ∙ kept.3 k d low (omega arith),
    )
