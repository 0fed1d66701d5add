use Rattle.std.proofs.Common.{ℕ, ◌∙◌, arith}
use Rattle.map_defs.specs.Rows.{Rows, links_of}
use Rattle.link_rows.proofs.Exchanges.{same-written, exchanged-is, one-more}
use Rattle.link_rows.proofs.dual.exchange_between.Goals as goal

pub loop-link-preserved : goal.loop-link-preserved
loop-link-preserved g c =
    let n : ℕ = g.row.DIM in
    let k : ℕ = c.loop-link.link in
    let old : Rows = c.args.rows.now.rows in
    let rows : Rows = c.loop-link.rows.rows in
    let one : ℕ = c.args.one in
    let other : ℕ = c.args.other in
    let kept = c.loop-link.invariant in
    let darts = kept.1 in
    rw c.exchange.ensures.rows (
      one-more n k (links_of old) (links_of rows) _ one other c.requires.apart (omega arith) (omega arith) kept.0
          (exchanged-is n k rows one other darts.wide (darts.live one ∙ c.requires.one_lives) (darts.live other ∙ c.requires.other_lives) c.requires.apart (omega arith)),
      same-written n old _ other _ _ (same-written n old rows one _ _ darts),
      c.exchange.ensures.spare ∙ kept.2,
      c.exchange.ensures.room ∙ kept.3,
    )
