use Rattle.std.proofs.Common.{[], ◌∷◌}
use Rattle.std.proofs.lemmas.List.{map-append}
use Rattle.list_text.specs.Ranks.{items_of, lists_of}
use Rattle.list_text.proofs.RankSteps.{least-more}
use Rattle.list_text.proofs.cells.Cells.new.Goals as goal

pub loop-dim-preserved : goal.loop-dim-preserved
loop-dim-preserved g c =
    rw (c.in_ok-push.ensures.items, map-append items_of c.loop-dim.least.items (c.in_ok-cells.field-0 ∷ []))
    (least-more g.K.Kind.kind g.row.DIM c.args.rows.now c.in_ok-links.links.rows c.requires.rows c.requires.lawful c.in_ok-links.ensures c.loop-dim.dim (lists_of c.loop-dim.least.items) c.in_ok-cells.field-0.items
    c.loop-dim.invariant c.in_ok-cells.ensures.ascending c.in_ok-cells.ensures.members)
