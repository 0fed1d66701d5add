use Rattle.std.proofs.Common.{ap, sym, ◌∙◌}
use Rattle.std.specs.Prelude.{slice_index}
use Rattle.map_defs.specs.Rows.{Rows}
use Rattle.map_defs.specs.Edits.{with_entry}
use Rattle.list_text.proofs.RowEntries.{begun-none, begun-more, begun-all}
use Rattle.list_text.proofs.links.set_row.Goals as goal

pub loop-link-init : goal.loop-link-init
loop-link-init g c = sym (begun-none c.args.dart c.args.links.now c.args.builder.now.rows)

pub loop-link-preserved : goal.loop-link-preserved
loop-link-preserved g c =
    c.set.ensures
    ∙ (ap (λ (R : Rows). with_entry R c.args.dart c.loop-link.link (slice_index c.args.links.now c.loop-link.link)) c.loop-link.invariant
    ∙ begun-more g.row.DIM c.loop-link.link c.args.dart c.args.links.now c.args.builder.now.rows c.requires.live c.requires.rows c.requires.links c.loop-link-test.true)

pub returns : goal.returns
returns g c =
    c.loop-link.invariant
    ∙ begun-all g.row.DIM c.loop-link.link c.args.dart c.args.links.now c.args.builder.now.rows c.requires.live c.requires.rows c.requires.links c.loop-link-test.false
