use Rattle.std.proofs.Common.{ℕ, List, slice_index, sym, ap, ◌∙◌}
use Rattle.dart_arena.specs.RowChanges.{with_link}
use Rattle.dart_arena.proofs.RowLinks.{with_links-next}
use Rattle.dart_arena.proofs.row.Row.put_each.Goals as goal

pub loop-link-preserved : goal.loop-link-preserved
loop-link-preserved g c =
    let links : List ℕ = c.args.links.now in
    c.put_link.ensures
    ∙ ap (with_link c.loop-link.link (slice_index links c.loop-link.link)) c.loop-link.invariant
    ∙ sym (with_links-next links c.loop-link.link c.args.self.now c.loop-link-test.true)
