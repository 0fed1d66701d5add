use Rattle.map_defs.specs.Rows.{links_of}
use Rattle.link_rows.specs.DualLinks.{dual_link}
use Rattle.dual_map.specs.Differences.{link_changes}
use Rattle.dual_map.proofs.ChangeLists.{flat-grown}
use Rattle.dual_map.proofs.plan.push_dart.Goals as goal

pub loop-link-preserved : goal.loop-link-preserved
loop-link-preserved g c =
    flat-grown (link_changes (links_of c.args.links.now.rows) (dual_link g.K.Kind.kind g.row.DIM (links_of c.args.links.now.rows)) c.args.dart)
    c.loop-link.link c.args.changes.now.items c.loop-link.changes.items c.push_link.new.changes.items c.in_ok-push_link.ensures c.loop-link.invariant
