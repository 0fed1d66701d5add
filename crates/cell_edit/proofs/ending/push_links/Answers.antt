use Rattle.std.proofs.Common.{◌≡◌, ◌++◌, ◌∷◌, [], refl, sym, ◌∙◌, arith}
use Rattle.map_defs.specs.Rows.{links_of}
use Rattle.cell_edit.proofs.BridgeEntries.{ends-none, ends-skip, ends-push}
use Rattle.cell_edit.proofs.ending.push_links.Goals as goal

pub loop-link-init : goal.loop-link-init
loop-link-init g c = (ends-none (links_of c.args.links.now.rows) c.args.dart c.args.changes.now.items, refl, omega arith)

pub loop-link-preserved-then-old-eq0 : goal.loop-link-preserved-then-old-eq0
loop-link-preserved-then-old-eq0 g c =
    let is : c.entry-old.result ≡ links_of c.args.links.now.rows c.loop-link.link c.args.dart = c.entry-old.ensures ∙ c.requires.row c.loop-link.link in (
      ends-skip (links_of c.args.links.now.rows) c.args.dart c.loop-link.link c.args.changes.now.items c.loop-link.changes.items (sym is ∙ c.if-old-eq0.true) c.loop-link.invariant.0,
      c.loop-link.invariant.1,
      omega (arith, c.loop-link.invariant.2),
    )

pub loop-link-preserved : goal.loop-link-preserved
loop-link-preserved g c =
    let is : c.entry-old.result ≡ links_of c.args.links.now.rows c.loop-link.link c.args.dart = c.entry-old.ensures ∙ c.requires.row c.loop-link.link in
    let grown : c.push_reserved.new.self.items ≡ c.loop-link.changes.items ++ record { dart = c.args.dart; link = c.loop-link.link; old = links_of c.args.links.now.rows c.loop-link.link c.args.dart; new = 0 } ∷ [] =
    rw (c.new.ensures, is) at c.push_reserved.ensures.items in (
      ends-push (links_of c.args.links.now.rows) c.args.dart c.loop-link.link c.args.changes.now.items c.loop-link.changes.items c.push_reserved.new.self.items
          (λ none. c.if-old-eq0.false (is ∙ none)) c.loop-link.invariant.0 grown,
      c.push_reserved.ensures.capacity ∙ c.loop-link.invariant.1,
      omega (arith, c.push_reserved.ensures.len, c.loop-link.invariant.2),
    )
