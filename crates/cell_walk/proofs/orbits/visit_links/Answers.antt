use Rattle.std.proofs.Common.{ℕ, ◌≤◌, sym, ap, subst, ◌∙◌, lit<}
use Rattle.map_defs.specs.Rows.{links_of}
use Rattle.map_defs.specs.LinkWords.{LinkWord, IsWithin}
use Rattle.cell_walk.specs.Ways.{IsLink}
use Rattle.cell_walk.proofs.RowSteps.{row-fits}
use Rattle.cell_walk.proofs.Walks.{visited-more, visited-number}
use Rattle.cell_walk.proofs.orbits.visit_links.Goals as goal

pub row-requires : goal.row-requires
row-requires g c = (lit< tt, row-fits g.row.DIM c.see_sound.ensures.high)

pub entry-requires : goal.entry-requires
entry-requires g c =
    let within : IsWithin g.row.DIM c.word-item.result = subst (IsWithin g.row.DIM) (sym c.word-item.is) (c.requires.within c.loop-word.word-index c.word-item.result c.loop-word-test.true) in
    (row-fits g.row.DIM c.see_sound.ensures.high, subst (λ (n : ℕ). n ≤ g.row.DIM) (ap (λ (w : LinkWord). w.first) (sym c.word.view_is)) within.0)

pub loop-word-preserved : goal.loop-word-preserved
loop-word-preserved g c =
    visited-more (links_of c.args.links.now.rows) c.args.words.now c.loop-word.word-index c.word-item.result c.args.dart c.args.found.now c.loop-word.found c.add.new.found
    c.loop-word-test.true c.word-item.is c.loop-word.invariant
    (visited-number (links_of c.args.links.now.rows) c.word-item.result c.args.dart c.entry.result c.loop-word.found c.add.new.found
    (subst IsLink (sym c.word-item.is) (c.requires.single c.loop-word.word-index c.word-item.result c.loop-word-test.true))
    (c.entry.ensures ∙ c.in-Some.ensures c.word.inside.first ∙ ap (λ (w : LinkWord). links_of c.args.links.now.rows w.first c.args.dart) c.word.view_is)
    c.in_ok-add.ensures.none c.in_ok-add.ensures.dart)
