use Rattle.std.proofs.Common.{length, Contains, sym, ap, subst, ◌∙◌, arith}
use Rattle.std.proofs.lemmas.List.{length_push}
use Rattle.map_defs.specs.Rows.{links_of}
use Rattle.cell_walk.proofs.CellDarts.{links-nothing}
use Rattle.cell_walk.proofs.OnWays.{on_way-none, on_way-more, on_way-all}
use Rattle.cell_walk.proofs.ways.follow_words.Goals as goal

pub loop-next-init : goal.loop-next-init
loop-next-init g c =
    (c.requires.next, c.requires.after, on_way-none g.K.Kind.kind (links_of c.args.links.now.rows) c.args.way.now.next c.args.way.now.after c.args.dart c.args.found.now c.requires.met)

pub loop-next-smaller : goal.loop-next-smaller
loop-next-smaller g c = omega (arith, c.in_ok-put.ensures.few, ap length c.in_ok-put.ensures.added, length_push c.loop-next.found c.in-Some.next)

pub loop-next-preserved : goal.loop-next-preserved
loop-next-preserved g c =
    rw (c.turned-way.ensures, c.in_ok-put.ensures.added) (
      c.loop-next.invariant.1,
      c.loop-next.invariant.0,
      on_way-more g.K.Kind.kind (links_of c.args.links.now.rows) (links-nothing g.K.Kind.kind g.row.DIM c.args.links.now.rows c.see_sound.ensures.sound) c.see_sound.ensures.sound.back
          c.args.way.now.next c.args.way.now.after c.args.dart c.args.found.now c.loop-next.way.next c.loop-next.way.after c.loop-next.at c.in-Some.next c.loop-next.found
          (sym c.number_along.ensures ∙ c.in-Some.ensures.some.0) c.in-Some.ensures.some.1 c.loop-next.invariant.2,
    )

pub returns : goal.returns
returns g c =
    on_way-all g.K.Kind.kind (links_of c.args.links.now.rows) c.args.way.now.next c.args.way.now.after c.args.dart c.args.found.now c.loop-next.way.next c.loop-next.way.after c.loop-next.at c.loop-next.found
    (λ y leads dart. subst (Contains c.loop-next.found) (c.number_along.ensures ∙ leads) (c.in_default.ensures.none (λ none. dart (sym leads ∙ sym c.number_along.ensures ∙ none)))) c.loop-next.invariant.2
