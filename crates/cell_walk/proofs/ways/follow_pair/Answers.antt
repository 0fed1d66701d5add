use Rattle.std.proofs.Common.{length, Contains, sym, ap, subst, ◌∙◌, arith}
use Rattle.std.proofs.lemmas.List.{length_push}
use Rattle.map_defs.specs.LinkWords.{two_links}
use Rattle.map_defs.specs.Rows.{links_of}
use Rattle.cell_walk.proofs.CellDarts.{links-nothing}
use Rattle.cell_walk.proofs.OnWays.{on_way-none, on_way-more, on_way-all}
use Rattle.cell_walk.proofs.ways.follow_pair.Goals as goal

pub loop-reached-init : goal.loop-reached-init
loop-reached-init g c =
    let word = two_links c.args.first c.args.second in
    on_way-none g.K.Kind.kind (links_of c.args.links.now.rows) word word c.args.dart c.args.found.now c.requires.met

pub loop-reached-smaller : goal.loop-reached-smaller
loop-reached-smaller g c = omega (arith, c.in_ok-put.ensures.few, ap length c.in_ok-put.ensures.added, length_push c.loop-reached.found c.in-Some.reached)

pub loop-reached-preserved : goal.loop-reached-preserved
loop-reached-preserved g c =
    let word = two_links c.args.first c.args.second in
    rw (c.in_ok-put.ensures.added)
    (on_way-more g.K.Kind.kind (links_of c.args.links.now.rows) (links-nothing g.K.Kind.kind g.row.DIM c.args.links.now.rows c.see_sound.ensures.sound) c.see_sound.ensures.sound.back
    word word c.args.dart c.args.found.now word word c.loop-reached.at c.in-Some.reached c.loop-reached.found
    (sym c.number_through.ensures ∙ c.in-Some.ensures.some.0) c.in-Some.ensures.some.1 c.loop-reached.invariant)

pub returns : goal.returns
returns g c =
    let word = two_links c.args.first c.args.second in
    on_way-all g.K.Kind.kind (links_of c.args.links.now.rows) word word c.args.dart c.args.found.now word word c.loop-reached.at c.loop-reached.found
    (λ y leads dart. subst (Contains c.loop-reached.found) (c.number_through.ensures ∙ leads) (c.in_default.ensures.none (λ none. dart (sym leads ∙ sym c.number_through.ensures ∙ none)))) c.loop-reached.invariant
