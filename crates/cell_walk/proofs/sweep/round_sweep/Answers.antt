use Rattle.std.proofs.Common.{◌≡◌, refl, ap, rules}
use Rattle.cell_walk.specs.declared.ways.Way.{Way}
use Rattle.cell_walk.proofs.OnWays.{link-is, along-alike}
use Rattle.cell_walk.proofs.sweep.round_sweep.Goals as goal

pub returns-then-is_along_links-2 : goal.returns-then-is_along_links-2
returns-then-is_along_links-2 g c =
    let forth = c.is_along_links.ensures.0 c.if-is_along_links.true in
    let back = c.is_along_links-then-is_along_links.ensures.0 c.if-is_along_links-2.true in
    along-alike g.K.Kind.kind c.args.words.now _ _ _ _ c.args.ways.now
    (link-is c.args.ways.now.forth.next _ (ap (λ (w : Way). w.next.first) c.forth.view_is) forth.0)
    (link-is c.args.ways.now.forth.after _ (ap (λ (w : Way). w.after.first) c.forth.view_is) forth.1)
    (link-is c.args.ways.now.back.next _ (ap (λ (w : Way). w.next.first) c.back.view_is) back.0)
    (link-is c.args.ways.now.back.after _ (ap (λ (w : Way). w.after.first) c.back.view_is) back.1)
    c.requires

pub returns-then-eq-2 : goal.returns-then-eq-2
returns-then-eq-2 g c =
    let forth : c.args.ways.now.forth.next ≡ c.args.ways.now.forth.after = search rules in
    let back : c.args.ways.now.back.next ≡ c.args.ways.now.back.after = search rules in
    along-alike g.K.Kind.kind c.args.words.now c.args.ways.now.forth.next c.args.ways.now.forth.next c.args.ways.now.back.next c.args.ways.now.back.next c.args.ways.now
    refl forth refl back c.requires
