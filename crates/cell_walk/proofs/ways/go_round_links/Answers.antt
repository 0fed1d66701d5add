use Rattle.std.proofs.Common.{ℕ, ◌≤◌, List, Contains, refl, sym, ap, subst, inl, inr, arith}
use Rattle.std.proofs.lemmas.List.Elements.{Contains-push}
use Rattle.std.proofs.lemmas.Result.{on_ok_weaker}
use Rattle.map_defs.specs.Rows.{links_of}
use Rattle.cell_walk.specs.declared.ways.Way.{Way}
use Rattle.cell_walk.specs.Ways.{IsFollowed}
use Rattle.cell_walk.proofs.OnWays.{followed-links, gone-round, round-before}
use Rattle.cell_walk.proofs.Walks.{Contains-before}
use Rattle.cell_walk.proofs.ways.go_round_links.Goals as goal

pub follow_links-requires : goal.follow_links-requires
follow_links-requires g c = (
  omega arith,
  (
    subst (λ (n : ℕ). n ≤ g.row.DIM) (ap (λ (w : Way). w.next.first) (sym c.forth.view_is)) (c.requires.within c.args.ways.now.forth.next (inl refl)).0,
    (
      subst (λ (n : ℕ). n ≤ g.row.DIM) (ap (λ (w : Way). w.after.first) (sym c.forth.view_is)) (c.requires.within c.args.ways.now.forth.after c.requires.turns.forth).0,
      subst (λ (xs : List ℕ). Contains xs c.args.dart) (sym c.in_ok-put.ensures.added) (Contains-push c.args.found.now c.args.dart),
    ),
  ),
)

pub follow_links-requires-2 : goal.follow_links-requires-2
follow_links-requires-2 g c = (
  omega arith,
  (
    subst (λ (n : ℕ). n ≤ g.row.DIM) (ap (λ (w : Way). w.next.first) (sym c.back.view_is)) (c.requires.within c.args.ways.now.back.next (inr refl)).0,
    (
      subst (λ (n : ℕ). n ≤ g.row.DIM) (ap (λ (w : Way). w.after.first) (sym c.back.view_is)) (c.requires.within c.args.ways.now.back.after c.requires.turns.back).0,
      Contains-before c.put.new.self c.follow_links.new.found c.in_ok-follow_links.ensures.before c.args.dart
          (subst (λ (xs : List ℕ). Contains xs c.args.dart) (sym c.in_ok-put.ensures.added) (Contains-push c.args.found.now c.args.dart)),
    ),
  ),
)

pub returns-clause-members : goal.returns-clause-members
returns-clause-members g c = on_ok_weaker c.follow_links-2.result
    (λ step. gone-round g.K.Kind.kind (links_of c.args.links.now.rows) c.args.ways.now.forth.next c.args.ways.now.forth.after c.args.ways.now.back.next c.args.ways.now.back.after
    c.args.dart c.args.found.now c.follow_links.new.found c.follow_links-2.new.found c.requires.turns c.requires.closed
    (subst (λ (xs : List ℕ). IsFollowed g.K.Kind.kind (links_of c.args.links.now.rows) c.args.ways.now.forth.next c.args.ways.now.forth.after c.args.dart xs c.follow_links.new.found) c.in_ok-put.ensures.added
    (followed-links g.K.Kind.kind (links_of c.args.links.now.rows) c.args.ways.now.forth _ _ c.args.dart c.put.new.self c.follow_links.new.found
    (ap (λ (w : Way). w.next.first) c.forth.view_is) (ap (λ (w : Way). w.after.first) c.forth.view_is) c.requires.forth c.in_ok-follow_links.ensures))
    (followed-links g.K.Kind.kind (links_of c.args.links.now.rows) c.args.ways.now.back _ _ c.args.dart c.follow_links.new.found c.follow_links-2.new.found
    (ap (λ (w : Way). w.next.first) c.back.view_is) (ap (λ (w : Way). w.after.first) c.back.view_is) c.requires.back step))
    c.follow_links-2.ensures

pub returns-clause-before : goal.returns-clause-before
returns-clause-before g c = on_ok_weaker c.follow_links-2.result
    (λ step. round-before c.args.dart c.args.found.now c.follow_links.new.found c.follow_links-2.new.found
    (subst (λ (xs : List ℕ). IsFollowed g.K.Kind.kind (links_of c.args.links.now.rows) c.args.ways.now.forth.next c.args.ways.now.forth.after c.args.dart xs c.follow_links.new.found) c.in_ok-put.ensures.added
    (followed-links g.K.Kind.kind (links_of c.args.links.now.rows) c.args.ways.now.forth _ _ c.args.dart c.put.new.self c.follow_links.new.found
    (ap (λ (w : Way). w.next.first) c.forth.view_is) (ap (λ (w : Way). w.after.first) c.forth.view_is) c.requires.forth c.in_ok-follow_links.ensures)).before
    step.before)
    c.follow_links-2.ensures
