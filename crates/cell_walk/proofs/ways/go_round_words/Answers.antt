use Rattle.std.proofs.Common.{ℕ, List, Contains, refl, sym, subst, inl, inr, arith}
use Rattle.std.proofs.lemmas.List.Elements.{Contains-push}
use Rattle.std.proofs.lemmas.Result.{on_ok_weaker}
use Rattle.map_defs.specs.Rows.{links_of}
use Rattle.cell_walk.proofs.OnWays.{gone-round, round-before}
use Rattle.cell_walk.proofs.Walks.{Contains-before}
use Rattle.cell_walk.proofs.ways.go_round_words.Goals as goal

pub follow_way-requires : goal.follow_way-requires
follow_way-requires g c = (
  omega arith,
  (
    c.requires.within c.args.ways.now.forth.next (inl refl),
    (
      c.requires.within c.args.ways.now.forth.after c.requires.turns.forth,
      subst (λ (xs : List ℕ). Contains xs c.args.dart) (sym c.in_ok-put.ensures.added) (Contains-push c.args.found.now c.args.dart),
    ),
  ),
)

pub follow_way-requires-2 : goal.follow_way-requires-2
follow_way-requires-2 g c = (
  omega arith,
  (
    c.requires.within c.args.ways.now.back.next (inr refl),
    (
      c.requires.within c.args.ways.now.back.after c.requires.turns.back,
      Contains-before c.put.new.self c.follow_way.new.found c.in_ok-follow_way.ensures.before c.args.dart
          (subst (λ (xs : List ℕ). Contains xs c.args.dart) (sym c.in_ok-put.ensures.added) (Contains-push c.args.found.now c.args.dart)),
    ),
  ),
)

pub returns-clause-members : goal.returns-clause-members
returns-clause-members g c = on_ok_weaker c.follow_way-2.result
    (gone-round g.K.Kind.kind (links_of c.args.links.now.rows) c.args.ways.now.forth.next c.args.ways.now.forth.after c.args.ways.now.back.next c.args.ways.now.back.after
    c.args.dart c.args.found.now c.follow_way.new.found c.follow_way-2.new.found c.requires.turns c.requires.closed
    (rw c.in_ok-put.ensures.added at c.in_ok-follow_way.ensures))
    c.follow_way-2.ensures

pub returns-clause-before : goal.returns-clause-before
returns-clause-before g c = on_ok_weaker c.follow_way-2.result
    (λ step. round-before c.args.dart c.args.found.now c.follow_way.new.found c.follow_way-2.new.found
    (rw c.in_ok-put.ensures.added at c.in_ok-follow_way.ensures).before step.before)
    c.follow_way-2.ensures
