use Rattle.std.proofs.Common.{◌≡◌, ◌≢◌, ◌↔◌, ℕ, [], ◌∷◌, true, false, refl, sym, ap, ◌∙◌, arith}
use Rattle.std.proofs.lemmas.Bool.{false≢true}
use Rattle.std.proofs.lemmas.Result.{IfOk-weaker}
use Rattle.map_defs.specs.Kind.{inverse}
use Rattle.map_defs.specs.Rows.{links_of}
use Rattle.sewing.specs.Triples.{Triple}
use Rattle.sewing.specs.PairSteps.{turn}
use Rattle.sewing.proofs.PairWalks.{stepped-linked, linked-bad, stepped-free, uneven-bad}
use Rattle.sewing.proofs.WaysBack.{two-twofold}
use Rattle.sewing.proofs.near.pairs_across.Goals as goal
use Rattle.sewing.proofs.near.pairs_across.Goals.{in_default-via-in-Some+in_default, in_default-via-in-None+in_default}

-- a link that is not free leads to a dart
there : (x l : ℕ) → x ≡ l → (l ≡ 0 → true ≡ false) → x ≢ 0
there x l is some none = false≢true (sym (some (sym is ∙ none)))

pub returns-in-Some-Some-clause-stepped : goal.returns-in-Some-Some-clause-stepped
returns-in-Some-Some-clause-stepped g c =
    let at_x = rw (ap (λ (q : Triple). q.x) c.seed.view_is) at c.in-Some-Some.ensures.linked in
    let at_y = rw (c.inverse.ensures, ap (λ (q : Triple). q.y) c.seed.view_is) at c.in-Some-Some.ensures'.linked in
    let at_t = rw (ap (λ (q : Triple). q.t) c.seed.view_is) at c.inverse-in-Some-Some.ensures in
    IfOk-weaker c.pairs_beside.result _ _
    (λ pairs. stepped-linked g.K.Kind.kind (links_of c.args.links.now.rows) c.args.link c.args.seed (record { x = c.in-Some-Some.x; y = c.in-Some-Some.y; t = c.inverse-in-Some-Some.result })
    (c.args.seed ∷ turn g.K.Kind.kind c.args.seed ∷ []) _ at_x at_y at_t
    (there c.in-Some-Some.x (links_of c.args.links.now.rows c.args.link c.seed.inside.x) c.in-Some-Some.ensures.linked c.in-Some-Some.ensures.free.1)
    (there c.in-Some-Some.y (links_of c.args.links.now.rows c.inverse.result c.seed.inside.y) c.in-Some-Some.ensures'.linked c.in-Some-Some.ensures'.free.1)
    (0, omega arith, refl) (two-twofold g.K.Kind.kind c.args.seed c.requires.moves))
    c.pairs_beside.ensures.added

pub returns-in-Some-Some-clause-unpaired : goal.returns-in-Some-Some-clause-unpaired
returns-in-Some-Some-clause-unpaired g c = λ is.
    let at_x = rw (ap (λ (q : Triple). q.x) c.seed.view_is) at c.in-Some-Some.ensures.linked in
    let at_y = rw (c.inverse.ensures, ap (λ (q : Triple). q.y) c.seed.view_is) at c.in-Some-Some.ensures'.linked in
    let at_t = rw (ap (λ (q : Triple). q.t) c.seed.view_is) at c.inverse-in-Some-Some.ensures in
    linked-bad g.K.Kind.kind (links_of c.args.links.now.rows) c.args.link c.args.seed (record { x = c.in-Some-Some.x; y = c.in-Some-Some.y; t = c.inverse-in-Some-Some.result })
    (c.args.seed ∷ turn g.K.Kind.kind c.args.seed ∷ []) at_x at_y at_t
    (there c.in-Some-Some.x (links_of c.args.links.now.rows c.args.link c.seed.inside.x) c.in-Some-Some.ensures.linked c.in-Some-Some.ensures.free.1)
    (there c.in-Some-Some.y (links_of c.args.links.now.rows c.inverse.result c.seed.inside.y) c.in-Some-Some.ensures'.linked c.in-Some-Some.ensures'.free.1)
    (0, omega arith, refl) (two-twofold g.K.Kind.kind c.args.seed c.requires.moves) (c.pairs_beside.ensures.unpaired is)

pub returns-in-None-None-clause-stepped : goal.returns-in-None-None-clause-stepped
returns-in-None-None-clause-stepped g c =
    let at_x = rw (ap (λ (q : Triple). q.x) c.seed.view_is) at (c.link.ensures.free.0 (rw c.in-None-None.is-0 refl)) in
    let at_y = rw (c.inverse.ensures, ap (λ (q : Triple). q.y) c.seed.view_is) at (c.in-None-None.ensures.free.0 refl) in
    rw c.turned.ensures
    (stepped-free g.K.Kind.kind (links_of c.args.links.now.rows) c.args.link c.args.seed (c.args.seed ∷ turn g.K.Kind.kind c.args.seed ∷ []) at_x at_y
    (two-twofold g.K.Kind.kind c.args.seed c.requires.moves))

pub returns-in_default-clause-unpaired : goal.returns-in_default-clause-unpaired
returns-in_default-clause-unpaired g c = λ _.
    uneven-bad g.K.Kind.kind (links_of c.args.links.now.rows) c.args.link c.args.seed (c.args.seed ∷ turn g.K.Kind.kind c.args.seed ∷ []) (0, omega arith, refl) uneven
  where
    uneven : ((links_of c.args.links.now.rows c.args.link c.args.seed.x ≡ 0) ↔ (links_of c.args.links.now.rows (inverse g.K.Kind.kind c.args.link) c.args.seed.y ≡ 0)) → ⊥
    uneven even = elim c.in_default.branch [
      | in_default-via-in-Some+in_default w ↦
          let some_x = rw (ap (λ (q : Triple). q.x) c.seed.view_is) at w.in_default.ensures.free.1 in
          let at_y = rw (c.inverse.ensures, ap (λ (q : Triple). q.y) c.seed.view_is) at (w.in_default.ensures'.free.0 refl) in
          false≢true (sym (some_x (even.1 at_y)))
      | in_default-via-in-None+in_default w ↦
          let at_x = rw (ap (λ (q : Triple). q.x) c.seed.view_is) at (c.link.ensures.free.0 (rw w.in_default.is-0 refl)) in
          let some_y = rw (c.inverse.ensures, ap (λ (q : Triple). q.y) c.seed.view_is) at w.in_default.ensures.free.1 in
          false≢true (sym (some_y (even.0 at_x)))
    ]
