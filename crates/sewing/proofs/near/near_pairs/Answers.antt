use Rattle.std.proofs.Common.{◌≡◌, ◌≢◌, ℕ, [], ◌∷◌, Contains, refl, sym, ◌∙◌, Result, Ok, Err, IfOk, OnOk, rules, subst, arith}
use Rattle.std.proofs.lemmas.Bool.{false≢true}
use Rattle.std.proofs.lemmas.Result.{IfOk-weaker}
use Rattle.map_defs.specs.Kind.{inverse}
use Rattle.map_defs.specs.Rows.{links_of}
use Rattle.map_defs.specs.Pairs.{seed}
use Rattle.sewing.specs.Triples.{Triple}
use Rattle.sewing.specs.PairSteps.{turn, OrInverse, IsStepped}
use Rattle.sewing.proofs.BookPlaces.{apart-two}
use Rattle.sewing.proofs.WaysBack.{step-one, step-no-link, near-members, near-good, near-bad}
use Rattle.sewing.proofs.near.near_pairs.Goals as goal

-- what follows from two facts of each answer
answered_good : {T E G : Type 0} {P Q : T → Type 0} (r : Result T E) → ((x : T) → P x → Q x → G) → IfOk r P → IfOk r Q → OnOk r G
answered_good (Ok x) good p q = good x p q
answered_good (Err e) good p q = p

pub returns-then-is_loop-clause-unpaired : goal.returns-then-is_loop-clause-unpaired
returns-then-is_loop-clause-unpaired g c = λ _ good.
    let loops = c.is_loop.ensures.0 c.if-is_loop.true in
    good.moves c.args.seed.x c.args.seed.y c.args.seed.t (seed (0, omega arith, refl)) loops.1 loops.0

pub returns-in-Some-clause-members : goal.returns-in-Some-clause-members
returns-in-Some-clause-members g c =
    let moves : inverse g.K.Kind.kind c.args.seed.t ≡ c.args.seed.t → c.args.seed.x ≢ c.args.seed.y = λ own same. false≢true (sym c.if-is_loop.false ∙ c.is_loop.ensures.1 (same, own)) in
    let there : Contains c.args.set.now c.in-Some.link.now = search rules in
    IfOk-weaker c.pairs_across.result _ _
    (λ pairs step. near-members g.K.Kind.kind g.row.DIM c.args.links.now.rows c.requires.sound (Contains c.args.set.now) c.requires.back c.args.seed moves _
    (step-one g.K.Kind.kind (links_of c.args.links.now.rows) (Contains c.args.set.now) c.in-Some.link.now c.args.seed _ _ c.requires.back there step))
    c.pairs_across.ensures.stepped

pub returns-in-Some-clause-good : goal.returns-in-Some-clause-good
returns-in-Some-clause-good g c =
    let moves : inverse g.K.Kind.kind c.args.seed.t ≡ c.args.seed.t → c.args.seed.x ≢ c.args.seed.y = λ own same. false≢true (sym c.if-is_loop.false ∙ c.is_loop.ensures.1 (same, own)) in
    let there : Contains c.args.set.now c.in-Some.link.now = search rules in
    answered_good c.pairs_across.result
    (λ pairs step apart. near-good g.K.Kind.kind g.row.DIM c.args.links.now.rows c.requires.sound (Contains c.args.set.now) c.requires.back c.args.seed moves _ apart
    (step-one g.K.Kind.kind (links_of c.args.links.now.rows) (Contains c.args.set.now) c.in-Some.link.now c.args.seed _ _ c.requires.back there step))
    c.pairs_across.ensures.stepped c.pairs_across.ensures.apart

pub returns-in-Some-clause-unpaired : goal.returns-in-Some-clause-unpaired
returns-in-Some-clause-unpaired g c = λ is.
    let moves : inverse g.K.Kind.kind c.args.seed.t ≡ c.args.seed.t → c.args.seed.x ≢ c.args.seed.y = λ own same. false≢true (sym c.if-is_loop.false ∙ c.is_loop.ensures.1 (same, own)) in
    let there : Contains c.args.set.now c.in-Some.link.now = search rules in
    near-bad g.K.Kind.kind g.row.DIM c.args.links.now.rows c.requires.sound (Contains c.args.set.now) c.requires.back c.args.seed moves c.in-Some.link.now there (c.pairs_across.ensures.unpaired is)

pub returns-in-None-clause-members : goal.returns-in-None-clause-members
returns-in-None-clause-members g c =
    let moves : inverse g.K.Kind.kind c.args.seed.t ≡ c.args.seed.t → c.args.seed.x ≢ c.args.seed.y = λ own same. false≢true (sym c.if-is_loop.false ∙ c.is_loop.ensures.1 (same, own)) in
    let free : (j : ℕ) → Contains c.args.set.now j → ⊥ = search rules in
    near-members g.K.Kind.kind g.row.DIM c.args.links.now.rows c.requires.sound (Contains c.args.set.now) c.requires.back c.args.seed moves (c.args.seed ∷ c.turned.result ∷ [])
    (subst (λ (q : Triple). IsStepped g.K.Kind.kind (links_of c.args.links.now.rows) (OrInverse g.K.Kind.kind (Contains c.args.set.now)) c.args.seed (c.args.seed ∷ turn g.K.Kind.kind c.args.seed ∷ []) (c.args.seed ∷ q ∷ []))
    (sym c.turned.ensures) (step-no-link g.K.Kind.kind (links_of c.args.links.now.rows) (Contains c.args.set.now) c.args.seed moves free))

pub returns-in-None-clause-good : goal.returns-in-None-clause-good
returns-in-None-clause-good g c =
    let moves : inverse g.K.Kind.kind c.args.seed.t ≡ c.args.seed.t → c.args.seed.x ≢ c.args.seed.y = λ own same. false≢true (sym c.if-is_loop.false ∙ c.is_loop.ensures.1 (same, own)) in
    let free : (j : ℕ) → Contains c.args.set.now j → ⊥ = search rules in
    near-good g.K.Kind.kind g.row.DIM c.args.links.now.rows c.requires.sound (Contains c.args.set.now) c.requires.back c.args.seed moves _ (apart-two g.K.Kind.kind c.args.seed moves)
    (step-no-link g.K.Kind.kind (links_of c.args.links.now.rows) (Contains c.args.set.now) c.args.seed moves free)
