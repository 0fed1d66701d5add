use Rattle.std.proofs.Common.{◌≡◌, ℕ, ◌+◌, ◌<◌, List, [], ◌∷◌, ◌++◌, length, take, slice_set, sym, ◌∙◌, arith}
use Rattle.std.proofs.lemmas.Bool.{false≢true}
use Rattle.std.proofs.lemmas.List.{take_more_set, length-set}
use Rattle.map_defs.specs.Kind.{IsDistant}
use Rattle.sewing.proofs.DistantPairs.{distant-skip, distant-push, distant-all}
use Rattle.sewing.proofs.plans.distant_links.Goals as goal

pub loop-other-preserved-then-not-distant : goal.loop-other-preserved-then-not-distant
loop-other-preserved-then-not-distant g c = (
  distant-skip (IsDistant g.K.Kind.kind c.args.link) c.loop-other.other (take c.loop-other.count c.loop-other.distant) (λ far. false≢true (sym c.if-not-distant.true ∙ c.distant.ensures.1 far)) c.loop-other.invariant.0,
  omega (arith, c.loop-other.invariant.1),
  c.loop-other.invariant.2,
)

pub loop-other-preserved : goal.loop-other-preserved
loop-other-preserved g c =
    let list : List ℕ = c.loop-other.distant in
    let short : c.loop-other.count < length list = omega (arith, c.loop-other.invariant.1, c.loop-other.invariant.2) in
    let more : take (c.loop-other.count + 1) (slice_set list c.loop-other.count c.loop-other.other) ≡ take c.loop-other.count list ++ c.loop-other.other ∷ [] = take_more_set list c.loop-other.count c.loop-other.other short in (
      rw more (distant-push (IsDistant g.K.Kind.kind c.args.link) c.loop-other.other (take c.loop-other.count list) (c.distant.ensures.0 c.if-not-distant.false) c.loop-other.invariant.0),
      omega (arith, c.loop-other.invariant.1),
      length-set list c.loop-other.count c.loop-other.other ∙ c.loop-other.invariant.2,
    )

pub returns-clause-distant : goal.returns-clause-distant
returns-clause-distant g c =
    distant-all (IsDistant g.K.Kind.kind c.args.link) c.args.dim c.loop-other.other (take c.loop-other.count c.loop-other.distant) (omega arith) c.loop-other.invariant.0
