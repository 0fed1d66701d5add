use Rattle.std.proofs.Common.{ℕ, ◌≡◌, ◌+◌, ◌≤◌, ◌<◌, List, [], ◌∷◌, ◌++◌, length, take, slice_set, ◌∙◌, inl, inr, arith}
use Rattle.std.proofs.lemmas.List.{take_more_set, length-set}
use Rattle.map_defs.specs.Insertion.{IsPairing}
use Rattle.sewing.proofs.DistantPairs.{distant-skip, distant-push, distant-all}
use Rattle.link_laws.proofs.Basics.{same_or_not}
use Rattle.cell_edit.proofs.along.pairing_links.Goals as goal
use Rattle.cell_edit.proofs.along.pairing_links.Goals.{then-other-link-via-then-other-link, then-other-link-via-else-other-link+then-other-link-2}

-- neither the link itself nor one from the second above it
between : (link other : ℕ) → IsPairing link other → (other < link → ⊥) × (other ≡ link + 1 → ⊥)
between link other (inl own) = ((λ h. omega arith), λ e. omega arith)
between link other (inr high) = ((λ h. omega arith), λ e. omega arith)

pairing : (link other : ℕ) → link ≤ other → (other ≡ link + 1 → ⊥) → IsPairing link other
pairing link other low apart = elim (same_or_not other link) [ inl own ↦ inl own | inr n ↦ inr (omega arith) ]

pub loop-other-preserved-then-other-link : goal.loop-other-preserved-then-other-link
loop-other-preserved-then-other-link c = (
  distant-skip (IsPairing c.args.link) c.loop-other.other (take c.loop-other.count c.loop-other.pairing)
      (λ pairs. let apart = between c.args.link c.loop-other.other pairs in elim c.then-other-link.branch [
        | then-other-link-via-then-other-link w ↦ apart.0 w.if-other-link.true
        | then-other-link-via-else-other-link+then-other-link-2 w ↦ apart.1 w.if-other-link-2.true
      ])
      c.loop-other.invariant.0,
  omega (arith, c.loop-other.invariant.1),
  c.loop-other.invariant.2,
)

pub loop-other-preserved : goal.loop-other-preserved
loop-other-preserved c =
    let list : List ℕ = c.loop-other.pairing in
    let short : c.loop-other.count < length list = omega (arith, c.loop-other.invariant.1, c.loop-other.invariant.2) in
    let more : take (c.loop-other.count + 1) (slice_set list c.loop-other.count c.loop-other.other) ≡ take c.loop-other.count list ++ c.loop-other.other ∷ [] = take_more_set list c.loop-other.count c.loop-other.other short in (
      rw more (distant-push (IsPairing c.args.link) c.loop-other.other (take c.loop-other.count list) (pairing c.args.link c.loop-other.other c.if-other-link.false c.if-other-link-2.false) c.loop-other.invariant.0),
      omega (arith, c.loop-other.invariant.1),
      length-set list c.loop-other.count c.loop-other.other ∙ c.loop-other.invariant.2,
    )

pub returns-clause-pairing : goal.returns-clause-pairing
returns-clause-pairing c =
    distant-all (IsPairing c.args.link) c.args.dim c.loop-other.other (take c.loop-other.count c.loop-other.pairing) (omega arith) c.loop-other.invariant.0
