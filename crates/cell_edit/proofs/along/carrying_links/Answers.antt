use Rattle.std.proofs.Common.{inl, inr, refl, arith}
use Rattle.map_defs.specs.Insertion.{IsCarrying}
use Rattle.std.proofs.lemmas.Bool.{false≢true}
use Rattle.sewing.proofs.DistantPairs.{distant-skip, distant-push, distant-all}
use Rattle.cell_edit.proofs.along.carrying_links.Goals as goal
use Rattle.cell_edit.proofs.along.carrying_links.Goals.{else-other-link-via-then-other-link+else-not-distant, else-other-link-via-else-other-link}

pub loop-other-preserved-then-not-distant : goal.loop-other-preserved-then-not-distant
loop-other-preserved-then-not-distant g c =
    distant-skip (IsCarrying g.K.Kind.kind c.args.link) c.loop-other.other c.loop-other.carrying.items
    (λ carries. elim carries [ inl own ↦ c.if-other-link.true own | inr far ↦ false≢true (c.if-not-distant.ensures.1 far) ])
    c.loop-other.invariant

pub loop-other-preserved : goal.loop-other-preserved
loop-other-preserved g c =
    let carries : IsCarrying g.K.Kind.kind c.args.link c.loop-other.other = elim c.else-other-link.branch [
      | else-other-link-via-then-other-link+else-not-distant w ↦ inr (w.if-not-distant.ensures.0 refl)
      | else-other-link-via-else-other-link w ↦ inl w.if-other-link.false
    ] in
    rw c.in_ok-push.ensures.items
    (distant-push (IsCarrying g.K.Kind.kind c.args.link) c.loop-other.other c.loop-other.carrying.items carries c.loop-other.invariant)

pub returns : goal.returns
returns g c = distant-all (IsCarrying g.K.Kind.kind c.args.link) c.args.dim c.loop-other.other c.loop-other.carrying.items (omega arith) c.loop-other.invariant
