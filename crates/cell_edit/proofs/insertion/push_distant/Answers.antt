use Rattle.std.proofs.Common.{◌≡◌, ◌≢◌, slice_index, Contains, refl, sym, ◌∙◌, subst, arith}
use Rattle.std.proofs.lemmas.Bool.{false≢true}
use Rattle.map_defs.specs.Kind.{inverse, IsDistant}
use Rattle.link_laws.proofs.Basics.{IsDistant-inverse_right}
use Rattle.cell_edit.specs.Stars.{star_of}
use Rattle.cell_edit.proofs.CopyEntries.{distant-none, distant-skip, distant-more}
use Rattle.cell_edit.proofs.insertion.push_distant.Goals as goal

pub loop-at-init : goal.loop-at-init
loop-at-init g c = (
  λ L free. distant-none g.K.Kind.kind L c.args.link c.args.row.now (star_of c.args.stars.now) c.args.from c.args.new c.args.changes.now.items,
  refl,
  omega arith,
  omega arith,
  c.requires.from,
)

pub loop-at-preserved-then-not-distant : goal.loop-at-preserved-then-not-distant
loop-at-preserved-then-not-distant g c = (
  λ L free. distant-skip g.K.Kind.kind L c.args.link c.args.row.now (star_of c.args.stars.now) c.args.from c.args.new c.loop-at.at c.args.changes.now.items c.loop-at.changes.items
      (λ far. false≢true (sym c.if-not-distant.true ∙ c.distant.ensures.1 far)) (c.loop-at.invariant.0 L free),
  c.loop-at.invariant.1,
  omega (arith, c.loop-at.invariant.2),
  omega (arith, c.loop-at.invariant.3),
  omega (arith, c.loop-at-test.true),
)

pub push_copy-requires : goal.push_copy-requires
push_copy-requires g c =
    let read : c.entry.result ≡ slice_index c.args.row.now (inverse g.K.Kind.kind c.loop-at.at) = rw c.inverse.ensures at c.entry.ensures in
    let far : IsDistant g.K.Kind.kind c.args.link c.loop-at.at = c.distant.ensures.0 c.if-not-distant.false in
    let key : c.entry.result ≢ 0 → Contains c.args.stars.now.keys c.entry.result = λ some.
    subst (Contains c.args.stars.now.keys) (sym read)
    (c.requires.carried (inverse g.K.Kind.kind c.loop-at.at) (IsDistant-inverse_right g.K.Kind.kind c.args.link c.loop-at.at far) (λ none. some (read ∙ none))) in
    record {
      key = key;
      nothing = c.requires.nothing;
      room = omega (arith, c.loop-at-test.true, c.loop-at.invariant.1, c.loop-at.invariant.2, c.requires.room, c.requires.from);
    }

pub loop-at-preserved : goal.loop-at-preserved
loop-at-preserved g c =
    let read : c.entry.result ≡ slice_index c.args.row.now (inverse g.K.Kind.kind c.loop-at.at) = rw c.inverse.ensures at c.entry.ensures in
    let far : IsDistant g.K.Kind.kind c.args.link c.loop-at.at = c.distant.ensures.0 c.if-not-distant.false in (
      λ L free. distant-more g.K.Kind.kind L c.args.link c.args.row.now (star_of c.args.stars.now) c.args.from c.args.new c.loop-at.at c.args.changes.now.items c.loop-at.changes.items c.push_copy.new.changes.items
          far c.loop-at.invariant.3 (c.loop-at.invariant.0 L free) ((rw read at c.push_copy.ensures.copy) L (free c.loop-at.at)),
      c.push_copy.ensures.capacity ∙ c.loop-at.invariant.1,
      omega (arith, c.push_copy.ensures.few, c.loop-at.invariant.2),
      omega (arith, c.loop-at.invariant.3),
      omega (arith, c.loop-at-test.true),
    )

pub returns-clause-few : goal.returns-clause-few
returns-clause-few g c = omega (arith, c.loop-at.invariant.2, c.loop-at.invariant.4)

pub returns-clause-copies : goal.returns-clause-copies
returns-clause-copies g c = λ L free.
    let all : c.loop-at.at ≡ c.args.to = omega (arith, c.loop-at-test.false, c.loop-at.invariant.4) in
    rw all at (c.loop-at.invariant.0 L free)
