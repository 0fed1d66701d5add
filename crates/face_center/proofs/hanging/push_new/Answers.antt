use Rattle.std.proofs.Common.{◌≡◌, ◌+◌, refl, ◌∙◌, arith}
use Rattle.face_center.proofs.HungPushes.{link-pushes}
use Rattle.face_center.proofs.hanging.push_new.Goals as goal

pub loop-at-init : goal.loop-at-init
loop-at-init g c = (λ a done. done, refl, omega arith, omega arith, omega (arith, c.see_sound.ensures.low))

pub push_link-requires : goal.push_link-requires
push_link-requires g c =
    omega (arith, c.loop-at-test.true, c.loop-at.invariant.1, c.loop-at.invariant.2, c.push_low.ensures.capacity, c.push_low.ensures.few, c.requires.room)

pub push_link-requires-in-loop-at : goal.push_link-requires-in-loop-at
push_link-requires-in-loop-at g c =
    omega (arith, c.loop-at-test.true, c.loop-at.invariant.1, c.loop-at.invariant.2, c.push_low.ensures.capacity, c.push_low.ensures.few, c.push_link.ensures.capacity, c.push_link.ensures.few, c.requires.room)

pub loop-at-preserved : goal.loop-at-preserved
loop-at-preserved g c = (
  λ a done. link-pushes g.K.Kind.kind c.args.links.now.rows c.args.hanging c.args.stars.now c.requires.can c.args.dart c.requires.key c.args.edge.now.begin c.args.edge.now.end c.requires.begin c.requires.end
      c.loop-at.at c.high_links-begin_link.result.0 c.high_links-begin_link.result.1 a c.loop-at.changes.items c.push_link.new.changes.items c.push_link-in-loop-at.new.changes.items
      c.high_links-begin_link.ensures.begin c.high_links-begin_link.ensures.end (c.loop-at.invariant.0 a done) c.push_link.ensures.entry c.push_link-in-loop-at.ensures.entry,
  c.push_link-in-loop-at.ensures.capacity ∙ c.push_link.ensures.capacity ∙ c.loop-at.invariant.1,
  omega (arith, c.push_link-in-loop-at.ensures.few, c.push_link.ensures.few, c.loop-at.invariant.2),
  omega (arith, c.loop-at.invariant.3),
  omega (arith, c.loop-at-test.true),
)

pub returns-clause-few : goal.returns-clause-few
returns-clause-few g c = omega (arith, c.loop-at.invariant.2, c.loop-at.invariant.4, c.push_low.ensures.few)

pub returns-clause-entries : goal.returns-clause-entries
returns-clause-entries g c =
    let all : c.loop-at.at ≡ g.row.DIM + 1 = omega (arith, c.loop-at-test.false, c.loop-at.invariant.4) in
    rw all at (c.loop-at.invariant.0 c.args.changes.now.items c.push_low.ensures.entries)
