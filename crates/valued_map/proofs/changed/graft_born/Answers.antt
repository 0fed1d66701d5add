use Rattle.std.proofs.Common.{◌≡◌, ◌+◌, ◌<◌, ◌≤◌, lit<, ◌∙◌, arith}
use Rattle.map_defs.specs.Rows.{Rows}
use Rattle.label_laws.specs.Touching.{IsJoinedApart}
use Rattle.valued_map.proofs.Adding.{added-none, added-told}
use Rattle.valued_map.proofs.Joining.{grafts-none, grafts-then, born-more}
use Rattle.valued_map.proofs.changed.graft_born.Goals as goal

pub graft-requires : goal.graft-requires
graft-requires g c =
    let grafted = c.loop-number.invariant.1 in (
      lit< tt,
      (
        lit< tt,
        (
          c.requires.sound,
          (
            c.requires.dim,
            (
              omega (arith, c.loop-number-test.true, c.requires.last, c.requires.long, grafted.made),
              ((grafted.places c.args.dim).1 c.requires.placed, (c.loop-number.invariant.3, c.requires.words)),
            ),
          ),
        ),
      ),
    )

pub loop-number-init : goal.loop-number-init
loop-number-init g c = (
  omega arith,
  grafts-none g.K.Kind.kind c.args.links.now.rows c.args.older (λ i. i ≡ c.args.dim) c.args.labels.now,
  added-none c.args.links.now.rows (λ x. (x < c.args.older + 1) × IsJoinedApart g.K.Kind.kind c.args.dim c.args.links.now.rows c.args.older c.args.labels.now x) c.args.touched.now.items
      (λ x w live. (let (below, (lives, high, rest)) = w in omega (arith, below, high))),
  λ d high. c.requires.bare d (omega arith),
)

pub loop-number-preserved : goal.loop-number-preserved
loop-number-preserved g c =
    let k = g.K.Kind.kind in
    let rows : Rows = c.args.links.now.rows in
    let (high, grafted, added, bare) = c.loop-number.invariant in (
      omega arith,
      grafts-then k rows c.args.older (λ i. i ≡ c.args.dim) c.args.labels.now c.loop-number.labels c.graft.new.labels grafted (c.graft.ensures.grafted c.args.older high),
      born-more k c.args.dim rows c.args.older c.loop-number.labels c.graft.new.labels c.loop-number.number c.graft.ensures.others
          c.args.touched.now.items c.loop-number.touched.items c.graft.new.touched.items added c.in_ok-graft.ensures.added,
      λ d above. c.graft.ensures.others c.args.dim d (λ same. omega (arith, same)) ∙ bare d (omega arith),
    )

pub returns-in_err-graft-clause-grafted : goal.returns-in_err-graft-clause-grafted
returns-in_err-graft-clause-grafted g c =
    grafts-then g.K.Kind.kind c.args.links.now.rows c.args.older (λ i. i ≡ c.args.dim) c.args.labels.now c.loop-number.labels c.graft.new.labels c.loop-number.invariant.1
    (c.graft.ensures.grafted c.args.older c.loop-number.invariant.0)

pub returns-clause-grafted : goal.returns-clause-grafted
returns-clause-grafted g c = c.loop-number.invariant.1

pub returns-clause-added : goal.returns-clause-added
returns-clause-added g c =
    let k = g.K.Kind.kind in
    let rows : Rows = c.args.links.now.rows in
    added-told rows (λ x. (x < c.loop-number.number) × IsJoinedApart k c.args.dim rows c.args.older c.loop-number.labels x)
    (λ x. (x ≤ c.args.last) × IsJoinedApart k c.args.dim rows c.args.older c.loop-number.labels x)
    c.args.touched.now.items c.loop-number.touched.items
    (λ x (low, apart) live. (omega (arith, low, c.loop-number-test.false), apart)) c.loop-number.invariant.2
