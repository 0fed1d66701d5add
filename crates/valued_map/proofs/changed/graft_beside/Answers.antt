use Rattle.std.proofs.Common.{◌≡◌, ◌<◌, inl, inr, lit<, sym, subst, ◌∙◌, arith}
use Rattle.std.proofs.lemmas.Bool.{cases_eq}
use Rattle.map_defs.specs.Rows.{Rows}
use Rattle.store_defs.specs.Labelings.{Labeling}
use Rattle.valued_map.specs.Changing.{IsBeside}
use Rattle.valued_map.proofs.Joining.{grafts-then, beside-kept}
use Rattle.valued_map.proofs.changed.graft_beside.Goals as goal

pub join_older-requires : goal.join_older-requires
join_older-requires g c =
    let grafted = c.loop-number.invariant.1 in (
      lit< tt,
      (
        lit< tt,
        (
          c.requires.dim,
          (
            c.loop-number.invariant.0,
            (
              omega (arith, c.loop-number-test.true, c.requires.last, c.requires.long, grafted.made),
              ((grafted.places c.args.dim).1 c.requires.placed, (c.loop-number.invariant.2 c.loop-number.number (omega arith), c.requires.words)),
            ),
          ),
        ),
      ),
    )

pub returns-then-not-join_older-clause-beside : goal.returns-then-not-join_older-clause-beside
returns-then-not-join_older-clause-beside g c = λ x high low.
    let k = g.K.Kind.kind in
    let rows : Rows = c.args.links.now.rows in
    let same : c.join_older.new.labels ≡ c.loop-number.labels = c.join_older.ensures.none (c.if-not-join_older.true) in
    subst (λ (l : Labeling). IsBeside k c.args.dim rows c.args.older l x) (sym same) (c.loop-number.invariant.3 x high (let above = c.loop-number.invariant.0 in omega (arith, low, above)))

pub loop-number-preserved : goal.loop-number-preserved
loop-number-preserved g c =
    let k = g.K.Kind.kind in
    let rows : Rows = c.args.links.now.rows in
    let (high, grafted, bare, beside) = c.loop-number.invariant in (
      omega arith,
      grafts-then k rows c.args.older (λ i. i ≡ c.args.dim) c.args.labels.now c.loop-number.labels c.join_older.new.labels grafted c.join_older.ensures.grafted,
      λ d above. c.join_older.ensures.others c.args.dim d (λ same. omega (arith, same)) ∙ bare d (omega arith),
      λ x up low. elim (cases_eq x c.loop-number.number) [
        | inl same ↦ subst (IsBeside k c.args.dim rows c.args.older c.join_older.new.labels) (sym same) (c.join_older.ensures.beside c.if-not-join_older.false)
        | inr other ↦ beside-kept k c.args.dim rows c.args.older c.loop-number.labels c.join_older.new.labels x (c.join_older.ensures.others c.args.dim x other)
            (λ d under. c.join_older.ensures.others c.args.dim d (λ same. omega (arith, same, under, high))) (beside x up (omega arith))
      ],
    )
