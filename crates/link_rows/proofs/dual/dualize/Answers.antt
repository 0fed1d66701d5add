use Rattle.std.proofs.Common.{◌≡◌, ℕ, ◌+◌, Option, Some, ◌∙◌, subst, arith}
use Rattle.std.specs.Prelude.{IfSome}
use Rattle.map_defs.specs.Rows.{Rows, made, links_of}
use Rattle.link_rows.proofs.Exchanges.{same-on}
use Rattle.link_rows.proofs.TurnedDarts.{AreTurnedTo, turned-step, all-turned}
use Rattle.link_rows.proofs.dual.dualize.Goals as goal

some-is : (o : Option ℕ) (m n : ℕ) → o ≡ Some m → IfSome o (λ dart. dart ≡ n) → m ≡ n
some-is o m n e h = subst (λ (p : Option ℕ). IfSome p (λ dart. dart ≡ n)) e h

pub loop-number-preserved : goal.loop-number-preserved
loop-number-preserved g c =
    let n : ℕ = g.row.DIM in
    let old : Rows = c.args.rows.now.rows in
    let rows : Rows = c.loop-number.rows.rows in
    let kept = c.loop-number.invariant in
    let dart : c.unwrap.result ≡ c.loop-number.number + 1 = some-is c.new.result c.unwrap.result (c.loop-number.number + 1) c.unwrap.ensures c.new.ensures.same in (
      turned-step n old rows c.turn_dart.new.rows.rows c.loop-number.number c.requires.low c.requires.laws c.requires.dualable kept.0
          (rw dart at c.turn_dart.ensures.turned) (rw dart at c.turn_dart.ensures.same),
      same-on n old rows c.turn_dart.new.rows.rows kept.1 c.turn_dart.ensures.darts,
      c.turn_dart.ensures.spare ∙ kept.2,
      c.turn_dart.ensures.room ∙ kept.3,
    )

pub returns-clause-links : goal.returns-clause-links
returns-clause-links g c =
    let n : ℕ = g.row.DIM in
    let old : Rows = c.args.rows.now.rows in
    let last : c.loop-number.number ≡ made old = omega (arith, c.made-number-end.ensures.made) in
    all-turned n old (links_of c.loop-number.rows.rows) (subst (λ (k : ℕ). AreTurnedTo n k (links_of old) (links_of c.loop-number.rows.rows)) last c.loop-number.invariant.0)
