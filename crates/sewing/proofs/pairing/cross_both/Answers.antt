use Rattle.std.proofs.Common.{◌≡◌, ℕ, List, Bool, false, eqb, Contains, Decides, subst, ap, sym, ◌∙◌, Err, lit<}
use Rattle.std.proofs.lemmas.Result.{err_from_is_err_and, on_ok_weaker}
use Rattle.std.specs.List.{IsAnyAnswer}
use Rattle.std.proofs.lemmas.Bool.{eqb-true, eq-eqb, false≢true}
use Rattle.std.proofs.lemmas.List.Elements.{Decides-contains, contains_decides}
use Rattle.map_defs.specs.Rows.{links_of}
use Rattle.link_laws.proofs.Basics.{inverse_within}
use Rattle.sewing.specs.declared.pairing.PairFault.TheVariants.{Unpaired}
use Rattle.sewing.proofs.Exits.{handed_on}
use Rattle.sewing.proofs.PairWalks.{Contains-before, first-bad, both-known, both-then, both-bad}
use Rattle.sewing.proofs.pairing.cross_both.Goals as goal
use Rattle.sewing.proofs.pairing.cross_both.Goals.{then-back-link-via-then-back-link, then-back-link-via-else-back-link+then-contains}

pub returns-in_err-cross-clause-unpaired : goal.returns-in_err-cross-clause-unpaired
returns-in_err-cross-clause-unpaired g c = λ is.
    let p = err_from_is_err_and c.from_residual.result c.from_residual.ensures.1 in
    first-bad g.K.Kind.kind (links_of c.args.links.now.rows) (Contains c.args.set.now) c.args.link c.args.book.now
    (c.in_err-cross.ensures.unpaired (ap Err (handed_on c.from_residual.result c.in_err-cross.field-0.0 Unpaired p is)))

-- what `contains` tells
contains-known : (set : List ℕ) (x : ℕ) (r : Bool) → IsAnyAnswer (λ y b. eqb y x ≡ b) set r → Decides r (Contains set x)
contains-known set x r cases = Decides-contains set x r (contains_decides eqb (λ a b. (λ e. eqb-true a b e, λ e. eq-eqb a b e)) set x r cases)

contains-not : (set : List ℕ) (x : ℕ) (r : Bool) → IsAnyAnswer (λ y b. eqb y x ≡ b) set r → r ≡ false → Contains set x → ⊥
contains-not set x r cases not has = false≢true (sym not ∙ (contains-known set x r cases).1 has)

pub returns-then-back-link-clause-stepped : goal.returns-then-back-link-clause-stepped
returns-then-back-link-clause-stepped g c =
    both-known g.K.Kind.kind (links_of c.args.links.now.rows) (Contains c.args.set.now) c.args.link c.args.triple c.args.book.now c.cross.new.book (subst (Contains c.args.set.now) c.inverse-back.ensures known) c.in_ok-cross.ensures.stepped
  where
    known : Contains c.args.set.now c.inverse-back.result
    known = elim c.then-back-link.branch [
      | then-back-link-via-then-back-link w ↦ subst (Contains c.args.set.now) (sym w.if-back-link.true) c.requires.among
      | then-back-link-via-else-back-link+then-contains w ↦ (contains-known c.args.set.now c.inverse-back.result w.contains.result w.contains.ensures.cases).0 w.if-contains.true
    ]

pub cross-requires-2 : goal.cross-requires-2
cross-requires-2 g c =
    let step = c.in_ok-cross.ensures.stepped in (
      lit< tt,
      (
        rw c.inverse-back.ensures (inverse_within g.K.Kind.kind g.row.DIM c.args.link c.cross.ensures.low c.requires.link),
        (Contains-before c.args.book.now c.cross.new.book step.before c.args.triple c.requires.found, step.twofold),
      ),
    )

pub returns-clause-stepped : goal.returns-clause-stepped
returns-clause-stepped g c =
    on_ok_weaker c.cross-2.result
    (both-then g.K.Kind.kind (links_of c.args.links.now.rows) (Contains c.args.set.now) c.args.link c.args.triple c.args.book.now c.cross.new.book c.cross-2.new.book
    (rw c.inverse-back.ensures at (contains-not c.args.set.now c.inverse-back.result c.contains.result c.contains.ensures.cases c.if-contains.false)) c.in_ok-cross.ensures.stepped)
    (rw c.inverse-back.ensures at c.cross-2.ensures.stepped)

pub returns-clause-unpaired : goal.returns-clause-unpaired
returns-clause-unpaired g c = λ is.
    both-bad g.K.Kind.kind (links_of c.args.links.now.rows) (Contains c.args.set.now) c.args.link c.args.triple c.args.book.now c.cross.new.book
    (rw c.inverse-back.ensures at (contains-not c.args.set.now c.inverse-back.result c.contains.result c.contains.ensures.cases c.if-contains.false)) c.in_ok-cross.ensures.stepped
    ((rw c.inverse-back.ensures at c.cross-2.ensures.unpaired) is)
