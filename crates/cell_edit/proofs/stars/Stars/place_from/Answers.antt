use Rattle.std.proofs.Common.{ℕ, ◌≡◌, List, length, ◌<◌, slice_index, Contains, sym, ap, ◌∙◌, subst, eqb-true, arith}
use Rattle.std.proofs.lemmas.List.{get_or_default}
use Rattle.insert_laws.proofs.Paths.{held_is}
use Rattle.cell_edit.specs.Stars.{Stars}
use Rattle.cell_edit.proofs.StarNumbers.{rises}
use Rattle.cell_edit.proofs.stars.Stars.place_from.Goals as goal

pub unreachable-requires : goal.unreachable-requires
unreachable-requires c =
    let has : Contains c.args.self.now.keys c.args.dart = c.requires.key in
    let keys : length c.self.inside.darts.items ≡ length c.args.self.now.keys = ap (λ (s : Stars). length s.keys) c.self.view_is in
    let low : has.0 < c.loop-at.at = omega (arith, has.1, keys, c.len-at-end.ensures, c.loop-at-test.false) in
    c.loop-at.invariant has.0 low (held_is c.args.self.now.keys c.args.dart has)

pub returns-then-eq-clause-before : goal.returns-then-eq-clause-before
returns-then-eq-clause-before c = λ p before.
    let keys : List ℕ = c.self.inside.darts.items in
    let low : c.loop-at.at < length keys = omega (arith, c.len-at-end.ensures, c.loop-at-test.true) in
    let same : c.index.result.now ≡ c.args.dart = eqb-true c.index.result.now c.args.dart (sym c.eq.ensures ∙ c.if-eq.true) in
    let found : slice_index keys c.loop-at.at ≡ c.args.dart = sym (get_or_default keys c.loop-at.at c.index.result.now 0 low) ∙ sym c.index.ensures ∙ same in
    let less : slice_index keys p < slice_index keys c.loop-at.at = rises keys c.self.invariant.0 p c.loop-at.at before low in
    subst (λ (s : Stars). slice_index s.keys p < c.args.dart) c.self.view_is (omega (arith, less, found))
