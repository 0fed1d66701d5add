use Rattle.std.proofs.Common.{◌≡◌, ap, sym, ◌∙◌, subst, arith}
use Rattle.machine_defs.specs.Listing.{ListRow, Listing}
use Rattle.row_laws.specs.Rows.{Ascend, IsMadeRow}
use Rattle.list_text.proofs.SpreadRows.{dart-here}
use Rattle.list_text.proofs.UnlistedDarts.{passed-none, passed-more, passed-all}
use Rattle.list_text.proofs.links.unlisted_darts.Goals as goal

pub loop-row-init : goal.loop-row-init
loop-row-init c =
    let is : c.as_slice-rows.result.now ≡ c.args.listing.now.rows = c.as_slice-rows.ensures.value ∙ ap (λ (l : Listing). l.rows) c.listing.view_is in
    rw (is, c.new-darts.ensures.items) (passed-none c.args.listing.now.dim c.args.listing.now.made c.args.listing.now.rows c.requires.rows.each)

pub push_darts-requires-clause-order : goal.push_darts-requires-clause-order
push_darts-requires-clause-order c =
    let number : c.number-dart.result ≡ c.row-item.result.dart = c.number-dart.ensures.same ∙ ap (λ (r : ListRow). r.dart) c.row.view_is in
    let dart = dart-here c.as_slice-rows.result.now c.loop-row.row-index c.row-item.result c.loop-row-test.true c.row-item.is in
    let least = c.loop-row.invariant.ahead c.loop-row.row-index (omega arith) c.loop-row-test.true in
    omega (arith, number, dart, least)

pub loop-row-preserved : goal.loop-row-preserved
loop-row-preserved c =
    let is : c.as_slice-rows.result.now ≡ c.args.listing.now.rows = c.as_slice-rows.ensures.value ∙ ap (λ (l : Listing). l.rows) c.listing.view_is in
    let number : c.number-dart.result ≡ c.row-item.result.dart = c.number-dart.ensures.same ∙ ap (λ (r : ListRow). r.dart) c.row.view_is in
    let dart = dart-here c.as_slice-rows.result.now c.loop-row.row-index c.row-item.result c.loop-row-test.true c.row-item.is in
    let within : IsMadeRow c.args.listing.now.made c.row-item.result =
    subst (IsMadeRow c.args.listing.now.made) (sym (rw is at c.row-item.is)) (c.requires.within c.loop-row.row-index c.row-item.result (rw is at c.loop-row-test.true)) in
    let up : Ascend c.as_slice-rows.result.now = subst Ascend (sym is) c.requires.rows.ascending in
    rw c.in_ok-push_darts.ensures
    (passed-more c.args.listing.now.made c.as_slice-rows.result.now c.loop-row.row-index c.loop-row.next c.number-dart.result c.loop-row.darts.items up c.loop-row-test.true
    (dart ∙ sym number) (omega (arith, number, within)) c.loop-row.invariant)

pub returns : goal.returns
returns c =
    let is : c.as_slice-rows.result.now ≡ c.args.listing.now.rows = c.as_slice-rows.ensures.value ∙ ap (λ (l : Listing). l.rows) c.listing.view_is in
    let made : c.listing.inside.made ≡ c.args.listing.now.made = ap (λ (l : Listing). l.made) c.listing.view_is in
    rw (c.in_ok-push_darts-2.ensures, made)
    (rw is at (passed-all c.args.listing.now.made c.as_slice-rows.result.now c.loop-row.row-index c.loop-row.next c.loop-row.darts.items c.loop-row-test.false c.loop-row.invariant))
