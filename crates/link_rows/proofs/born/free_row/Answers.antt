use Rattle.std.proofs.Common.{◌≡◌, ◌+◌, ◌-◌, ℕ, List, get_or, drop, ap, sym, ◌∙◌, arith}
use Rattle.std.proofs.lemmas.List.{drop_more}
use Rattle.map_defs.specs.Edits.{Change, unlinked}
use Rattle.dart_arena.specs.RowChanges.{row_changes}
use Rattle.link_rows.proofs.BornChanges.{row-none}
use Rattle.link_rows.proofs.born.free_row.Goals as goal

pub loop-link-preserved : goal.loop-link-preserved
loop-link-preserved g c =
    let links : List ℕ = c.args.links.now in
    let link : ℕ = c.loop-link.link - 1 in
    let dart : ℕ = c.args.dart in
    let y : ℕ = get_or links link 0 in
    let one : c.loop-link.link ≡ link + 1 = omega (arith, c.loop-link-test.true) in
    let here : row_changes dart link (drop link links) ≡ row_changes dart (link + 1) (drop (link + 1) links) =
    ap (row_changes dart link) (drop_more links link 0 (omega (arith, c.loop-link.auto.link, c.loop-link-test.true)))
    ∙ row-none dart link y (drop (link + 1) links) c.if-links-link-ne0.false in
    let kept = c.loop-link.invariant in (
      kept.0 ∙ ap (λ (m : ℕ). unlinked (row_changes dart m (drop m links)) c.args.rows.now.rows) one
          ∙ ap (λ (cs : List Change). unlinked cs c.args.rows.now.rows) (sym here),
      kept.1,
      kept.2,
    )
