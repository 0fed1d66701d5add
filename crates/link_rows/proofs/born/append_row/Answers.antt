use Rattle.std.proofs.Common.{◌≡◌, ◌+◌, ◌++◌, ℕ, List, [], ◌∷◌, get_or, drop, ap, sym, ◌∙◌, arith, append_assoc, append-nil}
use Rattle.std.proofs.lemmas.List.{drop_all, drop_more}
use Rattle.map_defs.specs.Edits.{Change}
use Rattle.dart_arena.specs.RowChanges.{row_changes}
use Rattle.link_rows.proofs.BornChanges.{row-none, row-some}
use Rattle.link_rows.proofs.born.append_row.Goals.{then-new-ne0+in_ok-push, else-new-ne0}
use Rattle.link_rows.proofs.born.append_row.Goals as goal

pub loop-link-preserved : goal.loop-link-preserved
loop-link-preserved c =
    let links : List ℕ = c.args.links.now in
    let link : ℕ = c.loop-link.link in
    let dart : ℕ = c.args.dart in
    let y : ℕ = get_or links link 0 in
    let before : List Change = c.loop-link.changes.items in
    let behind : List Change = row_changes dart (link + 1) (drop (link + 1) links) in
    let here : row_changes dart link (drop link links) ≡ row_changes dart link (y ∷ drop (link + 1) links) =
    ap (row_changes dart link) (drop_more links link 0 c.loop-link-test.true) in
    elim c.if-new-ne0.branch [
      | then-new-ne0+in_ok-push w ↦
          let one : List Change = record { dart = dart; link = link; old = 0; new = y } ∷ [] in
          let items : c.if-new-ne0.changes.items ≡ before ++ one =
          ap (λ v. v.items) w.changes-is ∙ w.in_ok-push.ensures.items ∙ ap (λ (b : Change). before ++ b ∷ []) w.new.ensures in
          ap (λ (cs : List Change). cs ++ behind) items
          ∙ append_assoc before one behind
          ∙ ap (λ (cs : List Change). before ++ cs) (sym (here ∙ row-some dart link y (drop (link + 1) links) w.if-new-ne0.true))
          ∙ c.loop-link.invariant
      | else-new-ne0 w ↦
          ap (λ v. v.items ++ behind) w.changes-is
          ∙ ap (λ (cs : List Change). before ++ cs) (sym (here ∙ row-none dart link y (drop (link + 1) links) w.if-new-ne0.false))
          ∙ c.loop-link.invariant
    ]

pub returns : goal.returns
returns c =
    let links : List ℕ = c.args.links.now in
    let before : List Change = c.loop-link.changes.items in
    let none : drop c.loop-link.link links ≡ [] = drop_all c.loop-link.link links (omega (arith, c.loop-link-test.false)) in
    sym (append-nil before)
    ∙ sym (ap (λ (ys : List ℕ). before ++ row_changes c.args.dart c.loop-link.link ys) none)
    ∙ c.loop-link.invariant
