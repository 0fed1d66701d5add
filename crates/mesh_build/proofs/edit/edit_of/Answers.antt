use Rattle.std.proofs.Common.{◌≡◌, ℕ, ◌++◌, List, sym, ap, ◌∙◌, arith}
use Rattle.map_defs.specs.Edits.{Change}
use Rattle.mesh_build.specs.Sides.{sides_view}
use Rattle.mesh_build.specs.EntriesView.{entries_view}
use Rattle.mesh_laws.specs.Sides.{kind_of}
use Rattle.mesh_laws.specs.SideLinks.{entry_changes}
use Rattle.mesh_build.proofs.DartChanges.{some-is, changes-more}
use Rattle.mesh_build.proofs.edit.edit_of.Goals as goal

pub loop-number-preserved : goal.loop-number-preserved
loop-number-preserved c =
    let n : ℕ = c.loop-number.number in
    let dart : c.unwrap.result ≡ n = some-is c.new.result c.unwrap.result n c.unwrap.ensures c.new.ensures.same in
    let its : List Change = entry_changes c.unwrap.result (entries_view c.dart_entries.result) in
    c.in_ok-push_changes.ensures ∙ (ap (λ (xs : List Change). xs ++ its) c.loop-number.invariant
    ∙ sym (changes-more (kind_of c.args.oriented) (sides_view c.args.sewn.now.sides) c.args.sewn.now.partners.items n c.unwrap.result (entries_view c.dart_entries.result)
    (omega arith) dart c.dart_entries.ensures))
