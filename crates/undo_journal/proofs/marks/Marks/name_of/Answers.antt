use Rattle.std.proofs.Common.{◌≡◌, ◌∙◌, List, Some, map, slice_get, string_bytes, refl, sym, ap, subst, arith}
use Rattle.std.proofs.lemmas.Option.{slice_get_read}
use Rattle.trail_laws.specs.Trails.{Placed}
use Rattle.undo_journal.proofs.MarkFacts.{entry_name}
use Rattle.undo_journal.proofs.marks.Marks.name_of.Goals as goal

pub returns : goal.returns
returns c =
    let entries = c.self.inside.entries.items in
    let entry = c.in_ok-name.field-0.now in
    let lookup = rw c.deref.ensures.value at c.in_ok-name.ensures.lookup in
    let read : slice_get entries c.args.number ≡ Some entry = slice_get_read entries _ c.args.number entry refl lookup.3.0 lookup.1 in
    let named : c.as_str.result.now ≡ string_bytes entry.0 = grind (arith, c.as_str.ensures.value, c.in_ok-name.name-is) in
    let shown = subst (λ (ms : List Placed). slice_get (map (λ (m : Placed). m.name) ms) c.args.number ≡ Some (string_bytes entry.0)) c.self.view_is (entry_name entries c.args.number entry read) in
    record { name = ap Some named ∙ sym shown }
