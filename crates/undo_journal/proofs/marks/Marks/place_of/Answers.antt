use Rattle.std.proofs.Common.{◌≡◌, ◌<◌, List, Some, map, length, slice_get, refl, sym, subst, arith}
use Rattle.std.proofs.lemmas.Option.{slice_get_read}
use Rattle.trail_laws.specs.Trails.{Placed}
use Rattle.undo_journal.proofs.MarkFacts.{entry_place, as_many}
use Rattle.undo_journal.proofs.marks.Marks.place_of.Goals as goal

pub returns : goal.returns
returns c =
    let entries = c.self.inside.entries.items in
    let within = subst (λ (ms : List Placed). c.args.number < length ms) (sym c.self.view_is) c.requires in
    let read : slice_get entries c.args.number ≡ Some c.index.result.now =
    slice_get_read entries _ c.args.number c.index.result.now refl (omega (arith, within, as_many entries)) c.index.ensures in
    record {
      place = subst (λ (ms : List Placed). slice_get (map (λ (m : Placed). m.place) ms) c.args.number ≡ Some c.index.result.now.1) c.self.view_is (entry_place entries c.args.number c.index.result.now read);
    }
