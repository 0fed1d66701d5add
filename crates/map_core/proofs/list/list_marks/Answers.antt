use Rattle.std.proofs.Common.{◌≡◌, ◌∙◌, ℕ, ◌<◌, List, [], Some, length, slice_get, option_map, sym, ap, refl}
use Rattle.std.proofs.lemmas.List.{take_more}
use Rattle.std.proofs.lemmas.Option.{slice_get_within, get_or_from_slice_get}
use Rattle.trail_laws.specs.Trails.{mark_names}
use Rattle.map_core.proofs.list.list_marks.Goals as goal

pub loop-place-preserved : goal.loop-place-preserved
loop-place-preserved c =
    let names : List (List ℕ) = mark_names c.args.journal.now.trail in
    let place : ℕ = c.loop-place.place in
    let name : List ℕ = c.unwrap-name.result.now in
    let named : slice_get names place ≡ Some name = sym c.mark_name.ensures.name ∙ ap (option_map (λ n. n.now)) c.unwrap-name.ensures in
    let within : place < length names = slice_get_within names place name named in
    rw (c.in_ok-push.ensures.items, c.loop-place.invariant, c.new.ensures, take_more names place [] within, get_or_from_slice_get names place name [] named) refl
