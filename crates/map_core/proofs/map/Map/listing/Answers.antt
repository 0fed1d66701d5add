use Rattle.std.proofs.Common.{◌≡◌, ◌∙◌, refl, sym, ap}
use Rattle.std.proofs.lemmas.Result.{IfOk-weaker}
use Rattle.machine_defs.specs.State.{Content}
use Rattle.machine_defs.specs.Listing.{names_of, listing_with}
use Rattle.machine_defs.specs.Text.{Shown}
use Rattle.trail_laws.specs.Trails.{Trail}
use Rattle.trail_laws.specs.Told.{told}
use Rattle.map_core.proofs.Marks.{told-names}
use Rattle.map_core.proofs.map.Map.listing.Goals as goal

pub returns : goal.returns
returns g c =
    let now : Content = c.self.inside.present.content in
    let t : Trail = c.self.inside.journal.trail in
    let names : c.in_ok-marks.marks.items ≡ names_of (told now t).marks = c.in_ok-marks.ensures ∙ sym (told-names now t) in
    rw (← c.self.view_is) (IfOk-weaker c.listing.result _ _ (λ listing is. (is.0, is.1, ap Shown (is.2 ∙ ap (listing_with now is.0) names), refl)) c.listing.ensures)
