use Rattle.std.proofs.Common.{◌≡◌, take}
use Rattle.std.specs.Prelude.{All}
use Rattle.machine_defs.specs.ListingFaults.{IsValueOf, listing_meant}
use Rattle.list_text.specs.Views.{told_view}
use Rattle.list_text.proofs.values.values_meant.Given as goal

abbrev pub invariant-loop-place : goal.invariant-loop-place
invariant-loop-place l = (l.values.items ≡ take l.place l.told.values.items) × All (IsValueOf (listing_meant (told_view l.told))) (take l.place l.told.values.items)
