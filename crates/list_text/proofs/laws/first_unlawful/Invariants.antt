use Rattle.std.proofs.Common.{take}
use Rattle.std.specs.Prelude.{All}
use Rattle.machine_defs.specs.ListingFaults.{IsLawful}
use Rattle.machine_defs.specs.Listing.{ListRow}
use Rattle.list_text.proofs.laws.first_unlawful.Given as goal

abbrev pub invariant-loop-place : goal.invariant-loop-place
invariant-loop-place g l = All (λ (row : ListRow). IsLawful g.K.Kind.kind l.rows row.dart) (take l.place l.rows)
