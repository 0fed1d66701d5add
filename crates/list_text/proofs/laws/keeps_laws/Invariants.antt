use Rattle.std.proofs.Common.{ℕ, ◌<◌, ◌≢◌}
use Rattle.machine_defs.specs.ListingFaults.{links_in, KeepsLaws}
use Rattle.list_text.proofs.laws.keeps_laws.Given as goal

abbrev pub invariant-loop-link : goal.invariant-loop-link
invariant-loop-link g l = (i : ℕ) → i < l.link → links_in l.table i l.dart ≢ 0 → KeepsLaws g.K.Kind.kind l.table i l.dart (links_in l.table i l.dart)
