use Rattle.std.proofs.Common.{◌≡◌, ◌⊎◌, ◌↔◌, ◌<◌, List, ℕ, true, set, length, slice_index, Contains, sym, subst}
use Rattle.transport.specs.Wanted.{Wanted, IsMarked}
use Rattle.transport.proofs.Marking.{search_finds, none_marked, one_marked}
use Rattle.transport.proofs.wanted.Wanted.mark_one.Goals as goal

pub returns-in_default-clause-marks : goal.returns-in_default-clause-marks
returns-in_default-clause-marks c =
    let darts : List ℕ = c.self.inside.darts.items in
    let found = rw c.deref.ensures.value at c.binary_search.ensures.position in
    let none : Contains darts c.args.dart → ⊥ = rw c.in_default.is at (search_finds darts c.args.dart c.binary_search.result c.self.invariant.0 found) in
    none_marked c.args.self.now c.args.dart (λ has. none (subst (λ (w : Wanted). Contains w.darts c.args.dart) (sym c.self.view_is) has))

pub returns-clause-marks : goal.returns-clause-marks
returns-clause-marks c =
    let darts : List ℕ = c.self.inside.darts.items in
    let wanted : Wanted = record { darts = darts; marks = c.self.inside.found.items } in
    let found = rw c.deref.ensures.value at c.binary_search.ensures.position in
    let at : (c.in-Ok.place < length darts) × (slice_index darts c.in-Ok.place ≡ c.args.dart) = rw c.in-Ok.is at (search_finds darts c.args.dart c.binary_search.result c.self.invariant.0 found) in
    subst (λ (w : Wanted). (p : ℕ) → p < length w.darts → IsMarked (record { darts = darts; marks = set wanted.marks c.in-Ok.place true }) p ↔ (IsMarked w p ⊎ (c.args.dart ≡ slice_index w.darts p)))
    c.self.view_is (one_marked wanted c.args.dart c.in-Ok.place c.self.invariant.0 c.self.invariant.1 at.0 at.1)
