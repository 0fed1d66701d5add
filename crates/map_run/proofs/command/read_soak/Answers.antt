use Rattle.std.proofs.Common.{rules, codes, ◌≡◌, ◌≢◌, arith, refl}
use Rattle.std.proofs.lemmas.Bool.{true≢false}
use Rattle.machine_defs.specs.Program.{Soak}
use Rattle.map_run.specs.Commands.{kind_of}
use Rattle.map_run.proofs.Commands.{as_soak, not_soak, soak_unlettered, soak_unseeded, soak_uncounted}
use Rattle.map_run.proofs.command.read_soak.Goals as goal

pub returns-then-ne-clause-none : goal.returns-then-ne-clause-none
returns-then-ne-clause-none c =
    let differ : c.args.soak.now ≢ codes "soak" = search rules in
    (λ _. not_soak c.args.soak.now c.args.kind.now c.args.seed.now c.args.count.now differ, λ _. refl)

pub returns-in_err-kind-clause-none : goal.returns-in_err-kind-clause-none
returns-in_err-kind-clause-none c =
    let none = rw c.in_err-kind.was at c.read_kind.ensures in
    (λ _. soak_unlettered c.args.soak.now c.args.kind.now c.args.seed.now c.args.count.now none, λ _. rw c.from_residual.ensures refl)

pub returns-in_err-seed-clause-none : goal.returns-in_err-seed-clause-none
returns-in_err-seed-clause-none c =
    let none = rw c.in_err-seed.was at c.read_number.ensures in
    (λ _. soak_unseeded c.args.soak.now c.args.kind.now c.args.seed.now c.args.count.now none, λ _. rw c.from_residual-in_err-seed.ensures refl)

pub returns-in_err-count-clause-none : goal.returns-in_err-count-clause-none
returns-in_err-count-clause-none c =
    let none = rw c.in_err-count.was at c.read_number-2.ensures in
    (λ _. soak_uncounted c.args.soak.now c.args.kind.now c.args.seed.now c.args.count.now none, λ _. rw c.from_residual-in_err-count.ensures refl)

pub returns-clause-none : goal.returns-clause-none
returns-clause-none c =
    let lettered = rw c.in_ok-kind.was at c.read_kind.ensures in
    let seeded = rw c.in_ok-seed.was at c.read_number.ensures in
    let counted = rw c.in_ok-count.was at c.read_number-2.ensures in
    let soak : c.args.soak.now ≡ codes "soak" = search rules in
    let told = as_soak c.args.soak.now c.args.kind.now c.args.seed.now c.args.count.now (kind_of c.in_ok-kind.kind) c.in_ok-seed.seed c.in_ok-count.count
    soak lettered seeded.2 counted.2 (omega (arith, seeded.1)) counted.0 counted.1 in
    (λ e. absurd (true≢false e), λ nothing. absurd (nothing (Soak (kind_of c.in_ok-kind.kind) c.in_ok-seed.seed c.in_ok-count.count) told))

pub returns-clause-told : goal.returns-clause-told
returns-clause-told c =
    let lettered = rw c.in_ok-kind.was at c.read_kind.ensures in
    let seeded = rw c.in_ok-seed.was at c.read_number.ensures in
    let counted = rw c.in_ok-count.was at c.read_number-2.ensures in
    let soak : c.args.soak.now ≡ codes "soak" = search rules in
    as_soak c.args.soak.now c.args.kind.now c.args.seed.now c.args.count.now (kind_of c.in_ok-kind.kind) c.in_ok-seed.seed c.in_ok-count.count
    soak lettered seeded.2 counted.2 (omega (arith, seeded.1)) counted.0 counted.1
