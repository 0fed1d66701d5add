use Rattle.std.proofs.Common.{rules, codes, ◌≡◌, ◌≢◌, ◌≤◌, lit≤, refl}
use Rattle.std.proofs.lemmas.Bool.{true≢false}
use Rattle.machine_defs.specs.Program.{RunScript}
use Rattle.map_run.specs.Commands.{kind_of, number, mesh_name}
use Rattle.map_run.specs.declared.command.MapKind.{MapKind}
use Rattle.map_run.specs.declared.command.Dimension.{Dimension}
use Rattle.map_run.specs.declared.command.Dimension.TheVariants.{Two, Three, Four}
use Rattle.map_run.proofs.Commands.{as_told, not_run, not_lettered, not_numbered}
use Rattle.map_run.proofs.command.read_run.Goals as goal

low : (dimension : Dimension) → 2 ≤ number dimension
low Two = lit≤ tt
low Three = lit≤ tt
low Four = lit≤ tt

high : (dimension : Dimension) → number dimension ≤ 4
high Two = lit≤ tt
high Three = lit≤ tt
high Four = lit≤ tt

pub returns-then-ne-clause-none : goal.returns-then-ne-clause-none
returns-then-ne-clause-none c =
    let differ : c.args.run.now ≢ codes "run" = search rules in
    (λ _. not_run c.args.run.now c.args.kind.now c.args.dimension.now c.args.mesh.now c.args.script.now differ, λ _. refl)

pub returns-in_err-kind-clause-none : goal.returns-in_err-kind-clause-none
returns-in_err-kind-clause-none c =
    let none = rw c.in_err-kind.was at c.read_kind.ensures in
    (λ _. not_lettered c.args.run.now c.args.kind.now c.args.dimension.now c.args.mesh.now c.args.script.now none, λ _. rw c.from_residual.ensures refl)

pub returns-in_err-dimension-clause-none : goal.returns-in_err-dimension-clause-none
returns-in_err-dimension-clause-none c =
    let none = rw c.in_err-dimension.was at c.read_dimension.ensures in
    (λ _. not_numbered c.args.run.now c.args.kind.now c.args.dimension.now c.args.mesh.now c.args.script.now none, λ _. rw c.from_residual-in_err-dimension.ensures refl)

pub returns-clause-none : goal.returns-clause-none
returns-clause-none c =
    let k : MapKind = c.in_ok-kind.kind in
    let lettered = rw c.in_ok-kind.was at c.read_kind.ensures in
    let n : Dimension = c.in_ok-dimension.dimension in
    let is = rw c.in_ok-dimension.was at c.read_dimension.ensures in
    let run : c.args.run.now ≡ codes "run" = search rules in
    let told = as_told c.args.run.now c.args.kind.now c.args.dimension.now c.args.mesh.now c.args.script.now (kind_of k) (number n) (mesh_name c.read_mesh.result)
    run lettered c.read_mesh.ensures is (low n) (high n) in
    (λ e. absurd (true≢false e), λ nothing. absurd (nothing (RunScript (kind_of k) (number n) (mesh_name c.read_mesh.result) c.args.script.now) told))

pub returns-clause-told : goal.returns-clause-told
returns-clause-told c =
    let k : MapKind = c.in_ok-kind.kind in
    let lettered = rw c.in_ok-kind.was at c.read_kind.ensures in
    let n : Dimension = c.in_ok-dimension.dimension in
    let is = rw c.in_ok-dimension.was at c.read_dimension.ensures in
    let run : c.args.run.now ≡ codes "run" = search rules in
    as_told c.args.run.now c.args.kind.now c.args.dimension.now c.args.mesh.now c.args.script.now (kind_of k) (number n) (mesh_name c.read_mesh.result)
    run lettered c.read_mesh.ensures is (low n) (high n)
