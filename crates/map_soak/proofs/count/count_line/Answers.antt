use Rattle.std.proofs.Common.{rules, ◌≡◌, Result, Err, [], ◌∷◌, refl, subst, arith}
use Rattle.map_kind.specs.declared.done.Done.{Done}
use Rattle.map_kind.specs.declared.refusal.Refused.{Refused}
use Rattle.map_kind.specs.declared.refusal.Refused.TheVariants as why
use Rattle.map_kind.specs.Refusals.{meaning}
use Rattle.machine_defs.specs.Text as text
use Rattle.map_core.specs.Calls.{Does}
use Rattle.map_soak.proofs.count.count_line.Goals as goal

pub returns-in-Ok-clause-obeyed : goal.returns-in-Ok-clause-obeyed
returns-in-Ok-clause-obeyed c = λ hook s line new does.
    let reply : text.Reply = text.Done c.in-Ok.field-0.first c.in-Ok.field-0.count in
    let told = subst (λ (r : Result Done Refused). Does hook s line r new) c.in-Ok.is does in
    (reply ∷ [], (reply, [], new, told, (refl, refl), refl), (refl, refl))

pub returns-in-Err-Line-clause-obeyed : goal.returns-in-Err-Line-clause-obeyed
returns-in-Err-Line-clause-obeyed c = λ hook s line new does.
    let reply : text.Reply = text.Refused (meaning c.in-Err-Line.field-0-0) in
    let is : c.args.done ≡ Err (why.Line c.in-Err-Line.field-0-0) = search rules in
    let told = subst (λ (r : Result Done Refused). Does hook s line r new) is does in
    (reply ∷ [], (reply, [], new, told, (refl, refl), refl), (refl, omega arith))
