use Rattle.std.proofs.Common.{rules, ◌≡◌, ◌≢◌, List, [], ◌∷◌, codes, refl, ap}
use Rattle.std.proofs.lemmas.Bool.{true≢false}
use Rattle.machine_defs.specs.Program.{Audit, Half}
use Rattle.map_run.proofs.Commands.{not_of_listing}
use Rattle.map_run.proofs.command.read_of_listing.Goals as goal

pub returns-then-eq-clause-none : goal.returns-then-eq-clause-none
returns-then-eq-clause-none c =
    let is : c.args.word.now ≡ codes "audit" = search rules in
    (λ e. absurd (true≢false e), λ nothing. absurd (nothing (Audit c.args.listing.now) (tt, ap (λ (word : List _). word ∷ c.args.listing.now ∷ []) is)))

pub returns-then-eq-2-clause-none : goal.returns-then-eq-2-clause-none
returns-then-eq-2-clause-none c =
    let is : c.args.word.now ≡ codes "half" = search rules in
    (λ e. absurd (true≢false e), λ nothing. absurd (nothing (Half c.args.listing.now) (tt, ap (λ (word : List _). word ∷ c.args.listing.now ∷ []) is)))

pub returns-else-eq-2-clause-none : goal.returns-else-eq-2-clause-none
returns-else-eq-2-clause-none c =
    let no_audit : c.args.word.now ≢ codes "audit" = search rules in
    let no_half : c.args.word.now ≢ codes "half" = search rules in
    (λ _. not_of_listing c.args.word.now c.args.listing.now no_audit no_half, λ _. refl)
