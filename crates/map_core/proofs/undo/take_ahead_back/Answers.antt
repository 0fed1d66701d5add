use Rattle.std.proofs.Common.{◌∙◌, List, ap}
use Rattle.std.proofs.lemmas.Result.{on_ok_weaker}
use Rattle.machine_defs.specs.State.{Content}
use Rattle.machine_defs.specs.Difference.{Difference}
use Rattle.journal_laws.specs.Following.{all_taken_back}
use Rattle.map_core.proofs.undo.take_ahead_back.Goals as goal

pub returns-clause-back : goal.returns-clause-back
returns-clause-back g c =
    let now : Content = c.args.present.now.content in
    let ahead = c.in-Ok.ensures.ahead in
    on_ok_weaker c.take_back.result
    (λ back. (ahead.0, ahead.1, ahead.2, back ∙ ap (λ (ss : List Difference). all_taken_back ss now) ahead.3))
    c.take_back.ensures.back
