use Rattle.std.proofs.Common.{List, ◌+◌, sym, ap, subst, IsSome, ◌∙◌}
use Rattle.std.proofs.lemmas.Bool.{false≢true}
use Rattle.half_defs.specs.Orientation.{Sign}
use Rattle.orient_half.specs.Marks.{sign_of}
use Rattle.orient_half.specs.SignLists.{IsListed}
use Rattle.orient_half.proofs.ReachedSigns.{listed-skip, listed-push}
use Rattle.orient_half.proofs.orienting.push_sign.Goals as goal

pub returns-in_default : goal.returns-in_default
returns-in_default c =
    listed-skip c.args.search.now.marks.items c.args.dart c.args.signs.now.items
    (λ reached. false≢true (subst IsSome (sym c.mark_if_any.ensures ∙ c.in_default.is) reached)) c.requires

pub returns : goal.returns
returns c =
    subst (λ (signs : List Sign). IsListed c.args.search.now.marks.items (c.args.dart + 1) signs) (sym c.in_ok-push.ensures.items)
    (listed-push c.args.search.now.marks.items c.args.dart c.in-Some.reached.positive c.args.signs.now.items (ap sign_of (sym c.mark_if_any.ensures ∙ c.in-Some.is)) c.requires)
