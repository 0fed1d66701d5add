use Rattle.std.proofs.Common.{sym, ◌∙◌}
use Rattle.std.proofs.lemmas.Bool.{false≢true}
use Rattle.orient_half.proofs.LiveDartSteps.{live-past, live-more}
use Rattle.orient_half.proofs.doubling.push_live.Goals as goal

pub returns-then-not-is_live : goal.returns-then-not-is_live
returns-then-not-is_live g c =
    live-past c.args.links.now.rows c.args.dart c.args.darts.now.items c.requires.within
    (λ lives. false≢true (sym c.if-not-is_live.true ∙ c.is_live.ensures.live.1 lives)) c.requires.before

pub returns : goal.returns
returns g c =
    rw c.in_ok-push.ensures.items
    (live-more c.args.links.now.rows c.args.dart c.args.darts.now.items c.requires.within (c.is_live.ensures.live.0 c.if-not-is_live.false) c.requires.before)
