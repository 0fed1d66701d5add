use Rattle.std.proofs.Common.{arith, refl, ap, sym, subst, ◌∙◌, lit<}
use Rattle.machine_defs.specs.State.{Content, State}
use Rattle.trail_laws.specs.Trails.{Trail}
use Rattle.trail_laws.specs.Told.{told, IsTraced}
use Rattle.trail_laws.proofs.Noting.{told-begun, traced-begun}
use Rattle.machine_laws.proofs.KnownRules.{points-known}
use Rattle.map_core.proofs.Holdings.{held-begun, held-same}
use Rattle.map_core.proofs.map.Map.load_links.Goals as goal

pub load_links-requires : goal.load_links-requires
load_links-requires g c = (lit< tt, (lit< tt, (ap (λ (s : State). s.present) (rw (← c.self.view_is) at c.requires.new), (c.requires.laws, (c.requires.members, (c.requires.ascending, c.requires.cells))))))

pub invariant_of-self : goal.invariant_of-self
invariant_of-self g c =
    let t : Trail = c.self.inside.journal.trail in
    held-same (g.H.Hook.hook c.self.inside.hook.now) c.self.inside.present c.load_links.new.self t t c.self.invariant (omega (arith, c.in_err-load_links.ensures.places)) refl c.in_err-load_links.ensures.err
    (subst (λ (content : Content). IsTraced content t) (sym c.in_err-load_links.ensures.err) c.self.invariant.traced)

pub invariant_of-self-2 : goal.invariant_of-self-2
invariant_of-self-2 g c =
    held-begun (g.H.Hook.hook c.self.inside.hook.now) c.load_links.new.self c.new.result.trail c.new.ensures.trail
    (subst (λ (t : Trail). IsTraced c.load_links.new.self.content t) (sym c.new.ensures.trail) (traced-begun c.load_links.new.self.content c.in_ok-load_links.ensures.loaded.kept))
    (points-known (g.H.Hook.hook c.self.inside.hook.now) g.row.DIM c.load_links.new.self.content c.in_ok-load_links.ensures.loaded.rules)

pub returns-clause-loaded : goal.returns-clause-loaded
returns-clause-loaded g c =
    (c.load_links.new.self.content, c.in_ok-load_links.ensures.loaded, ap (told c.load_links.new.self.content) c.new.ensures.trail ∙ told-begun c.load_links.new.self.content)
