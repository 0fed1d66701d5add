use Rattle.std.proofs.Common.{List, ◌≡◌, ℕ, refl, ap, ap₂, ◌∙◌, lit<}
use Rattle.machine_defs.specs.State.{Content}
use Rattle.machine_defs.specs.Difference.{Difference}
use Rattle.trail_laws.specs.Trails.{Ahead, Trail, IsLastAhead, forth}
use Rattle.trail_laws.proofs.UndoneNames.{one-ahead}
use Rattle.journal_laws.specs.Following.{all_put_forward}
use Rattle.map_core.proofs.GoingForth.{steps-lead-on, redo-refused, redo-obeyed, redo-traced}
use Rattle.map_core.proofs.Holdings.{held-same, held-forth}
use Rattle.map_core.proofs.Stepped.{traced-same}
use Rattle.map_core.proofs.map.Map.redo.Goals as goal
use Rattle.map_core.proofs.map.Map.redo.Goals.{in-Ok-forward, in-Err-forward}

pub put_forward-requires : goal.put_forward-requires
put_forward-requires g c =
    let t : Trail = c.self.inside.journal.trail in
    let ahead = c.in-Ok.ensures.ahead in
    (lit< tt, rw ahead.3 (steps-lead-on c.self.inside.present.content t c.self.invariant.traced c.see_order.ensures (g.H.Hook.hook c.self.inside.hook.now) c.args.name.now ahead.0 ahead.1 ahead.2))

pub returns-in-Err-clause-does : goal.returns-in-Err-clause-does
returns-in-Err-clause-does g c =
    let now : Content = c.self.inside.present.content in
    let t : Trail = c.self.inside.journal.trail in
    rw (c.in-Err.ensures.refused, ← c.self.view_is)
    (redo-refused now t c.self.invariant.traced c.see_order.ensures (g.H.Hook.hook c.self.inside.hook.now) c.args.name.now (c.in-Err.ensures.none.0 refl))

pub invariant_of-self : goal.invariant_of-self
invariant_of-self g c =
    let now : Content = c.self.inside.present.content in
    let t : Trail = c.self.inside.journal.trail in
    held-same (g.H.Hook.hook c.self.inside.hook.now) c.self.inside.present c.put_forward.new.self t t c.self.invariant c.put_forward.ensures.places refl c.in_err-put_forward-in-Ok.ensures.err
    (traced-same now c.put_forward.new.self.content t c.self.invariant.traced c.see_order.ensures t refl c.in_err-put_forward-in-Ok.ensures.err)

-- the undo that the journal took back is the one whose steps were put forward
gone-forth : (t u : Trail) (name : List ℕ) (others : List Ahead) (last : Ahead) → IsLastAhead t name others last
    → (befores : List Ahead) × (a : Ahead) × IsLastAhead t name befores a × (u ≡ forth t befores a) → u ≡ forth t others last
gone-forth t u name others last is (befores, a, one, gone) =
    let same = one-ahead t name name befores others a last one is in
    gone ∙ ap₂ (λ (us : List Ahead) (b : Ahead). forth t us b) same.0 same.1

pub invariant_of-self-2 : goal.invariant_of-self-2
invariant_of-self-2 g c =
    let now : Content = c.self.inside.present.content in
    let t : Trail = c.self.inside.journal.trail in
    let hook = g.H.Hook.hook c.self.inside.hook.now in
    let name = c.args.name.now in
    let ahead = c.in-Ok.ensures.ahead in
    let on = c.in_ok-put_forward-in-Ok.ensures.forward ∙ ap (λ (ss : List Difference). all_put_forward ss now) ahead.3 in
    elim c.match-forward.branch [
      | in-Ok-forward w ↦
          let gone = gone-forth t c.forward.new.self.trail name ahead.0 ahead.1 ahead.2 w.in-Ok-forward.ensures.forth in
          held-forth hook c.self.inside.present t c.self.invariant c.see_order.ensures name ahead.0 ahead.1 ahead.2 c.put_forward.new.self c.forward.new.self.trail on c.put_forward.ensures.places gone
          (redo-traced now t c.self.invariant.traced c.see_order.ensures hook name ahead.0 ahead.1 ahead.2 c.put_forward.new.self.content on c.forward.new.self.trail gone)
      | in-Err-forward w ↦ absurd (w.in-Err-forward.ensures.none.0 refl (ahead.0, ahead.1, ahead.2))
    ]

pub returns-clause-does : goal.returns-clause-does
returns-clause-does g c =
    let now : Content = c.self.inside.present.content in
    let t : Trail = c.self.inside.journal.trail in
    let hook = g.H.Hook.hook c.self.inside.hook.now in
    let name = c.args.name.now in
    let ahead = c.in-Ok.ensures.ahead in
    let on = c.in_ok-put_forward-in-Ok.ensures.forward ∙ ap (λ (ss : List Difference). all_put_forward ss now) ahead.3 in
    elim c.match-forward.branch [
      | in-Ok-forward w ↦
          let gone = gone-forth t c.forward.new.self.trail name ahead.0 ahead.1 ahead.2 w.in-Ok-forward.ensures.forth in
          rw (w.result-is, ← c.self.view_is)
          (redo-obeyed now t c.self.invariant.traced c.see_order.ensures hook name ahead.0 ahead.1 ahead.2 c.put_forward.new.self.content on c.forward.new.self.trail gone)
      | in-Err-forward w ↦ absurd (w.in-Err-forward.ensures.none.0 refl (ahead.0, ahead.1, ahead.2))
    ]
