use Rattle.std.proofs.Common.{◌≡◌, ℕ, ◌+◌, ◌-◌, suc, zero, ap, arith, ◌∙◌}
use Rattle.map_soak.proofs.ObeyedFacts.{begun-more, begun-all}
use Rattle.map_soak.proofs.squares.obey_squares.Goals as goal

pub loop-preserved : goal.loop-preserved
loop-preserved g c =
    let (hooks, few, begun) = c.loop.invariant in
    let hook = g.H.Hook.hook c.args.map.now.hook in
    let k = g.K.Kind.kind in
    let left : ℕ = c.args.count - (c.loop.counter + 1) in
    let more : c.args.count - c.loop.counter ≡ suc left = omega (arith, c.loop-test.true) in
    let so_far = rw more at begun in
    let same : g.H.Hook.hook c.loop.map.hook ≡ hook = ap (λ h. g.H.Hook.hook h) hooks in (
      c.obey_square.ensures.hook ∙ hooks,
      omega (arith, few, c.obey_square.ensures.few),
      rw (c.in_ok-first.ensures.first, c.in_ok-first.ensures.drawn)
          (begun-more hook (g.H.Hook.hook c.loop.map.hook) k c.args.draws.number c.args.count c.args.map.now.state c.args.tally.now c.loop.before c.loop.draws.number left c.loop.map.state c.obey_square.new.map.state
          c.loop.tally c.obey_square.new.tally so_far same c.in_ok-first.ensures.obeyed),
    )

pub returns : goal.returns
returns g c =
    let (hooks, few, begun) = c.loop.invariant in
    let done : c.args.count - c.loop.counter ≡ zero = omega (arith, c.loop-test.false) in
    record {
      obeyed = begun-all (g.H.Hook.hook c.args.map.now.hook) g.K.Kind.kind c.args.draws.number c.args.count c.args.map.now.state c.args.tally.now c.loop.before c.loop.draws.number c.loop.map.state
          c.loop.tally (rw done at begun);
    }
