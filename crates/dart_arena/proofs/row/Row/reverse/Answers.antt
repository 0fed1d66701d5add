use Rattle.std.proofs.Common.{◌≡◌, ℕ, ◌+◌, ◌-◌, List, length, get_or, reverse, sym, ap, ◌∙◌, arith}
use Rattle.std.proofs.lemmas.List.{ext_get_or, get_or-reverse, length-reverse}
use Rattle.dart_arena.proofs.row.Row.reverse.Goals as goal

pub returns : goal.returns
returns g c =
    let old : List ℕ = c.args.self.now in
    let new : List ℕ = c.loop-link.turned in
    let long = c.loop-link.invariant.0 in
    let wide : length old ≡ g.row.DIM + 1 = c.width-link-end.ensures.long in
    ext_get_or 0 new (reverse old) (long ∙ sym wide ∙ sym (length-reverse old))
    (λ i h.
    let place : length old - 1 - i ≡ g.row.DIM - i = omega arith in
    c.loop-link.invariant.1 i (omega (arith, c.width-link-end.ensures.width)) ∙ sym (ap (λ (j : ℕ). get_or old j 0) place) ∙ sym (get_or-reverse old i 0 (omega arith)))
