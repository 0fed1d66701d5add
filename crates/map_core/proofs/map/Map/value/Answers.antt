use Rattle.std.proofs.Common.{◌≡◌, ℕ, inr, refl, ap, ◌∙◌, arith}
use Rattle.machine_defs.specs.State.{value_at}
use Rattle.machine_defs.specs.Text.{CellValue}
use Rattle.map_core.proofs.map.Map.value.Goals as goal

pub returns : goal.returns
returns g c =
    let within = rw (← c.self.view_is) at c.in_ok-dim.ensures.named.1 in
    let live = rw (← c.self.view_is) at c.in_ok-dart.ensures.1 in
    let is : c.value.result ≡ value_at c.self.inside.present.content c.args.dim c.args.dart =
    c.value.ensures ∙ ap (λ (i : ℕ). value_at c.self.inside.present.content i c.in_ok-dart.dart) c.in_ok-dim.ensures.named.0
    ∙ ap (λ (d : ℕ). value_at c.self.inside.present.content c.args.dim d) c.in_ok-dart.ensures.0 in
    rw (← c.self.view_is) (inr (λ out. omega (arith, within), inr (live, (ap CellValue is, refl))))
