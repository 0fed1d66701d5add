use Rattle.std.proofs.Common.{inl, inr}
use Rattle.machine_defs.specs.State.{State}
use Rattle.first_map.proofs.GoingBack.{gone-back}
use Rattle.first_map.proofs.show_cut.Goals as goal

pub returns : goal.returns
returns g c =
    let before : State = c.args.surface.now.state in
    let marked : State = c.mark.new.self.state in
    let cut : State = c.cut_left.new.surface.state in
    let after : State = c.undo.new.self.state in
    elim c.in_ok-mark.ensures.does [
      | inl refused ↦ absurd (let e = refused.1 in cc)
      | inr (free, set) ↦ elim c.in_ok-undo.ensures.does [
        | inl refused ↦ absurd (let e = refused.1 in cc)
        | inr (there, (k, mark, found, went)) ↦
            gone-back _ before marked cut after k mark free set.1 c.cut_left.ensures found went.1
      ]
    ]
