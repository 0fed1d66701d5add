-- An undo gives back what stood when its mark was set.
use Rattle.std.proofs.Common.{◌≡◌, ℕ, zero, suc, List, [], ◌∷◌, ◌++◌, ap, ◌∙◌, subst}
use Rattle.machine_defs.specs.State.{State, Mark}
use Rattle.machine_defs.specs.Marking.{IsMark, HasMark, with_mark, back_to}

-- where no mark had the name, the one that was set last is the mark of that name
last-mark : (marks : List Mark) (last : Mark) → (HasMark marks last.name → ⊥) → (k : ℕ) (mark : Mark)
    → IsMark (marks ++ last ∷ []) last.name k mark → mark ≡ last
last-mark [] last free zero mark is = let e = is.there in cc
last-mark [] last free (suc k) mark is = absurd (let e = is.there in cc)
last-mark (m ∷ marks) last free zero mark is = absurd (free (0, mark, record { there = is.there; named = is.named }))
last-mark (m ∷ marks) last free (suc k) mark is =
    last-mark marks last (λ has. free (suc has.0, has.1, record { there = has.2.there; named = has.2.named })) k mark
    (record { there = is.there; named = is.named })

-- Where a mark is set, the marks stay, and an undo goes back to the mark of that name, it is that very mark.
pub gone-back : (name : List ℕ) (first marked later back : State) (k : ℕ) (mark : Mark)
    → (HasMark first.marks name → ⊥) → marked ≡ with_mark first name → later.marks ≡ marked.marks
    → IsMark later.marks name k mark → back ≡ back_to later k mark → back.present ≡ first.present
gone-back name first marked later back k mark free set same found went =
    let marks : later.marks ≡ first.marks ++ _ ∷ [] = same ∙ ap (λ (s : State). s.marks) set in
    let last = last-mark first.marks _ free k mark (subst (λ (ms : List Mark). IsMark ms name k mark) marks found) in
    ap (λ (s : State). s.present) went ∙ ap (λ (m : Mark). m.content) last
