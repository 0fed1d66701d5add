-- A redo gives back what the undo before it took.
use Rattle.std.proofs.Common.{◌≡◌, List, ℕ, sym, ap, ◌∙◌, inl, inr}
use Rattle.map_defs.specs.Values.{Hook}
use Rattle.machine_defs.specs.State.{State, Undone}
use Rattle.machine_defs.specs.Marking.{undone_to, forth_to}
use Rattle.machine_defs.specs.Script as says
use Rattle.machine_defs.specs.Text.{Reply, Done}
use Rattle.machine_defs.specs.Machine.{Step}
use Rattle.machine_laws.proofs.Marked.{last-one}

pub gives-back : (hook : Hook) (s mid new : State) (name : List ℕ) (reply : Reply) → Step hook s (says.Undo name) (Done 0 0) mid
    → Step hook mid (says.Redo name) reply new → (reply ≡ Done 0 0) × (new ≡ s)
gives-back hook s mid new name reply (inl refused) redo = absurd (let e = refused.1 in cc)
gives-back hook s mid new name reply (inr (has, (k, mark, is, told))) (inl refused) =
    absurd (refused.0 (s.undone, undone_to s mark, record { there = ap (λ (m : State). m.undone) told.1; named = is.named }))
gives-back hook s mid new name reply (inr (has, (k, mark, is, told))) (inr (can, (others, last, there, given))) =
    let same = last-one others s.undone last (undone_to s mark) (sym there.there ∙ ap (λ (m : State). m.undone) told.1) in
    (given.0, given.1 ∙ ap (λ (us : List Undone). forth_to us last) same.0 ∙ ap (forth_to s.undone) same.1)
