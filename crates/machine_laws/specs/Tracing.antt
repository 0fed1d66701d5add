-- The contents that a state keeps, in the order in which they came. Source: this project's.
use Rattle.std.specs.Prelude.{[], ◌∷◌, ◌++◌, List, All}
use Rattle.machine_defs.specs.State.{State, Content}
use Rattle.journal_laws.specs.Following.{AllFollow}

-- each of these contents follows the one before it, and this one the last of them
abbrev pub AreTracedTo : List Content → Content → Type 0
AreTracedTo past present = AllFollow (past ++ present ∷ [])

-- Each content that the state keeps, the present one last, follows the one before it; and so it was before each undo.
pub record AreTraced (s : State) : Type 0 where
  pub present : AreTracedTo s.past s.present
  pub undone : All (λ u. AreTracedTo u.past u.present) s.undone
