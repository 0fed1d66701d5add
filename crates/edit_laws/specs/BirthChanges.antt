-- The changes that link new darts by links 0 and 1.
use Rattle.std.specs.Prelude.{ℕ, ◌+◌, List, [], ◌∷◌, slice_index}
use Rattle.map_defs.specs.Edits.{Change}

-- links 0 and 1 of new darts, which are numbered on from d and are to have these rows
abbrev pub birth_changes : ℕ → List (List ℕ) → List Change
birth_changes d [] = []
birth_changes d (row ∷ rows) =
    record { dart = d; link = 0; old = 0; new = slice_index row 0 }
    ∷ record { dart = d; link = 1; old = 0; new = slice_index row 1 } ∷ birth_changes (d + 1) rows
