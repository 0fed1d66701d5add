-- What the plan of a closing answers, in one form for both kinds of map. It is always possible: only memory may lack.
use Rattle.std.specs.Prelude.{ℕ}
use Rattle.map_defs.specs.Kind.{Kind}
use Rattle.map_defs.specs.Rows.{Rows, links_of, IsLive}
use Rattle.map_defs.specs.Edits.{Edit}
use Rattle.map_defs.specs.Closing.{IsOpen, IsClosed}
use Rattle.cell_edit.specs.Inserting.{PlansInsertion}

-- The edit closes a map of kind k and dimension n at link i: each live dart that is free there gets a new dart.
abbrev pub PlansClosing : Kind → ℕ → Rows → ℕ → Edit → Type 0
PlansClosing k n rows i =
    PlansInsertion k n rows (IsOpen (IsLive rows) i (links_of rows)) (λ star. IsClosed k i (IsLive rows) star (links_of rows))
