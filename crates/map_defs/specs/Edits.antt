-- Edits of a map's rows: new darts, changes of links, and darts that end. Source: this project's.
use Rattle.std.specs.Prelude.{ℕ, ◌≡◌, ◌≢◌, ◌+◌, ◌-◌, ◌<◌, ◌≤◌, List, [], ◌∷◌, ◌++◌, length, take, replicate, Some, None, option_map, slice_set, All}
use Rattle.std.specs.List.{AllPairs}
use Rattle.map_defs.specs.Kind.{Kind, inverse}
use Rattle.map_defs.specs.Rows.{Rows, row_at, IsLive, links_of, made, made_max, IsSound}

-- one link of one dart, before and after, 0 for free
pub record Change : Type 0 where
  pub dart : ℕ
  pub link : ℕ
  pub old : ℕ
  pub new : ℕ

-- how many darts are born, which darts end, and which links change
pub record Edit : Type 0 where
  pub births : ℕ
  pub deaths : List ℕ
  pub changes : List Change

-- the row of a dart whose links 0 to n are all free
abbrev pub free_row : ℕ → List ℕ
free_row n = replicate (n + 1) 0

-- the rows with new darts behind, which have no links yet
abbrev pub with_births : ℕ → ℕ → Rows → Rows
with_births n births rows = rows ++ replicate births (Some (free_row n))

-- the rows with another entry at a link of dart d; where d is not live, the same rows
abbrev pub with_entry : Rows → ℕ → ℕ → ℕ → Rows
with_entry rows d link to = slice_set rows d (option_map (λ row. slice_set row link to) (row_at rows d))

-- the rows with the new entry of each change
abbrev pub linked : List Change → Rows → Rows
linked [] rows = rows
linked (c ∷ cs) rows = linked cs (with_entry rows c.dart c.link c.new)

-- the rows with the old entry of each change, the last change taken back first
abbrev pub unlinked : List Change → Rows → Rows
unlinked [] rows = rows
unlinked (c ∷ cs) rows = with_entry (unlinked cs rows) c.dart c.link c.old

-- the rows without those of darts that end
abbrev pub buried : List ℕ → Rows → Rows
buried [] rows = rows
buried (d ∷ ds) rows = buried ds (slice_set rows d None)

-- the rows in which these darts live again, without links
abbrev pub revived : ℕ → List ℕ → Rows → Rows
revived n [] rows = rows
revived n (d ∷ ds) rows = slice_set (revived n ds rows) d (Some (free_row n))

-- the rows with the edit's births and changes, before any dart ends
abbrev pub with_changes : ℕ → Edit → Rows → Rows
with_changes n e rows = linked e.changes (with_births n e.births rows)

-- the rows after an edit, and those before it
abbrev pub after_edit : ℕ → Edit → Rows → Rows
after_edit n e rows = buried e.deaths (with_changes n e rows)

abbrev pub before_edit : ℕ → Edit → Rows → Rows
before_edit n e rows = take (length rows - e.births) (unlinked e.changes (revived n e.deaths rows))

-- An edit fits rows of kind k and dimension n.
pub record Fits (k : Kind) (n : ℕ) (rows : Rows) (e : Edit) : Type 0 where
  -- each changed dart is live or new, and each changed link is one of the dimension
  pub darts : All (λ c. IsLive (with_births n e.births rows) c.dart) e.changes
  pub links : All (λ c. c.link ≤ n) e.changes
  -- each old entry is the one that stands there, and no link of a dart is changed twice
  pub stands : All (λ c. links_of rows c.link c.dart ≡ c.old) e.changes
  pub once : AllPairs (λ b c. b.dart ≡ c.dart → b.link ≡ c.link → ⊥) e.changes
  -- after the changes the inverse link leads back
  pub back : (i x : ℕ) → links_of (with_changes n e rows) i x ≢ 0
      → links_of (with_changes n e rows) (inverse k i) (links_of (with_changes n e rows) i x) ≡ x
  -- the darts that end live before, each stands there once, and after the changes their links are free
  pub living : All (IsLive rows) e.deaths
  pub ends : AllPairs (λ c d. c ≢ d) e.deaths
  pub free : All (λ d. (i : ℕ) → links_of (with_changes n e rows) i d ≡ 0) e.deaths

-- An edit leads from sound rows that it fits to other rows.
pub record IsLed (k : Kind) (n : ℕ) (e : Edit) (old new : Rows) : Type 0 where
  pub begun : 0 < length old
  pub sound : IsSound k n old
  pub fits : Fits k n old e
  pub few : made old + e.births ≤ made_max
  pub after : after_edit n e old ≡ new
