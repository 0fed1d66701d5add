-- The edit of the changes to the dual: it makes the dual, and keeps the laws.
use Rattle.std.proofs.Common.{ℕ, ◌≢◌, ◌≤◌}
use Rattle.std.specs.Prelude.{All}
use Rattle.map_defs.specs.Kind.{Kind}
use Rattle.map_defs.specs.Laws.{Laws}
use Rattle.map_defs.specs.Rows.{Rows, links_of, IsLive, IsSound}
use Rattle.map_defs.specs.Edits.{Change, after_edit, Fits}
use Rattle.map_defs.specs.Dual.{IsDualable, IsDual}
use Rattle.dual_laws.proofs.DualLaws.{dual_laws}
use Rattle.link_rows.specs.DualLinks.{dual_link}
use Rattle.link_rows.proofs.DualEntries.{dual-free, is-dual}
use Rattle.dual_map.proofs.ChangedLinks.{changes, changing, changes-differ, changed-links, changed-above, changes-fit}

module _ (k : Kind) (n : ℕ) (rows : Rows) (dim : 2 ≤ n) (sound : IsSound k n rows) (w : Laws k (links_of rows)) where
  pub dual-differ : All (λ (c : Change). c.old ≢ c.new) (changes n rows (dual_link k n (links_of rows)))
  dual-differ = changes-differ k n rows sound (dual_link k n (links_of rows)) (dual-free n (links_of rows) dim k w)

  pub dual-is : IsDual k n (links_of rows)
      (links_of (after_edit n (changing n rows (dual_link k n (links_of rows))) rows))
  dual-is = is-dual n (links_of rows) dim k w
      (links_of (after_edit n (changing n rows (dual_link k n (links_of rows))) rows))
      (changed-links k n rows sound (dual_link k n (links_of rows)) (dual-free n (links_of rows) dim k w))
      (changed-above k n rows sound (dual_link k n (links_of rows)) (dual-free n (links_of rows) dim k w))

  module _ (can : IsDualable k n (links_of rows) (IsLive rows)) where
    pub dual-lawful : Laws k (links_of (after_edit n (changing n rows (dual_link k n (links_of rows))) rows))
    dual-lawful = dual_laws n rows dim k
        (links_of (after_edit n (changing n rows (dual_link k n (links_of rows))) rows))
        w can dual-is

    pub dual-fits : Fits k n rows (changing n rows (dual_link k n (links_of rows)))
    dual-fits = changes-fit k n rows sound (dual_link k n (links_of rows)) (dual-free n (links_of rows) dim k w) dual-lawful
