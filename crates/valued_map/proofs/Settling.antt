-- Darts that are settled along a word for a change of a link.
use Rattle.std.proofs.Common.{ℕ, ◌≡◌, ◌≢◌, Option, Some, sym, ap, subst, ◌∙◌}
use Rattle.map_defs.specs.Kind.{Kind}
use Rattle.map_defs.specs.LinkWords.{LinkWord, through, through_second, IsCellWord}
use Rattle.map_defs.specs.Rows.{Rows, links_of}
use Rattle.map_defs.specs.Cells.{InCell, here, onward}
use Rattle.map_defs.specs.Edits.{Change}
use Rattle.store_defs.specs.Labelings.{Labeling, id_of}
use Rattle.label_laws.specs.Touching.{IsSettledAlong}

-- what is told of x and the darts to which a word leads it now, and led it before
module _ (k : Kind) (i : ℕ) (old rows : Rows) (labels : Labeling) (w : LinkWord) (cell : IsCellWord k i w) (x now before : ℕ) (alike : now ≢ 0 → id_of labels i now ≡ id_of labels i x)
    (kept : (now ≢ 0 → InCell k (links_of rows) i x now) → before ≢ 0 → InCell k (links_of rows) i x before) where
  settled-to : through (links_of rows) w x ≡ now → through (links_of old) w x ≡ before → IsSettledAlong k i old rows labels w x
  settled-to is was = record {
    alike = λ there. subst (λ (y : ℕ). id_of labels i y ≡ id_of labels i x) (sym is) (alike (λ none. there (is ∙ none)));
    kept = λ there. subst (InCell k (links_of rows) i x) (sym was) (kept (λ some. onward here (w, cell, is, some)) (λ none. there (was ∙ none)));
  }

  -- the word follows the changed link first
  pub settled-first : (c : Change) → links_of rows w.first x ≡ c.new → now ≡ through_second (links_of rows) w.second c.new → links_of old w.first x ≡ c.old
      → before ≡ through_second (links_of old) w.second c.old → IsSettledAlong k i old rows labels w x
  settled-first c stands is stood was =
      settled-to (ap (through_second (links_of rows) w.second) stands ∙ sym is) (ap (through_second (links_of old) w.second) stood ∙ sym was)

  -- it comes to the changed dart, and then follows the changed link
  pub settled-then : (c : Change) → w.second ≡ Some c.link → links_of rows w.first x ≡ c.dart → links_of old w.first x ≡ c.dart
      → links_of rows c.link c.dart ≡ now → links_of old c.link c.dart ≡ before → IsSettledAlong k i old rows labels w x
  settled-then c second at was stands stood =
      settled-to (ap (λ (s : Option ℕ). through_second (links_of rows) s (links_of rows w.first x)) second ∙ ap (links_of rows c.link) at ∙ stands)
      (ap (λ (s : Option ℕ). through_second (links_of old) s (links_of old w.first x)) second ∙ ap (links_of old c.link) was ∙ stood)
