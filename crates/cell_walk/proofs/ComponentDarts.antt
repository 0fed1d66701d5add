-- Components of rows: the orbits under the words of one link each.
use Rattle.std.proofs.Common.{◌≡◌, ℕ, ◌+◌, ◌≤◌, ◌<◌, ◌⊎◌, ◌↔◌, List, map, length, get_or, Contains, All, sym, ap, ◌∙◌, subst, inl, inr, arith}
use Rattle.std.proofs.lemmas.Bool.{cases_lt}
use Rattle.std.proofs.lemmas.List.FromFn.{get_or-map-range_with_len, length-map-range_with_len}
use Rattle.std.specs.List.{range_with_len}
use Rattle.map_defs.specs.Kind.{Kind, inverse}
use Rattle.map_defs.specs.LinkWords.{LinkWord, one_link, through, IsWithin}
use Rattle.map_defs.specs.Cells.{Leads, IsLinked, NamesComponent}
use Rattle.map_defs.specs.Rows.{Rows, links_of, IsSound}
use Rattle.link_laws.proofs.RowFacts.{rows_dimension}
use Rattle.cell_walk.specs.Surveys.{TurnsBack, IsLeast}
use Rattle.cell_walk.proofs.CellDarts.{orbit-wider}

-- the words of the links 0 to n
abbrev pub all_links : ℕ → List LinkWord
all_links n = map one_link (range_with_len 0 (n + 1))

has-link : (n j : ℕ) → j ≤ n → Contains (all_links n) (one_link j)
has-link n j low =
    (j, omega (arith, length-map-range_with_len one_link 0 (n + 1)), get_or-map-range_with_len one_link 0 (n + 1) j j (one_link j) (omega arith) (omega arith))

link-at : (n j : ℕ) (w : LinkWord) → j < length (all_links n) → get_or (all_links n) j w ≡ one_link j
link-at n j w low = get_or-map-range_with_len one_link 0 (n + 1) j j w (omega (arith, length-map-range_with_len one_link 0 (n + 1))) (omega arith)

pub links-within : (n : ℕ) → All (IsWithin n) (all_links n)
links-within n = λ at d low.
    subst (IsWithin n) (sym (link-at n at d low)) (omega (arith, length-map-range_with_len one_link 0 (n + 1)), tt)

module _ (k : Kind) (n : ℕ) (rows : Rows) (sound : IsSound k n rows) where
  to : (x y : ℕ) → Leads (links_of rows) (Contains (all_links n)) x y → IsLinked (links_of rows) x y
  to x y s = (s.1.0, ap (λ w. through (links_of rows) w x) (sym (link-at n s.1.0 s.0 s.1.1) ∙ s.1.2) ∙ s.2, s.3)

  from : (x y : ℕ) → IsLinked (links_of rows) x y → Leads (links_of rows) (Contains (all_links n)) x y
  from x y s = (one_link s.0, has-link n s.0 (low (cases_lt n s.0)), s.1, s.2)
    where
      low : (n < s.0) ⊎ (s.0 ≤ n) → s.0 ≤ n
      low (inl above) = absurd (s.2 (sym s.1 ∙ rows_dimension n rows sound.wide s.0 x above))
      low (inr within) = within

  pub links-turn : TurnsBack (Leads (links_of rows) (Contains (all_links n)))
  links-turn x y dart s =
      let linked : IsLinked (links_of rows) x y = to x y s in
      let back : links_of rows (inverse k linked.0) y ≡ x =
      ap (links_of rows (inverse k linked.0)) (sym linked.1) ∙ sound.back linked.0 x (λ none. linked.2 (sym linked.1 ∙ none)) in
      from y x (inverse k linked.0, back, dart)

  pub links-least : (d : ℕ) → IsLeast (Leads (links_of rows) (Contains (all_links n))) d ↔ NamesComponent (links_of rows) d
  links-least d = (
    λ least e among. least e (orbit-wider (IsLinked (links_of rows)) (Leads (links_of rows) (Contains (all_links n))) from d e among),
    λ names e o. names e (orbit-wider (Leads (links_of rows) (Contains (all_links n))) (IsLinked (links_of rows)) to d e o),
  )
