-- Steps along two links in either order.
use Rattle.std.proofs.Common.{ℕ, ◌≡◌, ◌<◌, ◌⊎◌, refl, sym, ap, ◌∙◌, subst, inl, inr}
use Rattle.map_defs.specs.Kind.{Kind}
use Rattle.map_defs.specs.Links.{Links}
use Rattle.map_defs.specs.Rows.{Rows, links_of, IsSound}
use Rattle.map_defs.specs.Removal.{CommutesAt}
use Rattle.map_defs.specs.Walks.{step}
use Rattle.link_laws.proofs.RowFacts.{rows_dimension}

-- a free link leads nowhere else
pub step-free : (L : Links) (i x : ℕ) → L i x ≡ 0 → step L i x ≡ x
step-free L i x free = rw free refl

-- a link that is free at each dart commutes with all
pub commutes-free : (L : Links) (i j b : ℕ) → ((x : ℕ) → L i x ≡ 0) → CommutesAt L i j b
commutes-free L i j b free = step-free L i (step L j b) (free (step L j b)) ∙ ap (step L j) (sym (step-free L i b (free b)))

-- links above the dimension commute with all
pub commutes-above : (k : Kind) (n : ℕ) (rows : Rows) → IsSound k n rows → (i j b : ℕ) → (n < i) ⊎ (n < j) → CommutesAt (links_of rows) i j b
commutes-above k n rows sound i j b (inl above) = commutes-free (links_of rows) i j b (λ x. rows_dimension n rows sound.wide i x above)
commutes-above k n rows sound i j b (inr above) = sym (commutes-free (links_of rows) j i b (λ x. rows_dimension n rows sound.wide j x above))

-- links that are the same commute alike
pub commutes-at : (L : Links) (i j k l b : ℕ) → i ≡ k → j ≡ l → CommutesAt L i j b → CommutesAt L k l b
commutes-at L i j k l b e f h = subst (λ s. CommutesAt L s l b) e (subst (λ s. CommutesAt L i s b) f h)
