-- The links of the dual as a function.
use Rattle.std.specs.Prelude.{ℕ, ◌-◌, ◌==◌, if◌then◌else◌}
use Rattle.map_defs.specs.Kind.{Kind, alpha, beta, inverse}
use Rattle.map_defs.specs.Links.{Links}

-- What link i of the dual of links L is, for i up to n. In a combinatorial map link 0 goes the way of link 1 backwards,
-- and link n stays.
abbrev pub dual_link : Kind → ℕ → Links → Links
dual_link alpha n L i d = L (n - i) d
dual_link beta n L i d = if i == 0 then L n (L (inverse beta (n - 1)) d) else (if i == n then L n d else L (n - i) (L n d))
