-- What the book keeps of all sides tells their partners.
use Rattle.std.proofs.Common.{ℕ, ◌<◌, Bool, List, [], ◌∷◌, length, filter, Option}
use Rattle.map_defs.specs.MeshMap.{Side, is_between}
use Rattle.mesh_laws.specs.Sides.{IsRing, IsSewn}
use Rattle.mesh_laws.proofs.Partners.{ArePartners, ArePaired, paired-sewn}
use Rattle.mesh_build.specs.Books.{Last, last_at, KeepsEdge, Keeps}

edge-partners : (o : Bool) (partners : List (Option ℕ)) (last : Option ℕ) (met : List Side) → KeepsEdge o partners last met → ArePartners o partners met
edge-partners o partners last [] h = tt
edge-partners o partners last (a ∷ []) h = h.1
edge-partners o partners last (a ∷ b ∷ []) h = (h.1, h.2, h.3, h.4)
edge-partners o partners last (a ∷ b ∷ c ∷ more) h = h

-- What is kept of all sides tells which are sewn.
pub is_sewn : (o : Bool) (last : Last) (partners : List (Option ℕ)) (sides : List Side) → Keeps o last partners sides → ((s : ℕ) → s < length sides → IsRing sides s) → IsSewn o sides partners
is_sewn o last partners sides kept ring =
    let paired : ArePaired o partners sides = record {
      long = kept.long;
      numbers = kept.numbers;
      edges = λ low high. edge-partners o partners (last_at last low high) (filter (is_between low high) sides) (kept.edges low high);
    } in
    paired-sewn o partners sides paired ring
