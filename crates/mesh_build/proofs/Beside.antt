-- The sides beside a side, as it is stored, are sides of the mesh.
use Rattle.std.proofs.Common.{◌≡◌, ℕ, Bool, ◌<◌, List, length, get_or, Option, sym, ap, ◌∙◌, arith}
use Rattle.std.proofs.lemmas.List.{get_or-map, length-map}
use Rattle.map_defs.specs.MeshMap as mesh
use Rattle.mesh_build.specs.declared.side.Side.{Side}
use Rattle.mesh_build.specs.Sides.{side_view, views}
use Rattle.mesh_laws.specs.Sides.{no_side, side_of, IsSewn}

pub record AreBeside (items : List Side) (item : Side) : Type 0 where
  pub next : item.next < length items
  pub previous : item.previous < length items

pub are_beside : (o : Bool) (items : List Side) (partners : List (Option ℕ)) (n : ℕ) (item : Side) → IsSewn o (views items) partners → n < length items → item ≡ get_or items n item → AreBeside items item
are_beside o items partners n item sewn low is =
    let its : side_of (views items) n ≡ side_view item = get_or-map side_view items n item no_side low ∙ ap side_view (sym is) in
    let ring = sewn.ring n (omega (arith, length-map items side_view, low)) in
    record {
      next = omega (arith, ap (λ (s : mesh.Side). s.next) its, ring.next, length-map items side_view);
      previous = omega (arith, ap (λ (s : mesh.Side). s.previous) its, ring.previous, length-map items side_view);
    }
