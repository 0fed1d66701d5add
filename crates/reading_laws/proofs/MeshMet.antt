-- What is wrong with a mesh is what is found.
use Rattle.std.proofs.Common.{◌≡◌, ℕ, ◌*◌, ◌<◌, ◌≤◌, nat_lt, Bool, true, false, cond, [], length, Option, Some, None, refl, sym, ap, subst, ◌∙◌, arith}
use Rattle.std.proofs.lemmas.Bool.{ltb-true, ltb-false}
use Rattle.map_defs.specs.Kind.{Kind}
use Rattle.map_defs.specs.Rows.{made_max}
use Rattle.map_defs.specs.Polygon.{per_side}
use Rattle.map_defs.specs.Off.{Mesh}
use Rattle.map_defs.specs.MeshMap.{MapFault, Full, sides_of, faces_fault, mesh_fault}
use Rattle.reading_laws.specs.MeshFaults.{IsFaceFault, IsMeshFault, full, of_face}
use Rattle.reading_laws.proofs.SidesMet.{Told}
use Rattle.reading_laws.proofs.FacesMet.{IsFirstIn, one-first, faces-told, face-there, one-face-fault}

-- where something has one fault at most, it is the one found
pub found-is : (P : MapFault → Type 0) → ((x y : MapFault) → P x → P y → x ≡ y) → (found : Option MapFault) → Told P found → (fault : MapFault) → P fault → found ≡ Some fault
found-is P one None none fault is = absurd (none fault is)
found-is P one (Some x) there fault is = ap (λ (y : MapFault). Some y) (one x fault there is)

pub is-found : (P : MapFault → Type 0) (found : Option MapFault) → Told P found → (fault : MapFault) → found ≡ Some fault → P fault
is-found P None none fault e = absurd (cc (e))
is-found P (Some x) there fault e = let same : x ≡ fault = cc in subst P same there

pub none-found : (P : MapFault → Type 0) (found : Option MapFault) → Told P found → found ≡ None → (fault : MapFault) → P fault → ⊥
none-found P None none e = none
none-found P (Some x) there e = absurd (cc (e))

pub nothing-found : (P : MapFault → Type 0) (found : Option MapFault) → Told P found → ((fault : MapFault) → P fault → ⊥) → found ≡ None
nothing-found P None none free = refl
nothing-found P (Some x) there free = absurd (free x there)

module _ (k : Kind) (mesh : Mesh) where
  abbrev darts : ℕ
  darts = per_side k * length (sides_of mesh.faces)

  abbrev IsFirst : MapFault → Type 0
  IsFirst = IsFirstIn (IsFaceFault k mesh.faces) 0 (length mesh.faces)

  told-few : darts ≤ made_max → (found : Option MapFault) → Told IsFirst found → Told (IsMeshFault k mesh) found
  told-few few (Some x) (p, l, h, is, none) = of_face p few is (λ q other below bad. none q other (omega arith) below bad)
  told-few few None nothing = sound
    where
      sound : (fault : MapFault) → IsMeshFault k mesh fault → ⊥
      sound fault (full many is) = absurd (omega arith)
      sound fault (of_face p few is none) = nothing fault (p, omega arith, face-there k mesh.faces p fault is, is, λ (q : ℕ) (other : MapFault) (l : 0 ≤ q) (below : q < p) (bad : IsFaceFault k mesh.faces q other). none q other below bad)

  pub mesh-told : Told (IsMeshFault k mesh) (mesh_fault k mesh)
  mesh-told = at (nat_lt made_max darts) refl
    where
      at : (b : Bool) → nat_lt made_max darts ≡ b → Told (IsMeshFault k mesh) (cond b (Some (Full darts)) (faces_fault k 0 [] mesh.faces))
      at true e = full (ltb-true made_max darts e) refl
      at false e = told-few (ltb-false made_max darts e) (faces_fault k 0 [] mesh.faces) (faces-told k mesh.faces [] mesh.faces 0 (length mesh.faces) [] refl refl refl refl)

  -- a mesh has one fault at most
  pub one-mesh-fault : (x y : MapFault) → IsMeshFault k mesh x → IsMeshFault k mesh y → x ≡ y
  one-mesh-fault x y (full many e) (full more g) = e ∙ sym g
  one-mesh-fault x y (full many e) (of_face q few is none) = absurd (omega arith)
  one-mesh-fault x y (of_face q few is none) (full many e) = absurd (omega arith)
  one-mesh-fault x y (of_face p few is none) (of_face q low bad nothing) =
      one-first (IsFaceFault k mesh.faces) 0 (length mesh.faces) (one-face-fault k mesh.faces) x y
      (p, omega arith, face-there k mesh.faces p x is, is, λ (r : ℕ) (other : MapFault) (l : 0 ≤ r) (below : r < p) (at : IsFaceFault k mesh.faces r other). none r other below at)
      (q, omega arith, face-there k mesh.faces q y bad, bad, λ (r : ℕ) (other : MapFault) (l : 0 ≤ r) (below : r < q) (at : IsFaceFault k mesh.faces r other). nothing r other below at)
