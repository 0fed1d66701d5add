-- A mesh without a fault has a map with its points, which keeps the laws.
use Rattle.std.proofs.Common.{◌≡◌, ◌≢◌, ◌↔◌, ◌⊎◌, ℕ, zero, suc, ◌+◌, ◌<◌, ◌≤◌, Bool, true, false, List, [], ◌∷◌, length, get_or, map, replicate, Option, Some, None, refl, sym, ap, subst, ◌∙◌, inl, inr, arith}
use Rattle.std.specs.Prelude.{slice_get}
use Rattle.std.specs.List.{range_with_len}
use Rattle.std.proofs.lemmas.Bool.{cases_lt}
use Rattle.std.proofs.lemmas.List.{get_or_past, length-replicate}
use Rattle.std.proofs.lemmas.List.FromFn.{get_or-map-range_with_len, length-map-range_with_len}
use Rattle.map_defs.specs.Kind.{Kind, alpha, beta}
use Rattle.map_defs.specs.Rows.{Rows, IsLive, links_of, IsSound}
use Rattle.map_defs.specs.Edits.{Edit, Fits, after_edit}
use Rattle.map_defs.specs.Cells.{InCell}
use Rattle.map_defs.specs.Values.{Value, Rule}
use Rattle.map_defs.specs.Carry.{AreEqualOnCells}
use Rattle.machine_defs.specs.State.{Content, no_values, value_at, rule_at, HasPlaces}
use Rattle.map_defs.specs.Off.{Mesh}
use Rattle.map_defs.specs.MeshMap.{Side, sides_of, LiesAt, mesh_fault}
use Rattle.machine_defs.specs.Loading.{IsMeshContent, first_copy, dart_count}
use Rattle.machine_defs.specs.Kept.{IsLawfulContent}
use Rattle.link_laws.proofs.Told.{told_of_laws}
use Rattle.link_laws.proofs.RowFacts.{rows_lead_to_live}
use Rattle.edit_laws.proofs.EditSound.{length-after, after-sound}
use Rattle.value_laws.proofs.Touching.{cell_live}
use Rattle.mesh_laws.specs.Sides.{kind_of, IsSewn}
use Rattle.mesh_laws.specs.SideLinks.{mesh_edit, point_of}
use Rattle.mesh_laws.proofs.Rings.{is_ring}
use Rattle.mesh_laws.proofs.Partners.{paired-sewn}
use Rattle.mesh_laws.proofs.Faultless.{mesh-few, mesh-faultless}
use Rattle.mesh_laws.proofs.Paired.{partners_in, paired}
use Rattle.mesh_laws.proofs.MadeMesh.{mesh-fits, links-made, IsMade, is_made}
use Rattle.mesh_laws.proofs.LiveDarts.{none-sound, live-made}
use Rattle.mesh_laws.proofs.MeshLinks.{lies-within}
use Rattle.loading_laws.proofs.MeshOne.{mesh-content-one}

no-value : (m i : ℕ) → get_or (replicate m None) i None ≡ (let none : Option Value = None in none)
no-value zero i = refl
no-value (suc m) zero = refl
no-value (suc m) (suc i) = no-value m i

-- the values of a dart: in dimension 0 the point at which it lies
abbrev dart_values : Kind → ℕ → Mesh → ℕ → List (Option Value)
dart_values k n mesh d = slice_get mesh.points (point_of k (sides_of mesh.faces) d) ∷ replicate n None

mesh_values : Kind → ℕ → Mesh → List (List (Option Value))
mesh_values k n mesh = no_values n ∷ map (dart_values k n mesh) (range_with_len 1 (dart_count k mesh))

module _ (k : Kind) (n : ℕ) (mesh : Mesh) where
  values-there : (d : ℕ) → 1 ≤ d → d ≤ dart_count k mesh → get_or (mesh_values k n mesh) d [] ≡ dart_values k n mesh d
  unfolding mesh_values
  values-there zero low high = absurd (omega arith)
  values-there (suc d) low high = get_or-map-range_with_len (dart_values k n mesh) 1 (dart_count k mesh) d (suc d) [] (omega arith) (omega arith)

  values-nothing : get_or (mesh_values k n mesh) 0 [] ≡ no_values n
  unfolding mesh_values
  values-nothing = refl

  length-values : length (mesh_values k n mesh) ≡ dart_count k mesh + 1
  unfolding mesh_values
  length-values = let long = length-map-range_with_len (dart_values k n mesh) 1 (dart_count k mesh) in omega (arith, long)

  -- a number is that of a dart, or there is none
  places : (d : ℕ) → ((1 ≤ d) × (d ≤ dart_count k mesh)) ⊎ ((d ≡ 0) ⊎ (dart_count k mesh < d))
  places zero = inr (inl refl)
  places (suc d) = elim (cases_lt (dart_count k mesh) (suc d)) [ inl past ↦ inr (inr past) | inr within ↦ inl (omega arith, within) ]

  value-none : (i d : ℕ) → (d ≡ 0) ⊎ (dart_count k mesh < d) → get_or (get_or (mesh_values k n mesh) d []) i None ≡ None
  value-none i d (inl zeroth) = ap (λ (e : ℕ). get_or (get_or (mesh_values k n mesh) e []) i None) zeroth ∙ (ap (λ (vs : List (Option Value)). get_or vs i None) values-nothing ∙ no-value (n + 1) i)
  value-none i d (inr past) = ap (λ (vs : List (Option Value)). get_or vs i None) (get_or_past (mesh_values k n mesh) d [] (omega (arith, length-values)))

  value-point : (d : ℕ) → 1 ≤ d → d ≤ dart_count k mesh → get_or (get_or (mesh_values k n mesh) d []) 0 None ≡ slice_get mesh.points (point_of k (sides_of mesh.faces) d)
  value-point d low high = ap (λ (vs : List (Option Value)). get_or vs 0 None) (values-there d low high)

  value-other : (i d : ℕ) → i ≢ 0 → get_or (get_or (mesh_values k n mesh) d []) i None ≡ None
  value-other zero d up = absurd (up refl)
  value-other (suc i) d up = elim (places d) [
    | inl within ↦ ap (λ (vs : List (Option Value)). get_or vs (suc i) None) (values-there d within.0 within.1) ∙ no-value n i
    | inr none ↦ value-none (suc i) d none
  ]

  values-wide : (d : ℕ) → d < dart_count k mesh + 1 → length (get_or (mesh_values k n mesh) d []) ≡ n + 1
  values-wide d h = elim (places d) [
    | inl within ↦ ap (λ (vs : List (Option Value)). length vs) (values-there d within.0 within.1) ∙ (let long = length-replicate {A = Option Value} n None in omega (arith, long))
    | inr (inl zeroth) ↦ ap (λ (e : ℕ). length (get_or (mesh_values k n mesh) e [])) zeroth ∙ (ap (λ (vs : List (Option Value)). length vs) values-nothing ∙ length-replicate (n + 1) None)
    | inr (inr past) ↦ absurd (omega arith)
  ]

module _ (o : Bool) (n : ℕ) (flat : 2 ≤ n) (mesh : Mesh) (sound : mesh_fault (kind_of o) mesh ≡ None) where
  abbrev K : Kind
  K = kind_of o

  abbrev sides : List Side
  sides = sides_of mesh.faces

  sewn : IsSewn o sides (partners_in sides)
  sewn = paired-sewn o (partners_in sides) sides (paired o sides (mesh-faultless o mesh sound)) (is_ring mesh.faces)

  abbrev edit : Edit
  edit = mesh_edit K sides (partners_in sides)

  rows : Rows
  rows = after_edit n edit (None ∷ [])

  fits : Fits K n (None ∷ []) edit
  fits = mesh-fits sides (partners_in sides) o n flat sewn

  rows-sound : IsSound K n rows
  unfolding rows
  rows-sound = after-sound K n (None ∷ []) edit (omega arith) (none-sound K n) fits (let few = mesh-few K mesh sound in omega (arith, few))

  made : IsMade sides (partners_in sides) K (links_of rows)
  unfolding rows
  made = is_made sides (partners_in sides) o (links_of rows) sewn (links-made sides (partners_in sides) o n flat sewn)

  live : (d : ℕ) → IsLive rows d ↔ ((1 ≤ d) × (d ≤ dart_count K mesh))
  unfolding rows
  live d = live-made K n edit fits d

  long : length rows ≡ dart_count K mesh + 1
  unfolding rows
  long = length-after n edit (None ∷ []) ∙ omega arith

  abbrev content : Content
  content = record { kind = K; dim = n; rows = rows; values = mesh_values K n mesh; rules = Some first_copy ∷ replicate n None }

  dead : (d : ℕ) → (IsLive rows d → ⊥) → (d ≡ 0) ⊎ (dart_count K mesh < d)
  dead d none = elim (places K n mesh d) [ inl within ↦ absurd (none ((live d).1 within)) | inr outside ↦ outside ]

  has-places : HasPlaces content
  has-places = record {
    long = length-values K n mesh ∙ sym long;
    wide = λ d h. values-wide K n mesh d (omega (arith, h, long));
    none = λ i d none. value-none K n mesh i d (dead d none);
  }

  point-at : (d v : ℕ) → LiesAt K sides d v → value_at content 0 d ≡ slice_get mesh.points v
  point-at d v lies =
      let within = lies-within K mesh.faces d v lies in
      value-point K n mesh d within.0 within.1 ∙ ap (slice_get mesh.points) (made.lies d v lies)

  is-content : IsMeshContent K n mesh content
  is-content = record {
    kind = refl;
    dim = refl;
    long = long;
    live = live;
    wide = rows-sound.wide;
    links = made.links;
    rules = refl;
    places = has-places;
    points = point-at;
    others = λ i d up. value-other K n mesh i d up;
  }

  -- the darts of a 0-cell lie at one point
  point-alike : (x y : ℕ) → IsLive rows x → InCell K (links_of rows) 0 x y → value_at content 0 x ≡ value_at content 0 y
  point-alike x y lives cell =
      let from = (live x).0 lives in
      let to = (live y).0 (cell_live K (IsLive rows) (links_of rows) (links_of rows) made.laws made.laws (IsLive rows) (rows_lead_to_live K rows made.laws) 0 x lives cell) in
      value-point K n mesh x from.0 from.1 ∙ (ap (slice_get mesh.points) (sym (made.cell x y cell)) ∙ sym (value-point K n mesh y to.0 to.1))

  equal : (i : ℕ) → AreEqualOnCells K i (links_of rows) (IsLive rows) (value_at content i)
  equal zero x y lives cell = point-alike x y lives cell
  equal (suc i) x y lives cell = value-other K n mesh (suc i) x (λ e. cc (e)) ∙ sym (value-other K n mesh (suc i) y (λ e. cc (e)))

  unruled : (i d : ℕ) → rule_at content i ≡ None → value_at content i d ≡ None
  unruled zero d none = absurd (cc (none))
  unruled (suc i) d none = value-other K n mesh (suc i) d (λ e. cc (e))

  is-kept : IsLawfulContent content
  is-kept = record {
    flat = flat;
    sound = rows-sound;
    begun = omega (arith, long);
    lawful = told_of_laws K (links_of rows) made.laws;
    places = has-places;
    ruled = (let long = length-replicate {A = Option Rule} n None in omega (arith, long));
    equal = equal;
    none = unruled;
  }

-- What a mesh without a fault has.
pub has-map : (k : Kind) (n : ℕ) (mesh : Mesh) → 2 ≤ n → mesh_fault k mesh ≡ None → (c : Content) × IsMeshContent k n mesh c × IsLawfulContent c
has-map alpha n mesh flat sound = (content false n flat mesh sound, is-content false n flat mesh sound, is-kept false n flat mesh sound)
has-map beta n mesh flat sound = (content true n flat mesh sound, is-content true n flat mesh sound, is-kept true n flat mesh sound)

-- There is one map of a mesh, so each keeps the laws.
pub maps-kept : (k : Kind) (n : ℕ) (mesh : Mesh) (c : Content) → 2 ≤ n → mesh_fault k mesh ≡ None → IsMeshContent k n mesh c → IsLawfulContent c
maps-kept k n mesh c flat sound is = let one = has-map k n mesh flat sound in subst IsLawfulContent (mesh-content-one k n mesh one.0 c one.1 is) one.2
