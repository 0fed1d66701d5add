-- The edit of sewn sides makes the map of the mesh.
use Rattle.std.proofs.Common.{◌≡◌, ◌≢◌, ℕ, zero, suc, ◌+◌, ◌<◌, ◌≤◌, Bool, true, false, List, [], ◌∷◌, ◌++◌, length, get_or, take, map, Option, Some, None, refl, sym, ap, subst, ◌∙◌, arith}
use Rattle.std.proofs.lemmas.List.{map_push, take_more}
use Rattle.std.proofs.lemmas.List.Elements.{All-nil, All-cons, All-append}
use Rattle.map_defs.specs.Kind.{Kind, alpha, beta, inverse}
use Rattle.map_defs.specs.Links.{Links}
use Rattle.map_defs.specs.Laws.{Laws}
use Rattle.std.specs.Prelude.{All, Contains, slice_get, ◌↔◌}
use Rattle.std.specs.List.Sorted.{IsStrictlyIncreasing}
use Rattle.map_defs.specs.Rows.{Rows, links_of, IsLive, made_max}
use Rattle.map_defs.specs.Edits.{Edit, Fits, after_edit}
use Rattle.map_defs.specs.Cells.{InCell, NamesCell}
use Rattle.map_defs.specs.Off.{Mesh}
use Rattle.map_defs.specs.Values.{Value, Place}
use Rattle.map_defs.specs.MeshMap.{Side, sides_of, AreMeshLinks, LiesAt, MakesMesh}
use Rattle.mesh_laws.specs.Sides.{kind_of, IsSewn}
use Rattle.mesh_laws.specs.SideLinks.{dart_entries, dart_count, mesh_links, mesh_edit, point_of}
use Rattle.mesh_laws.proofs.ListedLinks.{AreEntries, same, listed-fits}
use Rattle.mesh_laws.proofs.SideFacts.{reads, none-outside, back_alpha, laws_alpha}
use Rattle.mesh_laws.proofs.AlphaSides.{links_alpha, cell_alpha, lies_alpha}
use Rattle.mesh_laws.proofs.BetaSides.{back_beta, laws_beta, links_beta, cell_beta, lies_beta}

module _ (sides : List Side) (partners : List (Option ℕ)) where
  are-entries : (k : Kind) → AreEntries (dart_count k sides) (dart_entries k sides partners) (mesh_links k sides partners)
  are-entries k = record { reads = reads k sides partners; none = none-outside k sides partners }

  back-of : (o : Bool) → IsSewn o sides partners → (i x : ℕ) → mesh_links (kind_of o) sides partners i x ≢ 0
      → mesh_links (kind_of o) sides partners (inverse (kind_of o) i) (mesh_links (kind_of o) sides partners i x) ≡ x
  back-of true sewn = back_beta sides partners sewn (mesh_links beta sides partners) (λ i d. refl)
  back-of false sewn = back_alpha sides partners sewn (mesh_links alpha sides partners) (λ i d. refl)

  pub mesh-fits : (o : Bool) (n : ℕ) → 2 ≤ n → IsSewn o sides partners → Fits (kind_of o) n (None ∷ []) (mesh_edit (kind_of o) sides partners)
  mesh-fits o n dim sewn =
      listed-fits (kind_of o) n (dart_count (kind_of o) sides) (dart_entries (kind_of o) sides partners) (mesh_links (kind_of o) sides partners) dim (are-entries (kind_of o)) (back-of o sewn)

  -- the links that the edit makes
  pub links-made : (o : Bool) (n : ℕ) → 2 ≤ n → IsSewn o sides partners → (i d : ℕ) → links_of (after_edit n (mesh_edit (kind_of o) sides partners) (None ∷ [])) i d ≡ mesh_links (kind_of o) sides partners i d
  links-made o n dim sewn =
      same (kind_of o) n (dart_count (kind_of o) sides) (dart_entries (kind_of o) sides partners) (mesh_links (kind_of o) sides partners) dim (are-entries (kind_of o)) (back-of o sewn)

  -- What is made: links that keep the laws and are those of the sides; all darts of a 0-cell lie at one point.
  pub record IsMade (k : Kind) (L : Links) : Type 0 where
    pub laws : Laws k L
    pub links : AreMeshLinks k sides L
    pub cell : (d e : ℕ) → InCell k L 0 d e → point_of k sides e ≡ point_of k sides d
    pub lies : (d v : ℕ) → LiesAt k sides d v → point_of k sides d ≡ v

  pub is_made : (o : Bool) (L : Links) → IsSewn o sides partners → ((i d : ℕ) → L i d ≡ mesh_links (kind_of o) sides partners i d) → IsMade (kind_of o) L
  is_made true L sewn is = record {
    laws = laws_beta sides partners sewn L is;
    links = links_beta sides partners sewn L is;
    cell = cell_beta sides partners sewn L is;
    lies = lies_beta sides partners sewn L is;
  }
  is_made false L sewn is = record {
    laws = laws_alpha sides partners sewn L is;
    links = links_alpha sides partners sewn L is;
    cell = cell_alpha sides partners sewn L is;
    lies = lies_alpha sides partners sewn L is;
  }

-- the darts that are listed name the 0-cells
abbrev pub Members : Kind → Rows → List ℕ → Type 0
Members k rows darts = (d : ℕ) → Contains darts d ↔ (IsLive rows d × NamesCell k (links_of rows) 0 d)

abbrev pub darts_of : List Place → List ℕ
darts_of places = map (λ (place : Place). place.dart) places

abbrev pub HaveValues : Kind → List Side → List Value → List Place → Type 0
HaveValues k sides points places = All (λ (place : Place). slice_get points (point_of k sides place.dart) ≡ Some place.value) places

makes-at : (o : Bool) (n : ℕ) (mesh : Mesh) (sides : List Side) (partners : List (Option ℕ)) (places : List Place) → 2 ≤ n → sides ≡ sides_of mesh.faces → IsSewn o sides partners
    → dart_count (kind_of o) sides ≤ made_max → Members (kind_of o) (after_edit n (mesh_edit (kind_of o) sides partners) (None ∷ [])) (darts_of places) → IsStrictlyIncreasing (darts_of places)
    → HaveValues (kind_of o) sides mesh.points places → MakesMesh (kind_of o) n mesh (mesh_edit (kind_of o) sides partners) places
makes-at o n mesh sides partners places dim whole sewn few members ascending values =
    let L : Links = links_of (after_edit n (mesh_edit (kind_of o) sides partners) (None ∷ [])) in
    let made = is_made sides partners o L sewn (links-made sides partners o n dim sewn) in
    record {
      births = ap (λ (xs : List Side). dart_count (kind_of o) xs) whole;
      few = few;
      deaths = refl;
      fits = mesh-fits sides partners o n dim sewn;
      links = subst (λ (xs : List Side). AreMeshLinks (kind_of o) xs L) whole made.links;
      laws = made.laws;
      located = record {
        members = members;
        ascending = ascending;
        values = λ p z h. λ d v cell lies.
            let place : Place = get_or places p z in
            let at : LiesAt (kind_of o) sides d v = subst (λ (xs : List Side). LiesAt (kind_of o) xs d v) (sym whole) lies in
            ap (slice_get mesh.points) (sym (made.lies d v at) ∙ made.cell place.dart d cell) ∙ values p z h;
      };
    }

-- What the edit and the places make is the map of the mesh.
pub makes : (o : Bool) (k : Kind) (n : ℕ) (mesh : Mesh) (sides : List Side) (partners : List (Option ℕ)) (edit : Edit) (places : List Place) → k ≡ kind_of o → 2 ≤ n → sides ≡ sides_of mesh.faces → IsSewn o sides partners
    → edit ≡ mesh_edit (kind_of o) sides partners → edit.births ≤ made_max → Members k (after_edit n edit (None ∷ [])) (darts_of places) → IsStrictlyIncreasing (darts_of places)
    → HaveValues (kind_of o) sides mesh.points places → MakesMesh k n mesh edit places
makes o k n mesh sides partners edit places kind dim whole sewn is few members ascending values =
    let few' : dart_count (kind_of o) sides ≤ made_max = subst (λ (e : Edit). e.births ≤ made_max) is few in
    let members' : Members (kind_of o) (after_edit n (mesh_edit (kind_of o) sides partners) (None ∷ [])) (darts_of places) =
    subst (λ (e : Edit). Members (kind_of o) (after_edit n e (None ∷ [])) (darts_of places)) is (subst (λ (j : Kind). Members j (after_edit n edit (None ∷ [])) (darts_of places)) kind members) in
    subst (λ (j : Kind). MakesMesh j n mesh edit places) (sym kind)
    (subst (λ (e : Edit). MakesMesh (kind_of o) n mesh e places) (sym is) (makes-at o n mesh sides partners places dim whole sewn few' members' ascending values))

-- the edit fits, for the kind that the flag tells
pub fits-of : (o : Bool) (k : Kind) (n : ℕ) (sides : List Side) (partners : List (Option ℕ)) (edit : Edit) → k ≡ kind_of o → 2 ≤ n → IsSewn o sides partners → edit ≡ mesh_edit (kind_of o) sides partners → Fits k n (None ∷ []) edit
fits-of o k n sides partners edit kind dim sewn is =
    subst (λ (j : Kind). Fits j n (None ∷ []) edit) (sym kind) (subst (λ (e : Edit). Fits (kind_of o) n (None ∷ []) e) (sym is) (mesh-fits sides partners o n dim sewn))

slice_get-read : {X : Type 0} (xs : List X) (p : ℕ) (x : X) → p < length xs → x ≡ get_or xs p x → slice_get xs p ≡ Some x
slice_get-read [] p x h e = absurd (omega arith)
slice_get-read (y ∷ xs) zero x h e = ap (λ (z : _). Some z) (sym e)
slice_get-read (y ∷ xs) (suc p) x h e = slice_get-read xs p x (omega arith) e

-- one more place
pub places-on : (k : Kind) (sides : List Side) (points : List Value) (places next : List Place) (new : Place) (xs : List ℕ) (i d p : ℕ) → next ≡ places ++ new ∷ [] → new.dart ≡ d → d ≡ get_or xs i d → i < length xs
    → p ≡ point_of k sides d → p < length points → new.value ≡ get_or points p new.value → darts_of places ≡ take i xs → HaveValues k sides points places → (darts_of next ≡ take (i + 1) xs) × HaveValues k sides points next
places-on k sides points places next new xs i d p more dart item within point inside value darts values =
    let whole : slice_get points (point_of k sides new.dart) ≡ Some new.value = ap (λ (e : ℕ). slice_get points (point_of k sides e)) dart ∙ (ap (slice_get points) (sym point) ∙ slice_get-read points p new.value inside value) in (
      ap darts_of more ∙ (map_push (λ (place : Place). place.dart) places new
          ∙ (ap (λ (e : ℕ). darts_of places ++ e ∷ []) (dart ∙ item) ∙ (ap (λ (ys : List ℕ). ys ++ get_or xs i d ∷ []) darts ∙ sym (take_more xs i d within)))),
      subst (HaveValues k sides points) (sym more)
          (All-append (λ (place : Place). slice_get points (point_of k sides place.dart) ≡ Some place.value) places (new ∷ []) values
          (All-cons (λ (place : Place). slice_get points (point_of k sides place.dart) ≡ Some place.value) new [] whole (All-nil (λ (place : Place). slice_get points (point_of k sides place.dart) ≡ Some place.value)))),
    )
