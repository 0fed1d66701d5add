-- The map that is made of a mesh is the mesh's map.
use Rattle.std.proofs.Common.{◌≡◌, ◌↔◌, ℕ, zero, suc, ◌<◌, ◌≤◌, List, [], ◌∷◌, length, get_or, map, pos, None, sym, ap, ◌∙◌, subst, inl, inr, arith}
use Rattle.std.specs.Prelude.{slice_get}
use Rattle.std.proofs.lemmas.Bool.{cases_lt}
use Rattle.std.proofs.lemmas.List.{get_or-map, length-map}
use Rattle.map_defs.specs.Kind.{Kind}
use Rattle.map_defs.specs.Rows.{Rows, IsLive, links_of, AreWide}
use Rattle.map_defs.specs.Edits.{Edit, after_edit}
use Rattle.map_defs.specs.Cells.{here, InCell, NamesCell}
use Rattle.map_defs.specs.Values.{Place}
use Rattle.map_defs.specs.Off.{Mesh}
use Rattle.machine_defs.specs.State.{Content, value_at}
use Rattle.map_defs.specs.MeshMap.{sides_of, LiesAt, MakesMesh, AreMeshLinks}
use Rattle.machine_defs.specs.Loading.{IsMeshContent, dart_count}
use Rattle.link_laws.proofs.CellFacts.{cell_back}
use Rattle.link_laws.proofs.RowFacts.{rows_lead_to_live}
use Rattle.edit_laws.proofs.EditSound.{length-after}
use Rattle.value_laws.proofs.MapValues.{cell_trans}
use Rattle.value_laws.proofs.Touching.{cell_live}
use Rattle.journal_laws.proofs.ContentFacts.{value-cases}
use Rattle.mesh_laws.proofs.MeshLinks.{lies-within}
use Rattle.mesh_laws.proofs.LiveDarts.{live-made}
use Rattle.map_core.specs.Made.{IsMadeOf}

module _ (k : Kind) (n : ℕ) (flat : 2 ≤ n) (mesh : Mesh) (edit : Edit) (places : List Place) (m : MakesMesh k n mesh edit places) (c : Content) (p : IsMadeOf k n (after_edit n edit (None ∷ [])) places c) where
  abbrev Made : Rows
  Made = after_edit n edit (None ∷ [])

  live-there : (d : ℕ) → IsLive Made d ↔ ((1 ≤ d) × (d ≤ dart_count k mesh))
  live-there d = subst (λ (births : ℕ). IsLive Made d ↔ ((1 ≤ d) × (d ≤ births))) m.births (live-made k n edit m.fits d)

  -- the cell of a dart is named by one of the places
  point-at : (d v : ℕ) → LiesAt k (sides_of mesh.faces) d v → value_at c 0 d ≡ slice_get mesh.points v
  point-at d v lies = search-down (suc d) d (omega arith) here
    where
      live : IsLive Made d
      live = (live-there d).1 (lies-within k mesh.faces d v lies)

      named : (x : ℕ) → InCell k (links_of Made) 0 x d → NamesCell k (links_of Made) 0 x → value_at c 0 d ≡ slice_get mesh.points v
      named x cell least =
          let lives : IsLive Made x = cell_live k (IsLive Made) (links_of Made) (links_of Made) m.laws m.laws (IsLive Made) (rows_lead_to_live k Made m.laws) 0 d live (cell_back k (links_of Made) m.laws 0 x d cell) in
          let place = (m.located.members x).1 (lives, least) in
          at place.0 (omega (arith, place.1, length-map places (λ (q : Place). q.dart))) place.2
        where
          none : Place
          none = record { dart = 0; value = record { a = pos 0; b = pos 0; c = pos 0 } }

          at : (j : ℕ) → j < length places → get_or (map (λ (q : Place). q.dart) places) j x ≡ x → value_at c 0 d ≡ slice_get mesh.points v
          at j lt is =
              let dart : (get_or places j none).dart ≡ x = sym (get_or-map (λ (q : Place). q.dart) places j none x lt) ∙ is in
              p.values j none lt d (subst (λ (r : Rows). InCell k (links_of r) 0 (get_or places j none).dart d) (sym p.rows_are) (subst (λ (y : ℕ). InCell k (links_of Made) 0 y d) (sym dart) cell))
              ∙ sym (m.located.values j none lt d v (subst (λ (y : ℕ). InCell k (links_of Made) 0 y d) (sym dart) cell) lies)

      search-down : (bound x : ℕ) → x < bound → InCell k (links_of Made) 0 x d → value_at c 0 d ≡ slice_get mesh.points v
      search-down zero x lt cell = absurd (omega arith)
      search-down (suc bound) x lt cell = value-cases ((y : ℕ) × InCell k (links_of Made) 0 x y × (y < x)) _ _
          (λ less. search-down bound less.0 (let low = less.2 in omega arith)
          (cell_trans k (links_of Made) 0 less.0 x d (cell_back k (links_of Made) m.laws 0 x less.0 less.1) cell))
          (λ none. named x cell (λ y other. (elim (cases_lt y x) [ inl low ↦ absurd (none (y, other, low)) | inr ge ↦ ge ])))

  pub made-mesh : IsMeshContent k n mesh c
  made-mesh = record {
    kind = p.kind;
    dim = p.dim;
    long = ap (λ (r : Rows). length r) p.rows_are ∙ length-after n edit (None ∷ []) ∙ (omega (arith, m.births));
    live = λ d. subst (λ (r : Rows). IsLive r d ↔ ((1 ≤ d) × (d ≤ dart_count k mesh))) (sym p.rows_are) (live-there d);
    wide = subst (λ (j : ℕ). AreWide j c.rows) p.dim p.kept.sound.wide;
    links = subst (λ (r : Rows). AreMeshLinks k (sides_of mesh.faces) (links_of r)) (sym p.rows_are) m.links;
    rules = p.rules;
    places = p.places_are;
    points = point-at;
    others = p.others;
  }
