-- The map that is loaded from the faces of a map is that map, up to the numbers of darts, if it can be told by its faces.
use Rattle.std.proofs.Common.{ℕ, zero, suc, ◌≡◌, ◌<◌, List, [], ◌∷◌, length, slice_index, Option, Some, Ok, refl, sym, ap, subst, ◌∙◌, arith}
use Rattle.std.specs.Prelude.{slice_get}
use Rattle.std.specs.List.{AllZip}
use Rattle.map_defs.specs.Kind.{Kind, alpha, beta}
use Rattle.map_defs.specs.Links.{Links, HasDimension}
use Rattle.map_defs.specs.Laws.{Laws}
use Rattle.map_defs.specs.Rows.{Rows, IsLive, links_of, IsSound}
use Rattle.map_defs.specs.Off.{Mesh, mesh_of}
use Rattle.map_defs.specs.Values.{Value}
use Rattle.map_defs.specs.MeshMap.{Side, sides_of, start, finish, AreMeshLinks, first, second}
use Rattle.map_defs.specs.OffOfMap.{OffRows, ListsCells, AreOffRows, LiesIn}
use Rattle.machine_defs.specs.State.{Content, State, value_at}
use Rattle.machine_defs.specs.Kept.{IsLawfulContent}
use Rattle.machine_defs.specs.OffText.{off_text}
use Rattle.machine_defs.specs.Loading.{IsMeshContent, IsLoaded}
use Rattle.link_laws.proofs.Told.{laws_of_told}
use Rattle.mesh_laws.specs.Sides.{side_of}
use Rattle.mesh_laws.proofs.MeshLinks.{side-there}
use Rattle.off_laws.specs.ReadBack.{mesh_told, IsReadable, AreSidesSewn, IsToldByFaces, IsRenumbered, IsSameMap}
use Rattle.off_laws.specs.SideDarts.{AreSideDarts}
use Rattle.off_laws.proofs.RenumberedPlaces.{ahead, live-some, vertex-there, side-ring, ends}
use Rattle.off_laws.proofs.RenumberedDarts.{IsNumbered, nowhere, starting, ending, number-of, number-one, number-apart, number-low, number-high, numbered-dart}
use Rattle.off_laws.proofs.RenumberedSides.{LeadsAway, side-away}
use Rattle.off_laws.proofs.RenumberedLinks.{dead-free}
use Rattle.off_laws.proofs.RenumberedAlpha.{led-alpha}
use Rattle.off_laws.proofs.RenumberedBeta.{led-beta}

-- the point beside a dart
zip-point : (values : ℕ → Option Value) (xs : List ℕ) (ys : List Value) → AllZip (λ d point. values d ≡ Some point) xs ys → (p : ℕ) → p < length xs → slice_get ys p ≡ values (slice_index xs p)
zip-point values [] ys zip p h = absurd (omega arith)
zip-point values (x ∷ xs) [] zip p h = absurd zip
zip-point values (x ∷ xs) (y ∷ ys) zip zero h = sym zip.0
zip-point values (x ∷ xs) (y ∷ ys) zip (suc p) h = zip-point values xs ys zip.1 p (omega arith)

-- the other dart of a side lies where the side ends
other-there : (k : Kind) (L : Links) (vertices : List ℕ) (x p : ℕ) → k ≡ alpha → LiesIn k L vertices (ahead k L x) p → LiesIn k L vertices (L 0 x) p
other-there alpha L vertices x p is there = there
other-there beta L vertices x p is there = absurd (cc (is))

-- links lead from number to number, for both kinds
led : (k : Kind) (n : ℕ) (rows : Rows) (sound : IsSound k n rows) (w : Laws k (links_of rows)) (vertices : List ℕ) (listed : ListsCells k rows 0 vertices)
    (faces : List (List ℕ)) (darts : List ℕ) (s : AreSideDarts k (IsLive rows) (links_of rows) vertices faces darts)
    → HasDimension 2 (links_of rows) → AreSidesSewn k (IsLive rows) (links_of rows) → ((i : ℕ) → i < length (sides_of faces) → LeadsAway (side_of (sides_of faces) i))
    → (M : Links) → AreMeshLinks k (sides_of faces) M → ((t : ℕ) → M t 0 ≡ 0)
    → (t d e : ℕ) → IsNumbered k (IsLive rows) (links_of rows) darts d e → IsNumbered k (IsLive rows) (links_of rows) darts (links_of rows t d) (M t e)
led alpha n rows sound w vertices listed faces darts s flat sewn away M m nil = led-alpha n rows sound w vertices listed faces darts s flat sewn away M m nil
led beta n rows sound w vertices listed faces darts s flat sewn away M m nil = led-beta n rows sound w vertices listed faces darts s flat sewn M m nil

module _ (c : Content) (off : OffRows) (lawful : IsLawfulContent c) (a : AreOffRows c.kind c.rows (value_at c 0) off) (readable : IsReadable off) (told : IsToldByFaces c.kind c.rows off)
    (darts : List ℕ) (s : AreSideDarts c.kind (IsLive c.rows) (links_of c.rows) a.vertices off.faces darts) (new : Content) (is : IsMeshContent c.kind c.dim (mesh_told off) new) where
  abbrev L : Links
  L = links_of c.rows

  abbrev M : Links
  M = links_of new.rows

  w : Laws c.kind L
  w = laws_of_told c.kind L lawful.lawful

  abbrev Numbered : ℕ → ℕ → Type 0
  Numbered d e = IsNumbered c.kind (IsLive c.rows) L darts d e

  away : (i : ℕ) → i < length (sides_of off.faces) → LeadsAway (side_of (sides_of off.faces) i)
  away i h = side-away off.faces told.simple (λ j z lt. let long = (readable.sides j z lt).0 in omega (arith, long)) i h

  nil : (t : ℕ) → M t 0 ≡ 0
  nil t = dead-free new.rows t 0 (λ live. let low = ((is.live 0).0 live).0 in omega (arith, low))

  renumber : ℕ → ℕ
  renumber d = (number-of c.kind c.dim c.rows lawful.sound w a.vertices a.vertices_listed off.faces darts s d).0

  numbered : (d : ℕ) → Numbered d (renumber d)
  unfolding renumber
  numbered d = (number-of c.kind c.dim c.rows lawful.sound w a.vertices a.vertices_listed off.faces darts s d).1

  renumber-is : (d e : ℕ) → Numbered d e → renumber d ≡ e
  renumber-is d e is = number-one c.kind c.dim c.rows lawful.sound w a.vertices a.vertices_listed off.faces darts s d (renumber d) e (numbered d) is

  same-links : (i d : ℕ) → M i (renumber d) ≡ renumber (L i d)
  same-links i d =
      sym (renumber-is (L i d) (M i (renumber d))
      (led c.kind c.dim c.rows lawful.sound w a.vertices a.vertices_listed off.faces darts s told.flat told.sewn away M is.links nil i d (renumber d) (numbered d)))

  is-renumbered : IsRenumbered (IsLive c.rows) (IsLive new.rows) L M renumber
  is-renumbered = record {
    nothing = renumber-is 0 0 (nowhere (λ live. live-some c.kind c.dim c.rows lawful.sound 0 live refl) refl);
    live = λ d live. (is.live (renumber d)).1 (
      number-low c.kind c.dim c.rows lawful.sound w a.vertices a.vertices_listed off.faces darts s d (renumber d) live (numbered d),
      number-high c.kind c.dim c.rows lawful.sound w a.vertices a.vertices_listed off.faces darts s d (renumber d) (numbered d),
    );
    apart = λ d e ld le same. number-apart c.kind c.dim c.rows lawful.sound w a.vertices a.vertices_listed off.faces darts s d e (renumber e) ld le (subst (Numbered d) same (numbered d)) (numbered e);
    onto = λ e live.
        let within = (is.live e).0 live in
        let at = numbered-dart c.kind c.dim c.rows lawful.sound w a.vertices a.vertices_listed off.faces darts s e within.0 within.1 in
        (at.0, at.1, renumber-is at.0 e at.2);
    links = λ i d live. same-links i d;
  }

  -- a dart has the point of its place
  point-at : (x p : ℕ) → LiesIn c.kind L a.vertices x p → slice_get off.points p ≡ value_at c 0 x
  point-at x p at =
      zip-point (value_at c 0) a.vertices off.points a.points p at.0
      ∙ lawful.equal 0 (slice_index a.vertices p) x (vertex-there c.kind c.dim c.rows lawful.sound w a.vertices a.vertices_listed p at.0).0 at.1

  same-point : (d e : ℕ) → IsLive c.rows d → Numbered d e → value_at new 0 e ≡ value_at c 0 d
  same-point d e live (nowhere dead z) = absurd (dead live)
  same-point d e live (starting i h at e-is) =
      let side : Side = side_of (sides_of off.faces) i in
      let number : side.number ≡ i = (side-ring c.kind c.dim c.rows lawful.sound w a.vertices a.vertices_listed off.faces darts s i h).number in
      is.points e side.from (first side (side-there off.faces i (omega (arith, h, s.counted))) (e-is ∙ ap (start c.kind) (sym number)) refl)
      ∙ (point-at (slice_index darts i) side.from (s.starts i h) ∙ ap (value_at c 0) (sym at))
  same-point d e live (ending i kind h at e-is) =
      let side : Side = side_of (sides_of off.faces) i in
      let number : side.number ≡ i = (side-ring c.kind c.dim c.rows lawful.sound w a.vertices a.vertices_listed off.faces darts s i h).number in
      let there : LiesIn c.kind L a.vertices (L 0 (slice_index darts i)) side.to = other-there c.kind L a.vertices (slice_index darts i) side.to kind (ends c.kind c.dim c.rows lawful.sound w a.vertices a.vertices_listed off.faces darts s i h) in
      is.points e side.to (second side kind (side-there off.faces i (omega (arith, h, s.counted))) (e-is ∙ ap finish (sym number)) refl)
      ∙ (point-at (L 0 (slice_index darts i)) side.to there ∙ ap (value_at c 0) (sym at))

  pub same-content : IsSameMap c new
  same-content = record {
    kind = is.kind;
    dim = is.dim;
    renumber = renumber;
    renumbered = is-renumbered;
    points = λ d live. same-point d (renumber d) live (numbered d);
  }

-- What is loaded from the text of a map is that map.
pub same-map : (c : Content) (off : OffRows) (begun : State) → IsLawfulContent c → (a : AreOffRows c.kind c.rows (value_at c 0) off) → IsReadable off → IsToldByFaces c.kind c.rows off
    → mesh_of (off_text off) ≡ Ok (mesh_told off) → (darts : List ℕ) → AreSideDarts c.kind (IsLive c.rows) (links_of c.rows) a.vertices off.faces darts
    → IsLoaded c.kind c.dim (off_text off) begun → IsSameMap c begun.present
same-map c off begun lawful a readable told read darts s loaded =
    let mesh : loaded.mesh ≡ mesh_told off = (let one = sym loaded.read ∙ read in cc (one)) in
    let is : IsMeshContent c.kind c.dim (mesh_told off) loaded.content = subst (λ (mesh : Mesh). IsMeshContent c.kind c.dim mesh loaded.content) mesh loaded.is in
    subst (IsSameMap c) (ap (λ (state : State). state.present) (sym loaded.begun)) (same-content c off lawful a readable told darts s loaded.content is)
