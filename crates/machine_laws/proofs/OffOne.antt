-- A map has one OFF text.
use Rattle.std.proofs.Common.{◌≡◌, ℕ, ◌<◌, List, [], ◌∷◌, length, slice_index, Option, Some, refl, sym, ap, ap₂, ◌∙◌, subst, arith}
use Rattle.std.specs.List.{AllZip}
use Rattle.std.proofs.lemmas.List.Elements.{Contains-get_or}
use Rattle.map_defs.specs.Kind.{Kind}
use Rattle.map_defs.specs.Links.{Links}
use Rattle.map_defs.specs.Laws.{Laws}
use Rattle.map_defs.specs.Rows.{Rows, links_of}
use Rattle.map_defs.specs.Cells.{InCell, NamesCell}
use Rattle.map_defs.specs.Values.{Value}
use Rattle.map_defs.specs.OffOfMap.{OffRows, next_round, Passes, there, past, IsRound, IsCell, ListsCells, LiesIn, IsFaceOf, AreOffRows}
use Rattle.link_laws.proofs.CellFacts.{cell_back}
use Rattle.value_laws.proofs.MapValues.{cell_trans}
use Rattle.value_laws.proofs.Rising.{rising_place}
use Rattle.machine_laws.proofs.Answers.{darts-one, count-one}

-- a list beside which each element has one partner has one list beside it
zip-one : {A B : Type 0} (R : A → B → Type 0) (one : (x : A) (y z : B) → R x y → R x z → y ≡ z) (xs : List A) (ys zs : List B) → AllZip R xs ys → AllZip R xs zs → ys ≡ zs
zip-one R one [] [] [] p q = refl
zip-one R one [] [] (z ∷ zs) p q = absurd q
zip-one R one [] (y ∷ ys) zs p q = absurd p
zip-one R one (x ∷ xs) [] zs p q = absurd p
zip-one R one (x ∷ xs) (y ∷ ys) [] p q = absurd q
zip-one R one (x ∷ xs) (y ∷ ys) (z ∷ zs) p q = ap₂ (◌∷◌) (one x y z p.0 q.0) (zip-one R one xs ys zs p.1 q.1)

passes-one : (Next : ℕ → ℕ) (d x y : ℕ) (one other : List ℕ) → x ≡ y → Passes Next d x one → Passes Next d y other → one ≡ other
passes-one Next d x y one other same there there = refl
passes-one Next d x y one other same there (past apart q) = absurd (apart (sym same))
passes-one Next d x y one other same (past apart p) there = absurd (apart same)
passes-one Next d x y one other same (past {darts = us} apart p) (past {darts = vs} distinct q) =
    ap₂ (◌∷◌) same (passes-one Next d (Next x) (Next y) us vs (ap Next same) p q)

-- from a dart there is one way round
round-one : (k : Kind) (L : Links) (d : ℕ) (one other : List ℕ) → IsRound k L d one → IsRound k L d other → one ≡ other
round-one k L d one other p q =
    p.2 ∙ ap (λ (darts : List ℕ). d ∷ darts) (passes-one (next_round k L) d (next_round k L d) (next_round k L d) p.0 q.0 refl p.1 q.1) ∙ sym q.2

module _ (k : Kind) (rows : Rows) (laws : Laws k (links_of rows)) where
  abbrev L : Links
  L = links_of rows

  -- two darts of one cell that name it are one
  names-one : (i d e x : ℕ) → NamesCell k L i d → NamesCell k L i e → InCell k L i d x → InCell k L i e x → d ≡ e
  names-one i d e x names names' in_one in_other =
      let low = names e (cell_trans k L i d x e in_one (cell_back k L laws i e x in_other)) in
      let high = names' d (cell_trans k L i e x d in_other (cell_back k L laws i d x in_one)) in
      omega (arith, low, high)

  module _ (vertices : List ℕ) (lists : ListsCells k rows 0 vertices) where
    named : (place : ℕ) → place < length vertices → NamesCell k L 0 (slice_index vertices place)
    named place low = ((lists.members (slice_index vertices place)).0 (Contains-get_or vertices place 0 low)).1

    lies-one : (x p q : ℕ) → LiesIn k L vertices x p → LiesIn k L vertices x q → p ≡ q
    lies-one x p q a b =
        rising_place vertices lists.ascending p q a.0 b.0
        (names-one 0 (slice_index vertices p) (slice_index vertices q) x (named p a.0) (named q b.0) a.1 b.1)

    face-one : (d : ℕ) (one other : List ℕ) → IsFaceOf k L vertices d one → IsFaceOf k L vertices d other → one ≡ other
    face-one d one other p q =
        let same = round-one k L d p.0 q.0 p.1 q.1 in
        zip-one (LiesIn k L vertices) lies-one q.0 one other (subst (λ (darts : List ℕ). AllZip (LiesIn k L vertices) darts one) same p.2) q.2

  cells-one : (i : ℕ) (one other : List ℕ) → ListsCells k rows i one → ListsCells k rows i other → one ≡ other
  cells-one i one other p q = darts-one (IsCell k rows i) one other p.ascending q.ascending p.members q.members

  module _ (values : ℕ → Option Value) where
    value-one : (d : ℕ) (v w : Value) → values d ≡ Some v → values d ≡ Some w → v ≡ w
    value-one d v w p q = cc

    off_rows : List Value → List (List ℕ) → ℕ → OffRows
    off_rows points faces edges = record { points = points; faces = faces; edges = edges }

    pub off-one : (one other : OffRows) → AreOffRows k rows values one → AreOffRows k rows values other → one ≡ other
    unfolding off_rows
    off-one one other p q =
        let vertices = cells-one 0 p.vertices q.vertices p.vertices_listed q.vertices_listed in
        let cells = cells-one 2 p.cells q.cells p.cells_listed q.cells_listed in
        let points : one.points ≡ other.points =
        zip-one (λ d point. values d ≡ Some point) value-one q.vertices one.points other.points
        (subst (λ (ds : List ℕ). AllZip (λ d point. values d ≡ Some point) ds one.points) vertices p.points) q.points in
        let here : AllZip (IsFaceOf k L q.vertices) q.cells one.faces =
        subst (λ (ds : List ℕ). AllZip (IsFaceOf k L ds) q.cells one.faces) vertices
        (subst (λ (ds : List ℕ). AllZip (IsFaceOf k L p.vertices) ds one.faces) cells p.faces) in
        let faces : one.faces ≡ other.faces = zip-one (IsFaceOf k L q.vertices) (face-one q.vertices q.vertices_listed) q.cells one.faces other.faces here q.faces in
        let edges : one.edges ≡ other.edges = count-one (IsCell k rows 1) one.edges other.edges p.edges q.edges in
        let this : one ≡ off_rows one.points one.faces one.edges = refl in
        let that : other ≡ off_rows other.points other.faces other.edges = refl in
        cc
