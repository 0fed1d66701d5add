-- The touched cells, as they are found one after the other and sorted by their least darts.
use Rattle.std.proofs.Common.{◌≡◌, ◌≢◌, ◌⊎◌, ◌↔◌, inl, inr, ℕ, ◌+◌, ◌<◌, ◌≤◌, List, [], ◌∷◌, ◌++◌, length, get_or, slice_index, Bool, true, false, ◌==◌, eq-eqb, Contains, IsTrue, IsPermutation, refl, sym, ◌∙◌, ap, subst, arith, rules}
use Rattle.std.proofs.lemmas.Bool.{false≢true}
use Rattle.std.proofs.lemmas.List.{get_or_default}
use Rattle.std.specs.List.{IsAnyAnswer}
use Rattle.std.specs.List.Sorted.{IsNonDecreasingBy}
use Rattle.map_defs.specs.Kind.{Kind}
use Rattle.map_defs.specs.LinkWords.{IsCellWord}
use Rattle.map_defs.specs.Rows.{Rows, entry_of, links_of, IsSound}
use Rattle.map_defs.specs.Cells.{here, Leads, InCell}
use Rattle.link_laws.proofs.CellTurns.{cell_turns}
use Rattle.link_laws.proofs.Orbits.{orbit_trans}
use Rattle.store_defs.specs.Groups.{Group, no_group, group_at, least_of}
use Rattle.transport.specs.Pieces.{IsBareCell, AreBareCells}
use Rattle.transport.specs.Wanted.{Wanted, IsMarked}
use Rattle.transport.specs.Found.{IsInSome, AreHeld, AreFound, IsCellThere, IsCellAdded}
use Rattle.transport.proofs.Lists.{at_front, at_back, one_more, back_or_front, each_pushed, each_moved, some_moved, rising_by_key, distinct_by_key, held_at, place_of}

-- cells are told by any of their darts
pub record AreClasses (Cell : ℕ → ℕ → Type 0) : Type 0 where
  pub own : (x : ℕ) → Cell x x
  pub turn : (x y : ℕ) → Cell x y → Cell y x
  pub join : (x y z : ℕ) → Cell x y → Cell y z → Cell x z

-- the cells of rows are told by any of their darts
pub sound_classes : (k : Kind) (n i : ℕ) (rows : Rows) → IsSound k n rows → AreClasses (InCell k (links_of rows) i)
sound_classes k n i rows sound = record {
  own = λ x. here;
  turn = cell_turns k (links_of rows) (λ j. ap (λ row. entry_of row j) sound.nothing) sound.back i;
  join = orbit_trans (Leads (links_of rows) (IsCellWord k i));
}

pub held_none : (Cell : ℕ → ℕ → Type 0) (i : ℕ) (darts : List ℕ) → AreHeld Cell i 0 darts []
held_none Cell i darts = record { each = λ n h. absurd (omega arith); all = λ place h. absurd (omega arith); apart = λ m n l h. absurd (omega arith) }

-- the same darts are wanted
pub added_same : (Cell : ℕ → ℕ → Type 0) (i place : ℕ) (before after : Wanted) (old new : List Group) → IsCellAdded Cell i place before after old new → after.darts ≡ before.darts
added_same Cell i place before after old new (inl (has, same, kept)) = ap (λ w. w.darts) same
added_same Cell i place before after old new (inr (g, pushed, fresh)) = fresh.same

-- a list that was looked through
list_has : (few : List ℕ) (d : ℕ) (r : Bool) → IsAnyAnswer (λ y answer. (y == d) ≡ answer) few r → IsTrue r → Contains few d
list_has few d true cases is = search rules
list_has few d false cases is = absurd (false≢true is)

-- a list that was looked through in vain
list_lacks : (few : List ℕ) (d : ℕ) (r : Bool) → IsAnyAnswer (λ y answer. (y == d) ≡ answer) few r → r ≡ false → Contains few d → ⊥
list_lacks few d true cases is has = false≢true (sym is)
list_lacks few d false cases is has = false≢true (sym (cases has.0 d (omega arith) has.1) ∙ eq-eqb _ d has.2)

-- the least dart of a cell with a dart is one of its darts
pub least_in : (g : Group) (x : ℕ) → Contains g.darts x → Contains g.darts (least_of g)
least_in g x h = held_at g.darts 0 (let l = h.1 in omega arith)

pub some_in_front : (old : List Group) (g : Group) (x : ℕ) → IsInSome old x → IsInSome (old ++ g ∷ []) x
some_in_front old g x (n, h, c) = (n, omega (arith, one_more no_group old g), rw (at_front no_group old g n h) c)

pub some_in_back : (old : List Group) (g : Group) (x : ℕ) → Contains g.darts x → IsInSome (old ++ g ∷ []) x
some_in_back old g x c = (length old, omega (arith, one_more no_group old g), rw (at_back no_group old g) c)

-- no cell before the next one holds the dart, as they are looked at one after the other
pub lacks_more : (cells : List Group) (x n : ℕ) (g : Group) (darts : List ℕ) (r : Bool) → n < length cells → g ≡ get_or cells n g → darts ≡ g.darts → IsAnyAnswer (λ y answer. (y == x) ≡ answer) darts r → r ≡ false
    → ((m : ℕ) → m < n → Contains (group_at cells m).darts x → ⊥) → (m : ℕ) → m < n + 1 → Contains (group_at cells m).darts x → ⊥
lacks_more cells x n g darts r low at are cases is before m h has = elim (case m n h) [
  | inl l ↦ before m l has
  | inr l ↦ list_lacks darts x r cases is (subst (λ ds. Contains ds x) (sym (are ∙ ap (λ c. c.darts) (at ∙ get_or_default cells n g no_group low))) (subst (λ k. Contains (group_at cells k).darts x) l has))
]
  where
    case : (j k : ℕ) → j < k + 1 → (j < k) ⊎ (j ≡ k)
    case j k s = grind arith

-- the next cell holds the dart
pub has_here : (cells : List Group) (x n : ℕ) (g : Group) (darts : List ℕ) (r : Bool) → n < length cells → g ≡ get_or cells n g → darts ≡ g.darts → IsAnyAnswer (λ y answer. (y == x) ≡ answer) darts r → r ≡ true → IsInSome cells x
has_here cells x n g darts r low at are cases is = (n, low, subst (λ ds. Contains ds x) (are ∙ ap (λ c. c.darts) (at ∙ get_or_default cells n g no_group low)) (list_has darts x r cases is))

module _ (Cell : ℕ → ℕ → Type 0) (classes : AreClasses Cell) (i : ℕ) where
  -- a cell that is told by its dart d is whole
  pub new_whole : (g : Group) (d : ℕ) → ((x : ℕ) → Contains g.darts x ↔ Cell d x) → (y x : ℕ) → Contains g.darts y → Contains g.darts x ↔ Cell y x
  new_whole g d darts y x h = (
    λ has. classes.join y d x (classes.turn d y ((darts y).0 h)) ((darts x).0 has),
    λ c. (darts x).1 (classes.join d y x ((darts y).0 h) c),
  )

  pub held_more : (place d : ℕ) (darts : List ℕ) (old new : List Group) → AreHeld Cell i place darts old → place < length darts → d ≡ slice_index darts place → IsCellThere Cell i d old new → AreHeld Cell i (place + 1) darts new
  held_more place d darts old new f within is (inl (has, kept)) =
      subst (AreHeld Cell i (place + 1) darts) (sym kept) (record {
        each = f.each;
        all = λ j h. elim (case j h) [ inl l ↦ f.all j l | inr l ↦ subst (IsInSome old) (is ∙ ap (slice_index darts) (sym l)) has ];
        apart = f.apart;
      })
    where
      case : (j : ℕ) → j < place + 1 → (j < place) ⊎ (j ≡ place)
      case j h = grind arith
  held_more place d darts old new f within is (inr (outer, (g, pushed, cell))) =
      subst (AreHeld Cell i (place + 1) darts) (sym pushed) (record {
        each = each_pushed no_group (IsBareCell Cell i darts) old g f.each bare;
        all = λ j h. elim (case j h) [ inl l ↦ in_front (slice_index darts j) (f.all j l) | inr l ↦ in_back (slice_index darts j) (subst (Contains g.darts) (is ∙ ap (slice_index darts) (sym l)) own) ];
        apart = apart;
      })
    where
      longer : List Group
      longer = old ++ g ∷ []

      case : (j : ℕ) → j < place + 1 → (j < place) ⊎ (j ≡ place)
      case j h = grind arith

      own : Contains g.darts d
      own = (cell.darts d).1 (classes.own d)

      bare : IsBareCell Cell i darts g
      bare = record {
        dim = cell.dim;
        bare = cell.bare;
        ascending = cell.ascending;
        whole = new_whole g d cell.darts;
        reached = (d, subst (Contains darts) (sym is) (held_at darts place within), own);
      }

      in_front : (x : ℕ) → IsInSome old x → IsInSome longer x
      in_front x s = some_in_front old g x s

      in_back : (x : ℕ) → Contains g.darts x → IsInSome longer x
      in_back x c = some_in_back old g x c

      -- no dart of the new cell lies in another
      outside : (n x : ℕ) → n < length old → Contains (group_at old n).darts x → Contains g.darts x → ⊥
      outside n x h a b = outer (n, h, ((f.each n h).whole x d a).1 (classes.turn d x ((cell.darts x).0 b)))

      least_apart : (n : ℕ) → n < length old → least_of (group_at old n) ≢ least_of g
      least_apart n h e =
          let r = (f.each n h).reached in
          outside n (least_of g) h (subst (Contains (group_at old n).darts) e (least_in (group_at old n) r.0 r.2)) (least_in g d own)

      apart : (m n : ℕ) → m < n → n < length longer → least_of (group_at longer m) ≢ least_of (group_at longer n)
      apart m n l h = elim (back_or_front no_group old g n h) [
        | inl s ↦ (let m' : m < length old = omega arith in rw (at_front no_group old g m m', at_front no_group old g n s) (f.apart m n l s))
        | inr s ↦ (let m' : m < length old = omega arith in rw (s, at_front no_group old g m m', at_back no_group old g) (least_apart m m'))
      ]

  pub found_more : (place : ℕ) (before after : Wanted) (old new : List Group) → AreFound Cell i place before old → place < length before.darts → IsCellAdded Cell i place before after old new → AreFound Cell i (place + 1) after new
  found_more place before after old new f within (inl (has, same, kept)) =
      subst (λ w. AreFound Cell i (place + 1) w new) (sym same) (subst (λ c. AreFound Cell i (place + 1) before c) (sym kept) (record {
        held = held_more place (slice_index before.darts place) before.darts old old f.held within refl (inl ((f.marked place within).0 has, refl));
        marked = f.marked;
      }))
  found_more place before after old new f within (inr (g, pushed, fresh)) =
      subst (λ c. AreFound Cell i (place + 1) after c) (sym pushed) (record {
        held = subst (λ ds. AreHeld Cell i (place + 1) ds longer) (sym fresh.same) (held_more place (slice_index before.darts place) before.darts old longer f.held within refl (inr (λ has. fresh.unmarked ((f.marked place within).1 has), (g, refl, fresh.cell))));
        marked = λ p h. subst (λ ds. IsMarked after p ↔ IsInSome longer (slice_index ds p)) (sym fresh.same) (marked p (subst (λ ds. p < length ds) fresh.same h));
      })
    where
      longer : List Group
      longer = old ++ g ∷ []

      from : (x : ℕ) → IsInSome longer x → IsInSome old x ⊎ Contains g.darts x
      from x (n, h, c) = elim (back_or_front no_group old g n h) [
        | inl s ↦ inl (n, s, rw (at_front no_group old g n s) at c)
        | inr s ↦ inr (rw (s, at_back no_group old g) at c)
      ]

      marked : (p : ℕ) → p < length before.darts → IsMarked after p ↔ IsInSome longer (slice_index before.darts p)
      marked p h = (
        λ m. elim ((fresh.marks p h).0 m) [ inl s ↦ some_in_front old g (slice_index before.darts p) ((f.marked p h).0 s) | inr s ↦ some_in_back old g (slice_index before.darts p) s ],
        λ t. (fresh.marks p h).1 (elim (from (slice_index before.darts p) t) [ inl s ↦ inl ((f.marked p h).1 s) | inr s ↦ inr s ]),
      )

  -- all cells, sorted; the darts looked at are the touched ones
  pub held_sorted : (touched : List ℕ) (looked : ℕ) (darts : List ℕ) (cells sorted : List Group) → ((d : ℕ) → Contains darts d ↔ Contains touched d) → AreHeld Cell i looked darts cells → length darts ≤ looked
      → IsPermutation cells sorted → IsNonDecreasingBy least_of sorted → AreBareCells Cell i touched sorted
  held_sorted touched looked darts cells sorted same f past moved up = record {
    each = each_moved no_group (IsBareCell Cell i touched) cells sorted moved (λ n h. touches (group_at cells n) (f.each n h));
    all = all;
    rising = rising_by_key no_group least_of cells sorted (distinct_by_key no_group least_of cells f.apart) moved up;
  }
    where
      touches : (g : Group) → IsBareCell Cell i darts g → IsBareCell Cell i touched g
      touches g b = let r = b.reached in record { dim = b.dim; bare = b.bare; ascending = b.ascending; whole = b.whole; reached = (r.0, (same r.0).0 r.1, r.2) }

      all : (t : ℕ) → Contains touched t → (n : ℕ) × (n < length sorted) × Contains (group_at sorted n).darts t
      all t h =
          let p = place_of darts t ((same t).1 h) in
          let q = f.all p.0 (let l = p.1 in omega arith) in
          some_moved no_group (λ g. Contains g.darts t) cells sorted moved q.0 q.1 (subst (Contains (group_at cells q.0).darts) p.2 q.2)
