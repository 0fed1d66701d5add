-- Cells that a change of links leaves alone, or that only gain darts just born: where a cell has no touched dart, its value
-- needs no look.
use Rattle.std.proofs.Common.{ℕ, ◌≡◌, ◌≢◌, ◌⊎◌, ◌↔◌, ◌<◌, ◌≤◌, inl, inr, refl, sym, ap, subst, ◌∙◌, [], Option, Some, None, is_some, arith}
use Rattle.std.proofs.lemmas.Bool.{false≢true, cases_lt, cases_eq}
use Rattle.map_defs.specs.Kind.{Kind}
use Rattle.map_defs.specs.Links.{Links}
use Rattle.map_defs.specs.LinkWords.{LinkWord, through, through_second, IsCellWord}
use Rattle.map_defs.specs.Laws.{Laws}
use Rattle.map_defs.specs.Rows.{Rows, IsLive, IsSound, links_of, row_at}
use Rattle.map_defs.specs.Cells.{InOrbit, here, onward, Leads, InCell}
use Rattle.map_defs.specs.Values.{Value, Meaning}
use Rattle.map_defs.specs.Carry.{IsCarried}
use Rattle.map_defs.specs.Touched.{Covers}
use Rattle.std.proofs.lemmas.Option.{none-some}
use Rattle.link_laws.proofs.Basics.{stable, same_or_not}
use Rattle.link_laws.proofs.CellFacts.{cell_back, step_back}
use Rattle.link_laws.proofs.RowFacts.{rows_lead_to_live}
use Rattle.value_laws.proofs.MapValues.{cell_trans}
use Rattle.value_laws.proofs.Touching.{cell_live}
use Rattle.machine_laws.proofs.CellsTold.{cell-told}
use Rattle.store_defs.specs.Stores.{Store}
use Rattle.store_defs.specs.Labelings.{Labeling, id_of}
use Rattle.label_laws.specs.Stored.{AreStored}
use Rattle.kept_laws.specs.Keeping.{KeepsCells}
use Rattle.label_laws.specs.Touching.{AreGrafted, IsUnsettled, IsBornApart, IsJoinedApart, Spares}

pub cell-own : (k : Kind) (L : Links) (i d : ℕ) → InCell k L i d d
cell-own k L i d = here

-- a cell in which no piece lies has no value
pub nothing-carried : (rule : Meaning) (value : ℕ → Value) (Live : ℕ → Type 0) (Old New : ℕ → ℕ → Type 0) (d : ℕ) → ((x : ℕ) → New d x → Old x x → ⊥) → IsCarried rule value Live Old New d None
nothing-carried rule value Live Old New d none = record {
  pieces = [];
  are = record { ascending = λ k h. absurd (omega arith); members = λ m. ((λ h. (let lt : h.0 < 0 = h.1 in absurd (omega arith))), λ h. absurd (none m h.1 h.0.valued)) };
  parts = [];
  even = refl;
  each = λ at h. absurd (omega arith);
  is = refl;
}

-- ids that cannot differ are the same
ids-stable : (a b : Option ℕ) → ((a ≢ b) → ⊥) → a ≡ b
ids-stable None None nn = refl
ids-stable (Some m) (Some n) nn = ap Some (stable m n (λ apart. nn (λ same. apart (cc same))))
ids-stable None (Some n) nn = absurd (nn (λ same. none-some n same))
ids-stable (Some m) None nn = absurd (nn (λ same. none-some m (sym same)))

-- a word leads to live darts alone
lands : (k : Kind) (rows : Rows) → Laws k (links_of rows) → (w : LinkWord) (x y : ℕ) → through (links_of rows) w x ≡ y → y ≢ 0 → IsLive rows y
lands k rows laws w x y e there = go w.first w.second e
  where
    go : (f : ℕ) (j : Option ℕ) → through_second (links_of rows) j (links_of rows f x) ≡ y → IsLive rows y
    go f None e2 = subst (IsLive rows) e2 (rows_lead_to_live k rows laws f x (λ z. there (sym e2 ∙ z)))
    go f (Some j) e2 = subst (IsLive rows) e2 (rows_lead_to_live k rows laws j (links_of rows f x) (λ z. there (sym e2 ∙ z)))

-- a dart of a cell other than the first lives
pub joined-live : (k : Kind) (rows : Rows) → Laws k (links_of rows) → (i d e : ℕ) → InCell k (links_of rows) i d e → e < d → IsLive rows d
joined-live k rows laws i d e cell less = go (cell_back k (links_of rows) laws i d e cell) less
  where
    go : {x : ℕ} → InOrbit (Leads (links_of rows) (IsCellWord k i)) e x → e < x → IsLive rows x
    go here lt = absurd (omega arith)
    go (onward {x = x} {y = y} o st) lt = lands k rows laws st.0 x y st.2 st.3

-- Darts that spare the other cells cover the ids.
pub spared-covered : (k : Kind) (i : ℕ) (rows : Rows) (l : Labeling) (T : ℕ → Type 0) → Spares k i rows l T → Covers k i (links_of rows) (IsLive rows) (id_of l i) T
spared-covered k i rows l T spares d live none = elim (spares d live none) [
  | inl bare ↦ inl bare
  | inr one ↦ inr (one.0, record { inside = λ x cell. (one.1 x).0 cell; outside = λ x _ f. (one.1 x).1 f })
]

-- The links changed, and some of the darts that were born, which are those beyond the number `older`, were given ids.
module _ (k : Kind) (n i : ℕ) (old new : Rows) (lo : Laws k (links_of old)) (laws : Laws k (links_of new)) (sound : IsSound k n new) (l : Labeling) (p : Store) (s : AreStored k (links_of old) (IsLive old) l p)
    (older : ℕ) (first : (x : ℕ) → IsLive old x → x ≤ older) (was : (x : ℕ) → IsLive new x → x ≤ older → IsLive old x)
    (Dims : ℕ → Type 0) (g : Labeling) (grafts : AreGrafted k new older Dims l g) where
  -- the darts of an old cell have the same id
  same-id : (x y : ℕ) → InCell k (links_of old) i x y → id_of l i y ≡ id_of l i x
  same-id x y cell = go (id_of l i x) (id_of l i y) refl refl
    where
      go : (a b : Option ℕ) → id_of l i x ≡ a → id_of l i y ≡ b → id_of l i y ≡ id_of l i x
      go (Some c) b e f = s.whole i x y c e cell ∙ sym e
      go None None e f = f ∙ sym e
      go None (Some c) e f = f ∙ sym (s.whole i y x c f (cell_back k (links_of old) lo i x y cell))

  -- a dart that was not born has the id that it had
  kept-id : (x : ℕ) → x ≤ older → id_of g i x ≡ id_of l i x
  kept-id x low = elim (grafts.each i x) [ inl same ↦ same | inr given ↦ absurd (let high : older < x = given.1 in omega arith) ]

  -- the darts of a live dart's cell are live, and none of them is 0
  module _ (d : ℕ) (live : IsLive new d) where
    live-at : (x : ℕ) → InCell k (links_of new) i d x → IsLive new x
    live-at x cell = cell_live k (IsLive old) (links_of old) (links_of new) lo laws (IsLive new) (rows_lead_to_live k new laws) i d live cell

    dart-at : (x : ℕ) → InCell k (links_of new) i d x → x ≢ 0
    dart-at x cell zero = false≢true (sym (ap is_some (ap (row_at new) zero ∙ sound.nothing)) ∙ live-at x cell)

  -- a dart with an id has an old one with this id in its cell
  origin : (x c : ℕ) → id_of g i x ≡ Some c → (y : ℕ) × InCell k (links_of new) i x y × (id_of l i y ≡ Some c)
  origin x c e = elim (grafts.each i x) [
    | inl same ↦ (x, here, sym same ∙ e)
    | inr given ↦ (given.3, given.5, given.6 ∙ sym given.4 ∙ e)
  ]

  -- the darts of T are those that are not settled, and those born that lie apart; d lives, and its cell has none of them
  module _ (T : ℕ → Type 0) (unsettled : (x : ℕ) → IsUnsettled k i old new g x → T x) (apart : (x : ℕ) → IsBornApart k i new older g x → T x)
      (d : ℕ) (live : IsLive new d) (none : (x : ℕ) → InCell k (links_of new) i d x → T x → ⊥) where
    -- a step from a dart that was not born, in the new cell, leads to a dart with the same id
    old-alike : (x y : ℕ) → InCell k (links_of new) i d x → x ≤ older → Leads (links_of new) (IsCellWord k i) x y → id_of g i y ≡ id_of g i x
    old-alike x y cell low (w, word, e, there) = elim (same_or_not (through (links_of new) w x) (through (links_of old) w x)) [
      | inl same ↦ (let stood : through (links_of old) w x ≡ y = sym same ∙ e in
          kept-id y (first y (lands k old lo w x y stood there)) ∙ same-id x y (onward here (w, word, stood, there)) ∙ sym (kept-id x low))
      | inr moved ↦ ids-stable (id_of g i y) (id_of g i x) (λ differ. none x cell (unsettled x (
        was x (live-at d live x cell) low,
        live-at d live x cell,
        (w, word, moved, λ settled. differ (subst (λ (z : ℕ). z ≢ 0 → id_of g i z ≡ id_of g i x) e settled.alike there)),
      )))
    ]

    -- so does a step from a dart that was born to a lesser one that was born too
    born-alike : (x y : ℕ) → InCell k (links_of new) i d x → older < y → y < x → Leads (links_of new) (IsCellWord k i) x y → id_of g i y ≡ id_of g i x
    born-alike x y cell high less (w, word, e, there) = ids-stable (id_of g i y) (id_of g i x) (λ differ. none x cell (apart x (
      live-at d live x cell,
      (
        w,
        word,
        subst (λ (z : ℕ). older < z) (sym e) high,
        subst (λ (z : ℕ). z < x) (sym e) less,
        λ same. differ (subst (λ (z : ℕ). id_of g i z ≡ id_of g i x) e same),
      ),
    )))

    step-alike : (x y : ℕ) → InCell k (links_of new) i d x → Leads (links_of new) (IsCellWord k i) x y → id_of g i y ≡ id_of g i x
    step-alike x y cell step = elim (cases_lt older x) [
      | inr low ↦ old-alike x y cell low step
      | inl born ↦ elim (cases_lt older y) [
        | inr low ↦ sym (old-alike y x (onward cell step) low back)
        | inl high ↦ elim (cases_lt y x) [
          | inl less ↦ born-alike x y cell high less step
          | inr more ↦ elim (cases_eq x y) [
            | inl same ↦ ap (id_of g i) (sym same)
            | inr other ↦ sym (born-alike y x (onward cell step) born (omega arith) back)
          ]
        ]
      ]
    ]
      where
        back : Leads (links_of new) (IsCellWord k i) y x
        back = step_back k (links_of new) laws i x y (dart-at d live x cell) step

    alike : {x : ℕ} → InOrbit (Leads (links_of new) (IsCellWord k i)) d x → id_of g i x ≡ id_of g i d
    alike here = refl
    alike (onward {x = x} {y = y} o st) = step-alike x y o st ∙ alike o

    -- an old step from a dart of the cell stays in it
    step-stays : (x y : ℕ) → InCell k (links_of new) i d x → IsLive old x → Leads (links_of old) (IsCellWord k i) x y → InCell k (links_of new) i d y
    step-stays x y cell lived (w, word, e, there) = elim (same_or_not (through (links_of new) w x) (through (links_of old) w x)) [
      | inl same ↦ onward cell (w, word, same ∙ e, there)
      | inr moved ↦ elim (cell-told k n new sound laws i x y) [
        | inl on ↦ cell_trans k (links_of new) i d x y cell on
        | inr off ↦ absurd (none x cell (unsettled x (
          lived,
          live-at d live x cell,
          (w, word, moved, λ settled. off (subst (λ (z : ℕ). z ≢ 0 → InCell k (links_of new) i x z) e settled.kept there)),
        )))
      ]
    ]

    cell-stays : (x : ℕ) → InCell k (links_of new) i d x → IsLive old x → {y : ℕ} → InOrbit (Leads (links_of old) (IsCellWord k i)) x y → InCell k (links_of new) i d y × IsLive old y
    cell-stays x cell lived here = (cell, lived)
    cell-stays x cell lived (onward {x = z} {y = y} o st) =
        let before = cell-stays x cell lived o in
        (step-stays z y before.0 before.1 st, lands k old lo st.0 z y st.2 st.3)

    whole : (c : ℕ) → id_of g i d ≡ Some c → (x : ℕ) → id_of g i x ≡ Some c → InCell k (links_of new) i d x
    whole c e x f =
        let a = origin d c e in
        let b = origin x c f in
        let there = cell-stays a.0 a.1 (s.live i a.0 c a.2) (s.apart i a.0 i b.0 c a.2 b.2).1 in
        cell_trans k (links_of new) i d b.0 x there.0 (cell_back k (links_of new) laws i x b.0 b.1)

    has-one : (o : Option ℕ) → id_of g i d ≡ o → ((x : ℕ) → InCell k (links_of new) i d x → id_of g i x ≡ None) ⊎ ((c : ℕ) × ((x : ℕ) → InCell k (links_of new) i d x ↔ (id_of g i x ≡ Some c)))
    has-one None e = inl (λ x cell. alike cell ∙ e)
    has-one (Some c) e = inr (c, λ x. ((λ cell. alike cell ∙ e), whole c e x))

  pub settled-spare : (T : ℕ → Type 0) → ((x : ℕ) → IsUnsettled k i old new g x → T x) → ((x : ℕ) → IsBornApart k i new older g x → T x) → Spares k i new g T
  settled-spare T unsettled apart d live none = has-one T unsettled apart d live none (id_of g i d) refl

  -- The change keeps the cells. The darts of T are those born that joined apart; d lives, and its cell has none of them.
  module _ (keeps : KeepsCells k i (IsLive old) (links_of old) (links_of new)) (T : ℕ → Type 0) (joined : (x : ℕ) → IsJoinedApart k i new older g x → T x)
      (d : ℕ) (live : IsLive new d) (none : (x : ℕ) → InCell k (links_of new) i d x → T x → ⊥) where
    lived-at : (x : ℕ) → InCell k (links_of new) i d x → x ≤ older → IsLive old x
    lived-at x cell low = was x (live-at d live x cell) low

    -- two darts of the cell that were not born have the same id
    lived-alike : (x y : ℕ) → InCell k (links_of new) i d x → InCell k (links_of new) i d y → x ≤ older → y ≤ older → id_of g i y ≡ id_of g i x
    lived-alike x y one other low below =
        kept-id y below
        ∙ same-id x y ((keeps x y (lived-at x one low) (lived-at y other below)).0 (cell_trans k (links_of new) i x d y (cell_back k (links_of new) laws i d x one) other))
        ∙ sym (kept-id x low)

    -- a step from a dart that was born to a lesser one leads to a dart with the same id
    joined-alike : (x y : ℕ) → InCell k (links_of new) i d x → older < x → y < x → Leads (links_of new) (IsCellWord k i) x y → id_of g i y ≡ id_of g i x
    joined-alike x y cell high less (w, word, e, there) = ids-stable (id_of g i y) (id_of g i x) (λ differ. none x cell (joined x (
      live-at d live x cell,
      high,
      (
        w,
        word,
        (λ zero. there (sym e ∙ zero)),
        subst (λ (z : ℕ). z < x) (sym e) less,
        λ same. differ (subst (λ (z : ℕ). id_of g i z ≡ id_of g i x) e same),
      ),
    )))

    walked-alike : (x y : ℕ) → InCell k (links_of new) i d x → Leads (links_of new) (IsCellWord k i) x y → id_of g i y ≡ id_of g i x
    walked-alike x y cell step = elim (cases_lt older x) [
      | inl born ↦ elim (cases_lt y x) [
        | inl less ↦ joined-alike x y cell born less step
        | inr more ↦ elim (cases_eq x y) [
          | inl same ↦ ap (id_of g i) (sym same)
          | inr other ↦ sym (joined-alike y x (onward cell step) (omega (arith, born, more)) (omega (arith, more, other)) back)
        ]
      ]
      | inr low ↦ elim (cases_lt older y) [
        | inl born ↦ sym (joined-alike y x (onward cell step) born (omega (arith, low, born)) back)
        | inr below ↦ lived-alike x y cell (onward cell step) low below
      ]
    ]
      where
        back : Leads (links_of new) (IsCellWord k i) y x
        back = step_back k (links_of new) laws i x y (dart-at d live x cell) step

    all-alike : {x : ℕ} → InOrbit (Leads (links_of new) (IsCellWord k i)) d x → id_of g i x ≡ id_of g i d
    all-alike here = refl
    all-alike (onward {x = x} {y = y} o st) = walked-alike x y o st ∙ all-alike o

    all-joined : (c : ℕ) → id_of g i d ≡ Some c → (x : ℕ) → id_of g i x ≡ Some c → InCell k (links_of new) i d x
    all-joined c e x f =
        let a = origin d c e in
        let b = origin x c f in
        let there = (keeps a.0 b.0 (s.live i a.0 c a.2) (s.live i b.0 c b.2)).1 (s.apart i a.0 i b.0 c a.2 b.2).1 in
        cell_trans k (links_of new) i d b.0 x (cell_trans k (links_of new) i d a.0 b.0 a.1 there) (cell_back k (links_of new) laws i x b.0 b.1)

    has-one-kept : (o : Option ℕ) → id_of g i d ≡ o → ((x : ℕ) → InCell k (links_of new) i d x → id_of g i x ≡ None) ⊎ ((c : ℕ) × ((x : ℕ) → InCell k (links_of new) i d x ↔ (id_of g i x ≡ Some c)))
    has-one-kept None e = inl (λ x cell. all-alike cell ∙ e)
    has-one-kept (Some c) e = inr (c, λ x. ((λ cell. all-alike cell ∙ e), all-joined c e x))

  pub kept-spare : KeepsCells k i (IsLive old) (links_of old) (links_of new) → (T : ℕ → Type 0) → ((x : ℕ) → IsJoinedApart k i new older g x → T x) → Spares k i new g T
  kept-spare keeps T joined d live none = has-one-kept keeps T joined d live none (id_of g i d) refl
