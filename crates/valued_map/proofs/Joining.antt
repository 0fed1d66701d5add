-- Darts that were born and joined cells by their ids, and the cells that the darts spare which an edit changed.
use Rattle.std.proofs.Common.{ℕ, ◌≡◌, ◌≢◌, ◌⊎◌, ◌+◌, ◌-◌, ◌<◌, ◌≤◌, List, Contains, IsSome, Option, Some, None, inl, inr, refl, sym, ap, subst, ◌∙◌, arith}
use Rattle.std.proofs.lemmas.Bool.{cases_eq, cases_lt}
use Rattle.map_defs.specs.Kind.{Kind}
use Rattle.map_defs.specs.LinkWords.{LinkWord, through, through_second, IsWithin}
use Rattle.map_defs.specs.Links.{Links}
use Rattle.map_defs.specs.Rows.{Rows, IsLive, IsSound, links_of, made, entry_of}
use Rattle.map_defs.specs.Cells.{InCell, here, onward}
use Rattle.map_defs.specs.Edits.{Edit, IsLed}
use Rattle.map_defs.specs.Laws.{Laws}
use Rattle.map_defs.specs.Values.{Rule}
use Rattle.link_laws.proofs.RowFacts.{rows_dimension}
use Rattle.link_laws.proofs.CellFacts.{cell_back}
use Rattle.edit_laws.proofs.RowWrites.{live-within}
use Rattle.edit_laws.proofs.EditSound.{after-sound}
use Rattle.value_laws.proofs.MapValues.{cell_trans}
use Rattle.store_defs.specs.Stores.{Store, IsHeld}
use Rattle.store_defs.specs.Labelings.{Labeling, id_of, IsRelabelled, KeepsIds, KeepsPlaces}
use Rattle.store_defs.specs.Groups.{darts_in, rule_at}
use Rattle.label_laws.specs.Maps.{IsStoredMap}
use Rattle.label_laws.specs.Stored.{AreStored}
use Rattle.label_laws.specs.Touching.{AreGrafted, IsBornApart, IsJoinedApart, Spares}
use Rattle.label_laws.proofs.Sparing.{settled-spare, kept-spare}
use Rattle.valued_map.specs.declared.kept.Kept.{Kept}
use Rattle.valued_map.specs.Keeping.{IsKept, KeepsThose}
use Rattle.valued_map.specs.Changing.{AreAdded, LeadsApart, IsBeside, AreAlike, AreAside, IsJoinedFrom, IsChangedIn}
use Rattle.valued_map.proofs.LiveDarts.{live-made}
use Rattle.valued_map.proofs.Adding.{added-then, added-told, lived, long}
use Rattle.valued_map.proofs.Rerouting.{AreChangedBelow, word-within}

-- a word that leads somewhere has links of the map alone
pub leading-within : (k : Kind) (n : ℕ) (rows : Rows) → IsSound k n rows → (w : LinkWord) (x : ℕ) → through (links_of rows) w x ≢ 0 → IsWithin n w
leading-within k n rows sound w x leads =
    word-within n nowhere (links_of rows) (λ t y high. refl) (rows_dimension n rows sound.wide) (λ t. refl) (λ t. ap (λ row. entry_of row t) sound.nothing) w x
    (λ same. leads (same ∙ stops w.second))
  where
    nowhere : Links
    nowhere t y = 0

    stops : (s : Option ℕ) → through_second nowhere s 0 ≡ 0
    stops None = refl
    stops (Some j) = refl

-- a dart more was given an id, or not, and was looked at
pub born-more : (k : Kind) (i : ℕ) (rows : Rows) (older : ℕ) (l m : Labeling) (number : ℕ) → ((j d : ℕ) → d ≢ number → id_of m j d ≡ id_of l j d) → (xs ys zs : List ℕ)
    → AreAdded rows (λ x. (x < number) × IsJoinedApart k i rows older l x) xs ys → AreAdded rows (λ x. (x ≡ number) × LeadsApart k i rows m x) ys zs
    → AreAdded rows (λ x. (x < number + 1) × IsJoinedApart k i rows older m x) xs zs
born-more k i rows older l m number others xs ys zs before more =
    added-told rows (λ x. ((x < number) × IsJoinedApart k i rows older l x) ⊎ ((x ≡ number) × LeadsApart k i rows m x)) (λ x. (x < number + 1) × IsJoinedApart k i rows older m x) xs zs told
    (added-then rows (λ x. (x < number) × IsJoinedApart k i rows older l x) (λ x. (x ≡ number) × LeadsApart k i rows m x) xs ys zs before more)
  where
    told : (x : ℕ) → (x < number + 1) × IsJoinedApart k i rows older m x → IsLive rows x → ((x < number) × IsJoinedApart k i rows older l x) ⊎ ((x ≡ number) × LeadsApart k i rows m x)
    told x (below, (live, high, (v, cell, there, less, apart))) _ = elim (cases_eq x number) [
      | inl same ↦ inr (same, (v, cell, (there, less, apart)))
      | inr other ↦ inl (
        omega arith,
        (
          live,
          high,
          (
            v,
            cell,
            there,
            less,
            λ alike. apart (others i (through (links_of rows) v x) (λ same. let under : number < x = subst (λ (z : ℕ). z < x) same less in omega arith) ∙ alike ∙ sym (others i x other)),
          ),
        ),
      )
    ]

-- a dart that was born and lies apart from a lesser one that was born too joined apart
pub apart-joined : (k : Kind) (i : ℕ) (rows : Rows) (older : ℕ) (l : Labeling) (x : ℕ) → IsBornApart k i rows older l x → IsJoinedApart k i rows older l x
apart-joined k i rows older l x (live, (v, cell, high, less, apart)) = (
  live,
  omega (arith, high, less),
  (v, cell, (λ none. let up : older < 0 = subst (λ (z : ℕ). older < z) none high in omega arith), less, apart),
)

-- where no dart that was born has an id, none lies apart from another one that was born
pub bare-alike : (k : Kind) (i : ℕ) (rows : Rows) (older : ℕ) (l : Labeling) → ((d : ℕ) → older < d → id_of l i d ≡ None) → (x : ℕ) → IsBornApart k i rows older l x → ⊥
bare-alike k i rows older l bare x (live, (v, cell, high, less, apart)) = apart (bare (through (links_of rows) v x) high ∙ sym (bare x (omega (arith, high, less))))

module _ (k : Kind) (rows : Rows) (older : ℕ) where
  pub grafts-none : (Dims : ℕ → Type 0) (l : Labeling) → AreGrafted k rows older Dims l l
  grafts-none Dims l = record { each = λ i d. inl refl; made = refl; places = λ i. ((λ h. h), λ h. h) }

  pub grafts-as : (Dims Other : ℕ → Type 0) (l m : Labeling) → ((i : ℕ) → Dims i → Other i) → AreGrafted k rows older Dims l m → AreGrafted k rows older Other l m
  grafts-as Dims Other l m told g = record {
    each = λ i d. (elim (g.each i d) [ inl same ↦ inl same | inr given ↦ inr (told i given.0, given.1, given.2, given.3, given.4, given.5, given.6) ]);
    made = g.made;
    places = g.places;
  }

  pub grafts-then : (Dims : ℕ → Type 0) (l m n : Labeling) → AreGrafted k rows older Dims l m → AreGrafted k rows older Dims m n → AreGrafted k rows older Dims l n
  grafts-then Dims l m n a b = record {
    each = each;
    made = b.made ∙ a.made;
    places = λ i. ((λ h. (a.places i).0 ((b.places i).0 h)), λ h. (b.places i).1 ((a.places i).1 h));
  }
    where
      each : (i d : ℕ) → (id_of n i d ≡ id_of l i d)
          ⊎ (Dims i × (older < d) × (c : ℕ) × (e : ℕ) × (id_of n i d ≡ Some c) × InCell k (links_of rows) i d e × (id_of l i e ≡ Some c))
      each i d = elim (b.each i d) [
        | inl same ↦ elim (a.each i d) [
          | inl before ↦ inl (same ∙ before)
          | inr given ↦ inr (given.0, given.1, given.2, given.3, same ∙ given.4, given.5, given.6)
        ]
        | inr given ↦ elim (a.each i given.3) [
          | inl before ↦ inr (given.0, given.1, given.2, given.3, given.4, given.5, sym before ∙ given.6)
          | inr further ↦ inr (given.0, given.1, further.2, further.3, given.4 ∙ sym given.6 ∙ further.4, cell_trans k (links_of rows) i d given.3 further.3 given.5 further.5, further.6)
        ]
      ]

  -- one dart is given the id of a dart of its cell
  pub grafts-one : (dim dart other id : ℕ) (l m : Labeling) → older < dart → IsRelabelled l m dim dart (Some id) → m.made ≡ l.made → KeepsPlaces l m
      → InCell k (links_of rows) dim dart other → id_of l dim other ≡ Some id → AreGrafted k rows older (λ i. i ≡ dim) l m
  grafts-one dim dart other id l m high given made-is places cell is = record { each = each; made = made-is; places = places }
    where
      each : (i d : ℕ) → (id_of m i d ≡ id_of l i d)
          ⊎ ((i ≡ dim) × (older < d) × (c : ℕ) × (e : ℕ) × (id_of m i d ≡ Some c) × InCell k (links_of rows) i d e × (id_of l i e ≡ Some c))
      each i d = elim (cases_eq i dim) [
        | inr far ↦ inl (given.others i d (inl far))
        | inl dims ↦ elim (cases_eq d dart) [
          | inr far ↦ inl (given.others i d (inr far))
          | inl darts ↦ inr (
            dims,
            subst (λ (x : ℕ). older < x) (sym darts) high,
            id,
            other,
            ap (λ (j : ℕ). id_of m j d) dims ∙ ap (id_of m dim) darts ∙ given.here,
            subst (λ (j : ℕ). InCell k (links_of rows) j d other) (sym dims) (subst (λ (x : ℕ). InCell k (links_of rows) dim x other) (sym darts) cell),
            ap (λ (j : ℕ). id_of l j other) dims ∙ is,
          )
        ]
      ]

  -- or of none, where that has none
  pub grafts-beside : (dim dart other : ℕ) (l m : Labeling) → older < dart → IsRelabelled l m dim dart (id_of l dim other) → id_of l dim dart ≡ None → m.made ≡ l.made → KeepsPlaces l m
      → InCell k (links_of rows) dim dart other → AreGrafted k rows older (λ i. i ≡ dim) l m
  grafts-beside dim dart other l m high given bare made-is places cell = go (id_of l dim other) refl
    where
      go : (o : Option ℕ) → id_of l dim other ≡ o → AreGrafted k rows older (λ i. i ≡ dim) l m
      go (Some id) e = grafts-one dim dart other id l m high (subst (IsRelabelled l m dim dart) e given) made-is places cell e
      go None e = record { each = λ i d. inl (same i d); made = made-is; places = places }
        where
          same : (i d : ℕ) → id_of m i d ≡ id_of l i d
          same i d = elim (cases_eq i dim) [
            | inr far ↦ given.others i d (inl far)
            | inl dims ↦ elim (cases_eq d dart) [
              | inr far ↦ given.others i d (inr far)
              | inl darts ↦ ap (λ (j : ℕ). id_of m j d) dims ∙ ap (id_of m dim) darts ∙ given.here ∙ e ∙ sym bare ∙ sym (ap (id_of l dim) darts) ∙ sym (ap (λ (j : ℕ). id_of l j d) dims)
            ]
          ]

  -- what holds of the darts beyond one number holds of those beyond a lesser one
  pub grafts-beyond : (to : ℕ) → older ≤ to → (Dims : ℕ → Type 0) (l m : Labeling) → AreGrafted k rows to Dims l m → AreGrafted k rows older Dims l m
  grafts-beyond to up Dims l m g = record {
    each = λ i d. (elim (g.each i d) [
      | inl same ↦ inl same
      | inr given ↦ inr (given.0, (let high : to < d = given.1 in omega (arith, up, high)), given.2, given.3, given.4, given.5, given.6)
    ]);
    made = g.made;
    places = g.places;
  }

  -- a dart that was made before has the id that it had
  pub grafts-kept : (Dims : ℕ → Type 0) (l m : Labeling) → AreGrafted k rows older Dims l m → (i d : ℕ) → d ≤ older → id_of m i d ≡ id_of l i d
  grafts-kept Dims l m g i d low = elim (g.each i d) [ inl same ↦ same | inr given ↦ absurd (let high : older < d = given.1 in omega arith) ]

-- a dart that lies beside one up to a number does so while both have the ids that they had
pub beside-kept : (k : Kind) (i : ℕ) (rows : Rows) (older : ℕ) (l m : Labeling) (x : ℕ) → id_of m i x ≡ id_of l i x → ((d : ℕ) → d ≤ older → id_of m i d ≡ id_of l i d)
    → IsBeside k i rows older l x → IsBeside k i rows older m x
beside-kept k i rows older l m x same kept (w, word, there, low, alike) = (w, word, there, low, same ∙ alike ∙ sym (kept (through (links_of rows) w x) low))

-- Where the darts beyond one number up to another lie beside darts up to the first, none of them joined apart.
module _ (k : Kind) (n i : ℕ) (rows : Rows) (sound : IsSound k n rows) (older to : ℕ) (l : Labeling) (beside : (x : ℕ) → older < x → x ≤ to → IsBeside k i rows older l x) where
  -- a word leads to live darts
  led-live : (w : LinkWord) (x : ℕ) → through (links_of rows) w x ≢ 0 → IsLive rows (through (links_of rows) w x)
  led-live w x = go w.second
    where
      go : (s : Option ℕ) → through_second (links_of rows) s (links_of rows w.first x) ≢ 0 → IsLive rows (through_second (links_of rows) s (links_of rows w.first x))
      go None there = sound.live w.first x there
      go (Some j) there = sound.live j (links_of rows w.first x) there

  -- a live dart up to the second number has the id of one up to the first in its cell
  root : Laws k (links_of rows) → (y : ℕ) → IsLive rows y → y ≤ to → (z : ℕ) × IsLive rows z × (z ≤ older) × InCell k (links_of rows) i y z × (id_of l i y ≡ id_of l i z)
  root laws y live high = elim (cases_lt older y) [
    | inr low ↦ (y, live, low, here, refl)
    | inl born ↦ (let (w, word, there, low, alike) = beside y born high in
        (through (links_of rows) w y, led-live w y there, low, onward here (w, word, refl, there), alike))
  ]

  pub beside-joined : (last x : ℕ) → IsJoinedFrom k i rows older last l x → to < x
  beside-joined last x from = elim (cases_lt to x) [
    | inl beyond ↦ beyond
    | inr within ↦ absurd (
        let (live, high, (v, cell, there, less, apart)) = from.joined in
        let y : ℕ = through (links_of rows) v x in
        let a = root from.laws x live within in
        let b = root from.laws y (led-live v x there) (omega (arith, within, less)) in
        apart (b.4 ∙ from.alike a.0 b.0 a.1 b.1 a.2 b.2
        (cell_trans k (links_of rows) i a.0 x b.0 (cell_back k (links_of rows) from.laws i x a.0 a.3) (cell_trans k (links_of rows) i x y b.0 (onward here (v, cell, refl, there)) b.3))
        ∙ sym a.4))
  ]

-- Darts beyond the last lie aside: none of them has an id, and none joined apart.
module _ (k : Kind) (i : ℕ) (rows : Rows) (older last : ℕ) (l g : Labeling) (grafts : AreGrafted k rows older (λ j. j ≡ i) l g)
    (bare : (d : ℕ) → older < d → id_of l i d ≡ None) where
  -- in a cell without darts up to the first number, none has an id
  cell-bare : (x : ℕ) → ((y : ℕ) → y ≤ older → InCell k (links_of rows) i x y → ⊥) → (z : ℕ) → InCell k (links_of rows) i x z → id_of g i z ≡ None
  cell-bare x alone z cell = elim (grafts.each i z) [
    | inl same ↦ same ∙ was z cell
    | inr given ↦ absurd (
        let has : id_of l i given.3 ≡ Some given.2 = given.6 in
        let none : id_of l i given.3 ≡ None = was given.3 (cell_trans k (links_of rows) i x z given.3 cell given.5) in
        cc (has, none))
  ]
    where
      was : (z : ℕ) → InCell k (links_of rows) i x z → id_of l i z ≡ None
      was z within = elim (cases_lt older z) [ inl high ↦ bare z high | inr low ↦ absurd (alone z low within) ]

  pub aside-joined : (x : ℕ) → IsJoinedFrom k i rows older last g x → x ≤ last
  aside-joined x from = elim (cases_lt last x) [
    | inr within ↦ within
    | inl beyond ↦ absurd (
        let (live, high, (v, cell, there, less, apart)) = from.joined in
        let none = cell-bare x (λ y low within. from.aside x y beyond (live-made rows x live) low within) in
        apart (none (through (links_of rows) v x) (onward here (v, cell, refl, there)) ∙ sym (none x here)))
  ]

-- a dimension in which the ids stay has the same darts changed
pub changed-alike : (k : Kind) (n : ℕ) (e : Edit) (rows : Rows) (rules : List (Option Rule)) (kept : Kept) (l m : Labeling) (i : ℕ) → ((d : ℕ) → id_of m i d ≡ id_of l i d)
    → (x : ℕ) → IsChangedIn k n e rows rules kept m i x → IsChangedIn k n e rows rules kept l i x
changed-alike k n e rows rules kept l m i same x (ruled, inl (loose, inl (old, led, w, wn, (before, after, (v, cell, moved, unsettled))))) = (
  ruled,
  inl (
    loose,
    inl (
      old,
      led,
      w,
      wn,
      (
        before,
        after,
        (
          v,
          cell,
          moved,
          λ s. unsettled (record {
            alike = λ there. same (through (links_of rows) v x) ∙ s.alike there ∙ sym (same x);
            kept = s.kept;
          }),
        ),
      ),
    ),
  ),
)
changed-alike k n e rows rules kept l m i same x (ruled, inl (loose, inr (live, (v, cell, high, less, apart)))) =
    (ruled, inl (loose, inr (live, (v, cell, high, less, λ alike. apart (same (through (links_of rows) v x) ∙ alike ∙ sym (same x))))))
changed-alike k n e rows rules kept l m i same x (ruled, inr (keeps, from)) = (
  ruled,
  inr (
    keeps,
    (let (live, high, (v, cell, there, less, apart)) = from.joined in record {
      laws = from.laws;
      alike = λ y z ly lz low below within. sym (same z) ∙ from.alike y z ly lz low below within ∙ same y;
      aside = from.aside;
      joined = (live, high, (v, cell, there, less, λ is. apart (same (through (links_of rows) v x) ∙ is ∙ sym (same x))));
    }),
  ),
)

-- and so the lists of the dimensions before stay right where darts are given ids of one dimension
pub changed-later : (k : Kind) (n : ℕ) (e : Edit) (rows : Rows) (rules : List (Option Rule)) (kept : Kept) (older : ℕ) (l m : Labeling) (dim : ℕ) (lists : List (List ℕ))
    → AreGrafted k rows older (λ i. (i ≡ dim) × IsSome (rule_at rules i)) l m → AreChangedBelow k n e rows rules kept l dim lists → AreChangedBelow k n e rows rules kept m dim lists
changed-later k n e rows rules kept older l m dim lists grafts a = record {
  size = a.size;
  only = a.only;
  all = λ i x low wanted. a.all i x low (changed-alike k n e rows rules kept l m i (same i low) x wanted);
}
  where
    same : (i : ℕ) → i < dim → (d : ℕ) → id_of m i d ≡ id_of l i d
    same i low d = elim (grafts.each i d) [ inl stays ↦ stays | inr given ↦ absurd (let same : i ≡ dim = given.0.0 in omega arith) ]

-- a dart that was not made has no id
pub unlabelled : (k : Kind) (n : ℕ) (rows : Rows) (l : Labeling) (p : Store) (rules : List (Option Rule)) → IsStoredMap k n rows l p rules → (i d : ℕ) → made rows < d → id_of l i d ≡ None
unlabelled k n rows l p rules s i d high = go (id_of l i d) refl
  where
    go : (o : Option ℕ) → id_of l i d ≡ o → id_of l i d ≡ None
    go None e = e
    go (Some c) e = absurd (let within = live-within rows d (s.stored.live i d c e) in omega arith)

-- the ids of darts that were born are cut off again
pub ungrafted : (k : Kind) (n : ℕ) (rows new : Rows) (l g cut : Labeling) (p : Store) (rules : List (Option Rule)) → IsStoredMap k n rows l p rules → (Dims : ℕ → Type 0)
    → AreGrafted k new (made rows) Dims l g → (top : ℕ) → top ≡ made rows → ((i d : ℕ) → d ≤ top → id_of cut i d ≡ id_of g i d) → ((i d : ℕ) → top < d → id_of cut i d ≡ None) → KeepsIds l cut
ungrafted k n rows new l g cut p rules s Dims grafts top is kept gone i d = elim (cases_lt (made rows) d) [
  | inl high ↦ gone i d (omega (arith, is)) ∙ sym (unlabelled k n rows l p rules s i d high)
  | inr low ↦ kept i d (omega (arith, is)) ∙ (elim (grafts.each i d) [ inl same ↦ same | inr given ↦ absurd (let high : made rows < d = given.1 in omega arith) ])
]

-- an id that a dart has stands for a value, as it did
pub grafted-held : (k : Kind) (L : Links) (Live : ℕ → Type 0) (rows : Rows) (older : ℕ) (Dims : ℕ → Type 0) (l g : Labeling) (p : Store) → AreStored k L Live l p → AreGrafted k rows older Dims l g
    → (i d c : ℕ) → id_of g i d ≡ Some c → IsHeld p c
grafted-held k L Live rows older Dims l g p s grafts i d c e = elim (grafts.each i d) [
  | inl same ↦ s.held i d c (sym same ∙ e)
  | inr given ↦ s.held i given.3 c (given.6 ∙ sym given.4 ∙ e)
]

module _ (k : Kind) (n : ℕ) (e : Edit) (old rows : Rows) (led : IsLed k n e old rows) where
  pub led-sound : IsSound k n rows
  led-sound = subst (IsSound k n) led.after (after-sound k n old e led.begun led.sound led.fits led.few)

  -- so many darts were made before the edit
  pub before-made : made rows - e.births ≡ made old
  before-made = let more = long k n e old rows led in let begun = led.begun in omega (arith, more)

-- a dimension is one of those whose cells are kept, or not
pub kept-or-not : (kept : Kept) (i : ℕ) → IsKept kept i ⊎ (IsKept kept i → ⊥)
kept-or-not kept i = elim (cases_lt i kept.from) [
  | inl before ↦ inr (λ (from, to). omega (arith, before))
  | inr after ↦ elim (cases_lt i kept.to) [
    | inl within ↦ inl (omega (arith, after), within)
    | inr beyond ↦ inr (λ (from, to). omega (arith, beyond))
  ]
]

-- The listed darts spare the other cells.
pub changed-spare : (k : Kind) (n : ℕ) (e : Edit) (rows : Rows) (rules : List (Option Rule)) (kept : Kept) (l g : Labeling) (lists : List (List ℕ))
    → AreGrafted k rows (made rows - e.births) (λ i. IsSome (rule_at rules i)) l g
    → ((i x : ℕ) → IsChangedIn k n e rows rules kept g i x → Contains (darts_in lists i) x)
    → (old : Rows) (pool : Store) → IsLed k n e old rows → IsStoredMap k n old l pool rules → KeepsThose k kept old rows → Laws k (links_of rows)
    → (i : ℕ) → IsSome (rule_at rules i) → Spares k i rows g (Contains (darts_in lists i))
changed-spare k n e rows rules kept l g lists grafts all old pool led stored keeps laws i ruled = elim (kept-or-not kept i) [
  | inl stays ↦ kept-spare k n i old rows stored.laws laws (led-sound k n e old rows led) l pool stored.stored (made rows - e.births) first was (λ j. IsSome (rule_at rules j)) g grafts
      (keeps.cells i stays) (Contains (darts_in lists i))
      (λ x joined. all i x (ruled, inr (stays, record { laws = laws; alike = alike stays; aside = aside stays; joined = joined })))
  | inr loose ↦ settled-spare k n i old rows stored.laws laws (led-sound k n e old rows led) l pool stored.stored (made rows - e.births) first was (λ j. IsSome (rule_at rules j)) g grafts
      (Contains (darts_in lists i)) (λ x unsettled. all i x (ruled, inl (loose, inl (old, led, stored.laws, laws, unsettled)))) (λ x apart. all i x (ruled, inl (loose, inr apart)))
]
  where
    first : (x : ℕ) → IsLive old x → x ≤ made rows - e.births
    first x live = let at = live-within old x live in let more = long k n e old rows led in let begun = led.begun in omega (arith, more)

    was : (x : ℕ) → IsLive rows x → x ≤ made rows - e.births → IsLive old x
    was x live low = lived k n e old rows led x live (let more = long k n e old rows led in let begun = led.begun in omega (arith, more))

    -- the darts of an old cell had the same id
    same-id : (y z : ℕ) → InCell k (links_of old) i y z → id_of l i z ≡ id_of l i y
    same-id y z cell = go (id_of l i y) (id_of l i z) refl refl
      where
        go : (a b : Option ℕ) → id_of l i y ≡ a → id_of l i z ≡ b → id_of l i z ≡ id_of l i y
        go (Some c) b e1 e2 = stored.stored.whole i y z c e1 cell ∙ sym e1
        go None None e1 e2 = e2 ∙ sym e1
        go None (Some c) e1 e2 = e2 ∙ sym (stored.stored.whole i z y c e2 (cell_back k (links_of old) stored.laws i y z cell))

    alike : IsKept kept i → AreAlike k i rows (made rows - e.births) g
    alike stays y z live lives low below cell =
        grafts-kept k rows (made rows - e.births) (λ j. IsSome (rule_at rules j)) l g grafts i z below
        ∙ same-id y z ((keeps.cells i stays y z (was y live low) (was z lives below)).0 cell)
        ∙ sym (grafts-kept k rows (made rows - e.births) (λ j. IsSome (rule_at rules j)) l g grafts i y low)

    aside : IsKept kept i → AreAside k i rows (made rows - e.births) (made rows - e.births + (e.births - kept.aside))
    aside stays x y beyond low below cell =
        keeps.aside i stays x y (omega (arith, beyond, low), low) (let same = before-made k n e old rows led in omega (arith, below, same)) cell
