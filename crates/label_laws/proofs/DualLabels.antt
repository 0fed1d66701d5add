-- The ids and the rules of the dual tell the values of the dual.
use Rattle.std.proofs.Common.{ℕ, ◌≡◌, ◌≢◌, ◌⊎◌, ◌↔◌, ◌+◌, ◌-◌, ◌<◌, ◌≤◌, inl, inr, refl, sym, ap, subst, ◌∙◌, List, [], ◌∷◌, length, replicate, reverse, ext_get_or, Option, Some, None, IsSome, is_some, arith}
use Rattle.std.proofs.lemmas.Bool.{false≢true, cases_lt, lt-ltb, le-ltb}
use Rattle.std.proofs.lemmas.List.{get_or_past, length-replicate, get_or-replicate, length-reverse, get_or-reverse}
use Rattle.map_defs.specs.Kind.{Kind}
use Rattle.map_defs.specs.Laws.{Laws}
use Rattle.map_defs.specs.Rows.{Rows, IsLive, links_of, IsSound}
use Rattle.map_defs.specs.Cells.{InCell}
use Rattle.map_defs.specs.Dual.{IsDual, IsDualable}
use Rattle.machine_defs.specs.Dualling.{IsDualOf}
use Rattle.map_defs.specs.Values.{Rule}
use Rattle.dual_laws.proofs.DualLaws.{dual_cells}
use Rattle.store_defs.specs.Stores.{Store}
use Rattle.store_defs.specs.Labelings.{Labeling, id_of}
use Rattle.store_defs.specs.Groups.{rule_at, labelled_value}
use Rattle.label_laws.specs.Stored.{AreStored}
use Rattle.label_laws.specs.Contents.{all_rules, content_of}
use Rattle.label_laws.specs.Maps.{IsStoredMap}
use Rattle.label_laws.specs.Turning.{turned, AreTurned}
use Rattle.label_laws.proofs.Showing.{id-low, value-shown, places-shown}

pub turned-low : (n i : ℕ) → i ≤ n → turned n i ≡ n - i
turned-low n i h = rw (le-ltb n i h) refl

pub turned-high : (n i : ℕ) → n < i → turned n i ≡ i
turned-high n i h = rw (lt-ltb n i h) refl

-- a dimension that comes from one of the map's is one itself
turned-within : (n i : ℕ) → turned n i < n + 1 → i ≤ n
turned-within n i h = elim (cases_lt n i) [
  | inl above ↦ absurd (omega (arith, turned-high n i above))
  | inr within ↦ within
]

same-turned : (n i j : ℕ) → i ≤ n → j ≤ n → turned n j ≡ turned n i → j ≡ i
same-turned n i j h g e = omega (arith, turned-low n i h, turned-low n j g)

none-reversed : (m : ℕ) → reverse (replicate m None) ≡ replicate m (let none : Option Rule = None in none)
none-reversed m =
    let none : Option Rule = None in
    let long = length-reverse (replicate m none) in
    let made = length-replicate m none in
    ext_get_or None (reverse (replicate m none)) (replicate m none) long
    (λ i h. get_or-reverse (replicate m none) i None (omega arith)
    ∙ get_or-replicate m (length (replicate m none) - 1 - i) None None (omega arith) ∙ sym (get_or-replicate m i None None (omega arith)))

rules-turned : (n : ℕ) (rules : List (Option Rule)) → all_rules n (reverse rules) ≡ reverse (all_rules n rules)
rules-turned n [] = sym (none-reversed (n + 1))
rules-turned n (rule ∷ rules) = go (reverse (rule ∷ rules)) refl
  where
    go : (turned : List (Option Rule)) → reverse (rule ∷ rules) ≡ turned → all_rules n turned ≡ turned
    go [] e = absurd (omega (arith, length-reverse (rule ∷ rules), ap (λ (rs : List (Option Rule)). length rs) e))
    go (last ∷ more) e = refl

some-rule : (n i : ℕ) (rules : List (Option Rule)) → (rules ≡ []) ⊎ (length rules ≡ n + 1) → rule_at (reverse rules) i ≡ rule_at rules (turned n i)
some-rule n i rules (inl e) = rw e refl
some-rule n i rules (inr e) = elim (cases_lt n i) [
  | inl above ↦ get_or_past (reverse rules) i None (omega (arith, length-reverse rules)) ∙ sym (ap (rule_at rules) (turned-high n i above) ∙ get_or_past rules i None (omega arith))
  | inr within ↦ get_or-reverse rules i None (omega arith) ∙ ap (rule_at rules) (let at : length rules - 1 - i ≡ n - i = omega arith in at ∙ sym (turned-low n i within))
]

-- a map and its dual, where the ids went with the cells
module _ (k : Kind) (n : ℕ) (rows new : Rows) (l m : Labeling) (p : Store) (rules : List (Option Rule)) (s : IsStoredMap k n rows l p rules)
    (turns : AreTurned n l m) (able : IsDualable k n (links_of rows) (IsLive rows)) (dual : IsDual k n (links_of rows) (links_of new))
    (long : length new ≡ length rows) (live : (d : ℕ) → IsLive new d ↔ IsLive rows d) (sound : IsSound k n new) (laws : Laws k (links_of new)) where
  cells : (i d x : ℕ) → i ≤ n → d ≢ 0 → InCell k (links_of new) i d x ↔ InCell k (links_of rows) (n - i) d x
  cells = dual_cells n rows s.flat k (links_of new) s.sound.wide s.laws able dual

  -- a dart with an id had it in a dimension of the map
  had : (i d c : ℕ) → id_of m i d ≡ Some c → (i ≤ n) × (id_of l (n - i) d ≡ Some c)
  had i d c e =
      let was : id_of l (turned n i) d ≡ Some c = sym (turns.ids i d) ∙ e in
      let within = turned-within n i (id-low k n rows l p rules s (turned n i) d c was) in
      (within, ap (λ (j : ℕ). id_of l j d) (sym (turned-low n i within)) ∙ was)

  has : (i d c : ℕ) → i ≤ n → id_of l (n - i) d ≡ Some c → id_of m i d ≡ Some c
  has i d c within e = turns.ids i d ∙ ap (λ (j : ℕ). id_of l j d) (turned-low n i within) ∙ e

  dart : (d : ℕ) → IsLive rows d → d ≢ 0
  dart d lives zeroth = false≢true (sym (ap (λ (o : Option (List ℕ)). is_some o) s.sound.nothing) ∙ subst (IsLive rows) zeroth lives)

  stored : AreStored k (links_of new) (IsLive new) m p
  stored = record {
    live = λ i d c e. (live d).1 (s.stored.live (n - i) d c (had i d c e).1);
    held = λ i d c e. s.stored.held (n - i) d c (had i d c e).1;
    whole = λ i d x c e cell.
        let was = had i d c e in
        has i x c was.0 (s.stored.whole (n - i) d x c was.1 ((cells i d x was.0 (dart d (s.stored.live (n - i) d c was.1))).0 cell));
    apart = λ i d j x c e f.
        let was = had i d c e in
        let other = had j x c f in
        let one = s.stored.apart (n - i) d (n - j) x c was.1 other.1 in
        (let a = was.0 in let b = other.0 in let g = one.0 in omega arith, (cells i d x was.0 (dart d (s.stored.live (n - i) d c was.1))).1 one.1);
  }

  ruled : (rules ≡ []) ⊎ (length rules ≡ n + 1) → (reverse rules ≡ []) ⊎ (length (reverse rules) ≡ n + 1)
  ruled (inl e) = inl (rw e refl)
  ruled (inr e) = inr (length-reverse rules ∙ e)

  pub stored-turned : IsStoredMap k n new m p (reverse rules)
  stored-turned = record {
    flat = s.flat;
    high = s.high;
    begun = omega (arith, s.begun, long);
    sound = sound;
    laws = laws;
    stored = stored;
    ruled = ruled s.ruled;
    bare = λ i d none. turns.ids i d ∙ s.bare (turned n i) d (sym (some-rule n i rules s.ruled) ∙ none);
    placed = λ i some. (turns.places i).1 (s.placed (turned n i) (subst (λ (o : Option Rule). IsSome o) (some-rule n i rules s.ruled) some));
    long = omega (arith, long, turns.made, s.long);
  }

  pub shown-turned : IsDualOf (content_of k n rows l p rules) (content_of k n new m p (reverse rules))
  shown-turned = record {
    kind = refl;
    dim = refl;
    long = long;
    live = live;
    wide = sound.wide;
    links = dual;
    rules = rules-turned n rules;
    places = places-shown k n new m p (reverse rules) stored-turned;
    values = λ i d within. value-shown k n new m p (reverse rules) stored-turned i d
        ∙ ap (labelled_value p) (turns.ids i d ∙ ap (λ (j : ℕ). id_of l j d) (turned-low n i within))
        ∙ sym (value-shown k n rows l p rules s (n - i) d);
  }
