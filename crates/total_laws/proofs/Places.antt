-- Every content has a list of its valued cells. Nothing here decides whether a dart names its cell, so it is shown that there
-- cannot be none, which is enough for equations.
use Rattle.std.proofs.Common.{◌≡◌, ◌⊎◌, ◌↔◌, ℕ, zero, suc, ◌<◌, ◌≤◌, List, [], ◌∷◌, length, Contains, slice_index_or, Option, Some, None, refl, sym, ap, subst, inl, inr, arith}
use Rattle.std.proofs.lemmas.Bool.{cases_lt}
use Rattle.std.proofs.lemmas.List.{get_or_past}
use Rattle.map_defs.specs.Rows.{links_of}
use Rattle.map_defs.specs.Cells.{NamesCell}
use Rattle.map_defs.specs.Values.{Value}
use Rattle.machine_defs.specs.State.{Content, value_at, HasPlaces}
use Rattle.machine_defs.specs.Listing.{ListValue, IsBefore, ListsValues}
use Rattle.journal_laws.proofs.ContentFacts.{value-above}

-- not absurd
abbrev pub Somehow : Type 0 → Type 0
Somehow A = (A → ⊥) → ⊥

-- a list whose elements come one before another
abbrev pub IsOrdered : List ListValue → Type 0
IsOrdered values = (j k : ℕ) (d : ListValue) → j < k → k < length values → IsBefore (slice_index_or values j d) (slice_index_or values k d)

pub told-first : (v w : ListValue) (vs : List ListValue) → Contains (v ∷ vs) w → (w ≡ v) ⊎ Contains vs w
told-first v w vs (zero, h, e) = inl (sym e)
told-first v w vs (suc k, h, e) = inr (k, omega arith, e)

pub first-told : (v : ListValue) (vs : List ListValue) → Contains (v ∷ vs) v
first-told v vs = (zero, omega arith, refl)

pub later-told : (v w : ListValue) (vs : List ListValue) → Contains vs w → Contains (v ∷ vs) w
later-told v w vs (k, h, e) = (suc k, omega arith, e)

told-at : (vs : List ListValue) (k : ℕ) (d : ListValue) → k < length vs → Contains vs (slice_index_or vs k d)
told-at [] k d h = absurd (omega arith)
told-at (v ∷ vs) zero d h = first-told v vs
told-at (v ∷ vs) (suc k) d h = later-told v _ vs (told-at vs k d (omega arith))

-- a first element before all others
pub ordered-first : (v : ListValue) (vs : List ListValue) → ((w : ListValue) → Contains vs w → IsBefore v w) → IsOrdered vs → IsOrdered (v ∷ vs)
ordered-first v vs h o zero zero d lt within = absurd (omega arith)
ordered-first v vs h o zero (suc k) d lt within = h _ (told-at vs k d (omega arith))
ordered-first v vs h o (suc j) zero d lt within = absurd (omega arith)
ordered-first v vs h o (suc j) (suc k) d lt within = o j k d (omega arith) (omega arith)

entry : ℕ → ℕ → Value → ListValue
entry dim dart value = record { dim = dim; dart = dart; value = value }

entry-one : (i j d e : ℕ) (v w : Value) → i ≡ j → d ≡ e → v ≡ w → entry i d v ≡ entry j e w
entry-one i j d e v w f g h = cc (f, g, h)

module _ (c : Content) (places : HasPlaces c) where
  -- the valued cells from dart d of dimension j on
  abbrev IsFrom : ℕ → ℕ → ListValue → Type 0
  IsFrom j d v = (j < v.dim) ⊎ ((v.dim ≡ j) × (d ≤ v.dart))

  abbrev IsListed : ListValue → Type 0
  IsListed v = (value_at c v.dim v.dart ≡ Some v.value) × NamesCell c.kind (links_of c.rows) v.dim v.dart

  record ListsFrom (j d : ℕ) (values : List ListValue) : Type 0 where
    members : (v : ListValue) → Contains values v ↔ (IsFrom j d v × IsListed v)
    ordered : IsOrdered values

  abbrev HasListFrom : ℕ → ℕ → Type 0
  HasListFrom j d = (values : List ListValue) × ListsFrom j d values

  some-same : (o : Option Value) (x y : Value) → o ≡ Some x → o ≡ Some y → x ≡ y
  some-same o x y e f = cc

  no-value : (o : Option Value) (x : Value) → o ≡ None → o ≡ Some x → ⊥
  no-value o x e f = cc

  -- above the map's dimension there is none
  list-end : ListsFrom (suc c.dim) 0 []
  list-end = record { members = λ v. ((λ h. absurd (let g = h.1 in omega arith)), (λ p. absurd (none v p.0 p.1.0))); ordered = λ j k d lt within. absurd (omega arith) }
    where
      above : (v : ListValue) → IsFrom (suc c.dim) 0 v → c.dim < v.dim
      above v (inl h) = omega arith
      above v (inr h) = let e = h.0 in omega arith

      none : (v : ListValue) → IsFrom (suc c.dim) 0 v → value_at c v.dim v.dart ≡ Some v.value → ⊥
      none v from is = no-value _ v.value (value-above c places v.dim v.dart (above v from)) is

  -- nor behind the last place
  value-past : (j d : ℕ) → length c.values ≤ d → value_at c j d ≡ None
  value-past j d past = ap (λ (vs : List (Option Value)). slice_index_or vs j None) (get_or_past c.values d [] past)

  list-below : (j : ℕ) (vs : List ListValue) → ListsFrom (suc j) 0 vs → ListsFrom j (length c.values) vs
  list-below j vs l = record { members = λ v. ((λ h. let m = (l.members v).0 h in (to v m.0, m.1)), (λ p. (l.members v).1 (back v p.0 p.1, p.1))); ordered = l.ordered }
    where
      to : (v : ListValue) → IsFrom (suc j) 0 v → IsFrom j (length c.values) v
      to v (inl h) = inl (omega arith)
      to v (inr h) = inl (let e = h.0 in omega arith)

      back : (v : ListValue) → IsFrom j (length c.values) v → IsListed v → IsFrom (suc j) 0 v
      back v (inl h) is = elim (cases_lt (suc j) v.dim) [ inl more ↦ inl more | inr less ↦ inr (omega arith, omega arith) ]
      back v (inr h) is = absurd (no-value _ v.value (value-past v.dim v.dart h.1) is.0)

  -- one dart more
  module _ (j d : ℕ) (vs : List ListValue) (l : ListsFrom j (suc d) vs) where
    more : (v : ListValue) → IsFrom j (suc d) v → IsFrom j d v
    more v (inl h) = inl h
    more v (inr h) = inr (h.0, (let g = h.1 in omega arith))

    or-first : (v : ListValue) → IsFrom j d v → IsFrom j (suc d) v ⊎ ((v.dim ≡ j) × (v.dart ≡ d))
    or-first v (inl h) = inl (inl h)
    or-first v (inr h) = let g = h.1 in elim (cases_lt d v.dart) [ inl above ↦ inl (inr (h.0, omega arith)) | inr at ↦ inr (h.0, omega arith) ]

    without : ((v : ListValue) → v.dim ≡ j → v.dart ≡ d → IsListed v → ⊥) → ListsFrom j d vs
    without none = record { members = λ v. ((λ h. let m = (l.members v).0 h in (more v m.0, m.1)), (λ p. (l.members v).1 (back v (or-first v p.0) p.1, p.1))); ordered = l.ordered }
      where
        back : (v : ListValue) → IsFrom j (suc d) v ⊎ ((v.dim ≡ j) × (v.dart ≡ d)) → IsListed v → IsFrom j (suc d) v
        back v (inl from) is = from
        back v (inr at) is = absurd (none v at.0 at.1 is)

    module _ (x : Value) (held : value_at c j d ≡ Some x) (names : NamesCell c.kind (links_of c.rows) j d) where
      abbrev first : ListValue
      first = record { dim = j; dart = d; value = x }

      comes-before : (w : ListValue) → IsFrom j (suc d) w → IsBefore first w
      comes-before w (inl h) = inl h
      comes-before w (inr h) = inr (sym h.0, (let g = h.1 in omega arith))

      is-first : (v : ListValue) → v.dim ≡ j → v.dart ≡ d → value_at c v.dim v.dart ≡ Some v.value → v ≡ first
      unfolding entry
      is-first v e f is =
          let same : v.value ≡ x = some-same (value_at c j d) v.value x (subst (λ (n : ℕ). value_at c n d ≡ Some v.value) e (subst (λ (n : ℕ). value_at c v.dim n ≡ Some v.value) f is)) held in
          entry-one v.dim j v.dart d v.value x e f same

      with-first : ListsFrom j d (first ∷ vs)
      with-first = record {
        members = λ v. ((λ h. to v (told-first first v vs h)), (λ p. back v (or-first v p.0) p.1));
        ordered = ordered-first first vs (λ w h. comes-before w ((l.members w).0 h).0) l.ordered;
      }
        where
          to : (v : ListValue) → (v ≡ first) ⊎ Contains vs v → IsFrom j d v × IsListed v
          to v (inl e) = subst (λ (u : ListValue). IsFrom j d u × IsListed u) (sym e) (inr (refl, omega arith), (held, names))
          to v (inr h) = let m = (l.members v).0 h in (more v m.0, m.1)

          back : (v : ListValue) → IsFrom j (suc d) v ⊎ ((v.dim ≡ j) × (v.dart ≡ d)) → IsListed v → Contains (first ∷ vs) v
          back v (inl from) is = later-told first v vs ((l.members v).1 (from, is))
          back v (inr at) is = subst (λ (u : ListValue). Contains (first ∷ vs) u) (sym (is-first v at.0 at.1 is.0)) (first-told first vs)

    by-value : (o : Option Value) → value_at c j d ≡ o → Somehow (HasListFrom j d)
    by-value None e refute = refute (vs, without (λ v f g is. no-value (value_at c j d) v.value e (subst (λ (n : ℕ). value_at c n d ≡ Some v.value) f (subst (λ (n : ℕ). value_at c v.dim n ≡ Some v.value) g is.0))))
    by-value (Some x) e refute = refute (
      vs,
      without (λ v f g is.
          refute (first x e (named v f g is) ∷ vs, with-first x e (named v f g is))),
    )
      where
        named : (v : ListValue) → v.dim ≡ j → v.dart ≡ d → IsListed v → NamesCell c.kind (links_of c.rows) j d
        named v f g is = subst (λ (n : ℕ). NamesCell c.kind (links_of c.rows) n d) f (subst (λ (n : ℕ). NamesCell c.kind (links_of c.rows) v.dim n) g is.1)

  darts-down : (n j : ℕ) → HasListFrom j n → Somehow (HasListFrom j 0)
  darts-down zero j has refute = refute has
  darts-down (suc n) j (vs, l) refute = by-value j n vs l (value_at c j n) refl (λ has. darts-down n j has refute)

  dims-down : (n : ℕ) → HasListFrom n 0 → Somehow (HasListFrom 0 0)
  dims-down zero has refute = refute has
  dims-down (suc n) (vs, l) refute = darts-down (length c.values) n (vs, list-below n vs l) (λ has. dims-down n has refute)

  lists-all : (vs : List ListValue) → ListsFrom 0 0 vs → ListsValues c vs
  lists-all vs l = record { members = λ v. ((λ h. ((l.members v).0 h).1), (λ is. (l.members v).1 (all v, is))); ordered = l.ordered }
    where
      all : (v : ListValue) → IsFrom 0 0 v
      all v = elim (cases_lt 0 v.dim) [ inl some ↦ inl some | inr none ↦ inr (omega arith, omega arith) ]

  pub has-listing : Somehow ((values : List ListValue) × ListsValues c values)
  has-listing refute = dims-down (suc c.dim) ([], list-end) (λ has. refute (has.0, lists-all has.0 has.1))
