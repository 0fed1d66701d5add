-- What every state of the machine keeps, kept by changes of links and of values.
use Rattle.std.proofs.Common.{◌≡◌, ◌≢◌, ◌⊎◌, ℕ, ◌+◌, ◌≤◌, List, [], ◌∷◌, length, get_or, slice_set, Option, Some, None, All, IsSome, slice_index_or, refl, sym, ap, ◌∙◌, subst, inl, inr, arith}
use Rattle.std.proofs.lemmas.Bool.{cases_lt}
use Rattle.std.proofs.lemmas.List.{length-set, get_or-set_same, get_or-set_other}
use Rattle.std.proofs.lemmas.List.Elements.{All-push}
use Rattle.link_laws.proofs.Basics.{same_or_not}
use Rattle.map_defs.specs.Kind.{Kind}
use Rattle.map_defs.specs.Links.{Links}
use Rattle.map_defs.specs.Laws.{Laws, IsLawful}
use Rattle.map_defs.specs.Rows.{Rows, row_at, IsLive, links_of, AreWide, made, made_max, IsSound}
use Rattle.map_defs.specs.Cells.{InCell}
use Rattle.map_defs.specs.Values.{Value, Rule, Hook, meaning_of}
use Rattle.map_defs.specs.Carry.{AreEqualOnCells}
use Rattle.machine_defs.specs.State.{Content, State, Mark, value_at, rule_at, kept_past, steps_to}
use Rattle.machine_defs.specs.Relinking.{IsRelinked, AreCarriedBy}
use Rattle.machine_defs.specs.Valuing.{IsValued}
use Rattle.machine_defs.specs.Machine.{with_rule}
use Rattle.machine_defs.specs.Kept.{IsLawfulContent, IsLawfulState}
use Rattle.link_laws.proofs.Told.{laws_of_told, told_of_laws}
use Rattle.link_laws.proofs.RowFacts.{rows_lead_to_live}
use Rattle.link_laws.proofs.CellFacts.{cell_back}
use Rattle.link_laws.proofs.Orbits.{orbit_trans}
use Rattle.machine_laws.proofs.Marked.{marks-stepped}
use Rattle.value_laws.proofs.Touching.{cell_live}
use Rattle.value_laws.proofs.MapValues.{one_value}
use Rattle.journal_laws.proofs.ContentFacts.{value-above, value-cases}

pub laws-of : (c : Content) → IsLawfulContent c → Laws c.kind (links_of c.rows)
laws-of c kept = laws_of_told c.kind (links_of c.rows) kept.lawful

kept-past : (marks : List Mark) (past : List Content) (c : Content) → All IsLawfulContent past → IsLawfulContent c → All IsLawfulContent (kept_past marks past c)
kept-past [] past c all kept = λ p z h. absurd (omega arith)
kept-past (mark ∷ marks) past c all kept = All-push IsLawfulContent past c all kept

-- a step to a content that is kept
pub kept-step : (s : State) (next : Content) → IsLawfulState s → IsLawfulContent next → IsLawfulState (steps_to s next)
kept-step s next kept is = record {
  present = is;
  past = kept-past s.marks s.past s.present kept.past kept.present;
  marks = kept.marks;
  marked = marks-stepped s.marks s.past s.present next kept.marked;
  undone = λ p z h. absurd (omega arith);
}

-- no value is there without a rule
no-value : (hook : Hook) (c next : Content) (i d : ℕ) (rule : Option Rule) → rule ≡ None → AreCarriedBy hook c next i rule → value_at next i d ≡ None
no-value hook c next i d None is none = none d
no-value hook c next i d (Some rule) is carried = absurd (cc (is))

-- place 0 has no dart
nothing-at : (rows : Rows) → (IsLive rows 0 → ⊥) → row_at rows 0 ≡ None
nothing-at rows dead = by_row (row_at rows 0) dead
  where
    by_row : (o : Option (List ℕ)) → (IsSome o → ⊥) → o ≡ None
    by_row None h = refl
    by_row (Some row) h = absurd (h refl)

pub dead-at : (rows : Rows) → row_at rows 0 ≡ None → IsLive rows 0 → ⊥
dead-at rows none live = by_row (row_at rows 0) none live
  where
    by_row : (o : Option (List ℕ)) → o ≡ None → IsSome o → ⊥
    by_row None h some = cc (some)
    by_row (Some row) h some = cc (h)

-- rows whose links obey the laws are sound
pub sound-of : (k : Kind) (n : ℕ) (rows : Rows) → Laws k (links_of rows) → AreWide n rows → (IsLive rows 0 → ⊥) → made rows ≤ made_max → IsSound k n rows
sound-of k n rows lawful wide nothing few = record {
  nothing = nothing-at rows nothing;
  live = rows_lead_to_live k rows lawful;
  back = lawful.back;
  wide = wide;
  few = few;
}

-- a change of links that keeps the laws
module _ (hook : Hook) (c : Content) (kept : IsLawfulContent c) (births : ℕ) (Ended : ℕ → Type 0) (Becomes : Links → Type 0) (next : Content)
    (few : made c.rows + births ≤ made_max) (lawful : Laws c.kind (links_of next.rows)) (r : IsRelinked hook c births Ended Becomes next) where
  laws : Laws c.kind (links_of c.rows)
  laws = laws-of c kept

  nothing : IsLive next.rows 0 → ⊥
  nothing live = elim ((r.live 0).0 live).0 [
    | inl old ↦ dead-at c.rows kept.sound.nothing old
    | inr born ↦ let low = born.0 in omega arith
  ]

  equal-by : (i : ℕ) (rule : Option Rule) → AreCarriedBy hook c next i rule → AreEqualOnCells c.kind i (links_of next.rows) (IsLive next.rows) (value_at next i)
  equal-by i None none x y live cell = none x ∙ sym (none y)
  equal-by i (Some rule) carried x y live cell =
      one_value c.kind i (meaning_of hook rule) (links_of c.rows) (links_of next.rows) (IsLive c.rows) (IsLive next.rows) laws lawful (value_at c i) (value_at next i) carried x y live
      (cell_live c.kind (IsLive c.rows) (links_of c.rows) (links_of next.rows) laws lawful (IsLive next.rows) (rows_lead_to_live c.kind next.rows lawful) i x live cell) cell

  equal : (i : ℕ) → AreEqualOnCells c.kind i (links_of next.rows) (IsLive next.rows) (value_at next i)
  equal i = elim (cases_lt c.dim i) [
    | inl above ↦ λ x y live cell. value-above next r.places i x (rw r.dim above) ∙ sym (value-above next r.places i y (rw r.dim above))
    | inr within ↦ equal-by i (rule_at c i) (r.values i within)
  ]

  none : (i d : ℕ) → rule_at next i ≡ None → value_at next i d ≡ None
  none i d is = elim (cases_lt c.dim i) [
    | inl above ↦ value-above next r.places i d (rw r.dim above)
    | inr within ↦ no-value hook c next i d (rule_at c i) (ap (λ (rules : List (Option Rule)). slice_index_or rules i None) (sym r.rules) ∙ is) (r.values i within)
  ]

  sound : IsSound c.kind c.dim next.rows
  sound = sound-of c.kind c.dim next.rows lawful r.wide nothing (omega (arith, r.long))

  same-rules : length next.rules ≡ next.dim + 1
  same-rules = ap (λ (rules : List (Option Rule)). length rules) r.rules ∙ kept.ruled ∙ ap (λ (n : ℕ). n + 1) (sym r.dim)

  pub kept-relinked : IsLawfulContent next
  kept-relinked = record {
    flat = rw r.dim kept.flat;
    sound = subst (λ (k : Kind). IsSound k next.dim next.rows) (sym r.kind) (subst (λ (n : ℕ). IsSound c.kind n next.rows) (sym r.dim) sound);
    begun = omega (arith, r.long, kept.begun);
    lawful = subst (λ (k : Kind). IsLawful k (links_of next.rows)) (sym r.kind) (told_of_laws c.kind (links_of next.rows) lawful);
    places = r.places;
    ruled = same-rules;
    equal = subst (λ (k : Kind). (i : ℕ) → AreEqualOnCells k i (links_of next.rows) (IsLive next.rows) (value_at next i)) (sym r.kind) equal;
    none = none;
  }

-- a cell that is given a value, in a dimension with a rule, or whose value is taken
module _ (c : Content) (kept : IsLawfulContent c) (i d : ℕ) (live : IsLive c.rows d) (value : Option Value) (ruled : rule_at c i ≡ None → value ≡ None) (next : Content) (v : IsValued c i d value next) where
  -- the darts of one cell lie in the cell of d together
  together : (j x y : ℕ) → IsLive c.rows x → InCell c.kind (links_of c.rows) j x y → value_at next j x ≡ value_at next j y
  together j x y lives cell = value-cases ((j ≡ i) × InCell c.kind (links_of c.rows) i d x) _ _
      (λ h. rw h.0 (v.given x h.1 ∙ sym (v.given y (orbit_trans _ d x y h.1 (subst (λ (m : ℕ). InCell c.kind (links_of c.rows) m x y) h.0 cell)))))
      (λ other. v.kept j x (λ e h. other (e, h)) ∙ kept.equal j x y lives cell
      ∙ sym (v.kept j y (λ e h. other (e, orbit_trans _ d y x h (subst (λ (m : ℕ). InCell c.kind (links_of c.rows) m y x) e (cell_back c.kind (links_of c.rows) (laws-of c kept) j x y cell))))))

  unruled : (j x : ℕ) → rule_at next j ≡ None → value_at next j x ≡ None
  unruled j x is =
      let was : rule_at c j ≡ None = ap (λ (rules : List (Option Rule)). slice_index_or rules j None) (sym v.rules) ∙ is in
      value-cases ((j ≡ i) × InCell c.kind (links_of c.rows) i d x) _ _
      (λ h. rw h.0 (v.given x h.1 ∙ ruled (subst (λ (m : ℕ). rule_at c m ≡ None) h.0 was)))
      (λ other. v.kept j x (λ e h. other (e, h)) ∙ kept.none j x was)

  pub kept-valued : IsLawfulContent next
  kept-valued = record {
    flat = rw v.dim kept.flat;
    sound = rw (v.kind, v.dim, v.rows) kept.sound;
    begun = rw v.rows kept.begun;
    lawful = rw (v.kind, v.rows) kept.lawful;
    places = v.places;
    ruled = rw (v.rules, v.dim) kept.ruled;
    equal = rw (v.kind, v.rows) together;
    none = unruled;
  }

-- a dimension that is given a rule
module _ (c : Content) (kept : IsLawfulContent c) (i : ℕ) (rule : Rule) where
  pub kept-ruled : i ≤ c.dim → IsLawfulContent (with_rule c i rule)
  kept-ruled within = record {
    flat = kept.flat;
    sound = kept.sound;
    begun = kept.begun;
    lawful = kept.lawful;
    places = record { long = kept.places.long; wide = kept.places.wide; none = kept.places.none };
    ruled = length-set c.rules i (Some rule) ∙ kept.ruled;
    equal = kept.equal;
    none = unruled;
  }
    where
      same-or : (j : ℕ) → (j ≡ i) ⊎ (j ≢ i) → rule_at (with_rule c i rule) j ≡ None → rule_at c j ≡ None
      same-or j (inl e) is = absurd (let some : rule_at (with_rule c i rule) j ≡ Some rule = ap (λ (m : ℕ). get_or (slice_set c.rules i (Some rule)) m None) e ∙ get_or-set_same c.rules i (Some rule) None (omega (arith, kept.ruled)) in cc)
      same-or j (inr d) is = sym (get_or-set_other c.rules i j (Some rule) None d) ∙ is

      unruled : (j d : ℕ) → rule_at (with_rule c i rule) j ≡ None → value_at (with_rule c i rule) j d ≡ None
      unruled j d is = kept.none j d (same-or j (same_or_not j i) is)
