-- What steps that led to a content tell of all contents on the way to it.
use Rattle.std.proofs.Common.{ℕ, zero, suc, ◌≡◌, ◌+◌, ◌-◌, ◌<◌, ◌≤◌, inl, inr, sym, ap, subst, ◌∙◌, List, [], length, drop, None, Contains, arith}
use Rattle.std.proofs.lemmas.Bool.{cases_lt}
use Rattle.std.proofs.lemmas.List.{get_or_past, drop_all}
use Rattle.map_defs.specs.Kind.{Kind}
use Rattle.map_defs.specs.Rows.{Rows, IsLive, made, live_count}
use Rattle.map_defs.specs.Edits.{IsLed}
use Rattle.machine_defs.specs.State.{Content, value_at, rule_at}
use Rattle.machine_defs.specs.Difference.{Difference, RuleChange, IsDifference}
use Rattle.link_laws.proofs.RowFacts.{live_or_free}
use Rattle.edit_laws.proofs.RowWrites.{live-within}
use Rattle.journal_laws.proofs.ContentFacts.{value-above}
use Rattle.journal_laws.proofs.Leading.{difference-led}
use Rattle.journal_laws.specs.Following.{all_taken_back}
use Rattle.valued_map.specs.Undoing.{AreStepsTo, AreEditsTo, HasRoomFor, no_step, step_at, rows_before, IsRevalued}
use Rattle.valued_map.proofs.Earlier.{kind-before, dim-before, rows-are}

module _ (now : Content) (steps : List Difference) (to : AreStepsTo now steps) where
  -- the content with the steps from number j on taken back
  abbrev At : ℕ → Content
  At j = all_taken_back (drop j steps) now

  -- the edits lead on, one from the rows before it to the next rows
  pub edits-lead : (places : ℕ) → HasRoomFor now steps places → AreEditsTo now.kind now.dim now.rows steps places
  edits-lead places room = record {
    led = led;
    room = λ j low. subst (λ (r : Rows). live_count r + (step_at steps j).edit.births ≤ places) (rows-are now (drop j steps)) (room j low);
  }
    where
      led : (j : ℕ) → j < length steps
          → IsLed now.kind now.dim (step_at steps j).edit (rows_before now.dim (drop j steps) now.rows) (rows_before now.dim (drop (j + 1) steps) now.rows)
      led j low =
          subst (λ (r : Rows). IsLed now.kind now.dim (step_at steps j).edit r (rows_before now.dim (drop (j + 1) steps) now.rows)) (rows-are now (drop j steps))
          (subst (λ (r : Rows). IsLed now.kind now.dim (step_at steps j).edit (At j).rows r) (rows-are now (drop (j + 1) steps))
          (subst (λ (m : ℕ). IsLed now.kind m (step_at steps j).edit (At j).rows (At (j + 1)).rows) (dim-before now (drop j steps))
          (subst (λ (h : Kind). IsLed h (At j).dim (step_at steps j).edit (At j).rows (At (j + 1)).rows) (kind-before now (drop j steps))
          (difference-led (At j) (At (j + 1)) (step_at steps j) (to.follow j low) (to.differ j no_step low)))))

  -- the difference of a step that is among them
  step-differs : (t : Difference) → (c : Contains steps t) → IsDifference (At c.0) (At (c.0 + 1)) t
  step-differs t c = subst (λ (d : Difference). IsDifference (At c.0) (At (c.0 + 1)) d) c.2 (to.differ c.0 t c.1)

  no-rule-above : (j : ℕ) → j ≤ length steps → (i : ℕ) → now.dim < i → rule_at (At j) i ≡ None
  no-rule-above j low i above =
      let many = (to.kept j low).ruled in
      let dim : (At j).dim ≡ now.dim = dim-before now (drop j steps) in
      get_or_past (At j).rules i None (omega arith)

  -- a rule changes in the map's dimensions alone
  pub rules-low : (t : Difference) (c : RuleChange) → Contains steps t → Contains t.rules c → c.dim ≤ now.dim
  rules-low t c here there = elim (cases_lt now.dim c.dim) [
    | inl above ↦
        let m = ((step-differs t here).rules c).0 there in
        absurd (m.2 (m.0 ∙ no-rule-above here.0 (let lt : here.0 < length steps = here.1 in omega arith) c.dim above
        ∙ sym (no-rule-above (here.0 + 1) (let lt : here.0 < length steps = here.1 in omega arith) c.dim above) ∙ sym m.1))
    | inr low ↦ low
  ]

  no-value-above : (j : ℕ) → j ≤ length steps → (i d : ℕ) → now.dim < i → value_at (At j) i d ≡ None
  no-value-above j low i d above =
      let dim : (At j).dim ≡ now.dim = dim-before now (drop j steps) in
      value-above (At j) (to.kept j low).places i d (omega arith)

  -- and so does a value
  pub values-low : (i d : ℕ) → IsRevalued steps i d → i ≤ now.dim
  values-low i d (t, here, (c, there, dim, dart)) = elim (cases_lt now.dim c.dim) [
    | inl above ↦
        let m = ((step-differs t here).values c).0 there in
        absurd (m.2 (m.0 ∙ no-value-above here.0 (let lt : here.0 < length steps = here.1 in omega arith) c.dim c.dart above
        ∙ sym (no-value-above (here.0 + 1) (let lt : here.0 < length steps = here.1 in omega arith) c.dim c.dart above) ∙ sym m.1))
    | inr low ↦ omega (arith, dim)
  ]

  -- no more darts were made before a step than now
  made-less : (m j : ℕ) → j + m ≡ length steps → made (At j).rows ≤ made now.rows
  made-less zero j e = let same : drop j steps ≡ [] = drop_all j steps (omega arith) in let few = ap (λ (ss : List Difference). made (all_taken_back ss now).rows) same in omega (arith, few)
  made-less (suc m) j e =
      let next = made-less m (j + 1) (omega arith) in
      let more = (to.follow j (omega arith)).grown in
      omega (arith, next, more)

  pub made-before : made (all_taken_back steps now).rows ≤ made now.rows
  made-before = made-less (length steps) 0 (omega arith)

  made-at : (j : ℕ) → j ≤ length steps → (d : ℕ) → IsLive (At j).rows d → d ≤ made now.rows
  made-at j low d live =
      let within = live-within (At j).rows d live in
      let most = made-less (length steps - j) j (omega arith) in
      let begun = (to.kept j low).begun in
      omega (arith, within, most, begun)

  -- a value changes at darts that were made
  pub values-made : (i d : ℕ) → IsRevalued steps i d → d ≤ made now.rows
  values-made i d (t, here, (c, there, dim, dart)) =
      let lt : here.0 < length steps = here.1 in
      let m = ((step-differs t here).values c).0 there in
      elim (live_or_free (At here.0).rows c.dart) [
        | inl live ↦ let low = made-at here.0 (omega arith) c.dart live in omega (arith, low, dart)
        | inr dead ↦ elim (live_or_free (At (here.0 + 1)).rows c.dart) [
          | inl live ↦ let low = made-at (here.0 + 1) (omega arith) c.dart live in omega (arith, low, dart)
          | inr gone ↦ absurd
              (m.2 (m.0 ∙ (to.kept here.0 (omega arith)).places.none c.dim c.dart dead.0
              ∙ sym ((to.kept (here.0 + 1) (omega arith)).places.none c.dim c.dart gone.0) ∙ sym m.1))
        ]
      ]
