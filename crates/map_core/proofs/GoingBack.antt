-- What the machine does where a mark is gone back to.
use Rattle.std.proofs.Common.{◌≡◌, ℕ, ◌<◌, List, [], get_or, Err, refl, sym, ap, ap₂, ◌∙◌, subst, inl, inr, arith}
use Rattle.std.proofs.lemmas.Bool.{cases_lt}
use Rattle.std.proofs.lemmas.Option.{same_Some}
use Rattle.map_kind.specs.declared.refusal.Refusal.{Refusal}
use Rattle.map_kind.specs.declared.refusal.Refusal.TheVariants as told_as
use Rattle.map_kind.specs.declared.refusal.Refused.{Refused}
use Rattle.map_kind.specs.declared.refusal.Refused.TheVariants as why
use Rattle.map_defs.specs.Values.{Hook}
use Rattle.machine_defs.specs.State.{Content}
use Rattle.map_defs.specs.Refusal.{NoMark}
use Rattle.machine_defs.specs.Script.{Undo}
use Rattle.machine_defs.specs.Machine.{Step}
use Rattle.machine_defs.specs.Text as text
use Rattle.journal_laws.specs.Following.{all_taken_back}
use Rattle.trail_laws.specs.Trails as trails
use Rattle.trail_laws.specs.Trails.{Placed, Ahead, Trail, IsLastAhead, CanGoForth, steps_since, steps_ahead, undo_at, back, forth, IsOrdered}
use Rattle.trail_laws.proofs.TrailFacts.{mark_within, name_is_mark}
use Rattle.trail_laws.specs.Told.{told, before_steps, IsTraced}
use Rattle.trail_laws.proofs.Naming.{names-told}
use Rattle.trail_laws.proofs.UndoneNames.{back-ahead, one-ahead}
use Rattle.trail_laws.proofs.Between.{between-kept, between-follows, between-differ}
use Rattle.trail_laws.proofs.Returning.{gone-back}
use Rattle.valued_map.specs.Undoing.{AreStepsTo}
use Rattle.map_core.specs.Calls.{Does}

abbrev no-mark : Placed
no-mark = record { name = []; place = 0 }

-- one name has one mark
module _ (t : Trail) (o : IsOrdered t) (name : List ℕ) where
  is-named : (k : ℕ) → trails.IsMark t name k → (get_or t.marks k no-mark).name ≡ name
  is-named k is = same_Some (get_or t.marks k no-mark).name name (sym (name_is_mark t k no-mark o (mark_within t name k o is)) ∙ is)

  later : (k h : ℕ) → trails.IsMark t name k → trails.IsMark t name h → k < h → ⊥
  later k h one other before =
      let inside = mark_within t name h o other in
      o.names_differ k h no-mark before (let long = o.standing in omega arith) (is-named k one ∙ sym (is-named h other))

  pub one-mark : (k h : ℕ) → trails.IsMark t name k → trails.IsMark t name h → h ≡ k
  one-mark k h one other = elim (cases_lt k h) [
    | inl before ↦ absurd (later k h one other before)
    | inr not ↦ elim (cases_lt h k) [
      | inl before ↦ absurd (later h k other one before)
      | inr after ↦ omega arith
    ]
  ]

-- after the journal went back to a mark, that undo is the last one that can be taken back
module _ (t : Trail) (o : IsOrdered t) (name : List ℕ) (k : ℕ) (is : trails.IsMark t name k) (u : Trail) (gone : u ≡ back t k) where
  pub gone-stands : CanGoForth u name
  gone-stands = subst (λ (v : Trail). CanGoForth v name) (sym gone) (t.undone, undo_at t k, back-ahead t name k o is)

  module _ (others : List Ahead) (last : Ahead) (one : IsLastAhead u name others last) where
    gone-last : (others ≡ t.undone) × (last ≡ undo_at t k)
    gone-last =
        one-ahead (back t k) name name others t.undone last (undo_at t k)
        (subst (λ (v : Trail). IsLastAhead v name others last) gone one) (back-ahead t name k o is)

    -- what it took back are the steps since the mark
    pub gone-steps : steps_ahead u last ≡ steps_since t k
    gone-steps = ap (λ (v : Trail). steps_ahead v last) gone ∙ ap (λ (a : Ahead). steps_ahead (back t k) a) gone-last.1

    -- and with it given up everything is as before
    pub gone-not : (v : Trail) → v ≡ forth u others last → v ≡ t
    gone-not v is-forth =
        is-forth ∙ ap (λ (w : Trail). forth w others last) gone
        ∙ ap₂ (λ (us : List Ahead) (a : Ahead). forth (back t k) us a) gone-last.0 gone-last.1

module _ (now : Content) (t : Trail) (h : IsTraced now t) (o : IsOrdered t) (hook : Hook) (name : List ℕ) where
  -- the steps since a mark lead to the content of now
  pub steps-lead : (k : ℕ) → trails.IsMark t name k → AreStepsTo now (steps_since t k)
  steps-lead k is = record {
    kept = λ j small. between-kept now t k h o (mark_within t name k o is) j now small;
    follow = λ j inside. between-follows now t k h o (mark_within t name k o is) j inside;
    differ = λ j e inside. between-differ now t k h o (mark_within t name k o is) j e inside;
  }

  pub undo-refused : (trails.HasMark t name → ⊥) → Step hook (told now t) (Undo name) (text.Refused NoMark) (told now t)
  undo-refused none = inl (λ has. none ((names-told now t o name).0 has), refl, refl)

  -- the same of whatever a journal answers
  pub undo-not : (r : Refused) → ((refusal : Refusal) → r ≡ why.Line refusal → (refusal ≡ told_as.NoMark) × (trails.HasMark t name → ⊥)) → Does hook (told now t) (Undo name) (Err r) (told now t)
  undo-not (why.Line refusal) says =
      let is = says refusal refl in
      rw is.0 (undo-refused is.1)
  undo-not why.NoMemory says = refl

  pub undo-obeyed : (k : ℕ) → trails.IsMark t name k → (next : Content) → next ≡ all_taken_back (steps_since t k) now → (u : Trail) → u ≡ back t k
      → Step hook (told now t) (Undo name) (text.Done 0 0) (told next u)
  undo-obeyed k is next before u gone =
      let (mark, named, copy, there, traced) = gone-back now t name k h o is in
      inr ((k, mark, named), (k, mark, named, (refl, ap (λ (c : Content). told c u) before ∙ ap (told (before_steps now t k)) gone ∙ there)))

  -- what the map keeps after going back
  pub undo-traced : (k : ℕ) → trails.IsMark t name k → (next : Content) → next ≡ all_taken_back (steps_since t k) now → (u : Trail) → u ≡ back t k → IsTraced next u
  undo-traced k is next before u gone =
      let (mark, named, copy, there, traced) = gone-back now t name k h o is in
      subst (λ (v : Trail). IsTraced next v) (sym gone) (subst (λ (c : Content). IsTraced c (back t k)) (sym before) traced)
