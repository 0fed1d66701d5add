-- What the machine does where a map is closed and where edges are hung, by what the plans answer.
use Rattle.std.proofs.Common.{◌≡◌, ℕ, ◌+◌, ◌<◌, ◌≤◌, ◌⊎◌, [], ◌∷◌, length, Result, Ok, Err, refl, sym, ap, subst, inl, inr, arith}
use Rattle.map_kind.specs.declared.refusal.Refused.{Refused}
use Rattle.map_kind.specs.declared.refusal.Refused.TheVariants as why
use Rattle.map_kind.specs.Refusals.{meaning}
use Rattle.map_kind.specs.declared.done.Done.{Done}
use Rattle.map_defs.specs.Kind.{Kind, beta}
use Rattle.map_defs.specs.Links.{Links}
use Rattle.map_defs.specs.Rows.{Rows, links_of, IsLive, made, made_max}
use Rattle.map_defs.specs.Counts.{HasCount}
use Rattle.map_defs.specs.Cells.{InCell}
use Rattle.map_defs.specs.Inserting.{InCorner}
use Rattle.map_defs.specs.Closing.{IsOpen, IsClosed, IsDangled, CanDangle, IsCentred, IsClosedFace}
use Rattle.map_defs.specs.Edits.{Edit, after_edit}
use Rattle.map_defs.specs.Values.{Hook}
use Rattle.machine_defs.specs.State.{State, Content}
use Rattle.machine_defs.specs.Relinking.{NoDart, IsTooManyTwice, IsHungWith}
use Rattle.machine_defs.specs.Script.{Line, Close, Dangle, Center}
use Rattle.machine_defs.specs.Machine.{Step, Judged, HangsEdges, room_check_twice}
use Rattle.machine_defs.specs.Text as text
use Rattle.machine_defs.specs.Text.{Reply}
use Rattle.machine_defs.specs.Kept.{IsLawfulContent}
use Rattle.label_laws.specs.Contents.{IsCarriedOn}
use Rattle.machine_laws.proofs.Answers.{count-one}
use Rattle.map_close.specs.Planning.{PlansClosing}
use Rattle.face_center.specs.Planning.{PlansHanging, PlansDangling, PlansCentre}
use Rattle.map_core.specs.Calls.{Does}
use Rattle.map_core.specs.Growing.{Grows}
use Rattle.map_core.proofs.Present.{seen_as, seen-is, seen-sound, seen-begun, relinked}
use Rattle.map_core.proofs.InsertingSteps.{inserted}

module _ (k : Kind) (n : ℕ) (rows : Rows) (hook : Hook) (s : State) (kind : s.present.kind ≡ k) (dim : s.present.dim ≡ n) (same : rows ≡ s.present.rows) (kept : IsLawfulContent s.present) where
  abbrev Here : Content
  Here = seen_as k n rows s.present

  view : Here ≡ s.present
  view = seen-is k n rows s.present kind dim same

  pub closing-does : (i : ℕ) → ((n < i) ⊎ ((k ≡ beta) × (i < 2)) → ⊥) → (edit : Edit) → PlansClosing k n rows i edit
      → (result : Result Done Refused) (new : State) → Grows hook s edit result new → Does hook s (Close i) result new
  closing-does i can edit plan result new grows =
      let able = subst (λ (c : Content). (c.dim < i) ⊎ ((c.kind ≡ beta) × (i < 2)) → ⊥) view can in
      inserted k n rows hook s kind dim same kept (λ c. IsOpen (IsLive c.rows) i (links_of c.rows)) (λ c star. IsClosed c.kind i (IsLive c.rows) star (links_of c.rows)) edit plan (Close i)
      (λ reply after judged. inr (able, judged)) result new grows

  -- what is hung, once all other checks have passed; its darts and its links are told for each content
  module _ (K : Content → ℕ → Type 0) (Becomes : Content → (ℕ → ℕ) → (ℕ → ℕ) → Links → Type 0) (edit : Edit) (plan : PlansHanging k n rows (K Here) (Becomes Here) edit) where
    counted : HasCount (K Here) (length plan.keys)
    counted = record { numbers = plan.keys; ascending = plan.begins.ascending; members = plan.begins.members; counted = refl }

    enough : made rows + edit.births ≤ made_max → IsTooManyTwice Here (K Here) → ⊥
    enough few many =
        let same_count = count-one (K Here) many.0 (length plan.keys) many.1 counted in
        let births = plan.births in
        let more = many.2 in
        omega arith

    hung : (next : Content) → IsCarriedOn hook Here (after_edit n edit rows) next → IsHungWith hook Here (K Here) (Becomes Here) edit.births next
    hung next on = record {
      keys = plan.keys;
      star = plan.star;
      tip = plan.tip;
      begins = plan.begins;
      ends = plan.ends;
      counted = plan.births;
      relinked = relinked k n rows edit (seen-sound k n rows s.present kind dim same kept) (seen-begun rows s.present same kept) plan.fits NoDart (λ x. (λ none. absurd none, λ at. absurd (omega (arith, at.1, ap length plan.deaths)))) hook s.present next on (Becomes Here plan.star plan.tip) plan.becomes;
    }

    hangs : (line : Line) → ((reply : Reply) (new : State) → Judged s (room_check_twice s.present (K s.present) ∷ []) (HangsEdges hook s (K s.present) (Becomes s.present)) reply new → Step hook s line reply new)
        → (result : Result Done Refused) (new : State) → Grows hook s edit result new → Does hook s line result new
    hangs line passes (Ok done) new g =
        let few : made rows + edit.births ≤ made_max = subst (λ (c : Content). made c.rows + edit.births ≤ made_max) (sym view) g.0 in
        let on = subst (λ (c : Content). IsCarriedOn hook c (after_edit c.dim edit c.rows) g.3.0) (sym view) g.3.1 in
        let facts = subst (λ (c : Content). (IsTooManyTwice c (K c) → ⊥) × IsHungWith hook c (K c) (Becomes c) edit.births g.3.0) view (enough few, hung g.3.0 on) in
        passes (text.Done done.first done.count) new
        (inr (facts.0, (edit.births, g.3.0, facts.1, rw (g.1, g.2) refl, g.3.2)))
    hangs line passes (Err (why.Line refusal)) new g =
        let many = subst (λ (c : Content). made_max < made c.rows + edit.births) (sym view) g.1 in
        let births = plan.births in
        let full = subst (λ (c : Content). IsTooManyTwice c (K c)) view (length plan.keys, counted, omega (arith, many, births)) in
        passes (text.Refused (meaning refusal)) new (inl (full, rw g.0 refl, g.2))
    hangs line passes (Err why.NoMemory) new g = g

  module _ (d : ℕ) (live : IsLive s.present.rows d) where
    pub dangle-does : (edit : Edit) → PlansDangling k n rows d (Ok edit)
        → (result : Result Done Refused) (new : State) → Grows hook s edit result new → Does hook s (Dangle d) result new
    dangle-does edit plan result new grows =
        let can = subst (λ (c : Content). CanDangle c.kind (links_of c.rows) d) view plan.0 in
        hangs (λ c. InCorner c.kind (links_of c.rows) d) (λ c star tip. IsDangled c.kind d star tip (links_of c.rows)) edit plan.1 (Dangle d)
        (λ reply after judged. inr (live, inr (can, judged))) result new grows

    pub dangle-refused : (refused : Refused) → PlansDangling k n rows d (Err refused) → Does hook s (Dangle d) (Err refused) s
    dangle-refused refused plan = go refused (subst (λ (c : Content). PlansDangling c.kind c.dim c.rows d (Err refused)) view plan)
      where
        go : (refused : Refused) → PlansDangling s.present.kind s.present.dim s.present.rows d (Err refused) → Does hook s (Dangle d) (Err refused) s
        go (why.Line refusal) p = rw p.0 (inr (live, inl (p.1, refl, refl)))
        go why.NoMemory p = refl

    pub centre-does : (edit : Edit) → PlansCentre k n rows d (Ok edit)
        → (result : Result Done Refused) (new : State) → Grows hook s edit result new → Does hook s (Center d) result new
    centre-does edit plan result new grows =
        let can = subst (λ (c : Content). IsClosedFace c.kind (links_of c.rows) d) view plan.0 in
        hangs (λ c. InCell c.kind (links_of c.rows) 2 d) (λ c star tip. IsCentred c.kind d star tip (links_of c.rows)) edit plan.1 (Center d)
        (λ reply after judged. inr (live, inr (can, judged))) result new grows

    pub centre-refused : (refused : Refused) → PlansCentre k n rows d (Err refused) → Does hook s (Center d) (Err refused) s
    centre-refused refused plan = go refused (subst (λ (c : Content). PlansCentre c.kind c.dim c.rows d (Err refused)) view plan)
      where
        go : (refused : Refused) → PlansCentre s.present.kind s.present.dim s.present.rows d (Err refused) → Does hook s (Center d) (Err refused) s
        go (why.Line refusal) p = rw p.0 (inr (live, inl (p.1, refl, refl)))
        go why.NoMemory p = refl
