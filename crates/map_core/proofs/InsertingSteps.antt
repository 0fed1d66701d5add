-- What the machine does where a vertex, an edge or a face is inserted, by what the plans answer.
use Rattle.std.proofs.Common.{◌≡◌, ℕ, ◌+◌, ◌<◌, ◌≤◌, List, [], ◌∷◌, length, All, Result, Ok, Err, refl, sym, ap, subst, inl, inr, arith}
use Rattle.map_kind.specs.declared.refusal.Refused.{Refused}
use Rattle.map_kind.specs.declared.refusal.Refused.TheVariants as why
use Rattle.map_kind.specs.Refusals.{meaning}
use Rattle.map_defs.specs.Kind.{Kind}
use Rattle.map_defs.specs.Links.{Links}
use Rattle.map_defs.specs.Rows.{Rows, links_of, IsLive, made, made_max}
use Rattle.map_defs.specs.Counts.{HasCount}
use Rattle.map_defs.specs.Edits.{Edit, after_edit}
use Rattle.machine_defs.specs.State.{State, Content}
use Rattle.map_defs.specs.Values.{Hook}
use Rattle.machine_defs.specs.Relinking.{NoDart, IsTooMany, IsGrown}
use Rattle.map_defs.specs.Insertion.{AreOnOneSide, FaceDarts, IsOnOneVolume, IsClosedPath, IsFacePaired, IsFace}
use Rattle.map_defs.specs.Inserting.{VertexDarts, IsVertex, InCorner, AreEdgePaired, EdgeDarts, IsEdge}
use Rattle.machine_defs.specs.Script.{Line, Vertex, Edge, Face}
use Rattle.machine_defs.specs.Machine.{Step, Judged, InsertsDarts, room_check}
use Rattle.machine_defs.specs.Text as text
use Rattle.machine_defs.specs.Text.{Reply}
use Rattle.machine_defs.specs.Kept.{IsLawfulContent}
use Rattle.label_laws.specs.Contents.{IsCarriedOn}
use Rattle.map_core.proofs.Present.{seen_as, seen-is, seen-sound, seen-begun, relinked}
use Rattle.machine_laws.proofs.Answers.{count-one}
use Rattle.map_core.specs.Calls.{Does}
use Rattle.map_core.specs.Growing.{Grows}
use Rattle.cell_edit.specs.Inserting.{PlansInsertion}
use Rattle.cell_edit.specs.Planning.{PlansVertex, PlansEdge, PlansFace}
use Rattle.map_kind.specs.declared.done.Done.{Done}

module _ (k : Kind) (n : ℕ) (rows : Rows) (hook : Hook) where
  -- what is inserted, once all other checks have passed; its darts and its links are told for each content
  module _ (s : State) (kind : s.present.kind ≡ k) (dim : s.present.dim ≡ n) (same : rows ≡ s.present.rows) (kept : IsLawfulContent s.present) where
    abbrev Here : Content
    Here = seen_as k n rows s.present

    view : Here ≡ s.present
    view = seen-is k n rows s.present kind dim same

    module _ (K : Content → ℕ → Type 0) (Becomes : Content → (ℕ → ℕ) → Links → Type 0) (edit : Edit) (plan : PlansInsertion k n rows (K Here) (Becomes Here) edit) where
      counted : HasCount (K Here) edit.births
      counted = record { numbers = plan.keys; ascending = plan.numbered.ascending; members = plan.numbered.members; counted = sym plan.births }

      enough : made rows + edit.births ≤ made_max → IsTooMany Here (K Here) → ⊥
      enough few many = let same = count-one (K Here) many.0 edit.births many.1 counted in let more = many.2 in omega arith

      grown : (next : Content) → IsCarriedOn hook Here (after_edit n edit rows) next → IsGrown hook Here (K Here) (Becomes Here) edit.births next
      grown next on = record {
        keys = plan.keys;
        star = plan.star;
        numbered = plan.numbered;
        counted = plan.births;
        relinked = relinked k n rows edit (seen-sound k n rows s.present kind dim same kept) (seen-begun rows s.present same kept) plan.fits NoDart (λ x. (λ none. absurd none, λ at. absurd (omega (arith, at.1, ap length plan.deaths)))) hook s.present next on (Becomes Here plan.star) plan.becomes;
      }

      pub inserted : (line : Line) → ((reply : Reply) (new : State) → Judged s (room_check s.present (K s.present) ∷ []) (InsertsDarts hook s (K s.present) (Becomes s.present)) reply new → Step hook s line reply new)
          → (result : Result Done Refused) (new : State) → Grows hook s edit result new → Does hook s line result new
      inserted line passes (Ok done) new g =
          let few : made rows + edit.births ≤ made_max = subst (λ (c : Content). made c.rows + edit.births ≤ made_max) (sym view) g.0 in
          let on = subst (λ (c : Content). IsCarriedOn hook c (after_edit c.dim edit c.rows) g.3.0) (sym view) g.3.1 in
          let facts = subst (λ (c : Content). (IsTooMany c (K c) → ⊥) × IsGrown hook c (K c) (Becomes c) edit.births g.3.0) view (enough few, grown g.3.0 on) in
          passes (text.Done done.first done.count) new
          (inr (facts.0, (edit.births, g.3.0, facts.1, rw (g.1, g.2) refl, g.3.2)))
      inserted line passes (Err (why.Line refusal)) new g =
          let many = subst (λ (c : Content). made_max < made c.rows + edit.births) (sym view) g.1 in
          let full = subst (λ (c : Content). IsTooMany c (K c)) view (edit.births, counted, many) in
          passes (text.Refused (meaning refusal)) new (inl (full, rw g.0 refl, g.2))
      inserted line passes (Err why.NoMemory) new g = g

    pub vertex-does : (d : ℕ) → IsLive s.present.rows d → (edit : Edit) → PlansVertex k n rows d edit
        → (result : Result Done Refused) (new : State) → Grows hook s edit result new → Does hook s (Vertex d) result new
    vertex-does d live edit plan result new grows =
        inserted (λ c. VertexDarts c.kind (links_of c.rows) d) (λ c star. IsVertex c.kind d star (links_of c.rows)) edit plan (Vertex d)
        (λ reply after judged. inr (live, judged)) result new grows

    -- an edge
    module _ (d e : ℕ) (one : IsLive s.present.rows d) (other : IsLive s.present.rows e) where
      pub edge-does : (edit : Edit) → PlansEdge k n rows d e (Ok edit)
          → (result : Result Done Refused) (new : State) → Grows hook s edit result new → Does hook s (Edge d e) result new
      edge-does edit plan result new grows =
          let checked = subst (λ (c : Content). AreOnOneSide (links_of c.rows) d e × (InCorner c.kind (links_of c.rows) d e → ⊥) × AreEdgePaired c.kind (links_of c.rows) d e) view (plan.0, plan.1, plan.2) in
          inserted (λ c. EdgeDarts c.kind (links_of c.rows) d e) (λ c star. IsEdge c.kind d e star (links_of c.rows)) edit plan.3 (Edge d e)
          (λ reply after judged. inr (one, inr (other, inr (checked.0, inr (checked.1, inr (checked.2, judged)))))) result new grows

      pub edge-refused : (refused : Refused) → PlansEdge k n rows d e (Err refused) → Does hook s (Edge d e) (Err refused) s
      edge-refused refused plan = go refused (subst (λ (c : Content). PlansEdge c.kind c.dim c.rows d e (Err refused)) view plan)
        where
          go : (refused : Refused) → PlansEdge s.present.kind s.present.dim s.present.rows d e (Err refused) → Does hook s (Edge d e) (Err refused) s
          go (why.Line refusal) (inl p) = rw p.0 (inr (one, inr (other, inl (p.1, refl, refl))))
          go (why.Line refusal) (inr (inl p)) = rw p.0 (inr (one, inr (other, inr (p.1, inl (p.2, refl, refl)))))
          go (why.Line refusal) (inr (inr p)) = rw p.0 (inr (one, inr (other, inr (p.1, inr (p.2, inl (p.3, refl, refl))))))
          go why.NoMemory p = refl

    -- a face, in a map of dimension 3 or more
    module _ (path : List ℕ) (high : n < 3 → ⊥) where
      higher : s.present.dim < 3 → ⊥
      higher = subst (λ (c : Content). c.dim < 3 → ⊥) view high

      pub face-does : All (IsLive s.present.rows) path → (edit : Edit) → PlansFace k n rows path (Ok edit)
          → (result : Result Done Refused) (new : State) → Grows hook s edit result new → Does hook s (Face path) result new
      face-does all edit plan result new grows =
          let checked = subst (λ (c : Content). IsOnOneVolume (links_of c.rows) path × IsClosedPath c.kind (links_of c.rows) path × IsFacePaired c.kind (links_of c.rows) path) view (plan.0, plan.1, plan.2) in
          inserted (λ c. FaceDarts c.kind (links_of c.rows) path) (λ c star. IsFace c.kind path star (links_of c.rows)) edit plan.3 (Face path)
          (λ reply after judged. inr (higher, inr (all, inr (checked.0, inr (checked.1, inr (checked.2, judged)))))) result new grows

      pub face-refused : All (IsLive s.present.rows) path → (refused : Refused) → PlansFace k n rows path (Err refused) → Does hook s (Face path) (Err refused) s
      face-refused all refused plan = go refused (subst (λ (c : Content). PlansFace c.kind c.dim c.rows path (Err refused)) view plan)
        where
          go : (refused : Refused) → PlansFace s.present.kind s.present.dim s.present.rows path (Err refused) → Does hook s (Face path) (Err refused) s
          go (why.Line refusal) (inl p) = rw p.0 (inr (higher, inr (all, inl (p.1, refl, refl))))
          go (why.Line refusal) (inr (inl p)) = rw p.0 (inr (higher, inr (all, inr (p.1, inl (p.2, refl, refl)))))
          go (why.Line refusal) (inr (inr p)) = rw p.0 (inr (higher, inr (all, inr (p.1, inr (p.2, inl (p.3, refl, refl))))))
          go why.NoMemory p = refl
