-- After an accepted insertion removal at the first new dart has no refusal, and gives all links back.
use Rattle.std.proofs.Common.{ℕ, ◌≡◌, ◌≢◌, ◌+◌, ◌≤◌, refl, sym, ◌∙◌, subst, inl, inr, arith, List, length}
use Rattle.std.proofs.lemmas.Bool.{ne_eqb}
use Rattle.std.proofs.lemmas.List.Elements.{All-contains}
use Rattle.map_defs.specs.Kind.{Kind, alpha, beta}
use Rattle.map_defs.specs.Links.{Links}
use Rattle.map_defs.specs.Laws.{Laws}
use Rattle.map_defs.specs.Rows.{Rows, IsLive, links_of, made}
use Rattle.map_defs.specs.Cells.{InCell}
use Rattle.map_defs.specs.Births.{IsNumbered}
use Rattle.map_defs.specs.Inserting.{VertexDarts, IsVertex, InCorner, EdgeDarts, AreEdgePaired, IsEdge}
use Rattle.map_defs.specs.Closing.{IsDangled, CanDangle}
use Rattle.map_defs.specs.Removal.{IsRemovable, IsRemoved}
use Rattle.map_defs.specs.Refusal.{Refusal}
use Rattle.map_defs.specs.Values.{Hook}
use Rattle.machine_defs.specs.State.{Content, State, steps_to}
use Rattle.machine_defs.specs.Relinking.{IsRelinked, NoDart}
use Rattle.machine_defs.specs.Kept.{IsLawfulContent}
use Rattle.machine_defs.specs.Script as says
use Rattle.machine_defs.specs.Text.{Done, Refused}
use Rattle.machine_defs.specs.Machine.{Step, InsertsDarts, HangsEdges, checks_on, links_in, first_born}
use Rattle.link_laws.proofs.RowFacts.{rows_made}
use Rattle.edit_laws.proofs.RowWrites.{live-within}
use Rattle.machine_laws.proofs.Judging.{AllPass}
use Rattle.machine_laws.proofs.Keeping.{laws-of}
use Rattle.machine_laws.proofs.GrownLaws.{vertex-live, edge-live, face-live, corner-live}
use Rattle.map_laws.specs.Back.{AreBack}
use Rattle.map_laws.proofs.Steps.{obeyed, not-refused}
use Rattle.map_laws.proofs.SewnTwice.{dart-some}
use Rattle.map_laws.proofs.TakenOut.{IsTakenOut}
use Rattle.map_laws.proofs.InsertedOut.{alpha-vertex-out, alpha-edge-out, face-out}
use Rattle.map_laws.proofs.BetaOut.{beta-vertex-out, beta-edge-out}
use Rattle.map_laws.proofs.DangledOut.{alpha-dangle-out}
use Rattle.map_laws.proofs.BetaDangledOut.{beta-dangle-out}

-- a line that inserts was obeyed, and what it made can be taken out again
pub record Inserts (hook : Hook) (s : State) (i first count : ℕ) (mid : State) : Type 1 where
  pub next : Content
  pub Becomes : Links → Type 0
  pub within : i ≤ s.present.dim
  pub relinked : IsRelinked hook s.present count NoDart Becomes next
  pub out : IsTakenOut s.present.kind i (made s.present.rows + 1) (made s.present.rows) count (links_in s.present) (links_in next)
  pub begins : first ≡ made s.present.rows + 1
  pub is : mid ≡ steps_to s next

-- removal after it
module _ (hook : Hook) (c : Content) (i births : ℕ) (within : i ≤ c.dim) (Becomes : Links → Type 0) (next : Content)
    (r : IsRelinked hook c births NoDart Becomes next)
    (out : IsTakenOut c.kind i (made c.rows + 1) (made c.rows) births (links_in c) (links_in next)) where
  removes : AllPass (checks_on hook next (says.Remove i (made c.rows + 1)))
  removes = (
    (λ above. let e = r.dim in omega arith),
    (
      (r.live (made c.rows + 1)).1 (inr (omega arith, (let some = out.some in omega arith)), (λ ends. ends)),
      (subst (λ (k : Kind). IsRemovable k (links_in next) i (made c.rows + 1)) (sym r.kind) out.possible, tt),
    ),
  )

  module _ (last : Content) (gone : IsRelinked hook next 0 (InCell next.kind (links_in next) i (made c.rows + 1)) (IsRemoved next.kind i (made c.rows + 1) (links_in next)) last) where
    lived : (d : ℕ) → IsLive last.rows d → IsLive c.rows d
    lived d h =
        let (there, apart) = (gone.live d).0 h in
        elim there [
          | inl live ↦ elim ((r.live d).0 live).0 [
            | inl old ↦ old
            | inr born ↦ absurd (apart (subst (λ (k : Kind). InCell k (links_in next) i (made c.rows + 1) d) (sym r.kind) (out.new d born.0 born.1)))
          ]
          | inr none ↦ absurd (let low = none.0 in let high = none.1 in omega arith)
        ]

    lives : 1 ≤ length c.rows → (d : ℕ) → IsLive c.rows d → IsLive last.rows d
    lives begun d h = (gone.live d).1 (
      inl ((r.live d).1 (inl h, (λ ends. ends))),
      (λ cell. out.old d (let low = live-within c.rows d h in omega arith) (subst (λ (k : Kind). InCell k (links_in next) i (made c.rows + 1) d) r.kind cell)),
    )

    back : 1 ≤ length c.rows → AreBack c.rows births last.rows
    back begun = record {
      counted = (let a = gone.long in let b = r.long in omega arith);
      live = λ d. (lived d, lives begun d);
      links = λ t d. out.back (links_in last) (subst (λ (k : Kind). IsRemoved k i (made c.rows + 1) (links_in next) (links_in last)) r.kind gone.links) t d;
    }

-- where some are born, the first has the next number
first-born : (c : Content) (births : ℕ) → 1 ≤ births → first_born c births ≡ made c.rows + 1
first-born c births some = rw (ne_eqb births 0 (λ none. omega arith)) refl

done-first : (a b c d : ℕ) → Done a b ≡ Done c d → a ≡ c
done-first a b c d e = cc

done-count : (a b c d : ℕ) → Done a b ≡ Done c d → b ≡ d
done-count a b c d e = cc

module _ (hook : Hook) (s : State) (i : ℕ) (within : i ≤ s.present.dim) (K : ℕ → Type 0) (first count : ℕ) (mid : State) where
  grown-inserts : (Becomes : (ℕ → ℕ) → Links → Type 0)
      → ((keys : List ℕ) (star : ℕ → ℕ) → IsNumbered K keys (made s.present.rows) star → (N : Links) → Becomes star N
      → IsTakenOut s.present.kind i (made s.present.rows + 1) (made s.present.rows) (length keys) (links_in s.present) N)
      → InsertsDarts hook s K Becomes (Done first count) mid → Inserts hook s i first count mid
  grown-inserts Becomes out (births, next, grown, reply, is) =
      let same : count ≡ births = done-count first count (first_born s.present births) births reply in
      let taken = subst (λ (n : ℕ). IsTakenOut s.present.kind i (made s.present.rows + 1) (made s.present.rows) n (links_in s.present) (links_in next))
      (sym (same ∙ grown.counted)) (out grown.keys grown.star grown.numbered (links_in next) grown.relinked.links) in
      record {
        next = next;
        Becomes = Becomes grown.star;
        within = within;
        relinked = subst (λ (n : ℕ). IsRelinked hook s.present n NoDart (Becomes grown.star) next) (sym same) grown.relinked;
        out = taken;
        begins = done-first first count (first_born s.present births) births reply ∙ first-born s.present births (subst (λ (n : ℕ). 1 ≤ n) same taken.some);
        is = is;
      }

  hung-inserts : (Becomes : (ℕ → ℕ) → (ℕ → ℕ) → Links → Type 0)
      → ((keys : List ℕ) (star tip : ℕ → ℕ) → IsNumbered K keys (made s.present.rows) star → IsNumbered K keys (made s.present.rows + length keys) tip → (N : Links) → Becomes star tip N
      → IsTakenOut s.present.kind i (made s.present.rows + 1) (made s.present.rows) (length keys + length keys) (links_in s.present) N)
      → HangsEdges hook s K Becomes (Done first count) mid → Inserts hook s i first count mid
  hung-inserts Becomes out (births, next, hung, reply, is) =
      let same : count ≡ births = done-count first count (first_born s.present births) births reply in
      let taken = subst (λ (n : ℕ). IsTakenOut s.present.kind i (made s.present.rows + 1) (made s.present.rows) n (links_in s.present) (links_in next))
      (sym (same ∙ hung.counted)) (out hung.keys hung.star hung.tip hung.begins hung.ends (links_in next) hung.relinked.links) in
      record {
        next = next;
        Becomes = Becomes hung.star hung.tip;
        within = within;
        relinked = subst (λ (n : ℕ). IsRelinked hook s.present n NoDart (Becomes hung.star hung.tip) next) (sym same) hung.relinked;
        out = taken;
        begins = done-first first count (first_born s.present births) births reply ∙ first-born s.present births (subst (λ (n : ℕ). 1 ≤ n) same taken.some);
        is = is;
      }

-- what each insertion makes can be taken out
module _ (rows : Rows) (keys : List ℕ) (star : ℕ → ℕ) (N : Links) where
  low : (d : ℕ) → IsLive rows d → d ≤ made rows
  low d live = let within = live-within rows d live in omega arith

  vertex-out : (k : Kind) → Laws k (links_of rows) → (d : ℕ) → d ≢ 0 → IsLive rows d → IsNumbered (VertexDarts k (links_of rows) d) keys (made rows) star
      → IsVertex k d star (links_of rows) N → IsTakenOut k 0 (made rows + 1) (made rows) (length keys) (links_of rows) N
  vertex-out alpha w d hd live m is =
      alpha-vertex-out (links_of rows) keys (made rows) star (rows_made rows) N w d hd m (λ x h. low x (vertex-live alpha rows w d x live h)) is
  vertex-out beta w d hd live m is =
      beta-vertex-out (links_of rows) w keys (made rows) star (rows_made rows) N d hd m (λ x h. low x (vertex-live beta rows w d x live h)) is

  edge-out : (k : Kind) → Laws k (links_of rows) → (d e : ℕ) → d ≢ 0 → e ≢ 0 → IsLive rows d → IsLive rows e → (InCorner k (links_of rows) d e → ⊥)
      → AreEdgePaired k (links_of rows) d e → IsNumbered (EdgeDarts k (links_of rows) d e) keys (made rows) star
      → IsEdge k d e star (links_of rows) N → IsTakenOut k 1 (made rows + 1) (made rows) (length keys) (links_of rows) N
  edge-out alpha w d e hd he live live' apart paired m is =
      alpha-edge-out (links_of rows) keys (made rows) star (rows_made rows) N w d e hd he paired m (λ x h. low x (edge-live alpha rows w d e x live live' h)) is
  edge-out beta w d e hd he live live' apart paired m is =
      beta-edge-out (links_of rows) w keys (made rows) star (rows_made rows) N d e apart paired m (λ x h. low x (edge-live beta rows w d e x live live' h)) is

  dangle-out : (tip : ℕ → ℕ) (k : Kind) → Laws k (links_of rows) → (d : ℕ) → d ≢ 0 → IsLive rows d → CanDangle k (links_of rows) d
      → IsNumbered (InCorner k (links_of rows) d) keys (made rows) star → IsNumbered (InCorner k (links_of rows) d) keys (made rows + length keys) tip
      → IsDangled k d star tip (links_of rows) N → IsTakenOut k 1 (made rows + 1) (made rows) (length keys + length keys) (links_of rows) N
  dangle-out tip alpha w d hd live can first second is =
      alpha-dangle-out (links_of rows) w d hd keys (made rows) star tip (rows_made rows) N first second (λ x h. low x (corner-live alpha rows w d x live h)) is
  dangle-out tip beta w d hd live can first second is =
      beta-dangle-out (links_of rows) w d can keys (made rows) star tip (rows_made rows) N first second (λ x h. low x (corner-live beta rows w d x live h)) is

module _ (hook : Hook) (s mid : State) (kept : IsLawfulContent s.present) (first count : ℕ) where
  w : Laws s.present.kind (links_in s.present)
  w = laws-of s.present kept

  pub vertex-inserts : (d : ℕ) → Step hook s (says.Vertex d) (Done first count) mid → Inserts hook s 0 first count mid
  vertex-inserts d step =
      let (passes, made-it) = obeyed hook s (says.Vertex d) first count mid step in
      grown-inserts hook s 0 (omega arith) _ first count mid _
      (λ keys star m N is. vertex-out s.present.rows keys star N s.present.kind w d (dart-some s.present kept d passes.0) passes.0 m is) made-it

  pub edge-inserts : (d e : ℕ) → Step hook s (says.Edge d e) (Done first count) mid → Inserts hook s 1 first count mid
  edge-inserts d e step =
      let (passes, made-it) = obeyed hook s (says.Edge d e) first count mid step in
      grown-inserts hook s 1 (let flat = kept.flat in omega arith) _ first count mid _
      (λ keys star m N is. edge-out s.present.rows keys star N s.present.kind w d e (dart-some s.present kept d passes.0) (dart-some s.present kept e passes.1.0)
      passes.0 passes.1.0 passes.1.1.1.0 passes.1.1.1.1.0 m is) made-it

  pub face-inserts : (path : List ℕ) → 1 ≤ length path → Step hook s (says.Face path) (Done first count) mid → Inserts hook s 2 first count mid
  face-inserts path some step =
      let (passes, made-it) = obeyed hook s (says.Face path) first count mid step in
      grown-inserts hook s 2 kept.flat _ first count mid _
      (λ keys star m N is. face-out (links_in s.present) keys (made s.present.rows) star (rows_made s.present.rows) N s.present.kind w path some
      (λ b h. dart-some s.present kept b (All-contains (IsLive s.present.rows) path b passes.1.0 h)) passes.1.1.1.0 passes.1.1.1.1.0 m
      (λ x h. low s.present.rows keys star N x (face-live s.present.kind s.present.rows w path x passes.1.0 h)) is) made-it

  pub dangle-inserts : (d : ℕ) → Step hook s (says.Dangle d) (Done first count) mid → Inserts hook s 1 first count mid
  dangle-inserts d step =
      let (passes, made-it) = obeyed hook s (says.Dangle d) first count mid step in
      hung-inserts hook s 1 (let flat = kept.flat in omega arith) _ first count mid _
      (λ keys star tip one two N is. dangle-out s.present.rows keys star N tip s.present.kind w d (dart-some s.present kept d passes.0) passes.0 passes.1.0 one two is) made-it

module _ (hook : Hook) (s mid : State) (begun : 1 ≤ length s.present.rows) (i first count : ℕ) (made-it : Inserts hook s i first count mid) where
  -- what was just inserted can be removed
  pub removal-accepted : (r : Refusal) (new : State) → Step hook mid (says.Remove i first) (Refused r) new → ⊥
  removal-accepted r new step =
      not-refused hook (steps_to s made-it.next) (says.Remove i (made s.present.rows + 1))
      (removes hook s.present i count made-it.within made-it.Becomes made-it.next made-it.relinked made-it.out) r new
      (subst (λ (f : ℕ). Step hook (steps_to s made-it.next) (says.Remove i f) (Refused r) new) made-it.begins
      (subst (λ (m : State). Step hook m (says.Remove i first) (Refused r) new) made-it.is step))

  -- and all links are back
  pub removal-back : (two more : ℕ) (new : State) → Step hook mid (says.Remove i first) (Done two more) new → AreBack s.present.rows count new.present.rows
  removal-back two more new step =
      let (passes, (last, gone, reply, end)) = obeyed hook (steps_to s made-it.next) (says.Remove i (made s.present.rows + 1)) two more new
      (subst (λ (f : ℕ). Step hook (steps_to s made-it.next) (says.Remove i f) (Done two more) new) made-it.begins
      (subst (λ (m : State). Step hook m (says.Remove i first) (Done two more) new) made-it.is step)) in
      subst (λ (m : State). AreBack s.present.rows count m.present.rows) (sym end)
      (back hook s.present i count made-it.within made-it.Becomes made-it.next made-it.relinked made-it.out last gone begun)
