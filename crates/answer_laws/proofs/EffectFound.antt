-- Where a line passes its checks, it has an effect.
use Rattle.std.proofs.Common.{◌≡◌, ◌≢◌, ℕ, ◌+◌, ◌*◌, ◌≤◌, List, [], ◌∷◌, ◌++◌, length, drop, Option, Some, None, IsSome, All, refl, subst, inl}
use Rattle.std.proofs.lemmas.List.{drop-append-le}
use Rattle.std.proofs.lemmas.List.Elements.{All-contains, All-push, All-drop, All-weaker}
use Rattle.map_defs.specs.Links.{Links}
use Rattle.map_defs.specs.Rows.{made, IsLive}
use Rattle.map_defs.specs.Polygon.{per_side}
use Rattle.map_defs.specs.Cells.{InCell}
use Rattle.map_defs.specs.Values.{Hook, Value, Rule}
use Rattle.map_defs.specs.RuleNames.{named_merge, named_split}
use Rattle.map_defs.specs.Sewing.{IsSewable}
use Rattle.map_defs.specs.Removal.{IsRemovable}
use Rattle.map_defs.specs.Contraction.{IsContractible}
use Rattle.machine_defs.specs.State.{Content, State, Mark, value_at, without_dart, steps_to}
use Rattle.machine_defs.specs.Kept.{IsLawfulContent, IsLawfulState}
use Rattle.machine_defs.specs.Relinking.{IsRelinked, IsGrown, IsHungWith}
use Rattle.machine_defs.specs.Marking.{IsMark, with_mark, back_to, forth_to, since}
use Rattle.machine_defs.specs.Listing.{names_of, listing_with}
use Rattle.machine_defs.specs.Script as says
use Rattle.machine_defs.specs.Script.{Line}
use Rattle.machine_defs.specs.Text.{Reply, Done, Darts, CellValue, Counts, Shown, Logged, Meshed}
use Rattle.machine_defs.specs.Machine.{Effect, Gives, InsertsDarts, HangsEdges, Values, checks, links_in, with_polygon, with_dart, with_rule, first_born}
use Rattle.journal_laws.specs.Following.{AllFollow}
use Rattle.machine_laws.specs.Tracing.{AreTraced}
use Rattle.machine_laws.proofs.Judging.{AllPass}
use Rattle.machine_laws.proofs.Keeping.{laws-of, dead-at}
use Rattle.machine_laws.proofs.Marked.{at-mark}
use Rattle.machine_laws.proofs.OneStep.{not-above, closing-own}
use Rattle.machine_laws.proofs.Traced.{follow-rest}
use Rattle.answer_laws.specs.Answering.{NotNot, AnswerNeeds}
use Rattle.answer_laws.proofs.Checked.{Has}
use Rattle.answer_laws.proofs.Questions.{tells_found, cell_found, counts_found, values_listed}
use Rattle.answer_laws.proofs.OffFound.{off_found}
use Rattle.answer_laws.proofs.DifferenceFound.{differences_found}
use Rattle.answer_laws.proofs.ValuedFound.{valued_found}
use Rattle.answer_laws.proofs.SewnFound.{sewn_found, unsewn_found}
use Rattle.answer_laws.proofs.DualFound.{dual_found}
use Rattle.answer_laws.proofs.RemovedFound.{removed_found, contracted_found}
use Rattle.answer_laws.proofs.GrownFound.{vertex_found, edge_found, face_found, closing_found, dangle_found, centre_found}

some-is : {X : Type 0} (o : Option X) → IsSome o → (x : X) × (o ≡ Some x)
some-is None h = absurd (cc (h))
some-is (Some x) h = (x, refl)

gives : (answer : Reply) (next : State) → NotNot (Has (Gives answer next))
gives answer next never = never (answer, next, (refl, refl))

module _ (hook : Hook) (s : State) (kept : IsLawfulState s) where
  abbrev c : Content
  c = s.present

  abbrev L : Links
  L = links_in s.present

  dart : (d : ℕ) → IsLive c.rows d → d ≢ 0
  dart d live zeroth = dead-at c.rows kept.present.sound.nothing (subst (IsLive c.rows) zeroth live)

  -- a change of links by which darts may end
  changes : (Ended : ℕ → Type 0) (Becomes : Links → Type 0) → NotNot ((next : Content) × IsRelinked hook c 0 Ended Becomes next)
      → NotNot (Has (λ reply new. (next : Content) × IsRelinked hook c 0 Ended Becomes next × (reply ≡ Done 0 0) × (new ≡ steps_to s next)))
  changes Ended Becomes found never = found (λ after. never (Done 0 0, steps_to s after.0, (after.0, after.1, refl, refl)))

  inserts : (K : ℕ → Type 0) (Becomes : (ℕ → ℕ) → Links → Type 0) → NotNot ((births : ℕ) × (next : Content) × IsGrown hook c K Becomes births next)
      → NotNot (Has (InsertsDarts hook s K Becomes))
  inserts K Becomes found never = found (λ after.
      never (Done (first_born c after.0) after.0, steps_to s after.1, (after.0, after.1, after.2, refl, refl)))

  hangs : (K : ℕ → Type 0) (Becomes : (ℕ → ℕ) → (ℕ → ℕ) → Links → Type 0) → NotNot ((births : ℕ) × (next : Content) × IsHungWith hook c K Becomes births next)
      → NotNot (Has (HangsEdges hook s K Becomes))
  hangs K Becomes found never = found (λ after.
      never (Done (first_born c after.0) after.0, steps_to s after.1, (after.0, after.1, after.2, refl, refl)))

  values : (i d : ℕ) (value : Option Value) → i ≤ c.dim → IsLive c.rows d → NotNot (Has (Values s i d value))
  values i d value within live never = valued_found c kept.present i d within live value (λ after.
      never (Done 0 0, steps_to s after.0, (after.0, after.1, refl, refl)))

  -- the differences since a mark
  module _ (traced : AreTraced s) (name : List ℕ) (k : ℕ) (mark : Mark) (is : IsMark s.marks name k mark) where
    since-follows : AllFollow (since s mark)
    since-follows = subst AllFollow (drop-append-le mark.place s.past (s.present ∷ []) (at-mark (λ m. m.place ≤ length s.past) s.marks name k mark kept.marked.within is))
        (follow-rest mark.place (s.past ++ s.present ∷ []) traced.present)

    since-begun : All (λ (a : Content). 1 ≤ length a.rows) (since s mark)
    since-begun = All-weaker IsLawfulContent (λ (a : Content). 1 ≤ length a.rows) (λ a lawful. lawful.begun) (since s mark)
        (All-push IsLawfulContent (drop mark.place s.past) s.present (All-drop IsLawfulContent mark.place s.past kept.past) kept.present)

    logged : NotNot (Has (Effect hook s (says.Log name)))
    logged never = differences_found (since s mark) since-follows since-begun (λ steps.
        never (Logged steps.0, s, (k, mark, is, (steps.0, steps.1, refl, refl))))

  pub effect_found : (line : Line) → AnswerNeeds line s → AllPass (checks hook s line) → NotNot (Has (Effect hook s line))
  effect_found (says.Polygon sides) needs p = gives (Done (made c.rows + 1) (per_side c.kind * sides)) (steps_to s (with_polygon c sides))
  effect_found says.Dart needs p = gives (Done (made c.rows + 1) 1) (steps_to s (with_dart c))
  effect_found (says.Del d) needs p = gives (Done 0 0) (steps_to s (without_dart c d))
  effect_found (says.Sew i d e) needs p = changes _ _ (sewn_found c kept.present i d e (not-above (λ h. p.0 (inl h))) p.1.0 p.1.1.0 p.1.1.1.1.0 hook)
  effect_found (says.Unsew i d) needs p = changes _ _ (unsewn_found c kept.present i d hook)
  effect_found (says.Vertex d) needs p = inserts _ _ (vertex_found c kept.present hook d (dart d p.0) p.0)
  effect_found (says.Edge d e) needs p = inserts _ _ (edge_found c kept.present hook d e (dart d p.0) (dart e p.1.0) p.0 p.1.0 p.1.1.1.0 p.1.1.1.1.0)
  effect_found (says.Face path) needs p =
      inserts _ _ (face_found c kept.present hook path (not-above p.0) (λ b h. dart b (All-contains (IsLive c.rows) path b p.1.0 h)) p.1.0 p.1.1.1.0 p.1.1.1.1.0)
  effect_found (says.Remove i d) needs p = changes _ _ (removed_found c kept.present d (dart d p.1.0) hook i (not-above p.0) p.1.1.0)
  effect_found (says.Contract i d) needs p = changes _ _ (contracted_found c kept.present d (dart d p.1.0) hook i (not-above p.0) p.1.1.0)
  effect_found says.Dual needs p = λ never. let dual = dual_found c kept.present in never (Done 0 0, steps_to s dual.0, (dual.0, dual.1, refl, refl))
  effect_found (says.Close i) needs p = inserts _ _ (closing_found c kept.present hook i (closing-own c.kind i c.dim p.0) (not-above (λ h. p.0 (inl h))))
  effect_found (says.Dangle d) needs p = hangs _ _ (dangle_found c kept.present hook d p.0 p.1.0)
  effect_found (says.Center d) needs p = hangs _ _ (centre_found c kept.present hook d p.0)
  effect_found (says.Rule i merge split) needs p = λ never.
      let m = some-is (named_merge hook.names merge) p.1.0.0 in
      let q = some-is (named_split hook.names split) p.1.0.1 in
      let rule : Rule = record { merge = m.0; split = q.0 } in
      never (Done 0 0, steps_to s (with_rule c i rule), (m.0, q.0, m.1, q.1, (refl, refl)))
  effect_found (says.Set i d value) needs p = values i d (Some value) (not-above p.0) p.1.0
  effect_found (says.Clear i d) needs p = values i d None (not-above p.0) p.1.0
  effect_found (says.Mark name) needs p = gives (Done 0 0) (with_mark s name)
  effect_found (says.Undo name) needs p = λ never. never (Done 0 0, back_to s p.0.0 p.0.1, (p.0.0, p.0.1, p.0.2, (refl, refl)))
  effect_found (says.Redo name) needs p = λ never. never (Done 0 0, forth_to p.0.0 p.0.1, (p.0.0, p.0.1, p.0.2, (refl, refl)))
  effect_found (says.Log name) needs p = logged needs name p.0.0 p.0.1 p.0.2
  effect_found (says.Value i d) needs p = gives (CellValue (value_at c i d)) s
  effect_found (says.Cell i d) needs p = λ never. cell_found c.kind c.rows (laws-of c kept.present) i d p.1.0 (λ darts.
      never (Darts darts.0, s, (darts.0, darts.1, darts.2, refl, refl)))
  effect_found (says.Same i d e) needs p = tells_found s (InCell c.kind L i d e)
  effect_found (says.Free i d) needs p = tells_found s (L i d ≡ 0)
  effect_found (says.Removable i d) needs p = tells_found s (IsRemovable c.kind L i d)
  effect_found (says.Contractible i d) needs p = tells_found s (IsContractible c.kind L i d)
  effect_found (says.Sewable i d e) needs p = tells_found s (IsSewable c.kind L i d e)
  effect_found says.Count needs p = λ never. counts_found c.kind c.dim c.rows (λ counts. never (Counts counts.0, s, (counts.0, counts.1, refl, refl)))
  effect_found says.Show needs p = λ never. values_listed c kept.present.places (λ listed. never (Shown (listing_with c listed.0 (names_of s.marks)), s, (listed.0, listed.1, refl, refl)))
  effect_found says.Off needs p = λ never. off_found c.kind c.rows (laws-of c kept.present) (value_at c 0) (p.0, p.1.0, p.1.1.0) (λ off.
      never (Meshed off.0, s, (off.0, off.1, refl, refl)))
