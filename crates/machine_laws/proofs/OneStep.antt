-- One step has one reply and one state, and keeps what every state keeps.
use Rattle.std.proofs.Common.{◌≡◌, ◌≢◌, ℕ, ◌+◌, ◌*◌, ◌<◌, ◌≤◌, ◌⊎◌, List, [], ◌∷◌, length, Option, Some, None, refl, sym, ap, ◌∙◌, subst, inl, inr, arith}
use Rattle.std.proofs.lemmas.Bool.{cases_lt}
use Rattle.std.proofs.lemmas.List.{append-nil, length-set}
use Rattle.std.proofs.lemmas.List.Elements.{All-contains}
use Rattle.std.specs.Prelude.{slice_set}
use Rattle.map_defs.specs.Kind.{Kind, alpha, beta, inverse}
use Rattle.map_defs.specs.Links.{Links}
use Rattle.map_defs.specs.Laws.{Laws}
use Rattle.map_defs.specs.Rows.{Rows, links_of, made, made_max, IsLive, IsSound}
use Rattle.map_defs.specs.Edits.{Edit, free_row}
use Rattle.map_defs.specs.Polygon.{per_side, polygon_rows}
use Rattle.map_defs.specs.Births.{IsFresh}
use Rattle.machine_defs.specs.Relinking.{IsTooMany, IsTooManyTwice, NoDart, IsRelinked}
use Rattle.map_defs.specs.Sewing.{IsSewn, IsUnsewn}
use Rattle.map_defs.specs.Refusal.{Refusal}
use Rattle.map_defs.specs.RuleNames.{named_merge, named_split}
use Rattle.map_defs.specs.Values.{Hook, Value}
use Rattle.machine_defs.specs.State.{State, Content, Mark, Undone, rule_at, value_at, with_born, without_dart, steps_to}
use Rattle.machine_defs.specs.Script as says
use Rattle.machine_defs.specs.Script.{Line}
use Rattle.machine_defs.specs.Listing.{ListValue, names_of, listing_with}
use Rattle.machine_defs.specs.Difference.{AreDifferences}
use Rattle.machine_defs.specs.Marking.{since, back_to, forth_to}
use Rattle.map_defs.specs.Removal.{IsRemovable, IsRemoved}
use Rattle.map_defs.specs.Contraction.{IsContractible, IsContracted}
use Rattle.machine_defs.specs.Kept.{IsLawfulContent, IsLawfulState}
use Rattle.machine_defs.specs.Text.{Reply, Done, Truth, Darts, Counts, Shown, Logged, Meshed, Refused}
use Rattle.machine_defs.specs.Machine.{Step, Effect, Gives, TellsWhether, InsertsDarts, HangsEdges, Values, AreFree, ArePaired, checks, links_in, with_polygon, with_dart, first_born}
use Rattle.link_laws.proofs.Sewn.{sewing_keeps}
use Rattle.link_laws.proofs.Unsewn.{unsewing_keeps}
use Rattle.link_laws.proofs.RowFacts.{rows_made}
use Rattle.insert_laws.proofs.Face.{face_keeps}
use Rattle.remove_laws.proofs.Removed.{removed_laws, contracted_laws}
use Rattle.remove_laws.proofs.Unique.{removed_one, contracted_one}
use Rattle.edit_laws.proofs.EditSound.{after-sound}
use Rattle.edit_laws.proofs.EditPlain.{births_edit, death_edit, births-fit, death-fits}
use Rattle.edit_laws.proofs.KeptLaws.{births-keep}
use Rattle.edit_laws.proofs.PolygonEdit.{sides_edit, polygon-fits, polygon-after, polygon-lawful}
use Rattle.machine_laws.proofs.Judging.{ordered, AllPass, judged-both, judged-kept}
use Rattle.machine_laws.proofs.ValueLists.{one-listing}
use Rattle.machine_laws.proofs.Relinked.{TellsOne, sewn-one, unsewn-one, relinked-one, valued-one}
use Rattle.machine_laws.proofs.Inserted.{TellsInserted}
use Rattle.machine_laws.proofs.Hung.{TellsHung, dangle-one, centre-one}
use Rattle.link_laws.proofs.Basics.{inverse_own}
use Rattle.machine_laws.specs.Needs.{HasLaws, LineNeeds, ReplyNeeds}
use Rattle.machine_laws.specs.Tracing.{AreTraced}
use Rattle.machine_laws.proofs.Grown.{TellsNumbered, tells-numbered, births-one, grown-one, hung-births-one, hung-content-one, vertex-one, edge-one, face-one, closed-one}
use Rattle.machine_laws.proofs.GrownLaws.{AreTwoSeries, vertex-lawful, edge-lawful, closed-lawful, dangle-lawful, centre-lawful, vertex-live, edge-live, face-live, cell-live, corner-live, kept-grown, kept-hung}
use Rattle.machine_laws.proofs.Keeping.{laws-of, dead-at, kept-relinked, kept-valued, kept-ruled}
use Rattle.machine_laws.proofs.Born.{kept-born}
use Rattle.machine_laws.proofs.Ended.{kept-ended, lived}
use Rattle.machine_laws.proofs.Dualled.{dualled-one, kept-dualled}
use Rattle.journal_laws.proofs.OneDifference.{differences-one}
use Rattle.machine_laws.proofs.Marked.{mark-one, last-one}
use Rattle.machine_laws.proofs.Followed.{stays-follows, relinked-follows, born-follows}
use Rattle.machine_laws.proofs.Outcomes.{Leads, to_same, to_next, to_marked, to_earlier, to_undone, leads-kept, leads-traced}
use Rattle.machine_laws.proofs.Answers.{truth-one, darts-one, counts-one}
use Rattle.machine_laws.proofs.OffOne.{off-one}

pub effect-refuses : (hook : Hook) (s : State) (line : Line) (r : Refusal) (new : State) → Effect hook s line (Refused r) new → ⊥
effect-refuses hook s (says.Polygon sides) r new e = let f = e.0 in cc
effect-refuses hook s says.Dart r new e = let f = e.0 in cc
effect-refuses hook s (says.Del d) r new e = let f = e.0 in cc
effect-refuses hook s (says.Sew i d e) r new f = let g = f.2 in cc
effect-refuses hook s (says.Unsew i d) r new f = let g = f.2 in cc
effect-refuses hook s (says.Cell i d) r new f = let g = f.3 in cc
effect-refuses hook s (says.Same i d e) r new f = let g = f.2 in cc
effect-refuses hook s (says.Free i d) r new f = let g = f.2 in cc
effect-refuses hook s (says.Sewable i d e) r new f = let g = f.2 in cc
effect-refuses hook s says.Count r new f = let g = f.2 in cc
effect-refuses hook s says.Show r new e = let f = e.2 in cc
effect-refuses hook s (says.Vertex d) r new f = let g = f.3 in cc
effect-refuses hook s (says.Edge d e) r new f = let g = f.3 in cc
effect-refuses hook s (says.Face path) r new f = let g = f.3 in cc
effect-refuses hook s (says.Remove i d) r new f = let g = f.2 in cc
effect-refuses hook s (says.Contract i d) r new f = let g = f.2 in cc
effect-refuses hook s says.Dual r new f = let g = f.2 in cc
effect-refuses hook s (says.Close i) r new f = let g = f.3 in cc
effect-refuses hook s (says.Dangle d) r new f = let g = f.3 in cc
effect-refuses hook s (says.Center d) r new f = let g = f.3 in cc
effect-refuses hook s (says.Rule i merge split) r new f = let g = f.4.0 in cc
effect-refuses hook s (says.Set i d value) r new f = let g = f.2 in cc
effect-refuses hook s (says.Clear i d) r new f = let g = f.2 in cc
effect-refuses hook s (says.Mark name) r new f = let g = f.0 in cc
effect-refuses hook s (says.Undo name) r new f = let g = f.3.0 in cc
effect-refuses hook s (says.Redo name) r new f = let g = f.3.0 in cc
effect-refuses hook s (says.Log name) r new f = let g = f.3.2 in cc
effect-refuses hook s (says.Value i d) r new f = let g = f.0 in cc
effect-refuses hook s (says.Removable i d) r new f = let g = f.2 in cc
effect-refuses hook s (says.Contractible i d) r new f = let g = f.2 in cc
effect-refuses hook s says.Off r new f = let g = f.2 in cc

-- A change of links by which no dart is born and those of Ended end: what sewing, unsewing, removal and contraction are.
abbrev Changes : Hook → State → (ℕ → Type 0) → (Links → Type 0) → Reply → State → Type 0
Changes hook s Ended Becomes reply new =
    (next : Content) × IsRelinked hook s.present 0 Ended Becomes next × (reply ≡ Done 0 0) × (new ≡ steps_to s next)

-- what is told and leaves one state
abbrev IsOne : State → (Reply → State → Type 0) → Type 0
IsOne s effect = (one other : Reply) (new new' : State) → effect one new → effect other new' → (one ≡ other) × (new ≡ new')

-- what is told has one reply
abbrev HasOneReply : (Reply → State → Type 0) → Type 0
HasOneReply effect = (one other : Reply) (new new' : State) → effect one new → effect other new' → one ≡ other

-- what leaves one state
abbrev HasOneState : (Reply → State → Type 0) → Type 0
HasOneState effect = (one other : Reply) (new new' : State) → effect one new → effect other new' → new ≡ new'

gives-one : (s : State) (reply : Reply) (next : State) → IsOne s (Gives reply next)
gives-one s reply next one other new new' e f = (e.0 ∙ sym f.0, e.1 ∙ sym f.1)

tells-one : (s : State) (P : Type 0) → IsOne s (TellsWhether s P)
tells-one s P one other new new' e f = (e.2 ∙ ap Truth (truth-one P e.0 f.0 e.1 f.1) ∙ sym f.2, e.3 ∙ sym f.3)

given-one : (s : State) (i d : ℕ) (value : Option Value) → IsOne s (Values s i d value)
given-one s i d value one other new new' e f =
    (e.2 ∙ sym f.2, e.3 ∙ ap (steps_to s) (valued-one s.present i d value e.0 f.0 e.1 f.1) ∙ sym f.3)

some-one : {X : Type 0} (o : Option X) (x y : X) → o ≡ Some x → o ≡ Some y → x ≡ y
some-one o x y e f = cc

pub not-above : {a b : ℕ} → (a < b → ⊥) → b ≤ a
not-above {a} {b} h = elim (cases_lt a b) [ inl less ↦ absurd (h less) | inr more ↦ more ]

-- a link at which a map can be closed is its own inverse
pub closing-own : (k : Kind) (i n : ℕ) → ((n < i) ⊎ ((k ≡ beta) × (i < 2)) → ⊥) → inverse k i ≡ i
closing-own alpha i n can = refl
closing-own beta i n can = inverse_own beta i (elim (cases_lt i 2) [ inl less ↦ absurd (can (inr (refl, less))) | inr more ↦ more ])

-- links that sewing and unsewing make
module _ (c : Content) (kept : IsLawfulContent c) where
  dart-some : (d : ℕ) → IsLive c.rows d → d ≢ 0
  dart-some d live zeroth = dead-at c.rows kept.sound.nothing (subst (IsLive c.rows) zeroth live)

  sewn-lawful : (i d e : ℕ) → IsLive c.rows d → IsLive c.rows e → AreFree c i d e → ArePaired c i d e → (N : Links) → IsSewn c.kind i d e (links_in c) N → Laws c.kind N
  sewn-lawful i d e live live' free paired N sewn =
      sewing_keeps c.kind (links_in c) (laws-of c kept) i d e (dart-some d live) (dart-some e live') (record { near = free.0; far = free.1; good = paired }) N sewn

  unsewn-lawful : (i d : ℕ) → (N : Links) → IsUnsewn c.kind i d (links_in c) N → Laws c.kind N
  unsewn-lawful i d N unsewn = unsewing_keeps c.kind (links_in c) (laws-of c kept) i d N unsewn

  removed-lawful : (i d : ℕ) → IsLive c.rows d → IsRemovable c.kind (links_in c) i d → (N : Links) → IsRemoved c.kind i d (links_in c) N → Laws c.kind N
  removed-lawful i d live can N removed =
      removed_laws c.kind (made c.rows) i d (links_in c) N (laws-of c kept) (rows_made c.rows) (dart-some d live) can removed

  contracted-lawful : (i d : ℕ) → IsLive c.rows d → IsContractible c.kind (links_in c) i d → (N : Links) → IsContracted c.kind i d (links_in c) N → Laws c.kind N
  contracted-lawful i d live can N contracted =
      contracted_laws c.kind (made c.rows) i d (links_in c) N (laws-of c kept) (rows_made c.rows) (dart-some d live) can contracted

  wide : 1 ≤ c.dim
  wide = let flat = kept.flat in omega arith

  polygon-kept : (sides : ℕ) → made c.rows + per_side c.kind * sides ≤ made_max → IsLawfulContent (with_polygon c sides)
  polygon-kept sides few =
      let first : made c.rows + 1 ≡ length c.rows = (let begun = kept.begun in omega arith) in
      let edit : Edit = sides_edit c.kind (length c.rows) sides in
      let fits = polygon-fits c.kind c.dim c.rows sides wide kept.begun kept.sound few in
      let after = polygon-after c.kind c.dim c.rows sides wide kept.begun kept.sound few in
      subst (λ (m : ℕ). IsLawfulContent (with_born c (polygon_rows c.kind c.dim m sides))) (sym first)
      (kept-born c kept (polygon_rows c.kind c.dim (length c.rows) sides)
      (subst (IsSound c.kind c.dim) after (after-sound c.kind c.dim c.rows edit kept.begun kept.sound fits few))
      (subst (λ (r : Rows). Laws c.kind (links_of r)) after (polygon-lawful c.kind c.dim c.rows sides wide kept.begun kept.sound few (laws-of c kept))))

  dart-kept : made c.rows + 1 ≤ made_max → IsLawfulContent (with_dart c)
  dart-kept few =
      let fits = births-fit c.kind c.dim 1 c.rows kept.sound in
      kept-born c kept (free_row c.dim ∷ [])
      (after-sound c.kind c.dim c.rows (births_edit 1) kept.begun kept.sound fits few)
      (births-keep c.kind c.dim 1 c.rows (laws-of c kept))

  ended-kept : (d : ℕ) → IsLive c.rows d → ((t : ℕ) → links_in c t d ≡ 0) → IsLawfulContent (without_dart c d)
  ended-kept d live alone =
      let fits = death-fits c.kind c.dim c.rows d kept.sound live alone in
      let few : made c.rows + 0 ≤ made_max = (let f = kept.sound.few in omega arith) in
      kept-ended c kept d live alone
      (subst (λ (r : Rows). IsSound c.kind c.dim (slice_set r d None)) (append-nil c.rows) (after-sound c.kind c.dim c.rows (death_edit d) kept.begun kept.sound fits few))

module _ (hook : Hook) (s : State) where
  -- a change of links has one reply, and leads to one state where its links are told
  changes-reply : (Ended : ℕ → Type 0) (Becomes : Links → Type 0) → HasOneReply (Changes hook s Ended Becomes)
  changes-reply Ended Becomes one other new new' e f = e.2 ∙ sym f.2

  changes-one : (Ended : ℕ → Type 0) (Becomes : Links → Type 0) → TellsOne Becomes → IsOne s (Changes hook s Ended Becomes)
  changes-one Ended Becomes tells one other new new' e f =
      (e.2 ∙ sym f.2, e.3 ∙ ap (steps_to s) (relinked-one hook s.present 0 Ended Becomes Becomes tells e.0 f.0 e.1 f.1) ∙ sym f.3)

  removes-one : (i d : ℕ) → d ≢ 0 → HasLaws s.present → IsRemovable s.present.kind (links_in s.present) i d → IsOne s (Effect hook s (says.Remove i d))
  removes-one i d dart laws can = changes-one _ _
      (λ N M b c. removed_one (made s.present.rows) d (links_in s.present) N M (rows_made s.present.rows) dart s.present.kind i laws can b c)

  contracts-one : (i d : ℕ) → d ≢ 0 → HasLaws s.present → IsContractible s.present.kind (links_in s.present) i d → IsOne s (Effect hook s (says.Contract i d))
  contracts-one i d dart laws can = changes-one _ _
      (λ N M b c. contracted_one (made s.present.rows) d (links_in s.present) N M (rows_made s.present.rows) dart s.present.kind i laws can b c)

  -- an insertion has one reply, and leads to one state where its links are told
  inserts-reply : (K : ℕ → Type 0) (Becomes : (ℕ → ℕ) → Links → Type 0) → HasOneReply (InsertsDarts hook s K Becomes)
  inserts-reply K Becomes one other new new' e f =
      e.3 ∙ ap (λ (n : ℕ). Done (first_born s.present n) n) (births-one hook s.present K Becomes e.0 f.0 e.1 f.1 e.2 f.2) ∙ sym f.3

  numbers-one : (K : ℕ → Type 0) (Becomes : (ℕ → ℕ) → Links → Type 0) → TellsNumbered K (made s.present.rows) Becomes → IsOne s (InsertsDarts hook s K Becomes)
  numbers-one K Becomes tells one other new new' e f =
      (inserts-reply K Becomes one other new new' e f, e.4 ∙ ap (steps_to s) (grown-one hook s.present K Becomes e.0 f.0 e.1 f.1 e.2 f.2 tells) ∙ sym f.4)

  inserts-one : (K : ℕ → Type 0) (Becomes : (ℕ → ℕ) → Links → Type 0) → (((x : ℕ) → K x → x ≢ 0) → TellsInserted K Becomes) → IsOne s (InsertsDarts hook s K Becomes)
  inserts-one K Becomes tells = numbers-one K Becomes (tells-numbered K (made s.present.rows) Becomes tells)

  -- edges that are hung
  hangs-one : (K : ℕ → Type 0) (Becomes : (ℕ → ℕ) → (ℕ → ℕ) → Links → Type 0) → (((x : ℕ) → K x → x ≢ 0) → TellsHung K Becomes) → IsOne s (HangsEdges hook s K Becomes)
  hangs-one K Becomes tells one other new new' e f = (
    e.3 ∙ ap (λ (n : ℕ). Done (first_born s.present n) n) (hung-births-one hook s.present K Becomes e.0 f.0 e.1 f.1 e.2 f.2) ∙ sym f.3,
    e.4 ∙ ap (steps_to s) (hung-content-one hook s.present K Becomes e.0 f.0 e.1 f.1 e.2 f.2 tells) ∙ sym f.4,
  )

  effect-one : (line : Line) → LineNeeds line s → ReplyNeeds line s → AllPass (checks hook s line) → IsOne s (Effect hook s line)
  effect-one (says.Polygon sides) needs told p = gives-one s _ _
  effect-one says.Dart needs told p = gives-one s _ _
  effect-one (says.Del d) needs told p = gives-one s _ _
  effect-one (says.Sew i d e) needs told p = changes-one _ _ (sewn-one s.present.kind i d e (links_in s.present))
  effect-one (says.Unsew i d) needs told p = changes-one _ _ (unsewn-one s.present.kind i d (links_in s.present))
  effect-one (says.Rule i merge split) needs told p = λ one other new new' e f.
      let merges = some-one (named_merge hook.names merge) e.0 f.0 e.2 f.2 in
      let splits = some-one (named_split hook.names split) e.1 f.1 e.3 f.3 in
      (e.4.0 ∙ sym f.4.0, e.4.1 ∙ rw (merges, splits) refl ∙ sym f.4.1)
  effect-one (says.Set i d value) needs told p = given-one s i d _
  effect-one (says.Clear i d) needs told p = given-one s i d _
  effect-one (says.Value i d) needs told p = gives-one s _ _
  effect-one (says.Cell i d) needs told p = λ one other new new' e f.
      (e.3 ∙ ap Darts (darts-one _ e.0 f.0 e.1 f.1 e.2 f.2) ∙ sym f.3, e.4 ∙ sym f.4)
  effect-one (says.Same i d e) needs told p = tells-one s _
  effect-one (says.Free i d) needs told p = tells-one s _
  effect-one (says.Sewable i d e) needs told p = tells-one s _
  effect-one says.Count needs told p = λ one other new new' e f.
      (e.2 ∙ ap Counts (counts-one s.present.kind s.present.dim s.present.rows e.0 f.0 e.1 f.1) ∙ sym f.2, e.3 ∙ sym f.3)
  effect-one says.Show needs told p = λ one other new new' e f.
      (e.2 ∙ ap (λ (values : List ListValue). Shown (listing_with s.present values (names_of s.marks))) (one-listing s.present e.0 f.0 e.1 f.1) ∙ sym f.2, e.3 ∙ sym f.3)
  effect-one (says.Vertex d) needs told p = inserts-one _ _ (vertex-one s.present.kind (links_in s.present) d)
  effect-one (says.Edge d e) needs told p = inserts-one _ _ (edge-one s.present.kind (links_in s.present) d e needs p.1.1.1.0 p.1.1.1.1.0)
  effect-one (says.Face path) needs told p = inserts-one _ _ (face-one s.present.kind (links_in s.present) path needs p.1.1.1.0 p.1.1.1.1.0)
  effect-one (says.Remove i d) needs told p = removes-one i d (needs.0 p.1.0) needs.1 p.1.1.0
  effect-one (says.Contract i d) needs told p = contracts-one i d (needs.0 p.1.0) needs.1 p.1.1.0
  effect-one says.Dual needs told p = λ one other new new' e f.
      (e.2 ∙ sym f.2, e.3 ∙ ap (steps_to s) (dualled-one s.present e.0 f.0 e.1 f.1) ∙ sym f.3)
  effect-one (says.Close i) needs told p =
      numbers-one _ _ (closed-one s.present.kind s.present.rows i (closing-own s.present.kind i s.present.dim p.0) needs.0 needs.1)
  effect-one (says.Dangle d) needs told p = hangs-one _ _ (dangle-one s.present.kind (links_in s.present) d)
  effect-one (says.Center d) needs told p = hangs-one _ _ (centre-one s.present.kind (links_in s.present) d)
  effect-one (says.Mark name) needs told p = gives-one s _ _
  effect-one (says.Undo name) needs told p = λ one other new new' e f.
      let same = mark-one s.marks name needs e.0 f.0 e.1 f.1 e.2 f.2 in
      (e.3.0 ∙ sym f.3.0, e.3.1 ∙ ap (λ (k : ℕ). back_to s k e.1) same.0 ∙ ap (back_to s f.0) same.1 ∙ sym f.3.1)
  effect-one (says.Redo name) needs told p = λ one other new new' e f.
      let same = last-one e.0 f.0 e.1 f.1 (sym e.2.there ∙ f.2.there) in
      (e.3.0 ∙ sym f.3.0, e.3.1 ∙ ap (λ (others : List Undone). forth_to others e.1) same.0 ∙ ap (forth_to f.0) same.1 ∙ sym f.3.1)
  effect-one (says.Log name) needs told p = λ one other new new' e f.
      let same = (mark-one s.marks name told e.0 f.0 e.1 f.1 e.2 f.2).1 in
      let are = subst (λ (m : Mark). AreDifferences (since s m) e.3.0) same e.3.1 in
      (e.3.2 ∙ ap Logged (differences-one (since s f.1) e.3.0 f.3.0 are f.3.1) ∙ sym f.3.2, e.3.3 ∙ sym f.3.3)
  effect-one (says.Removable i d) needs told p = tells-one s _
  effect-one (says.Contractible i d) needs told p = tells-one s _
  effect-one says.Off needs told p = λ one other new new' e f.
      (e.2 ∙ ap Meshed (off-one s.present.kind s.present.rows told (value_at s.present 0) e.0 f.0 e.1 f.1) ∙ sym f.2, e.3 ∙ sym f.3)

  effect-reply : (line : Line) → ReplyNeeds line s → AllPass (checks hook s line) → HasOneReply (Effect hook s line)
  effect-reply (says.Edge d e) told p = inserts-reply _ _
  effect-reply (says.Face path) told p = inserts-reply _ _
  effect-reply (says.Remove i d) told p = changes-reply _ _
  effect-reply (says.Contract i d) told p = changes-reply _ _
  effect-reply (says.Close i) told p = inserts-reply _ _
  effect-reply (says.Undo name) told p = λ one other new new' e f. e.3.0 ∙ sym f.3.0
  effect-reply line told p = λ one other new new' e f. (effect-one line tt told p one other new new' e f).0

  effect-state : (line : Line) → LineNeeds line s → AllPass (checks hook s line) → HasOneState (Effect hook s line)
  effect-state (says.Log name) needs p = λ one other new new' e f. e.3.3 ∙ sym f.3.3
  effect-state says.Off needs p = λ one other new new' e f. e.3 ∙ sym f.3
  effect-state line needs p = λ one other new new' e f. (effect-one line needs tt p one other new new' e f).1

  pub step-reply : (line : Line) → ReplyNeeds line s → HasOneReply (Step hook s line)
  step-reply line told one other new new' =
      judged-both s (Effect hook s line) one other new new' (one ≡ other) (λ r e f here there. e ∙ sym f) (checks hook s line) (ordered hook s line)
      (λ passes. effect-reply line told passes one other new new')

  -- a step leads to one state where the state has what its line needs
  pub step-state : (line : Line) → LineNeeds line s → HasOneState (Step hook s line)
  step-state line needs one other new new' =
      judged-both s (Effect hook s line) one other new new' (new ≡ new') (λ r e f here there. here ∙ sym there) (checks hook s line) (ordered hook s line)
      (λ passes. effect-state line needs passes one other new new')

module _ (hook : Hook) (s : State) (kept : IsLawfulState s) where
  few : made s.present.rows + 0 ≤ made_max
  few = let f = kept.present.sound.few in omega arith

  changes-leads : (Ended : ℕ → Type 0) (Becomes : Links → Type 0) → ((N : Links) → Becomes N → Laws s.present.kind N) → (reply : Reply) (new : State) → Changes hook s Ended Becomes reply new → Leads s new
  changes-leads Ended Becomes lawful reply new e =
      let is = kept-relinked hook s.present kept.present 0 Ended Becomes e.0 few (lawful (links_of e.0.rows) e.1.links) e.1 in
      to_next e.0 is (relinked-follows hook s.present e.0 0 Ended Becomes kept.present is (λ d low high h. omega arith) e.1) e.3

  laws : Laws s.present.kind (links_in s.present)
  laws = laws-of s.present kept.present

  inserts-leads : (K : ℕ → Type 0) (Becomes : (ℕ → ℕ) → Links → Type 0) → ((x : ℕ) → K x → IsLive s.present.rows x) → (IsTooMany s.present K → ⊥)
      → ((star : ℕ → ℕ) (N : Links) → IsFresh (links_in s.present) K star → Becomes star N → Laws s.present.kind N)
      → (reply : Reply) (new : State) → InsertsDarts hook s K Becomes reply new → Leads s new
  inserts-leads K Becomes live room lawful reply new e =
      let is = kept-grown hook s.present kept.present K live Becomes room lawful e.0 e.1 e.2 in
      to_next e.1 is (relinked-follows hook s.present e.1 e.0 NoDart (Becomes e.2.star) kept.present is (λ d low high h. h) e.2.relinked) e.4

  hangs-leads : (K : ℕ → Type 0) (Becomes : (ℕ → ℕ) → (ℕ → ℕ) → Links → Type 0) → ((x : ℕ) → K x → IsLive s.present.rows x) → (IsTooManyTwice s.present K → ⊥)
      → ((star tip : ℕ → ℕ) (N : Links) → AreTwoSeries (links_in s.present) K star tip → Becomes star tip N → Laws s.present.kind N)
      → (reply : Reply) (new : State) → HangsEdges hook s K Becomes reply new → Leads s new
  hangs-leads K Becomes live room lawful reply new e =
      let is = kept-hung hook s.present kept.present K live Becomes room lawful e.0 e.1 e.2 in
      to_next e.1 is (relinked-follows hook s.present e.1 e.0 NoDart (Becomes e.2.star e.2.tip) kept.present is (λ d low high h. h) e.2.relinked) e.4

  -- place 0 has no dart
  nothing-lives : IsLive s.present.rows 0 → ⊥
  nothing-lives = dead-at s.present.rows kept.present.sound.nothing

  -- such a state has what each line needs
  needs-kept : (line : Line) → LineNeeds line s
  needs-kept (says.Edge d e) = λ is. laws
  needs-kept (says.Face path) = λ is. laws
  needs-kept (says.Remove i d) = (dart-some s.present kept.present d, laws)
  needs-kept (says.Contract i d) = (dart-some s.present kept.present d, laws)
  needs-kept (says.Close i) = (nothing-lives, laws)
  needs-kept (says.Undo name) = kept.marked.named
  needs-kept line = tt

  told-kept : (line : Line) → ReplyNeeds line s
  told-kept (says.Log name) = kept.marked.named
  told-kept says.Off = laws
  told-kept line = tt

  -- every line leads to one state from a state that keeps what the machine's states keep
  pub step-one-kept : (line : Line) → IsOne s (Step hook s line)
  step-one-kept line one other new new' e f =
      (step-reply hook s line (told-kept line) one other new new' e f, step-state hook s line (needs-kept line) one other new new' e f)

  -- the darts, their numbers, the kind and the dimension stay
  stays-leads : (next : Content) (new : State) → IsLawfulContent next → next.kind ≡ s.present.kind → next.dim ≡ s.present.dim → length next.rows ≡ length s.present.rows
      → ((d : ℕ) → IsLive next.rows d → IsLive s.present.rows d) → new ≡ steps_to s next → Leads s new
  stays-leads next new is kind dim long lived e = to_next next is (stays-follows s.present next kept.present is kind dim long lived) e

  born-leads : (born : List (List ℕ)) (new : State) → IsLawfulContent (with_born s.present born) → new ≡ steps_to s (with_born s.present born) → Leads s new
  born-leads born new is e = to_next _ is (born-follows s.present born kept.present is) e

  del-leads : (d : ℕ) (new : State) → IsLive s.present.rows d → ((t : ℕ) → links_in s.present t d ≡ 0) → new ≡ steps_to s (without_dart s.present d) → Leads s new
  del-leads d new live alone e =
      stays-leads _ new (ended-kept s.present kept.present d live alone) refl refl (length-set s.present.rows d None)
      (lived s.present kept.present d live alone) e

  value-leads : (i d : ℕ) (value : Option Value) → IsLive s.present.rows d → (rule_at s.present i ≡ None → value ≡ None) → (reply : Reply) (new : State) → Values s i d value reply new → Leads s new
  value-leads i d value live ruled reply new e =
      let rows = e.1.rows in
      stays-leads e.0 new (kept-valued s.present kept.present i d live value ruled e.0 e.1) e.1.kind e.1.dim (ap (λ (r : Rows). length r) rows)
      (λ x h. subst (λ (r : Rows). IsLive r x) rows h) e.3

  effect-leads : (line : Line) → AllPass (checks hook s line) → (reply : Reply) (new : State) → Effect hook s line reply new → Leads s new
  effect-leads (says.Polygon sides) p reply new e = born-leads (polygon_rows s.present.kind s.present.dim (made s.present.rows + 1) sides) new (polygon-kept s.present kept.present sides (not-above p.1.0)) e.1
  effect-leads says.Dart p reply new e = born-leads (free_row s.present.dim ∷ []) new (dart-kept s.present kept.present (not-above p.0)) e.1
  effect-leads (says.Del d) p reply new e = del-leads d new p.0 p.1.0 e.1
  effect-leads (says.Sew i d e) p reply new f = changes-leads _ _ (sewn-lawful s.present kept.present i d e p.1.0 p.1.1.0 p.1.1.1.0 p.1.1.1.1.0) reply new f
  effect-leads (says.Unsew i d) p reply new f = changes-leads _ _ (unsewn-lawful s.present kept.present i d) reply new f
  effect-leads (says.Rule i merge split) p reply new e = stays-leads _ new (kept-ruled s.present kept.present i _ (not-above p.0)) refl refl refl (λ d h. h) e.4.1
  effect-leads (says.Set i d value) p reply new e = value-leads i d (Some value) p.1.0 (λ none. absurd (p.1.1.0 none)) reply new e
  effect-leads (says.Clear i d) p reply new e = value-leads i d None p.1.0 (λ none. refl) reply new e
  effect-leads (says.Value i d) p reply new e = to_same e.1
  effect-leads (says.Cell i d) p reply new e = to_same e.4
  effect-leads (says.Same i d e) p reply new f = to_same f.3
  effect-leads (says.Free i d) p reply new e = to_same e.3
  effect-leads (says.Sewable i d e) p reply new f = to_same f.3
  effect-leads says.Count p reply new e = to_same e.3
  effect-leads says.Show p reply new e = to_same e.3
  effect-leads (says.Vertex d) p reply new f = inserts-leads _ _
      (λ x h. vertex-live s.present.kind s.present.rows laws d x p.0 h) p.1.0
      (λ star N fresh becomes. vertex-lawful s.present.kind (links_in s.present) N d star laws (dart-some s.present kept.present d p.0) fresh becomes) reply new f
  effect-leads (says.Edge d e) p reply new f = inserts-leads _ _
      (λ x h. edge-live s.present.kind s.present.rows laws d e x p.0 p.1.0 h) p.1.1.1.1.1.0
      (λ star N fresh becomes. edge-lawful s.present.kind (links_in s.present) N d e star laws
      (dart-some s.present kept.present d p.0) (dart-some s.present kept.present e p.1.0) p.1.1.1.0 p.1.1.1.1.0 fresh becomes) reply new f
  effect-leads (says.Face path) p reply new f = inserts-leads _ _
      (λ x h. face-live s.present.kind s.present.rows laws path x p.1.0 h) p.1.1.1.1.1.0
      (λ star N fresh becomes. face_keeps s.present.kind path star (links_in s.present) N laws
      (λ b h. dart-some s.present kept.present b (All-contains (IsLive s.present.rows) path b p.1.0 h)) p.1.1.1.0 p.1.1.1.1.0 fresh becomes) reply new f
  effect-leads (says.Remove i d) p reply new f = changes-leads _ _ (removed-lawful s.present kept.present i d p.1.0 p.1.1.0) reply new f
  effect-leads (says.Contract i d) p reply new f = changes-leads _ _ (contracted-lawful s.present kept.present i d p.1.0 p.1.1.0) reply new f
  effect-leads says.Dual p reply new e = stays-leads e.0 new (kept-dualled s.present kept.present p.0 e.0 e.1) e.1.kind e.1.dim e.1.long (λ d h. (e.1.live d).0 h) e.3
  effect-leads (says.Close i) p reply new f = inserts-leads _ _ (λ x h. h.0) p.1.0
      (λ star N fresh becomes. closed-lawful s.present.kind s.present.rows i (closing-own s.present.kind i s.present.dim p.0) nothing-lives laws star N fresh becomes) reply new f
  effect-leads (says.Dangle d) p reply new f = hangs-leads _ _
      (λ x h. corner-live s.present.kind s.present.rows laws d x p.0 h) p.1.1.0
      (λ star tip N two becomes. dangle-lawful s.present.kind (links_in s.present) N d star tip laws (dart-some s.present kept.present d p.0) p.1.0 two becomes) reply new f
  effect-leads (says.Center d) p reply new f = hangs-leads _ _
      (λ x h. cell-live s.present.kind s.present.rows laws 2 d x p.0 h) p.1.1.0
      (λ star tip N two becomes. centre-lawful s.present.kind (links_in s.present) N d star tip laws (dart-some s.present kept.present d p.0) two becomes) reply new f
  effect-leads (says.Mark name) p reply new e = to_marked name p.0 e.1
  effect-leads (says.Undo name) p reply new e = to_earlier name e.0 e.1 e.2 e.3.1
  effect-leads (says.Redo name) p reply new e = to_undone e.0 e.1 e.2.there e.3.1
  effect-leads (says.Log name) p reply new e = to_same e.3.3
  effect-leads (says.Removable i d) p reply new f = to_same f.3
  effect-leads (says.Contractible i d) p reply new f = to_same f.3
  effect-leads says.Off p reply new e = to_same e.3

  step-leads : (line : Line) (reply : Reply) (new : State) → Step hook s line reply new → Leads s new
  step-leads line reply new =
      judged-kept s (Effect hook s line) (Leads s) reply new (checks hook s line) (to_same refl) (λ passes. effect-leads line passes reply new)

  pub step-kept : (line : Line) (reply : Reply) (new : State) → Step hook s line reply new → IsLawfulState new
  step-kept line reply new step = leads-kept s new kept (step-leads line reply new step)

  pub step-traced : AreTraced s → (line : Line) (reply : Reply) (new : State) → Step hook s line reply new → AreTraced new
  step-traced traced line reply new step = leads-traced s new kept traced (step-leads line reply new step)
