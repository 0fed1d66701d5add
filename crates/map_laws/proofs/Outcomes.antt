-- What the calls of two lines that were obeyed, or were not, say together.
use Rattle.std.proofs.Common.{ℕ, ◌≡◌, Err, sym, subst}
use Rattle.map_kind.specs.declared.refusal.Refused.{Refused}
use Rattle.map_kind.specs.declared.refusal.Refused.TheVariants as why
use Rattle.map_kind.specs.declared.done.Done.{Done}
use Rattle.map_kind.specs.Refusals.{meaning}
use Rattle.map_defs.specs.Values.{Hook}
use Rattle.machine_defs.specs.State.{State}
use Rattle.machine_defs.specs.Kept.{IsLawfulContent}
use Rattle.machine_defs.specs.Script as says
use Rattle.machine_defs.specs.Script.{Line}
use Rattle.machine_defs.specs.Text as text
use Rattle.machine_defs.specs.Machine.{Step}
use Rattle.map_core.specs.Calls.{Does}
use Rattle.map_laws.specs.Both.{ObeysBoth, FailsAt}
use Rattle.map_laws.specs.Insertions.{insertion_line, new_dim, HasSides}
use Rattle.map_laws.specs.declared.fault.LawFault.TheVariants.{First, SecondNoMemory}
use Rattle.map_laws.specs.declared.insert.Insertion.{Insertion}
use Rattle.map_laws.specs.declared.insert.Insertion.TheVariants.{Vertex, Edge, Face, Dangle}
use Rattle.map_laws.proofs.Steps.{obeyed, refused-same}
use Rattle.map_laws.proofs.InsertTwice.{Inserts, vertex-inserts, edge-inserts, face-inserts, dangle-inserts}

module _ (hook : Hook) (s : State) where
  -- a first line that is not obeyed leaves the state
  pub first-fails : (line : Line) (refused : Refused) (new : State) → Does hook s line (Err refused) new → FailsAt hook s line (First refused) new
  first-fails line (why.Line r) new does =
      let same = refused-same hook s line (meaning r) new does in (subst (Step hook s line (text.Refused (meaning r))) same does, same)
  first-fails line why.NoMemory new does = does

  -- a second line without memory leaves what the first one left
  pub second-fails : (line : Line) (done : Done) (mid new : State) → Step hook s line (text.Done done.first done.count) mid → new ≡ mid → FailsAt hook s line SecondNoMemory new
  second-fails line done mid new step same = (done.first, done.count, subst (Step hook s line (text.Done done.first done.count)) (sym same) step)

  -- lines that make no dart say so
  dual-none : (first count : ℕ) (mid : State) → Step hook s says.Dual (text.Done first count) mid → Step hook s says.Dual (text.Done 0 0) mid
  dual-none first count mid step =
      let (passes, (next, turned, reply, is)) = obeyed hook s says.Dual first count mid step in
      subst (λ (r : text.Reply). Step hook s says.Dual r mid) reply step

  remove-none : (i d : ℕ) (first count : ℕ) (mid : State) → Step hook s (says.Remove i d) (text.Done first count) mid → Step hook s (says.Remove i d) (text.Done 0 0) mid
  remove-none i d first count mid step =
      let (passes, (next, gone, reply, is)) = obeyed hook s (says.Remove i d) first count mid step in
      subst (λ (r : text.Reply). Step hook s (says.Remove i d) r mid) reply step

module _ (hook : Hook) (s mid new : State) (one two : Done) where
  pub dual-both : Step hook s says.Dual (text.Done one.first one.count) mid → Step hook mid says.Dual (text.Done two.first two.count) new
      → ObeysBoth hook s says.Dual (text.Done 0 0) says.Dual (text.Done 0 0) new
  dual-both first second = (mid, dual-none hook s one.first one.count mid first, dual-none hook mid two.first two.count new second)

  pub inserted-both : (line : Line) (i : ℕ) → Step hook s line (text.Done one.first one.count) mid → Step hook mid (says.Remove i one.first) (text.Done two.first two.count) new
      → ObeysBoth hook s line (text.Done one.first one.count) (says.Remove i one.first) (text.Done 0 0) new
  inserted-both line i first second = (mid, first, remove-none hook mid i one.first two.first two.count new second)

-- whatever is inserted
pub inserts : (hook : Hook) (s mid : State) → IsLawfulContent s.present → (first count : ℕ) (insertion : Insertion) → HasSides insertion
    → Step hook s (insertion_line insertion) (text.Done first count) mid → Inserts hook s (new_dim insertion) first count mid
inserts hook s mid kept first count (Vertex d) sides step = vertex-inserts hook s mid kept first count d step
inserts hook s mid kept first count (Edge d e) sides step = edge-inserts hook s mid kept first count d e step
inserts hook s mid kept first count (Face path) sides step = face-inserts hook s mid kept first count path.items sides.0 step
inserts hook s mid kept first count (Dangle d) sides step = dangle-inserts hook s mid kept first count d step
