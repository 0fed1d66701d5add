-- The plain map machine: what each line answers and leaves. Source: this project's.
use Rattle.std.specs.Prelude.{ℕ, ◌≡◌, ◌<◌, ◌+◌, ◌*◌, ◌==◌, ◌⊎◌, ◌↔◌, if◌then◌else◌, Bool, IsTrue, List, [], ◌∷◌, ◌++◌, Option, Some, None, IsSome, All, slice_set, Contains}
use Rattle.std.specs.List.Sorted.{IsStrictlyIncreasing}
use Rattle.map_defs.specs.Kind.{beta, inverse, IsDistant}
use Rattle.map_defs.specs.Links.{Links}
use Rattle.map_defs.specs.Rows.{made, made_max, IsLive, links_of}
use Rattle.map_defs.specs.Cells.{InCell}
use Rattle.map_defs.specs.Counts.{AreCounts}
use Rattle.map_defs.specs.OffOfMap.{OffRows, AreOffRows, HasOpenFace, LacksPoint, HasThinFace}
use Rattle.map_defs.specs.Pairs.{IsGood}
use Rattle.map_defs.specs.Sewing.{SewnPairs, IsSewable, IsSewn, IsUnsewn}
use Rattle.map_defs.specs.Edits.{free_row}
use Rattle.map_defs.specs.Polygon.{per_side, polygon_rows}
use Rattle.map_defs.specs.Values as values
use Rattle.map_defs.specs.Values.{Hook}
use Rattle.map_defs.specs.RuleNames.{named_merge, named_split}
use Rattle.machine_defs.specs.State.{State, Content, Undone, Mark as SetMark, value_at, rule_at, with_born, without_dart, steps_to}
use Rattle.machine_defs.specs.Relinking.{IsRelinked, NoDart, IsTooMany, IsTooManyTwice, IsGrown, IsHungWith}
use Rattle.map_defs.specs.Insertion.{AreOnOneSide, FaceDarts, IsOnOneVolume, IsClosedPath, IsFacePaired, IsFace}
use Rattle.map_defs.specs.Inserting.{VertexDarts, IsVertex, InCorner, EdgeDarts, AreEdgePaired, IsEdge}
use Rattle.map_defs.specs.Removal.{IsRemovable, IsRemoved}
use Rattle.map_defs.specs.Contraction.{IsContractible, IsContracted}
use Rattle.map_defs.specs.Dual.{IsDualable}
use Rattle.map_defs.specs.Closing.{IsOpen, IsClosed, IsDangled, CanDangle, IsCentred, IsClosedFace}
use Rattle.machine_defs.specs.Dualling.{IsDualOf}
use Rattle.machine_defs.specs.Valuing.{IsValued}
use Rattle.machine_defs.specs.Difference.{Difference, AreDifferences}
use Rattle.machine_defs.specs.Marking.{IsMark, HasMark, with_mark, back_to, since, IsLastUndone, CanRedo, forth_to}
use Rattle.map_defs.specs.Refusal as why
use Rattle.map_defs.specs.Refusal.{Refusal}
use Rattle.machine_defs.specs.Listing.{ListValue, ListsValues, names_of, listing_with}
use Rattle.machine_defs.specs.Text.{Reply, Done, Truth, Darts, CellValue, Counts, Shown, Logged, Meshed, Refused}
use Rattle.machine_defs.specs.Script.{Line, Polygon, Dart, Del, Sew, Unsew, Vertex, Edge, Face, Remove, Contract, Dual, Close, Dangle, Center, Rule, Set, Clear, Mark, Undo, Redo, Log, Cell, Same, Free, Value, Removable, Contractible, Sewable, Off, Count, Show, line_of}
use Rattle.map_defs.specs.TextWords.{words_of}

-- a refusal with the condition under which a line fails by it, and that under which it passes
pub record Check : Type 1 where
  pub refusal : Refusal
  pub fails : Type 0
  pub passes : Type 0

abbrev pub refuse_if : Type 0 → Refusal → Check
refuse_if P r = record { refusal = r; fails = P; passes = P → ⊥ }

abbrev pub refuse_unless : Type 0 → Refusal → Check
refuse_unless P r = record { refusal = r; fails = P → ⊥; passes = P }

abbrev pub full_if : Content → ℕ → Check
full_if c births = refuse_if (made_max < made c.rows + births) why.Full

-- the number is a dimension of the map
abbrev pub dimension_check : Content → ℕ → Check
dimension_check c i = refuse_if (c.dim < i) why.BadDim

-- the number is a link that can be sewn: one of the map's, but not link 0 of a combinatorial map, which follows link 1
abbrev pub link_check : Content → ℕ → Check
link_check c i = refuse_if ((c.dim < i) ⊎ ((c.kind ≡ beta) × (i ≡ 0))) why.BadDim

-- the number is a link at which the map can be closed: one of the map's, and in a combinatorial map 2 or more
abbrev pub closing_check : Content → ℕ → Check
closing_check c i = refuse_if ((c.dim < i) ⊎ ((c.kind ≡ beta) × (i < 2))) why.BadDim

abbrev pub live_check : Content → ℕ → Check
live_check c d = refuse_unless (IsLive c.rows d) why.NoDart

abbrev pub links_in : Content → Links
links_in c = links_of c.rows

-- the dimension has a rule
abbrev pub rule_check : Content → ℕ → Check
rule_check c i = refuse_if (rule_at c i ≡ None) why.NoRule

-- each of the two names is in its table, or the hook knows it
abbrev pub AreNames : Hook → List ℕ → List ℕ → Type 0
AreNames hook merge split = IsSome (named_merge hook.names merge) × IsSome (named_split hook.names split)

-- all links of the dart are free
abbrev pub IsAlone : Content → ℕ → Type 0
IsAlone c d = (i : ℕ) → links_in c i d ≡ 0

-- both ends of a link to be sewn are free
abbrev pub AreFree : Content → ℕ → ℕ → ℕ → Type 0
AreFree c i d e = (links_in c i d ≡ 0) × (links_in c (inverse c.kind i) e ≡ 0)

-- the orbits of the two darts can be joined
abbrev pub ArePaired : Content → ℕ → ℕ → ℕ → Type 0
ArePaired c i d e = IsGood c.kind (links_in c) (IsDistant c.kind i) (SewnPairs c.kind (links_in c) i d e)

-- the numbers of a path are those of live darts
abbrev pub path_check : Content → List ℕ → Check
path_check c path = refuse_unless (All (IsLive c.rows) path) why.NoDart

-- new darts for the darts of K can be numbered
abbrev pub room_check : Content → (ℕ → Type 0) → Check
room_check c K = refuse_if (IsTooMany c K) why.Full

-- and two new darts for each of them
abbrev pub room_check_twice : Content → (ℕ → Type 0) → Check
room_check_twice c K = refuse_if (IsTooManyTwice c K) why.Full

-- The table of refusals: what each line is checked for beside a hook, in ascending number.
abbrev pub checks_on : Hook → Content → Line → List Check
checks_on hook c (Polygon sides) = refuse_if ((sides < 3) ⊎ (65536 < sides)) why.BadCount ∷ full_if c (per_side c.kind * sides) ∷ []
checks_on hook c Dart = full_if c 1 ∷ []
checks_on hook c (Del d) = live_check c d ∷ refuse_unless (IsAlone c d) why.Linked ∷ []
checks_on hook c (Sew i d e) = link_check c i ∷ live_check c d ∷ live_check c e ∷ refuse_unless (AreFree c i d e) why.NotFree ∷ refuse_unless (ArePaired c i d e) why.Unsewable ∷ []
checks_on hook c (Unsew i d) = link_check c i ∷ live_check c d ∷ refuse_if (links_in c i d ≡ 0) why.AlreadyFree ∷ []
checks_on hook c (Vertex d) = live_check c d ∷ room_check c (VertexDarts c.kind (links_in c) d) ∷ []
checks_on hook c (Edge d e) =
    live_check c d ∷ live_check c e ∷ refuse_unless (AreOnOneSide (links_in c) d e) why.OtherCell
    ∷ refuse_if (InCorner c.kind (links_in c) d e) why.SameCorner ∷ refuse_unless (AreEdgePaired c.kind (links_in c) d e) why.Unpaired
    ∷ room_check c (EdgeDarts c.kind (links_in c) d e) ∷ []
checks_on hook c (Face path) =
    refuse_if (c.dim < 3) why.BadDim ∷ path_check c path ∷ refuse_unless (IsOnOneVolume (links_in c) path) why.OtherCell
    ∷ refuse_unless (IsClosedPath c.kind (links_in c) path) why.NotClosed ∷ refuse_unless (IsFacePaired c.kind (links_in c) path) why.Unpaired
    ∷ room_check c (FaceDarts c.kind (links_in c) path) ∷ []
checks_on hook c (Remove i d) =
    dimension_check c i ∷ live_check c d ∷ refuse_unless (IsRemovable c.kind (links_in c) i d) why.NotRemovable ∷ []
checks_on hook c (Contract i d) =
    dimension_check c i ∷ live_check c d ∷ refuse_unless (IsContractible c.kind (links_in c) i d) why.NotContractible ∷ []
checks_on hook c Dual = refuse_unless (IsDualable c.kind c.dim (links_in c) (IsLive c.rows)) why.Boundary ∷ []
checks_on hook c (Close i) = closing_check c i ∷ room_check c (IsOpen (IsLive c.rows) i (links_in c)) ∷ []
checks_on hook c (Dangle d) =
    live_check c d ∷ refuse_unless (CanDangle c.kind (links_in c) d) why.Unpaired ∷ room_check_twice c (InCorner c.kind (links_in c) d) ∷ []
checks_on hook c (Center d) =
    live_check c d ∷ refuse_unless (IsClosedFace c.kind (links_in c) d) why.NotClosed ∷ room_check_twice c (InCell c.kind (links_in c) 2 d) ∷ []
checks_on hook c (Rule i merge split) = dimension_check c i ∷ refuse_unless (AreNames hook merge split) why.NoRule ∷ []
checks_on hook c (Set i d value) = dimension_check c i ∷ live_check c d ∷ rule_check c i ∷ []
checks_on hook c (Clear i d) = dimension_check c i ∷ live_check c d ∷ rule_check c i ∷ []
checks_on hook c (Value i d) = dimension_check c i ∷ live_check c d ∷ []
checks_on hook c (Cell i d) = dimension_check c i ∷ live_check c d ∷ []
checks_on hook c (Same i d e) = dimension_check c i ∷ live_check c d ∷ live_check c e ∷ []
checks_on hook c (Free i d) = dimension_check c i ∷ live_check c d ∷ []
checks_on hook c (Removable i d) = dimension_check c i ∷ live_check c d ∷ []
checks_on hook c (Contractible i d) = dimension_check c i ∷ live_check c d ∷ []
checks_on hook c (Sewable i d e) = link_check c i ∷ live_check c d ∷ live_check c e ∷ []
checks_on hook c Off =
    refuse_if (HasOpenFace c.kind c.rows) why.NotClosed ∷ refuse_if (LacksPoint c.kind c.rows (value_at c 0)) why.NoPoint
    ∷ refuse_if (HasThinFace c.kind c.rows) why.ThinFace ∷ []
checks_on hook c Count = []
checks_on hook c Show = []
checks_on hook c line = []

-- the table for all lines: those about marks look at the marks, redo at what was undone, the others at the present content
abbrev pub checks : Hook → State → Line → List Check
checks hook s (Mark name) = refuse_if (HasMark s.marks name) why.MarkTaken ∷ []
checks hook s (Undo name) = refuse_unless (HasMark s.marks name) why.NoMark ∷ []
checks hook s (Redo name) = refuse_unless (CanRedo s.undone name) why.NoRedo ∷ []
checks hook s (Log name) = refuse_unless (HasMark s.marks name) why.NoMark ∷ []
checks hook s line = checks_on hook s.present line

-- the polygon's darts come after all that were made
abbrev pub with_polygon : Content → ℕ → Content
with_polygon c sides = with_born c (polygon_rows c.kind c.dim (made c.rows + 1) sides)

-- one more dart, which has no links
abbrev pub with_dart : Content → Content
with_dart c = with_born c (free_row c.dim ∷ [])

-- this reply and this state, and no other
abbrev pub Gives : Reply → State → Reply → State → Type 0
Gives answer next reply new = (reply ≡ answer) × (new ≡ next)

-- the answer to a question, which changes nothing
abbrev pub TellsWhether : State → Type 0 → Reply → State → Type 0
TellsWhether s P reply new = (answer : Bool) × (IsTrue answer ↔ P) × (reply ≡ Truth answer) × (new ≡ s)

-- A change of links by which no dart is born and none ends.
abbrev pub Relinks : Hook → State → (Links → Type 0) → Reply → State → Type 0
Relinks hook s Becomes reply new = (next : Content) × IsRelinked hook s.present 0 NoDart Becomes next × (reply ≡ Done 0 0) × (new ≡ steps_to s next)

-- the first of so many darts that are born, numbered on from those that were made; 0 where none is
abbrev pub first_born : Content → ℕ → ℕ
first_born c births = if births == 0 then 0 else made c.rows + 1

-- A change of links by which each dart of K gets a new dart.
abbrev pub InsertsDarts : Hook → State → (ℕ → Type 0) → ((ℕ → ℕ) → Links → Type 0) → Reply → State → Type 0
InsertsDarts hook s K Becomes reply new = (births : ℕ) × (next : Content) × IsGrown hook s.present K Becomes births next
    × (reply ≡ Done (first_born s.present births) births) × (new ≡ steps_to s next)

-- A change of links by which each dart of K gets two new darts.
abbrev pub HangsEdges : Hook → State → (ℕ → Type 0) → ((ℕ → ℕ) → (ℕ → ℕ) → Links → Type 0) → Reply → State → Type 0
HangsEdges hook s K Becomes reply new = (births : ℕ) × (next : Content) × IsHungWith hook s.present K Becomes births next
    × (reply ≡ Done (first_born s.present births) births) × (new ≡ steps_to s next)

-- A change of links by which the darts of the i-cell of d end.
abbrev pub EndsDarts : Hook → State → ℕ → ℕ → (Links → Type 0) → Reply → State → Type 0
EndsDarts hook s i d Becomes reply new = (next : Content)
    × IsRelinked hook s.present 0 (InCell s.present.kind (links_in s.present) i d) Becomes next
    × (reply ≡ Done 0 0) × (new ≡ steps_to s next)

-- A cell is given a value, or it is taken.
abbrev pub Values : State → ℕ → ℕ → Option values.Value → Reply → State → Type 0
Values s i d value reply new = (next : Content) × IsValued s.present i d value next × (reply ≡ Done 0 0) × (new ≡ steps_to s next)

-- the content with this rule for dimension i; the values stay
abbrev pub with_rule : Content → ℕ → values.Rule → Content
with_rule c i rule = record c { rules = slice_set c.rules i (Some rule) }

-- what a line that passes its checks answers and leaves
abbrev pub Effect : Hook → State → Line → Reply → State → Type 0
Effect hook s (Polygon sides) =
    Gives (Done (made s.present.rows + 1) (per_side s.present.kind * sides)) (steps_to s (with_polygon s.present sides))
Effect hook s Dart = Gives (Done (made s.present.rows + 1) 1) (steps_to s (with_dart s.present))
Effect hook s (Del d) = Gives (Done 0 0) (steps_to s (without_dart s.present d))
Effect hook s (Sew i d e) = Relinks hook s (IsSewn s.present.kind i d e (links_in s.present))
Effect hook s (Unsew i d) = Relinks hook s (IsUnsewn s.present.kind i d (links_in s.present))
Effect hook s (Vertex d) =
    InsertsDarts hook s (VertexDarts s.present.kind (links_in s.present) d) (λ star. IsVertex s.present.kind d star (links_in s.present))
Effect hook s (Edge d e) =
    InsertsDarts hook s (EdgeDarts s.present.kind (links_in s.present) d e) (λ star. IsEdge s.present.kind d e star (links_in s.present))
Effect hook s (Face path) =
    InsertsDarts hook s (FaceDarts s.present.kind (links_in s.present) path) (λ star. IsFace s.present.kind path star (links_in s.present))
Effect hook s (Remove i d) = EndsDarts hook s i d (IsRemoved s.present.kind i d (links_in s.present))
Effect hook s (Contract i d) = EndsDarts hook s i d (IsContracted s.present.kind i d (links_in s.present))
Effect hook s Dual = λ reply new. (next : Content) × IsDualOf s.present next × (reply ≡ Done 0 0) × (new ≡ steps_to s next)
Effect hook s (Close i) =
    InsertsDarts hook s (IsOpen (IsLive s.present.rows) i (links_in s.present)) (λ star. IsClosed s.present.kind i (IsLive s.present.rows) star (links_in s.present))
Effect hook s (Dangle d) =
    HangsEdges hook s (InCorner s.present.kind (links_in s.present) d) (λ star tip. IsDangled s.present.kind d star tip (links_in s.present))
Effect hook s (Center d) =
    HangsEdges hook s (InCell s.present.kind (links_in s.present) 2 d) (λ star tip. IsCentred s.present.kind d star tip (links_in s.present))
Effect hook s (Rule i merge split) = λ reply new. (m : values.Merge) × (p : values.Split)
    × (named_merge hook.names merge ≡ Some m) × (named_split hook.names split ≡ Some p)
    × Gives (Done 0 0) (steps_to s (with_rule s.present i (record { merge = m; split = p }))) reply new
Effect hook s (Set i d value) = Values s i d (Some value)
Effect hook s (Clear i d) = Values s i d None
Effect hook s (Mark name) = Gives (Done 0 0) (with_mark s name)
Effect hook s (Undo name) = λ reply new. (k : ℕ) × (mark : SetMark) × IsMark s.marks name k mark × Gives (Done 0 0) (back_to s k mark) reply new
Effect hook s (Redo name) = λ reply new. (others : List Undone) × (last : Undone) × IsLastUndone s.undone name others last
    × Gives (Done 0 0) (forth_to others last) reply new
Effect hook s (Log name) = λ reply new. (k : ℕ) × (mark : SetMark) × IsMark s.marks name k mark
    × ((steps : List Difference) × AreDifferences (since s mark) steps × (reply ≡ Logged steps) × (new ≡ s))
Effect hook s (Value i d) = Gives (CellValue (value_at s.present i d)) s
Effect hook s (Cell i d) = λ reply new. (darts : List ℕ) × IsStrictlyIncreasing darts
    × ((e : ℕ) → Contains darts e ↔ InCell s.present.kind (links_in s.present) i d e) × (reply ≡ Darts darts) × (new ≡ s)
Effect hook s (Same i d e) = TellsWhether s (InCell s.present.kind (links_in s.present) i d e)
Effect hook s (Free i d) = TellsWhether s (links_in s.present i d ≡ 0)
Effect hook s (Removable i d) = TellsWhether s (IsRemovable s.present.kind (links_in s.present) i d)
Effect hook s (Contractible i d) = TellsWhether s (IsContractible s.present.kind (links_in s.present) i d)
Effect hook s (Sewable i d e) = TellsWhether s (IsSewable s.present.kind (links_in s.present) i d e)
Effect hook s Off = λ reply new. (off : OffRows) × AreOffRows s.present.kind s.present.rows (value_at s.present 0) off
    × (reply ≡ Meshed off) × (new ≡ s)
Effect hook s Count = λ reply new. (counts : List ℕ) × AreCounts s.present.kind s.present.dim s.present.rows counts
    × (reply ≡ Counts counts) × (new ≡ s)
Effect hook s Show = λ reply new. (values : List ListValue) × ListsValues s.present values
    × (reply ≡ Shown (listing_with s.present values (names_of s.marks))) × (new ≡ s)

-- The first check that fails refuses the line and leaves the state as it was; a check is looked at only after those
-- before it passed.
abbrev pub Judged : State → List Check → (Reply → State → Type 0) → Reply → State → Type 0
Judged s [] effect reply new = effect reply new
Judged s (check ∷ more) effect reply new =
    (check.fails × (reply ≡ Refused check.refusal) × (new ≡ s)) ⊎ (check.passes × Judged s more effect reply new)

-- some check for this refusal fails
abbrev pub FailsFor : List Check → Refusal → Type 0
FailsFor [] r = ⊥
FailsFor (check ∷ more) r = ((check.refusal ≡ r) × check.fails) ⊎ FailsFor more r

-- one step of the machine, beside the hook that is handed in
abbrev pub Step : Hook → State → Line → Reply → State → Type 0
Step hook s line reply new = Judged s (checks hook s line) (Effect hook s line) reply new

-- What one line of a script does: without a word it has no reply, outside the grammar it is refused as Syntax, and else
-- the machine takes a step.
pub data Obeys (hook : Hook) (s : State) (words : List (List ℕ)) (replies : List Reply) (new : State) : Type 0 where
  blank : words ≡ [] → replies ≡ [] → new ≡ s → Obeys hook s words replies new
  unread : (first : List ℕ) (more : List (List ℕ)) → words ≡ first ∷ more → line_of words ≡ None
      → replies ≡ Refused why.Syntax ∷ [] → new ≡ s → Obeys hook s words replies new
  obeyed : (line : Line) (reply : Reply) → line_of words ≡ Some line → Step hook s line reply new → replies ≡ reply ∷ []
      → Obeys hook s words replies new

-- the machine obeys the lines one after another
abbrev pub Run : Hook → State → List (List ℕ) → List Reply → State → Type 0
Run hook s [] replies new = (replies ≡ []) × (new ≡ s)
Run hook s (line ∷ lines) replies new = (here : List Reply) × (more : List Reply) × (mid : State)
    × Obeys hook s (words_of line) here mid × Run hook mid lines more new × (replies ≡ here ++ more)
