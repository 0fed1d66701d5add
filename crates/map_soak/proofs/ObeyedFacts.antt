-- Lines that are obeyed one after another.
use Rattle.std.proofs.Common.{ℕ, zero, suc, ◌≡◌, ◌+◌, ◌%◌, List, [], ◌∷◌, ◌++◌, length, filter, not, Option, Some, None, refl, sym, ap, subst, ◌∙◌, arith, append_assoc}
use Rattle.std.proofs.lemmas.List.{length-append, append-nil}
use Rattle.std.proofs.lemmas.List.Elements.{filter-append}
use Rattle.map_defs.specs.Kind.{Kind}
use Rattle.map_defs.specs.Rows.{made}
use Rattle.map_defs.specs.Values.{Hook}
use Rattle.std.specs.Prelude.{codes}
use Rattle.machine_defs.specs.State.{State, empty_state}
use Rattle.machine_defs.specs.Script.{Line, Rule}
use Rattle.machine_defs.specs.Machine.{Step}
use Rattle.machine_defs.specs.Text.{Reply, is_refused}
use Rattle.machine_defs.specs.Soaking.{Takes, TakesSquares, Soaks, square_lines, next_seed, drawn, accepted}
use Rattle.map_soak.specs.Obeyed.{IsCounted, Obeys, ObeysSquares}
use Rattle.map_soak.specs.declared.tally.Tally.{Tally}

takes-then : (hook : Hook) (s mid new : State) (xs ys : List Line) (here later : List Reply) → Takes hook s xs here mid → Takes hook mid ys later new
    → Takes hook s (xs ++ ys) (here ++ later) new
takes-then hook s mid new [] ys here later t u =
    subst (λ (replies : List Reply). Takes hook s ys (replies ++ later) new) (sym t.0) (subst (λ (m : State). Takes hook m ys later new) t.1 u)
takes-then hook s mid new (x ∷ xs) ys here later (reply, more, next, step, rest, is) u =
    (reply, more ++ later, next, step, takes-then hook next mid new xs ys more later rest u, ap (λ (replies : List Reply). replies ++ later) is)

accepted-append : (here later : List Reply) → accepted (here ++ later) ≡ accepted here + accepted later
accepted-append here later =
    ap length (filter-append (λ (reply : Reply). not (is_refused reply)) here later)
    ∙ length-append (filter (λ (reply : Reply). not (is_refused reply)) here) (filter (λ (reply : Reply). not (is_refused reply)) later)

pub counted-then : (old mid new : Tally) (here later : List Reply) → IsCounted old here mid → IsCounted mid later new → IsCounted old (here ++ later) new
counted-then old mid new here later one two =
    let long = length-append here later in
    let more = accepted-append here later in
    (omega (arith, one.0, two.0, long), omega (arith, one.1, two.1, more))

-- some lines, and then others
pub obeys-then : (hook : Hook) (s mid new : State) (xs ys : List Line) (old between counted : Tally) → Obeys hook s xs old mid between → Obeys hook mid ys between new counted
    → Obeys hook s (xs ++ ys) old new counted
obeys-then hook s mid new xs ys old between counted (here, taken, one) (later, left, two) =
    (here ++ later, takes-then hook s mid new xs ys here later taken left, counted-then old between counted here later one two)

-- Some squares were made, and the replies to their lines were counted. Whatever the machine replies to those that are left, it has replied so to all.
pub record AreBegun (hook : Hook) (kind : Kind) (seed count : ℕ) (s : State) (old : Tally) (before : Option ℕ) (number left : ℕ) (now : State) (tally : Tally) : Type 0 where
  pub replies : List Reply
  pub counted : IsCounted old replies tally
  pub rest : (later : List Reply) (new : State) → TakesSquares hook kind before number left now later new → TakesSquares hook kind None seed count s (replies ++ later) new

pub begun-more : (hook other : Hook) (kind : Kind) (seed count : ℕ) (s : State) (old : Tally) (before : Option ℕ) (number left : ℕ) (now next : State) (tally counted : Tally)
    → AreBegun hook kind seed count s old before number (suc left) now tally → other ≡ hook
    → Obeys other now (square_lines kind before (made now.present.rows + 1) (drawn (next_seed number) % 1000) (drawn (next_seed (next_seed number)) % 4)) tally next counted
    → AreBegun hook kind seed count s old (Some (made now.present.rows + 1)) (next_seed (next_seed number)) left next counted
begun-more hook other kind seed count s old before number left now next tally counted b same (here, taken, one) = record {
  replies = b.replies ++ here;
  counted = counted-then old tally counted b.replies here b.counted one;
  rest = λ later new t.
      subst (λ (replies : List Reply). TakesSquares hook kind None seed count s replies new) (sym (append_assoc b.replies here later))
      (b.rest (here ++ later) new (here, later, next, taken_as, t, refl));
}
  where
    taken_as : Takes hook now (square_lines kind before (made now.present.rows + 1) (drawn (next_seed number) % 1000) (drawn (next_seed (next_seed number)) % 4)) here next
    taken_as = subst (λ (h : Hook). Takes h now (square_lines kind before (made now.present.rows + 1) (drawn (next_seed number) % 1000) (drawn (next_seed (next_seed number)) % 4)) here next) same taken

pub begun-all : (hook : Hook) (kind : Kind) (seed count : ℕ) (s : State) (old : Tally) (before : Option ℕ) (number : ℕ) (now : State) (tally : Tally)
    → AreBegun hook kind seed count s old before number zero now tally → ObeysSquares hook kind None seed count s old now tally
begun-all hook kind seed count s old before number now tally b =
    (b.replies, subst (λ (replies : List Reply). TakesSquares hook kind None seed count s replies now) (append-nil b.replies) (b.rest [] now (refl, refl)), b.counted)

-- the same lines, by other names of their numbers
pub square-as : (hook : Hook) (kind : Kind) (before : Option ℕ) (first first' worth worth' choice choice' : ℕ) (s new : State) (old counted : Tally)
    → first ≡ first' → worth ≡ worth' → choice ≡ choice' → Obeys hook s (square_lines kind before first (worth % 1000) (choice % 4)) old new counted
    → Obeys hook s (square_lines kind before first' (worth' % 1000) (choice' % 4)) old new counted
square-as hook kind before first first' worth worth' choice choice' s new old counted one two three o =
    subst (λ (n : ℕ). Obeys hook s (square_lines kind before n (worth' % 1000) (choice' % 4)) old new counted) one
    (subst (λ (n : ℕ). Obeys hook s (square_lines kind before first (n % 1000) (choice' % 4)) old new counted) two
    (subst (λ (n : ℕ). Obeys hook s (square_lines kind before first (worth % 1000) (n % 4)) old new counted) three o))

-- the rule of a soak, and then its squares
pub soaked : (hook : Hook) (kind : Kind) (seed count : ℕ) (none one all : Tally) (mid new : State) → none.lines ≡ 0 → none.accepted ≡ 0
    → Obeys hook (empty_state kind 2) (Rule 2 (codes "sum") (codes "share") ∷ []) none mid one → ObeysSquares hook kind None seed count mid one new all
    → (replies : List Reply) × Soaks hook kind seed count replies new × (all.lines ≡ length replies) × (all.accepted ≡ accepted replies)
soaked hook kind seed count none one all mid new lines kept (ruled, (reply, more, next, step, rest, is), first) (later, taken, others) =
    let alone : ruled ≡ reply ∷ [] = is ∙ ap (λ (rs : List Reply). reply ∷ rs) rest.0 in
    let long = ap (λ (rs : List Reply). length rs) alone in
    let fine = ap accepted alone in
    let both = accepted-append (reply ∷ []) later in (
      reply ∷ later,
      (reply, later, mid, subst (λ (s : State). Step hook (empty_state kind 2) (Rule 2 (codes "sum") (codes "share")) reply s) (sym rest.1) step, taken, refl),
      omega (arith, lines, first.0, others.0, long),
      omega (arith, kept, first.1, others.1, fine, both),
    )

-- hooks and states that are the same do the same
pub obeys-as : (hook other : Hook) (s t new : State) (lines : List Line) (old counted : Tally) → hook ≡ other → s ≡ t → Obeys hook s lines old new counted → Obeys other t lines old new counted
obeys-as hook other s t new lines old counted h e o =
    subst (λ (k : Hook). Obeys k t lines old new counted) h (subst (λ (u : State). Obeys hook u lines old new counted) e o)

pub squares-as : (hook other : Hook) (kind : Kind) (seed count : ℕ) (s new : State) (old counted : Tally) → hook ≡ other → ObeysSquares hook kind None seed count s old new counted
    → ObeysSquares other kind None seed count s old new counted
squares-as hook other kind seed count s new old counted h o = subst (λ (k : Hook). ObeysSquares k kind None seed count s old new counted) h o
