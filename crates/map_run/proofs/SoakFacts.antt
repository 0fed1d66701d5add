-- What a soak answers, by its summary.
use Rattle.std.proofs.Common.{◌≡◌, ℕ, suc, ◌≤◌, nat_lt, Bool, true, false, List, [], ◌∷◌, ◌++◌, length, refl, ap, ◌∙◌, arith, lit≤}
use Prim.Native.Nat.compare
use lib.Dec.{is_le}
use Rattle.std.proofs.lemmas.Bool.{lt-ltb}
use Rattle.map_defs.specs.Kind.{Kind}
use Rattle.map_defs.specs.Values.{Hook}
use Rattle.machine_defs.specs.Soaking.{SoakAnswer, soak_line, accepted}
use Rattle.machine_defs.specs.Text.{Reply, Counts, reply_text, is_refused, any_refused, run_status}
use Rattle.map_soak.specs.Summaries.{IsSummary}
use Rattle.map_soak.specs.declared.squares.Summary.{Summary}

accepted-le : (replies : List Reply) → accepted replies ≤ length replies
accepted-le [] = omega arith
accepted-le (reply ∷ replies) = at (is_refused reply) refl (accepted-le replies)
  where
    at : (b : Bool) → is_refused reply ≡ b → accepted replies ≤ length replies → accepted (reply ∷ replies) ≤ suc (length replies)
    at true is less = rw is (omega (arith, less))
    at false is less = rw is (omega (arith, less))

both-more : (m n : ℕ) → nat_lt (suc m) (suc n) ≡ nat_lt m n
both-more m n = ap is_le (compare.suc-suc (suc m) n)

-- fewer were accepted where some were refused
accepted-some : (replies : List Reply) → nat_lt (accepted replies) (length replies) ≡ any_refused replies
accepted-some [] = refl
accepted-some (reply ∷ replies) = at (is_refused reply) refl (accepted-some replies)
  where
    at : (b : Bool) → is_refused reply ≡ b → nat_lt (accepted replies) (length replies) ≡ any_refused replies → nat_lt (accepted (reply ∷ replies)) (suc (length replies)) ≡ any_refused (reply ∷ replies)
    at true is same = rw is (let less = accepted-le replies in lt-ltb (accepted replies) (suc (length replies)) (omega arith))
    at false is same = rw is (both-more (accepted replies) (length replies) ∙ same)

pub summary-answer : (hook : Hook) (kind : Kind) (seed count : ℕ) (summary : Summary) → IsSummary hook kind seed count summary
    → SoakAnswer hook kind seed count (soak_line summary.lines summary.accepted summary.total ++ reply_text (Counts summary.counts.items)) (run_status (nat_lt summary.accepted summary.lines))
summary-answer hook kind seed count summary (replies, new, values, soaks, lists, counted, lines, some, total) =
    (replies, new, values, summary.counts.items, soaks, lists, counted, rw (lines, some, total) refl, rw (lines, some) (ap run_status (accepted-some replies)))

pub status-low : (b : Bool) → run_status b ≤ 4
status-low true = lit≤ tt
status-low false = lit≤ tt
