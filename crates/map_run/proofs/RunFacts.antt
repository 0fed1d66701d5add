-- Runs that go on by one line, and what is written of them.
use Rattle.std.proofs.Common.{◌≡◌, ℕ, ◌≤◌, List, [], ◌∷◌, ◌++◌, Option, Ok, Err, Bool, true, false, ◌||◌, ◌==◌, cond, codes, arith, refl, sym, ap, ◌∙◌, subst, append_assoc, inl, inr, Some, None, length}
use Rattle.std.specs.Fmt.{decimal, signed_decimal}
use Rattle.std.specs.List.{flat_map}
use Rattle.std.proofs.lemmas.Grind.{flat_map-append}
use Rattle.std.proofs.lemmas.List.{append-nil}
use Rattle.map_io.specs.declared.sink.PutFault.{PutFault}
use Rattle.map_io.specs.declared.sink.PutFault.TheVariants.{Failed, NoMemory}
use Rattle.map_io.specs.Cause.{HasCause}
use Rattle.machine_defs.specs.Outside.{Appended, IsFront, Rose}
use Rattle.map_defs.specs.Values.{Hook, Value}
use Rattle.machine_defs.specs.State.{State}
use Rattle.machine_defs.specs.Script.{lines_of}
use Rattle.map_defs.specs.TextWords.{words_of}
use Rattle.machine_defs.specs.Text.{Reply, Done, Truth, Darts, CellValue, Counts, Shown, Logged, Meshed, Refused, reply_text, replies_text, is_refused, any_refused, ended, spaced, spaced_signed, header_text, row_text, rule_text, value_text, mark_text}
use Rattle.machine_defs.specs.LogText.{steps_text}
use Rattle.machine_defs.specs.OffText.{off_counts_text, off_point_text, off_face_text}
use Rattle.map_defs.specs.Refusal.{number, name}
use Rattle.map_defs.specs.OffOfMap.{OffRows}
use Rattle.machine_defs.specs.Machine.{Obeys, Run}
use Rattle.machine_defs.specs.Program.{EndsLine, Begins, run_status}
use Rattle.map_run.specs.Writing.{IsAnswered, AnswersLine, IsFrontOfLine}
use Rattle.map_run.specs.Going.{IsGoing, IsObeyed, ObeysScript}
use Rattle.text_lines.proofs.WritingFacts.{Appended-then, EndsLine-then, IsFront-all, IsFront-then}

-- every reply ends with a line
done_ends : (b : Bool) (text : List ℕ) → EndsLine (cond b (ended (codes "ok")) (ended text))
done_ends true text = inr (codes "ok", refl)
done_ends false text = inr (text, refl)

-- texts that end with a line do so one after another
each_ends : {A : Type 0} (text : A → List ℕ) → ((x : A) → EndsLine (text x)) → (xs : List A) → EndsLine (flat_map text xs)
each_ends text ends [] = inl refl
each_ends text ends (x ∷ xs) = EndsLine-then (text x) (flat_map text xs) (ends x) (each_ends text ends xs)

off_ends : (off : OffRows) → EndsLine (reply_text (Meshed off))
off_ends off =
    let points : List ℕ = flat_map off_point_text off.points in
    let faces : List ℕ = flat_map off_face_text off.faces in
    let counts : List ℕ = off_counts_text (length off.points) (length off.faces) off.edges in
    EndsLine-then (ended (codes "OFF") ++ counts ++ points) faces
    (EndsLine-then (ended (codes "OFF") ++ counts) points
    (EndsLine-then (ended (codes "OFF")) counts (inr (codes "OFF", refl)) (inr (decimal (length off.points) ++ spaced (length off.faces) ++ spaced off.edges, refl)))
    (each_ends off_point_text (λ (v : Value). inr (signed_decimal v.a ++ spaced_signed v.b ++ spaced_signed v.c, refl)) off.points))
    (each_ends off_face_text (λ (corners : List ℕ). inr (decimal (length corners) ++ flat_map spaced corners, refl)) off.faces)

reply_ends : (reply : Reply) → EndsLine (reply_text reply)
reply_ends (Done first count) = done_ends (count == 0) (codes "ok" ++ spaced first ++ spaced count)
reply_ends (Truth true) = inr (codes "true", refl)
reply_ends (Truth false) = inr (codes "false", refl)
reply_ends (Darts darts) = inr (codes "cell" ++ flat_map spaced darts, refl)
reply_ends (CellValue None) = inr (codes "value none", refl)
reply_ends (CellValue (Some v)) = inr (codes "value" ++ spaced_signed v.a ++ spaced_signed v.b ++ spaced_signed v.c, refl)
reply_ends (Counts counts) = inr (codes "count" ++ flat_map spaced counts, refl)
reply_ends (Shown l) =
    let front : List ℕ = header_text l ++ flat_map row_text l.rows ++ flat_map rule_text l.rules ++ flat_map value_text l.values ++ flat_map mark_text l.marks in
    inr (front ++ codes "end", sym (append_assoc front (codes "end") (10 ∷ [])))
reply_ends (Logged steps) =
    let front : List ℕ = ended (codes "log" ++ spaced (length steps)) ++ steps_text 1 steps in
    inr (front ++ codes "end", sym (append_assoc front (codes "end") (10 ∷ [])))
reply_ends (Meshed off) = off_ends off
reply_ends (Refused r) = inr (codes "no" ++ spaced (number r) ++ 32 ∷ name r, refl)

pub replies_end : (replies : List Reply) → EndsLine (replies_text replies)
replies_end [] = inl refl
replies_end (reply ∷ replies) = EndsLine-then (reply_text reply) (replies_text replies) (reply_ends reply) (replies_end replies)

-- one more line
pub Run-more : (hook : Hook) (s mid new : State) (done : List (List ℕ)) (line : List ℕ) (replies here : List Reply)
    → Run hook s done replies mid → Obeys hook mid (words_of line) here new → Run hook s (done ++ line ∷ []) (replies ++ here) new
Run-more hook s mid new [] line replies here run last =
    let at : Obeys hook s (words_of line) here new = subst (λ (t : State). Obeys hook t (words_of line) here new) run.1 last in
    (here, [], new, at, (refl, refl), ap (λ (rs : List Reply). rs ++ here) run.0 ∙ sym (append-nil here))
Run-more hook s mid new (first ∷ done) line replies here run last = (
  run.0,
  run.1 ++ here,
  run.2,
  run.3,
  Run-more hook run.2 mid new done line run.1 here run.4 last,
  ap (λ (rs : List Reply). rs ++ here) run.5 ∙ append_assoc run.0 run.1 here,
)

or-assoc : (a b c : Bool) → (a || (b || c)) ≡ ((a || b) || c)
or-assoc true b c = refl
or-assoc false b c = refl

any-append : (replies here : List Reply) → any_refused (replies ++ here) ≡ (any_refused replies || any_refused here)
any-append [] here = refl
any-append (reply ∷ replies) here =
    ap (λ (b : Bool). is_refused reply || b) (any-append replies here) ∙ or-assoc (is_refused reply) (any_refused replies) (any_refused here)

text-append : (replies here : List Reply) → replies_text (replies ++ here) ≡ replies_text replies ++ replies_text here
text-append replies here = flat_map-append reply_text replies here

pub Going-more : (hook : Hook) (start mid new : State) (done : List (List ℕ)) (line : List ℕ) (refused here : Bool) (before middle after : Option (List ℕ))
    → IsGoing hook start mid done refused before middle → AnswersLine hook middle after mid new (words_of line) (Ok here)
    → IsGoing hook start new (done ++ line ∷ []) (refused || here) before after
Going-more hook start mid new done line refused here before middle after going answer =
    let replies : List Reply = going.replies in
    let own : List Reply = answer.is.0 in
    let a = going.any in
    let b = answer.is.3 in
    record {
      replies = replies ++ own;
      run = Run-more hook start mid new done line replies own going.run answer.is.1;
      any = rw (a, b) (sym (any-append replies own));
      appended = subst (Appended before after) (sym (text-append replies own))
          (Appended-then before middle after (replies_text replies) (replies_text own) going.appended (subst (Appended middle after) answer.is.2 answer.appended));
    }

begins-here : (hook : Hook) (start mid : State) (done after : List (List ℕ)) (line : List ℕ) (lines : List (List ℕ)) (replies : List Reply) (piece : List ℕ)
    → lines ≡ done ++ line ∷ after → Run hook start done replies mid → IsFrontOfLine hook mid (words_of line) piece → Begins hook start lines (replies_text replies ++ piece)
begins-here hook start mid done after line lines replies piece are run front = record {
  done = done ++ line ∷ [];
  left = after;
  all = are ∙ sym (append_assoc done (line ∷ []) after);
  replies = replies ++ front.0;
  new = front.1;
  run = Run-more hook start mid front.1 done line replies front.0 run front.2;
  begins = subst (IsFront (replies_text replies ++ piece)) (sym (text-append replies front.0)) (IsFront-then (replies_text replies) piece (replies_text front.0) front.3);
}

cut-is : (hook : Hook) (start mid new : State) (script : List ℕ) (done after : List (List ℕ)) (line : List ℕ) (fault : PutFault) (replies : List Reply) (piece : List ℕ)
    → lines_of script ≡ done ++ line ∷ after → Run hook start done replies mid → IsAnswered hook mid new (words_of line) (Err fault) piece
    → IsObeyed hook start script (Err fault) (replies_text replies ++ piece)
cut-is hook start mid new script done after line Failed replies piece are run p = begins-here hook start mid done after line (lines_of script) replies piece are run p
cut-is hook start mid new script done after line NoMemory replies piece are run (ends, inr p) =
    (EndsLine-then (replies_text replies) piece (replies_end replies) ends, begins-here hook start mid done after line (lines_of script) replies piece are run p)
cut-is hook start mid new script done after line NoMemory replies piece are run (ends, inl none) = (
  EndsLine-then (replies_text replies) piece (replies_end replies) ends,
  record {
    done = done;
    left = line ∷ after;
    all = are;
    replies = replies;
    new = mid;
    run = run;
    begins = rw (none, append-nil (replies_text replies)) (IsFront-all (replies_text replies));
  },
)

-- the script is cut short at a line
pub Going-cut : (hook : Hook) (start mid new : State) (script : List ℕ) (done after : List (List ℕ)) (line : List ℕ) (refused : Bool) (fault : PutFault) (before middle end : Option (List ℕ))
    → lines_of script ≡ done ++ line ∷ after → IsGoing hook start mid done refused before middle → AnswersLine hook middle end mid new (words_of line) (Err fault)
    → ObeysScript hook before end start script (Err fault)
Going-cut hook start mid new script done after line refused fault before middle end are going answer = record {
  piece = replies_text going.replies ++ answer.piece;
  appended = Appended-then before middle end (replies_text going.replies) answer.piece going.appended answer.appended;
  is = cut-is hook start mid new script done after line fault going.replies answer.piece are going.run answer.is;
}

-- the script is obeyed to its end
pub Going-end : (hook : Hook) (start new : State) (script : List ℕ) (done : List (List ℕ)) (refused : Bool) (before after : Option (List ℕ))
    → lines_of script ≡ done ++ [] → IsGoing hook start new done refused before after → ObeysScript hook before after start script (Ok refused)
Going-end hook start new script done refused before after are going =
    let all : lines_of script ≡ done = are ∙ append-nil done in
    let a = going.any in
    record {
      piece = replies_text going.replies;
      appended = going.appended;
      is = (going.replies, new, subst (λ (ls : List (List ℕ)). Run hook start ls going.replies new) (sym all) going.run, refl, ap run_status a);
    }

-- what rose since some fault rose since an earlier one
pub then-rose : (a b c : ℕ) → a ≤ b → Rose b c → Rose a c
then-rose a b c later rose = omega arith

-- a count of faults with its cause since some fault has it since an earlier one
pub cause-earlier : (before middle now : ℕ) (failed : Type 0) → before ≤ middle → HasCause middle now failed → HasCause before now failed
cause-earlier before middle now failed early cause = record {
  later = let later = cause.later in omega arith;
  rose = λ fails. then-rose before middle now early (cause.rose fails);
}
