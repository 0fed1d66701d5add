-- Every rule that a state keeps is of the tables, or one that the hook knows: a step keeps this.
use Rattle.std.proofs.Common.{◌≡◌, ℕ, zero, suc, ◌+◌, ◌-◌, Bool, true, false, cond, codes, List, [], ◌∷◌, ◌++◌, length, replicate, reverse, slice_set, Option, Some, None, All, slice_index_or, refl, sym, ap, ◌∙◌, subst, inl, inr, arith}
use Rattle.std.specs.Option.{option_or, option_map}
use Rattle.std.specs.Str.{bytes_eq}
use Rattle.std.proofs.lemmas.Bool.{cases_lt}
use Rattle.std.proofs.lemmas.List.{length-set, get_or-set_same, get_or-set_other, get_or_past, get_or-reverse, length-reverse}
use Rattle.std.proofs.lemmas.List.Elements.{All-push, All-take}
use Rattle.link_laws.proofs.Basics.{same_or_not}
use Rattle.map_defs.specs.Values.{Merge, First, Last, Sum, Min, Max, Mid, Split, Copied, Keep, Share, Host, Named, Rule, Hook, is_among}
use Rattle.map_defs.specs.RuleNames.{table_merge, table_split, known_name, named_merge, named_split, KnowsMerge, KnowsSplit, KnowsRule}
use Rattle.map_defs.specs.Kind.{Kind}
use Rattle.machine_defs.specs.State.{State, Content, Mark, Undone, rule_at, kept_past, steps_to, empty_content, empty_state}
use Rattle.machine_defs.specs.Loading.{IsLoaded, first_copy, first_state}
use Rattle.machine_defs.specs.Kept.{AreRulesKnown, KnowsRules}
use Rattle.machine_defs.specs.Marking.{IsMark, with_mark, undone_to, back_to, forth_to}
use Rattle.machine_defs.specs.Script as says
use Rattle.machine_defs.specs.Script.{Line, line_of}
use Rattle.map_defs.specs.TextWords.{words_of}
use Rattle.machine_defs.specs.Text.{Reply}
use Rattle.machine_defs.specs.Machine.{Step, Effect, checks, with_rule, Obeys, blank, unread, obeyed, Run}
use Rattle.machine_laws.proofs.Judging.{judged-kept}
use Rattle.machine_laws.proofs.Marked.{at-mark, all-front, all-last}

-- the first that is named, or one of the rest
chosen : {A : Type 0} (P : A → Type 0) (b : Bool) (x m : A) (rest : Option A) → P x → (rest ≡ Some m → P m) → cond b (Some x) rest ≡ Some m → P m
chosen P true x m rest here later h = subst P (some-is x m h) here
  where
    some-is : {A : Type 0} (x y : A) → Some x ≡ Some y → x ≡ y
    some-is x y e = cc
chosen P false x m rest here later h = later h

none-is : {A : Type 0} (P : A → Type 0) (m : A) → None ≡ Some m → P m
none-is P m h = absurd cc

-- a row of the table asks nothing of a hook
table-merge-known : (hook : Hook) (word : List ℕ) (m : Merge) → table_merge word ≡ Some m → KnowsMerge hook m
table-merge-known hook word m =
    chosen P (bytes_eq word (codes "first")) First m _ tt
    (chosen P (bytes_eq word (codes "last")) Last m _ tt
    (chosen P (bytes_eq word (codes "sum")) Sum m _ tt
    (chosen P (bytes_eq word (codes "min")) Min m _ tt
    (chosen P (bytes_eq word (codes "max")) Max m _ tt
    (chosen P (bytes_eq word (codes "mid")) Mid m _ tt
    (chosen P (bytes_eq word (codes "host")) Host m _ tt (none-is P m)))))))
  where
    P : Merge → Type 0
    P = KnowsMerge hook

table-split-known : (hook : Hook) (word : List ℕ) (m : Split) → table_split word ≡ Some m → KnowsSplit hook m
table-split-known hook word m =
    chosen P (bytes_eq word (codes "copy")) Copied m _ tt
    (chosen P (bytes_eq word (codes "keep")) Keep m _ tt
    (chosen P (bytes_eq word (codes "share")) Share m _ tt
    (chosen P (bytes_eq word (codes "host")) Host m _ tt (none-is P m))))
  where
    P : Split → Type 0
    P = KnowsSplit hook

-- what a word names beside a hook is known to it
pub merge-known : (hook : Hook) (word : List ℕ) (m : Merge) → named_merge hook.names word ≡ Some m → KnowsMerge hook m
merge-known hook word m = at (table_merge word) refl
  where
    named : (b : Bool) → is_among hook.names word ≡ b → option_map Named (cond b (Some word) None) ≡ Some m → KnowsMerge hook m
    named true is h = let e : Named word ≡ m = cc in subst (KnowsMerge hook) e is
    named false is h = absurd cc

    at : (o : Option Merge) → table_merge word ≡ o → option_or o (option_map Named (known_name hook.names word)) ≡ Some m → KnowsMerge hook m
    at None is h = named (is_among hook.names word) refl h
    at (Some row) is h = table-merge-known hook word m (is ∙ h)

pub split-known : (hook : Hook) (word : List ℕ) (m : Split) → named_split hook.names word ≡ Some m → KnowsSplit hook m
split-known hook word m = at (table_split word) refl
  where
    named : (b : Bool) → is_among hook.names word ≡ b → option_map Named (cond b (Some word) None) ≡ Some m → KnowsSplit hook m
    named true is h = let e : Named word ≡ m = cc in subst (KnowsSplit hook) e is
    named false is h = absurd cc

    at : (o : Option Split) → table_split word ≡ o → option_or o (option_map Named (known_name hook.names word)) ≡ Some m → KnowsSplit hook m
    at None is h = named (is_among hook.names word) refl h
    at (Some row) is h = table-split-known hook word m (is ∙ h)

abbrev Rules : Type 0
Rules = List (Option Rule)

abbrev no_rule : Option Rule
no_rule = None

none-some : (o : Option Rule) (rule : Rule) → o ≡ None → o ≡ Some rule → ⊥
none-some o rule e h = cc

module _ (hook : Hook) where
  -- rules that stay, one that is set, and rules in the opposite order
  pub rules-stay : (c next : Content) → next.rules ≡ c.rules → AreRulesKnown hook c → AreRulesKnown hook next
  rules-stay c next same known i rule is = known i rule (ap (λ (rs : Rules). slice_index_or rs i None) (sym same) ∙ is)

  pub rule-set : (c : Content) (i : ℕ) (set : Rule) → KnowsRule hook set → AreRulesKnown hook c → AreRulesKnown hook (with_rule c i set)
  rule-set c i set knows known j rule is = elim (same_or_not j i) [
    | inr other ↦ known j rule (sym (get_or-set_other c.rules i j (Some set) None other) ∙ is)
    | inl same ↦ elim (cases_lt i (length c.rules)) [
      | inl within ↦
          let here : rule_at (with_rule c i set) j ≡ Some set = ap (rule_at (with_rule c i set)) same ∙ get_or-set_same c.rules i (Some set) None within in
          let e : set ≡ rule = let f : Some set ≡ Some rule = sym here ∙ is in cc in
          subst (KnowsRule hook) e knows
      | inr past ↦ absurd (none-some (rule_at (with_rule c i set) j) rule (get_or_past (slice_set c.rules i (Some set)) j None (let e = length-set c.rules i (Some set) in omega (arith, same, e, past))) is)
    ]
  ]

  pub rules-reversed : (c next : Content) → next.rules ≡ reverse c.rules → AreRulesKnown hook c → AreRulesKnown hook next
  rules-reversed c next same known i rule is = elim (cases_lt i (length c.rules)) [
    | inl within ↦ known (length c.rules - 1 - i) rule (sym (get_or-reverse c.rules i None within) ∙ there)
    | inr past ↦ absurd (none-some (slice_index_or (reverse c.rules) i None) rule (get_or_past (reverse c.rules) i None (let e = length-reverse c.rules in omega (arith, e, past))) there)
  ]
    where
      there : slice_index_or (reverse c.rules) i None ≡ Some rule
      there = ap (λ (rs : Rules). slice_index_or rs i None) (sym same) ∙ is

  past-known : (marks : List Mark) (past : List Content) (c : Content) → All (AreRulesKnown hook) past → AreRulesKnown hook c → All (AreRulesKnown hook) (kept_past marks past c)
  past-known [] past c all known = λ p z h. absurd (omega arith)
  past-known (mark ∷ marks) past c all known = All-push (AreRulesKnown hook) past c all known

  -- the hook knows the rules of what an undo took back
  abbrev AreUndoneKnown : Undone → Type 0
  AreUndoneKnown u = AreRulesKnown hook u.present × All (AreRulesKnown hook) u.past × All (λ (m : Mark). AreRulesKnown hook m.content) u.marks

  module _ (s : State) (known : KnowsRules hook s) where
    pub same-known : (new : State) → new ≡ s → KnowsRules hook new
    same-known new e = subst (KnowsRules hook) (sym e) known

    pub next-known : (next : Content) (new : State) → AreRulesKnown hook next → new ≡ steps_to s next → KnowsRules hook new
    next-known next new is e = subst (KnowsRules hook) (sym e) (record {
      present = is;
      past = past-known s.marks s.past s.present known.past known.present;
      marks = known.marks;
      undone = λ p z h. absurd (omega arith);
    })

    -- a content with the rules of the present one
    pub stays-known : (next : Content) (new : State) → next.rules ≡ s.present.rules → new ≡ steps_to s next → KnowsRules hook new
    stays-known next new same e = next-known next new (rules-stay s.present next same known.present) e

    pub marked-known : (name : List ℕ) (new : State) → new ≡ with_mark s name → KnowsRules hook new
    marked-known name new e = subst (KnowsRules hook) (sym e) (record {
      present = known.present;
      past = known.past;
      marks = All-push (λ (m : Mark). AreRulesKnown hook m.content) s.marks _ known.marks known.present;
      undone = λ p z h. absurd (omega arith);
    })

    pub back-known : (name : List ℕ) (k : ℕ) (mark : Mark) → IsMark s.marks name k mark → (new : State) → new ≡ back_to s k mark → KnowsRules hook new
    back-known name k mark is new e = subst (KnowsRules hook) (sym e) (record {
      present = at-mark (λ (m : Mark). AreRulesKnown hook m.content) s.marks name k mark known.marks is;
      past = All-take (AreRulesKnown hook) mark.place s.past known.past;
      marks = All-take (λ (m : Mark). AreRulesKnown hook m.content) (k + 1) s.marks known.marks;
      undone = All-push AreUndoneKnown s.undone (undone_to s mark) known.undone (known.present, known.past, known.marks);
    })

    pub forth-known : (others : List Undone) (last : Undone) → s.undone ≡ others ++ last ∷ [] → (new : State) → new ≡ forth_to others last → KnowsRules hook new
    forth-known others last is new e =
        let all = subst (λ (us : List Undone). All AreUndoneKnown us) is known.undone in
        let one = all-last AreUndoneKnown others last all in
        subst (KnowsRules hook) (sym e) (record { present = one.0; past = one.1; marks = one.2; undone = all-front AreUndoneKnown others last all })

    effect-known : (line : Line) (reply : Reply) (new : State) → Effect hook s line reply new → KnowsRules hook new
    effect-known (says.Polygon sides) reply new e = stays-known _ new refl e.1
    effect-known says.Dart reply new e = stays-known _ new refl e.1
    effect-known (says.Del d) reply new e = stays-known _ new refl e.1
    effect-known (says.Sew i d o) reply new e = stays-known e.0 new e.1.rules e.3
    effect-known (says.Unsew i d) reply new e = stays-known e.0 new e.1.rules e.3
    effect-known (says.Vertex d) reply new e = stays-known e.1 new e.2.relinked.rules e.4
    effect-known (says.Edge d o) reply new e = stays-known e.1 new e.2.relinked.rules e.4
    effect-known (says.Face path) reply new e = stays-known e.1 new e.2.relinked.rules e.4
    effect-known (says.Remove i d) reply new e = stays-known e.0 new e.1.rules e.3
    effect-known (says.Contract i d) reply new e = stays-known e.0 new e.1.rules e.3
    effect-known says.Dual reply new e = next-known e.0 new (rules-reversed s.present e.0 e.1.rules known.present) e.3
    effect-known (says.Close i) reply new e = stays-known e.1 new e.2.relinked.rules e.4
    effect-known (says.Dangle d) reply new e = stays-known e.1 new e.2.relinked.rules e.4
    effect-known (says.Center d) reply new e = stays-known e.1 new e.2.relinked.rules e.4
    effect-known (says.Rule i merge split) reply new e =
        next-known _ new (rule-set s.present i (record { merge = e.0; split = e.1 }) (merge-known hook merge e.0 e.2, split-known hook split e.1 e.3) known.present) e.4.1
    effect-known (says.Set i d value) reply new e = stays-known e.0 new e.1.rules e.3
    effect-known (says.Clear i d) reply new e = stays-known e.0 new e.1.rules e.3
    effect-known (says.Mark name) reply new e = marked-known name new e.1
    effect-known (says.Undo name) reply new e = back-known name e.0 e.1 e.2 new e.3.1
    effect-known (says.Redo name) reply new e = forth-known e.0 e.1 e.2.there new e.3.1
    effect-known (says.Log name) reply new e = same-known new e.3.3
    effect-known (says.Value i d) reply new e = same-known new e.1
    effect-known (says.Cell i d) reply new e = same-known new e.4
    effect-known (says.Same i d o) reply new e = same-known new e.3
    effect-known (says.Free i d) reply new e = same-known new e.3
    effect-known (says.Removable i d) reply new e = same-known new e.3
    effect-known (says.Contractible i d) reply new e = same-known new e.3
    effect-known (says.Sewable i d o) reply new e = same-known new e.3
    effect-known says.Off reply new e = same-known new e.3
    effect-known says.Count reply new e = same-known new e.3
    effect-known says.Show reply new e = same-known new e.3

    pub step-known : (line : Line) (reply : Reply) (new : State) → Step hook s line reply new → KnowsRules hook new
    step-known line reply new =
        judged-kept s (Effect hook s line) (KnowsRules hook) reply new (checks hook s line) known (λ passes. effect-known line reply new)

  obeys-known : (s : State) (words : List (List ℕ)) (here : List Reply) (new : State) → KnowsRules hook s → Obeys hook s words here new → KnowsRules hook new
  obeys-known s words here new known (blank n e f) = subst (KnowsRules hook) (sym f) known
  obeys-known s words here new known (unread first more are none e f) = subst (KnowsRules hook) (sym f) known
  obeys-known s words here new known (obeyed line reply told step e) = step-known s known line reply new step

  pub run-known : (s : State) (lines : List (List ℕ)) (replies : List Reply) (new : State) → KnowsRules hook s → Run hook s lines replies new → KnowsRules hook new
  run-known s [] replies new known r = subst (KnowsRules hook) (sym r.1) known
  run-known s (line ∷ lines) replies new known r = run-known r.2 lines r.1 new (obeys-known s (words_of line) r.0 r.2 known r.3) r.4

  none-at : (n i : ℕ) → slice_index_or (replicate n no_rule) i None ≡ None
  none-at zero i = get_or_past [] i None (omega arith)
  none-at (suc n) zero = refl
  none-at (suc n) (suc i) = none-at n i

  pub state-known : (c : Content) → AreRulesKnown hook c → KnowsRules hook (first_state c)
  state-known c known = record {
    present = known;
    past = λ p z h. absurd (omega arith);
    marks = λ p z h. absurd (omega arith);
    undone = λ p z h. absurd (omega arith);
  }

  -- the states from which runs start: one without rules, and one with the rule of points
  pub empty-known : (k : Kind) (n : ℕ) → KnowsRules hook (empty_state k n)
  empty-known k n = state-known (empty_content k n) (λ i rule is. absurd (none-some (rule_at (empty_content k n) i) rule (none-at (n + 1) i) is))

  -- a content with the rule of points alone
  pub points-known : (n : ℕ) (c : Content) → c.rules ≡ Some first_copy ∷ replicate n None → AreRulesKnown hook c
  points-known n c is i rule has = at i (ap (λ (rs : Rules). slice_index_or rs i None) (sym is) ∙ has)
    where
      at : (i : ℕ) → slice_index_or (Some first_copy ∷ replicate n None) i None ≡ Some rule → KnowsRule hook rule
      at zero h = let e : first_copy ≡ rule = cc in subst (KnowsRule hook) e (tt, tt)
      at (suc i) h = absurd (none-some (slice_index_or (replicate n None) i None) rule (none-at n i) h)

  pub loaded-known : (k : Kind) (n : ℕ) (text : List ℕ) (start : State) → IsLoaded k n text start → KnowsRules hook start
  loaded-known k n text start l = subst (KnowsRules hook) (sym l.begun) (state-known l.content (points-known n l.content l.is.rules))
