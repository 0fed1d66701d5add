-- The rules of a difference put forward and taken back.
use Rattle.std.proofs.Common.{◌≡◌, ◌≢◌, ℕ, zero, suc, ◌<◌, ◌⊎◌, Bool, true, false, List, [], ◌∷◌, length, get_or, set, Option, Some, None, refl, sym, ap, ◌∙◌, inl, inr, ⊎_elim, arith, AllPairs}
use Rattle.std.specs.Prelude.{All}
use Rattle.std.specs.Str.{bytes_eq}
use Rattle.std.proofs.lemmas.Bool.{cases_lt, false≢true}
use Rattle.std.proofs.lemmas.Slice.Eq.{bytes_eq-Decides}
use Rattle.std.proofs.lemmas.List.{ext_get_or, get_or-set_same, get_or-set_other, get_or_past, set-set, set-get_or, length-set}
use Rattle.std.proofs.lemmas.List.Elements.{All-contains, Contains-get_or}
use Rattle.map_defs.specs.Values.{Merge, First, Last, Sum, Min, Max, Mid, Split, Copied, Keep, Share, Host, Named, Rule}
use Rattle.machine_defs.specs.State.{Content, rule_at}
use Rattle.machine_defs.specs.Difference.{Difference, RuleChange, IsDifference, ruled, unruled}
use Rattle.journal_laws.specs.Following.{Follows}

-- merges and splits have words, which tell them: the number of a row, or 7 and a name
abbrev merge_word : Merge → List ℕ
merge_word First = 0 ∷ []
merge_word Last = 1 ∷ []
merge_word Sum = 2 ∷ []
merge_word Min = 3 ∷ []
merge_word Max = 4 ∷ []
merge_word Mid = 5 ∷ []
merge_word Host = 6 ∷ []
merge_word (Named name) = 7 ∷ name

abbrev merge_of : List ℕ → Merge
merge_of [] = First
merge_of (zero ∷ name) = First
merge_of (suc zero ∷ name) = Last
merge_of (suc (suc zero) ∷ name) = Sum
merge_of (suc (suc (suc zero)) ∷ name) = Min
merge_of (suc (suc (suc (suc zero))) ∷ name) = Max
merge_of (suc (suc (suc (suc (suc zero)))) ∷ name) = Mid
merge_of (suc (suc (suc (suc (suc (suc zero))))) ∷ name) = Host
merge_of (suc (suc (suc (suc (suc (suc (suc n)))))) ∷ name) = Named name

merge-told : (m : Merge) → merge_of (merge_word m) ≡ m
merge-told First = refl
merge-told Last = refl
merge-told Sum = refl
merge-told Min = refl
merge-told Max = refl
merge-told Mid = refl
merge-told Host = refl
merge-told (Named name) = refl

abbrev split_word : Split → List ℕ
split_word Copied = 0 ∷ []
split_word Keep = 1 ∷ []
split_word Share = 2 ∷ []
split_word Host = 3 ∷ []
split_word (Named name) = 4 ∷ name

abbrev split_of : List ℕ → Split
split_of [] = Copied
split_of (zero ∷ name) = Copied
split_of (suc zero ∷ name) = Keep
split_of (suc (suc zero) ∷ name) = Share
split_of (suc (suc (suc zero)) ∷ name) = Host
split_of (suc (suc (suc (suc n))) ∷ name) = Named name

split-told : (m : Split) → split_of (split_word m) ≡ m
split-told Copied = refl
split-told Keep = refl
split-told Share = refl
split-told Host = refl
split-told (Named name) = refl

same-word : (v w : List ℕ) → (v ≡ w) ⊎ (v ≢ w)
same-word v w = at (bytes_eq v w) refl
  where
    at : (b : Bool) → bytes_eq v w ≡ b → (v ≡ w) ⊎ (v ≢ w)
    at true is = inl ((bytes_eq-Decides v w).0 is)
    at false is = inr (λ e. false≢true (sym is ∙ (bytes_eq-Decides v w).1 e))

same-merge : (m n : Merge) → (m ≡ n) ⊎ (m ≢ n)
same-merge m n = ⊎_elim (λ e. inl (sym (merge-told m) ∙ ap merge_of e ∙ merge-told n)) (λ d. inr (λ e. d (ap merge_word e)))
    (same-word (merge_word m) (merge_word n))

same-split : (m n : Split) → (m ≡ n) ⊎ (m ≢ n)
same-split m n = ⊎_elim (λ e. inl (sym (split-told m) ∙ ap split_of e ∙ split-told n)) (λ d. inr (λ e. d (ap split_word e)))
    (same-word (split_word m) (split_word n))

rule_from : Merge → Split → Rule
rule_from m p = record { merge = m; split = p }

same-rule : (v w : Rule) → (v ≡ w) ⊎ (v ≢ w)
unfolding rule_from
same-rule v w = by_parts (same-merge v.merge w.merge) (same-split v.split w.split)
  where
    by_parts : (v.merge ≡ w.merge) ⊎ (v.merge ≢ w.merge) → (v.split ≡ w.split) ⊎ (v.split ≢ w.split) → (v ≡ w) ⊎ (v ≢ w)
    by_parts (inr d) q = inr (λ e. d (ap (λ (x : Rule). x.merge) e))
    by_parts (inl p) (inr d) = inr (λ e. d (ap (λ (x : Rule). x.split) e))
    by_parts (inl p) (inl q) = inl (let one : v ≡ rule_from v.merge v.split = refl in let other : w ≡ rule_from w.merge w.split = refl in cc)

same-option : (v w : Option Rule) → (v ≡ w) ⊎ (v ≢ w)
same-option None None = inl refl
same-option None (Some w) = inr (λ e. cc (e))
same-option (Some v) None = inr (λ e. cc (e))
same-option (Some v) (Some w) = ⊎_elim (λ e. inl (ap (λ (x : Rule). Some x) e)) (λ d. inr (λ e. d (cc (e)))) (same-rule v w)

-- an equation of optional rules may be proved by cases on any P
pub rule-cases : (P : Type 0) (v w : Option Rule) → (P → v ≡ w) → ((P → ⊥) → v ≡ w) → v ≡ w
rule-cases P v w with_p without = ⊎_elim (λ e. e) (λ d. without (λ p. d (with_p p))) (same-option v w)

abbrev pub Rules : Type 0
Rules = List (Option Rule)

-- no rule is changed twice
abbrev pub IsOnce : List RuleChange → Type 0
IsOnce cs = AllPairs (λ (b c : RuleChange). b.dim ≡ c.dim → ⊥) cs

pub ruled-length : (cs : List RuleChange) (rules : Rules) → length (ruled cs rules) ≡ length rules
ruled-length [] rules = refl
ruled-length (c ∷ cs) rules = ruled-length cs (set rules c.dim c.new) ∙ length-set rules c.dim c.new

-- a dimension that no change names keeps its rule
pub untouched : (cs : List RuleChange) (rules : Rules) (i : ℕ) → All (λ (c : RuleChange). i ≡ c.dim → ⊥) cs
    → get_or (ruled cs rules) i None ≡ get_or rules i None
untouched [] rules i other = refl
untouched (c ∷ cs) rules i other =
    untouched cs (set rules c.dim c.new) i (λ k z h. other (suc k) z (omega arith))
    ∙ get_or-set_other rules c.dim i c.new None (other 0 c (omega arith))

-- a dimension that a change names has its new rule
pub touched : (cs : List RuleChange) (rules : Rules) → All (λ (c : RuleChange). c.dim < length rules) cs → IsOnce cs
    → All (λ (c : RuleChange). get_or (ruled cs rules) c.dim None ≡ c.new) cs
touched [] rules within once k z h = absurd (omega arith)
touched (c ∷ cs) rules within once zero z h =
    untouched cs (set rules c.dim c.new) c.dim (λ k y l. once 0 (suc k) y (omega arith) (omega arith))
    ∙ get_or-set_same rules c.dim c.new None (within 0 c (omega arith))
touched (c ∷ cs) rules within once (suc k) z h =
    touched cs (set rules c.dim c.new)
    (λ p y l. let kept = length-set rules c.dim c.new in let low = within (suc p) y (omega arith) in omega arith)
    (λ i j y m l. once (suc i) (suc j) y (omega arith) (omega arith)) k z (omega arith)

-- changes that name what stands, each dimension once, are taken back by their old rules
pub unruled-ruled : (cs : List RuleChange) (rules : Rules) → All (λ (c : RuleChange). get_or rules c.dim None ≡ c.old) cs → IsOnce cs
    → unruled cs (ruled cs rules) ≡ rules
unruled-ruled [] rules stands once = refl
unruled-ruled (c ∷ cs) rules stands once =
    let next : Rules = set rules c.dim c.new in
    let rest : All (λ (b : RuleChange). get_or next b.dim None ≡ b.old) cs = λ k z h.
    get_or-set_other rules c.dim (get_or cs k z).dim c.new None (λ same. once 0 (suc k) z (omega arith) (omega arith) (sym same))
    ∙ stands (suc k) z (omega arith) in
    let apart : IsOnce cs = λ i j z h l. once (suc i) (suc j) z (omega arith) (omega arith) in
    ap (λ (r : Rules). set r c.dim c.old) (unruled-ruled cs next rest apart)
    ∙ ap (set next c.dim) (sym (stands 0 c (omega arith)))
    ∙ set-set rules c.dim c.new (get_or rules c.dim None)
    ∙ set-get_or rules c.dim None

module _ (a b : Content) (s : Difference) (f : Follows a b) (is : IsDifference a b s) where
  once : IsOnce s.rules
  once i j z h l same = let before = is.rules_ordered i j z h l in omega arith

  stands : All (λ (c : RuleChange). rule_at a c.dim ≡ c.old) s.rules
  stands p z h = sym ((is.rules (get_or s.rules p z)).0 (Contains-get_or s.rules p z h)).0

  within : All (λ (c : RuleChange). c.dim < length a.rules) s.rules
  within p z h =
      let c : RuleChange = get_or s.rules p z in
      let m = (is.rules c).0 (Contains-get_or s.rules p z h) in
      elim (cases_lt c.dim (length a.rules)) [
        | inl low ↦ low
        | inr past ↦ absurd
            (m.2 (m.0 ∙ get_or_past a.rules c.dim None past ∙ sym (get_or_past b.rules c.dim None (let e = f.rules in omega arith)) ∙ sym m.1))
      ]

  rule-on : (i : ℕ) → get_or (ruled s.rules a.rules) i None ≡ rule_at b i
  rule-on i = rule-cases (rule_at a i ≡ rule_at b i) (get_or (ruled s.rules a.rules) i None) (rule_at b i) kept changed
    where
      kept : rule_at a i ≡ rule_at b i → get_or (ruled s.rules a.rules) i None ≡ rule_at b i
      kept same =
          let other : All (λ (c : RuleChange). i ≡ c.dim → ⊥) s.rules = λ p z h dim.
          let c : RuleChange = get_or s.rules p z in
          let m = (is.rules c).0 (Contains-get_or s.rules p z h) in
          m.2 (m.0 ∙ ap (rule_at a) (sym dim) ∙ same ∙ ap (rule_at b) dim ∙ sym m.1) in
          untouched s.rules a.rules i other ∙ same

      changed : (rule_at a i ≡ rule_at b i → ⊥) → get_or (ruled s.rules a.rules) i None ≡ rule_at b i
      changed differ =
          let c : RuleChange = record { dim = i; old = rule_at a i; new = rule_at b i } in
          All-contains (λ (c : RuleChange). get_or (ruled s.rules a.rules) c.dim None ≡ c.new) s.rules c
          (touched s.rules a.rules within once) ((is.rules c).1 (refl, refl, differ))

  pub rules-on : ruled s.rules a.rules ≡ b.rules
  rules-on = ext_get_or None (ruled s.rules a.rules) b.rules (ruled-length s.rules a.rules ∙ sym f.rules) (λ i l. rule-on i)

  pub rules-back : unruled s.rules b.rules ≡ a.rules
  rules-back = ap (unruled s.rules) (sym rules-on) ∙ unruled-ruled s.rules a.rules stands once
