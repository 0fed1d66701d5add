-- What a way through steps tells of the content at its end: which links, lives and values may be others, and the rules.
use Rattle.std.proofs.Common.{ℕ, zero, suc, ◌≡◌, ◌≢◌, ◌⊎◌, ◌<◌, ◌&&◌, nat_eq, cond, Bool, true, false, inl, inr, refl, sym, ap, ◌∙◌, List, [], ◌∷◌, ◌++◌, length, reverse, Option, Some, None, Contains, arith}
use Rattle.std.specs.Prelude.{slice_set}
use Rattle.map_defs.specs.Kind.{Kind}
use Rattle.map_defs.specs.Rows.{Rows, IsLive, links_of}
use Rattle.map_defs.specs.Values.{Value, Rule}
use Rattle.map_defs.specs.Edits.{Change}
use Rattle.map_defs.specs.Links.{HasDimension}
use Rattle.map_defs.specs.LinkWords.{LinkWord, through, through_second, IsCellWord}
use Rattle.map_defs.specs.Laws.{Laws}
use Rattle.value_laws.specs.Rerouted.{IsTouchedIn}
use Rattle.machine_defs.specs.State.{Content, value_at}
use Rattle.machine_defs.specs.Difference.{Difference, ValueChange, RuleChange, IsDifference, put_forward, ruled, unruled}
use Rattle.link_laws.proofs.Basics.{same_or_not}
use Rattle.journal_laws.proofs.ContentFacts.{value-cases}
use Rattle.journal_laws.specs.Following.{all_put_forward, all_taken_back}
use Rattle.valued_map.specs.Undoing.{IsValueChanged, IsRevalued, IsMapWord}
use Rattle.valued_map.specs.Ways.{in_turn, value_put, rule_put, with_rules, rules_along, value_among, value_along, IsRaised, IsNearStep}
use Rattle.valued_map.specs.declared.way.Way.{Way}
use Rattle.valued_map.specs.declared.way.Way.TheVariants.{Back, Forth}
use Rattle.valued_map.proofs.Earlier.{AreStepsOn, first, later}
use Rattle.valued_map.proofs.Rerouting.{word-within}
use Rattle.valued_map.proofs.Turns.{turn-among, reverse-first}

-- what is near by some words is near by more words
pub near-of : (way : Way) (One Other : LinkWord → Type 0) → ((w : LinkWord) → One w → Other w) → (rows : Rows) (steps : List Difference) (x : ℕ) → IsNearStep way One rows steps x → IsNearStep way Other rows steps x
near-of way One Other more rows steps x (s, step, near) = (s, step, elim near [ inl gone ↦ inl gone | inr (c, change, (w, word, at)) ↦ inr (c, change, (w, more w word, at)) ])

-- some step changed a link of a dart, and some step brought a dart to life
abbrev pub IsRelinked : List Difference → ℕ → ℕ → Type 0
IsRelinked steps t x = (s : Difference) × Contains steps s × (c : Change) × Contains s.edit.changes c × (c.dart ≡ x) × (c.link ≡ t)

abbrev pub IsRevived : Way → List Difference → ℕ → Type 0
IsRevived way steps x = (s : Difference) × Contains steps s × IsRaised way s x

-- the darts that the way touches in a dimension are near the steps
module _ (way : Way) (steps : List Difference) (old new : Rows) (links : (t x : ℕ) → links_of new t x ≢ links_of old t x → IsRelinked steps t x)
    (lives : (x : ℕ) → IsLive new x → (IsLive old x → ⊥) → IsRevived way steps x)
    (k : Kind) (n i : ℕ) (dim-old : HasDimension n (links_of old)) (dim-new : HasDimension n (links_of new)) (w : Laws k (links_of old)) (wn : Laws k (links_of new)) where
  -- a step changed the first link of the word, or its second
  rerouted-near : (x : ℕ) (v : LinkWord) → IsCellWord k i v → through (links_of new) v x ≢ through (links_of old) v x → IsNearStep way (IsMapWord k n i) new steps x
  rerouted-near x v cell apart = elim (same_or_not (links_of new v.first x) (links_of old v.first x)) [
    | inl same ↦ second same v.second refl
    | inr other ↦ (let f = links v.first x other in (f.0, f.1, inr (f.2, f.3, (v, word, inl (sym f.5, sym f.4)))))
  ]
    where
      word : IsMapWord k n i v
      word = (cell, word-within n (links_of old) (links_of new) dim-old dim-new w.nil wn.nil v x apart)

      second : links_of new v.first x ≡ links_of old v.first x → (s : Option ℕ) → v.second ≡ s → IsNearStep way (IsMapWord k n i) new steps x
      second same None none = absurd (apart (ap (λ (t : Option ℕ). through_second (links_of new) t (links_of new v.first x)) none ∙ same ∙ sym (ap (λ (t : Option ℕ). through_second (links_of old) t (links_of old v.first x)) none)))
      second same (Some s) some = let f = links s (links_of new v.first x) beyond in (f.0, f.1, inr (f.2, f.3, (v, word, inr (some ∙ ap Some (sym f.5), sym f.4, λ z. there (sym f.4 ∙ z)))))
        where
          beyond : links_of new s (links_of new v.first x) ≢ links_of old s (links_of new v.first x)
          beyond e = apart (ap (λ (t : Option ℕ). through_second (links_of new) t (links_of new v.first x)) some ∙ e ∙ ap (links_of old s) same
              ∙ sym (ap (λ (t : Option ℕ). through_second (links_of old) t (links_of old v.first x)) some))

          there : links_of new v.first x ≢ 0
          there z = beyond (ap (links_of new s) z ∙ wn.nil s ∙ sym (ap (links_of old s) z ∙ w.nil s))

  pub near-steps : (x : ℕ) → IsTouchedIn k i (links_of old) (IsLive old) (links_of new) (IsLive new) x → IsNearStep way (IsMapWord k n i) new steps x
  near-steps x t = elim t.1 [
    | inl dead ↦ (let f = lives x t.0 dead in (f.0, f.1, inl f.2))
    | inr moved ↦ rerouted-near x moved.0 moved.1 moved.2
  ]

-- whether a change is of a place
names-or-not : (i j d x : ℕ) → ((i ≡ j) × (d ≡ x) × ((nat_eq i j && nat_eq d x) ≡ true)) ⊎ ((i ≡ j → d ≡ x → ⊥) × ((nat_eq i j && nat_eq d x) ≡ false))
names-or-not i j d x = go (nat_eq i j) (nat_eq d x) refl refl
  where
    go : (a b : Bool) → nat_eq i j ≡ a → nat_eq d x ≡ b → ((i ≡ j) × (d ≡ x) × ((nat_eq i j && nat_eq d x) ≡ true)) ⊎ ((i ≡ j → d ≡ x → ⊥) × ((nat_eq i j && nat_eq d x) ≡ false))
    go a b e f = grind arith

-- the value among changes that all put the same one
among : (way : Way) (cs : List ValueChange) (i d : ℕ) (v now : Option Value) → ((c : ValueChange) → Contains cs c → c.dim ≡ i → c.dart ≡ d → value_put way c ≡ v)
    → (now ≡ v) ⊎ IsValueChanged cs i d → value_among way cs i d now ≡ v
among way [] i d v now told (inl is) = is
among way [] i d v now told (inr none) = absurd (let lt : none.1.0 < 0 = none.1.1 in omega arith)
among way (c ∷ cs) i d v now told has = elim (names-or-not c.dim i c.dart d) [
  | inl here ↦
      among way cs i d v (cond (nat_eq c.dim i && nat_eq c.dart d) (value_put way c) now) rest
      (inl (ap (λ (b : Bool). cond b (value_put way c) now) here.2 ∙ told c (0, omega arith, refl) here.0 here.1))
  | inr other ↦
      among way cs i d v (cond (nat_eq c.dim i && nat_eq c.dart d) (value_put way c) now) rest (next other.0 (ap (λ (b : Bool). cond b (value_put way c) now) other.1) has)
]
  where
    rest : (b : ValueChange) → Contains cs b → b.dim ≡ i → b.dart ≡ d → value_put way b ≡ v
    rest b h = told b (suc h.0, (let lt : h.0 < length cs = h.1 in omega arith), h.2)

    next : (c.dim ≡ i → c.dart ≡ d → ⊥) → cond (nat_eq c.dim i && nat_eq c.dart d) (value_put way c) now ≡ now → (now ≡ v) ⊎ IsValueChanged (c ∷ cs) i d
        → (cond (nat_eq c.dim i && nat_eq c.dart d) (value_put way c) now ≡ v) ⊎ IsValueChanged cs i d
    next other same (inl is) = inl (same ∙ is)
    next other same (inr (b, (zero, lt, is), dim, dart)) = absurd (other (ap (λ (y : ValueChange). y.dim) is ∙ dim) (ap (λ (y : ValueChange). y.dart) is ∙ dart))
    next other same (inr (b, (suc j, lt, is), dim, dart)) = inr (b, (j, omega arith, is), dim, dart)

-- where no change is of a place, its value stays
among-none : (way : Way) (cs : List ValueChange) (i d : ℕ) (now : Option Value) → (IsValueChanged cs i d → ⊥) → value_among way cs i d now ≡ now
among-none way cs i d now none = among way cs i d now now (λ c h dim dart. absurd (none (c, h, dim, dart))) (inl refl)

-- one step tells the values on either side of it
module _ (a b : Content) (s : Difference) (differ : IsDifference a b s) (i d : ℕ) where
  old-told : (c : ValueChange) → Contains s.values c → c.dim ≡ i → c.dart ≡ d → c.old ≡ value_at a i d
  old-told c h dim dart = ((differ.values c).0 h).0 ∙ ap (λ (j : ℕ). value_at a j c.dart) dim ∙ ap (value_at a i) dart

  new-told : (c : ValueChange) → Contains s.values c → c.dim ≡ i → c.dart ≡ d → c.new ≡ value_at b i d
  new-told c h dim dart = ((differ.values c).0 h).1 ∙ ap (λ (j : ℕ). value_at b j c.dart) dim ∙ ap (value_at b i) dart

  same : (IsValueChanged s.values i d → ⊥) → value_at a i d ≡ value_at b i d
  same none =
      let c : ValueChange = record { dim = i; dart = d; old = value_at a i d; new = value_at b i d } in
      value-cases (value_at a i d ≡ value_at b i d) (value_at a i d) (value_at b i d)
      (λ e. e) (λ differs. absurd (none (c, (differ.values c).1 (refl, refl, differs), refl, refl)))

  value-back : value_among Back s.values i d (value_at b i d) ≡ value_at a i d
  value-back =
      value-cases (IsValueChanged s.values i d) (value_among Back s.values i d (value_at b i d)) (value_at a i d)
      (λ has. among Back s.values i d (value_at a i d) (value_at b i d) old-told (inr has))
      (λ none. among-none Back s.values i d (value_at b i d) none ∙ sym (same none))

  value-forth : value_among Forth s.values i d (value_at a i d) ≡ value_at b i d
  value-forth =
      value-cases (IsValueChanged s.values i d) (value_among Forth s.values i d (value_at a i d)) (value_at b i d)
      (λ has. among Forth s.values i d (value_at b i d) (value_at a i d) new-told (inr has))
      (λ none. among-none Forth s.values i d (value_at a i d) none ∙ same none)

-- one step more at the end of a way
value-more : (way : Way) (ss : List Difference) (s : Difference) (i d : ℕ) (v : Option Value) → value_along way (ss ++ s ∷ []) i d v ≡ value_among way s.values i d (value_along way ss i d v)
value-more way [] s i d v = refl
value-more way (t ∷ ss) s i d v = value-more way ss s i d (value_among way t.values i d v)

rules-more : (way : Way) (ss : List Difference) (s : Difference) (rules : List (Option Rule)) → rules_along way (ss ++ s ∷ []) rules ≡ with_rules way (in_turn way s.rules) (rules_along way ss rules)
rules-more way [] s rules = refl
rules-more way (t ∷ ss) s rules = rules-more way ss s (with_rules way (in_turn way t.rules) rules)

rule-more : (way : Way) (cs : List RuleChange) (c : RuleChange) (rules : List (Option Rule)) → with_rules way (cs ++ c ∷ []) rules ≡ slice_set (with_rules way cs rules) c.dim (rule_put way c)
rule-more way [] c rules = refl
rule-more way (b ∷ cs) c rules = rule-more way cs c (slice_set rules b.dim (rule_put way b))

-- the values that the steps tell are those of the content at the end of the way
pub values-back : (now : Content) (steps : List Difference) → AreStepsOn now steps → (i d : ℕ) → value_along Back (reverse steps) i d (value_at now i d) ≡ value_at (all_taken_back steps now) i d
values-back now [] on i d = refl
values-back now (s ∷ ss) on i d =
    ap (λ (ts : List Difference). value_along Back ts i d (value_at now i d)) (reverse-first s ss)
    ∙ value-more Back (reverse ss) s i d (value_at now i d)
    ∙ ap (value_among Back s.values i d) (values-back now ss on.3 i d)
    ∙ value-back (all_taken_back (s ∷ ss) now) (all_taken_back ss now) s on.2 i d

pub values-forth : (now : Content) (steps : List Difference) → AreStepsOn now steps → (i d : ℕ) → value_along Forth steps i d (value_at (all_taken_back steps now) i d) ≡ value_at now i d
values-forth now [] on i d = refl
values-forth now (s ∷ ss) on i d =
    ap (value_along Forth ss i d) (value-forth (all_taken_back (s ∷ ss) now) (all_taken_back ss now) s on.2 i d)
    ∙ values-forth now ss on.3 i d

-- a place that no step changes keeps its value
pub value-kept : (way : Way) (steps : List Difference) (i d : ℕ) (v : Option Value) → (IsRevalued steps i d → ⊥) → value_along way steps i d v ≡ v
value-kept way [] i d v none = refl
value-kept way (s ∷ ss) i d v none =
    ap (value_along way ss i d) (among-none way s.values i d v (λ has. none (s, first s ss, has)))
    ∙ value-kept way ss i d v (λ r. none (r.0, later s ss r.0 r.1, r.2))

-- the same, of steps in the order of the way
pub value-stays : (way : Way) (steps : List Difference) (i d : ℕ) (v : Option Value) → (IsRevalued steps i d → ⊥) → value_along way (in_turn way steps) i d v ≡ v
value-stays way steps i d v none = value-kept way (in_turn way steps) i d v (λ r. none (r.0, turn-among way steps r.0 r.1, r.2))

-- the rules that changes put, the last put first or the first
unruled-is : (cs : List RuleChange) (rules : List (Option Rule)) → with_rules Back (reverse cs) rules ≡ unruled cs rules
unruled-is [] rules = refl
unruled-is (c ∷ cs) rules =
    ap (λ (bs : List RuleChange). with_rules Back bs rules) (reverse-first c cs)
    ∙ rule-more Back (reverse cs) c rules
    ∙ ap (λ (rs : List (Option Rule)). slice_set rs c.dim c.old) (unruled-is cs rules)

ruled-is : (cs : List RuleChange) (rules : List (Option Rule)) → with_rules Forth cs rules ≡ ruled cs rules
ruled-is [] rules = refl
ruled-is (c ∷ cs) rules = ruled-is cs (slice_set rules c.dim c.new)

-- the rules at the end of the way
pub rules-back : (now : Content) (steps : List Difference) → rules_along Back (reverse steps) now.rules ≡ (all_taken_back steps now).rules
rules-back now [] = refl
rules-back now (s ∷ ss) =
    ap (λ (ts : List Difference). rules_along Back ts now.rules) (reverse-first s ss)
    ∙ rules-more Back (reverse ss) s now.rules
    ∙ unruled-is s.rules (rules_along Back (reverse ss) now.rules)
    ∙ ap (unruled s.rules) (rules-back now ss)

pub rules-forth : (now : Content) (steps : List Difference) → rules_along Forth steps now.rules ≡ (all_put_forward steps now).rules
rules-forth now [] = refl
rules-forth now (s ∷ ss) = ap (rules_along Forth ss) (ruled-is s.rules now.rules) ∙ rules-forth (put_forward s now) ss
