-- Both ways through steps, told alike.
use Rattle.std.proofs.Common.{ℕ, ◌≡◌, ◌≢◌, ◌⊎◌, ◌≤◌, inl, inr, sym, ap, subst, ◌∙◌, List, Contains, arith}
use Rattle.map_defs.specs.Kind.{Kind}
use Rattle.map_defs.specs.Rows.{Rows, IsLive, links_of, made}
use Rattle.machine_defs.specs.State.{Content, value_at}
use Rattle.machine_defs.specs.Kept.{IsLawfulContent}
use Rattle.machine_defs.specs.Difference.{Difference, RuleChange}
use Rattle.journal_laws.specs.Following.{all_put_forward, all_taken_back}
use Rattle.valued_map.specs.Undoing.{AreStepsTo, AreStepsFrom, AreEditsTo, HasRoomFor, rows_before, IsRevalued}
use Rattle.valued_map.specs.Ways.{other_way, in_turn, rules_along, value_along, all_along, AreStepsAlong, AreEditsAlong, later_end}
use Rattle.valued_map.specs.declared.way.Way.{Way}
use Rattle.valued_map.specs.declared.way.Way.TheVariants.{Back, Forth}
use Rattle.valued_map.proofs.Earlier.{AreStepsOn, steps-on, kind-before, dim-before, rows-are, link-changed, life-ended, life-begun}
use Rattle.valued_map.proofs.Between.{edits-lead, rules-low, values-low, values-made}
use Rattle.valued_map.proofs.Onward.{steps-to, back-again, then-kept}
use Rattle.valued_map.proofs.Along.{IsRelinked, IsRevived, values-back, values-forth, rules-back, rules-forth}

-- What is known of a way through steps from one content to the next.
pub record IsWay (way : Way) (now next : Content) (steps : List Difference) : Type 0 where
  pub kept : IsLawfulContent next
  pub kind : next.kind ≡ now.kind
  pub dim : next.dim ≡ now.dim
  pub links : (t x : ℕ) → links_of next.rows t x ≢ links_of now.rows t x → IsRelinked steps t x
  pub lives : (x : ℕ) → IsLive next.rows x → (IsLive now.rows x → ⊥) → IsRevived way steps x
  pub values : (i d : ℕ) → value_along way (in_turn way steps) i d (value_at now i d) ≡ value_at next i d
  pub rules : rules_along way (in_turn way steps) now.rules ≡ next.rules
  pub rules_low : (s : Difference) (c : RuleChange) → Contains steps s → Contains s.rules c → c.dim ≤ now.dim
  pub values_low : (i d : ℕ) → IsRevalued steps i d → i ≤ now.dim
  pub values_made : (i d : ℕ) → IsRevalued steps i d → (d ≤ made now.rows) ⊎ (d ≤ made next.rows)

way-back : (now : Content) (steps : List Difference) → AreStepsTo now steps → IsWay Back now (all_taken_back steps now) steps
way-back now steps to = record {
  kept = to.kept 0 (omega arith);
  kind = kind-before now steps;
  dim = dim-before now steps;
  links = λ t x differ. link-changed now steps (steps-on now steps to) t x differ;
  lives = λ x live dead. life-ended now steps (steps-on now steps to) x live dead;
  values = values-back now steps (steps-on now steps to);
  rules = rules-back now steps;
  rules_low = rules-low now steps to;
  values_low = values-low now steps to;
  values_made = λ i d changed. inl (values-made now steps to i d changed);
}

module _ (now : Content) (steps : List Difference) (from : AreStepsFrom now steps) where
  abbrev Next : Content
  Next = all_put_forward steps now

  abbrev Again : Content
  Again = all_taken_back steps Next

  again : Again ≡ now
  again = back-again now steps from

  to : AreStepsTo Next steps
  to = steps-to now steps from

  on : AreStepsOn Next steps
  on = steps-on Next steps to

  way-again : IsWay Forth Again Next steps
  way-again = record {
    kept = then-kept now steps from;
    kind = sym (kind-before Next steps);
    dim = sym (dim-before Next steps);
    links = λ t x differ. link-changed Next steps on t x (λ e. differ (sym e));
    lives = λ x live dead. life-begun Next steps on x live dead;
    values = values-forth Next steps on;
    rules = rules-forth Again steps ∙ ap (λ (c : Content). (all_put_forward steps c).rules) again;
    rules_low = λ s c here there. (let low = rules-low Next steps to s c here there in let dim = dim-before Next steps in omega (arith, low, dim));
    values_low = λ i d changed. (let low = values-low Next steps to i d changed in let dim = dim-before Next steps in omega (arith, low, dim));
    values_made = λ i d changed. inr (values-made Next steps to i d changed);
  }

  way-forth : IsWay Forth now Next steps
  way-forth = subst (λ (c : Content). IsWay Forth c Next steps) again way-again

  -- the rows at the begin of the way
  rows-again : now.rows ≡ rows_before now.dim steps Next.rows
  rows-again =
      ap (λ (c : Content). c.rows) (sym again) ∙ rows-are Next steps
      ∙ ap (λ (n : ℕ). rows_before n steps Next.rows) (sym (dim-before Next steps) ∙ ap (λ (c : Content). c.dim) again)

  edits-again : (places : ℕ) → HasRoomFor Next steps places → AreEditsTo now.kind now.dim Next.rows steps places
  edits-again places room =
      subst (λ (k : Kind). AreEditsTo k now.dim Next.rows steps places) (sym (kind-before Next steps) ∙ ap (λ (c : Content). c.kind) again)
      (subst (λ (n : ℕ). AreEditsTo Next.kind n Next.rows steps places) (sym (dim-before Next steps) ∙ ap (λ (c : Content). c.dim) again) (edits-lead Next steps to places room))

pub way-of : (way : Way) (now : Content) (steps : List Difference) → AreStepsAlong way now steps → IsWay way now (all_along way steps now) steps
way-of Back now steps to = way-back now steps to
way-of Forth now steps from = way-forth now steps from

-- the edits lead from one rows to the next
pub edits-along : (way : Way) (now : Content) (steps : List Difference) → AreStepsAlong way now steps → (places : ℕ) → HasRoomFor (later_end way steps now) steps places
    → AreEditsAlong way now.kind now.dim steps now.rows (all_along way steps now).rows places
edits-along Back now steps to places room = (rows-are now steps, edits-lead now steps to places room)
edits-along Forth now steps from places room = (rows-again now steps from, edits-again now steps from places room)

-- what leads one way leads the other way back
pub edits-turned : (way : Way) (k : Kind) (n : ℕ) (steps : List Difference) (rows others : Rows) (places : ℕ) → AreEditsAlong way k n steps rows others places
    → AreEditsAlong (other_way way) k n steps others rows places
edits-turned Back k n steps rows others places led = led
edits-turned Forth k n steps rows others places led = led
