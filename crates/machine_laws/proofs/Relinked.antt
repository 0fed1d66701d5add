-- A change of links, or of a cell's value, leaves one content.
use Rattle.std.proofs.Common.{◌≡◌, ℕ, ◌≤◌, Option, Some, None, sym, ◌∙◌, subst}
use Rattle.map_defs.specs.Kind.{Kind}
use Rattle.map_defs.specs.Links.{Links}
use Rattle.map_defs.specs.Rows.{Rows, IsLive, links_of}
use Rattle.map_defs.specs.Cells.{InCell}
use Rattle.map_defs.specs.Pairs.{IsJoined}
use Rattle.map_defs.specs.Sewing.{SewnPairs, IsSewn, IsFreed, IsUnsewn}
use Rattle.map_defs.specs.Values.{Value, Rule, Hook, meaning_of}
use Rattle.map_defs.specs.Carry.{AreCarried}
use Rattle.machine_defs.specs.State.{Content, value_at, rule_at}
use Rattle.machine_defs.specs.Relinking.{IsRelinked, AreCarriedBy}
use Rattle.machine_defs.specs.Valuing.{IsValued}
use Rattle.link_laws.proofs.Basics.{by_cases}
use Rattle.link_laws.proofs.SameRows.{same_rows}
use Rattle.value_laws.proofs.Carrying.{carried_one}
use Rattle.journal_laws.proofs.ContentFacts.{value-cases, values-one, same-content}

-- two relations tell the same links
abbrev pub TellOne : (Links → Type 0) → (Links → Type 0) → Type 0
TellOne Becomes Other = (N M : Links) → Becomes N → Other M → (t x : ℕ) → N t x ≡ M t x

-- a relation tells the links
abbrev pub TellsOne : (Links → Type 0) → Type 0
TellsOne Becomes = TellOne Becomes Becomes

joined-one : (P : ℕ → ℕ → ℕ → Type 0) (L : Links) → TellsOne (IsJoined P L)
joined-one P L N M b c t x = by_cases ((y : ℕ) × P x y t) _ _
    (λ p. b.joined x p.0 t p.1 ∙ sym (c.joined x p.0 t p.1))
    (λ none. b.kept x t (λ y p. none (y, p)) ∙ sym (c.kept x t (λ y p. none (y, p))))

pub sewn-one : (k : Kind) (i d e : ℕ) (L : Links) → TellsOne (IsSewn k i d e L)
sewn-one k i d e L = joined-one (SewnPairs k L i d e) L

pub unsewn-one : (k : Kind) (i d : ℕ) (L : Links) → TellsOne (IsUnsewn k i d L)
unsewn-one k i d L N M b c t x = by_cases (IsFreed k L i d x t) _ _
    (λ f. b.freed x t f ∙ sym (c.freed x t f))
    (λ none. b.kept x t none ∙ sym (c.kept x t none))

module _ (hook : Hook) (c : Content) where
  -- the values that are carried to the same rows are the same
  carried-one : (i : ℕ) (rule : Option Rule) (a b : Content) → a.rows ≡ b.rows
      → AreCarriedBy hook c a i rule → AreCarriedBy hook c b i rule → (d : ℕ) → IsLive a.rows d → value_at a i d ≡ value_at b i d
  carried-one i None a b rows p q d live = p d ∙ sym (q d)
  carried-one i (Some rule) a b rows p q d live =
      let other : AreCarried c.kind i (meaning_of hook rule) (links_of c.rows) (IsLive c.rows) (value_at c i) (links_of a.rows) (IsLive a.rows) (value_at b i) =
      subst (λ (r : Rows). AreCarried c.kind i (meaning_of hook rule) (links_of c.rows) (IsLive c.rows) (value_at c i) (links_of r) (IsLive r) (value_at b i)) (sym rows) q in
      carried_one (meaning_of hook rule) _ _ _ _ d d (value_at a i d) (value_at b i d) (λ m. ((λ h. h), (λ h. h))) (p d live) (other d live)

  pub relinked-one : (births : ℕ) (Ended : ℕ → Type 0) (Becomes Other : Links → Type 0) → TellOne Becomes Other
      → (a b : Content) → IsRelinked hook c births Ended Becomes a → IsRelinked hook c births Ended Other b → a ≡ b
  relinked-one births Ended Becomes Other one a b p q =
      same-content a b (p.kind ∙ sym q.kind) dims rows values (p.rules ∙ sym q.rules)
    where
      dims : a.dim ≡ b.dim
      dims = p.dim ∙ sym q.dim

      rows : a.rows ≡ b.rows
      rows = same_rows c.dim a.rows b.rows p.wide q.wide (p.long ∙ sym q.long)
          (λ d. ((λ h. (q.live d).1 ((p.live d).0 h)), (λ h. (p.live d).1 ((q.live d).0 h))))
          (λ i d h. one (links_of a.rows) (links_of b.rows) p.links q.links i d)

      values : a.values ≡ b.values
      values = values-one a b p.places q.places dims rows
          (λ i d within live. carried-one i (rule_at c i) a b rows (p.values i (subst (λ (n : ℕ). i ≤ n) p.dim within)) (q.values i (subst (λ (n : ℕ). i ≤ n) p.dim within)) d live)

-- a cell that is given a value
pub valued-one : (c : Content) (i d : ℕ) (value : Option Value) (a b : Content) → IsValued c i d value a → IsValued c i d value b → a ≡ b
valued-one c i d value a b p q = same-content a b (p.kind ∙ sym q.kind) (p.dim ∙ sym q.dim) (p.rows ∙ sym q.rows) values (p.rules ∙ sym q.rules)
  where
    at : (j x : ℕ) → value_at a j x ≡ value_at b j x
    at j x = value-cases ((j ≡ i) × InCell c.kind (links_of c.rows) i d x) _ _
        (λ h. rw h.0 (p.given x h.1 ∙ sym (q.given x h.1)))
        (λ other. p.kept j x (λ e h. other (e, h)) ∙ sym (q.kept j x (λ e h. other (e, h))))

    values : a.values ≡ b.values
    values = values-one a b p.places q.places (p.dim ∙ sym q.dim) (p.rows ∙ sym q.rows) (λ j x within live. at j x)
