use Rattle.std.proofs.Common.{ℕ, ◌≡◌, ◌+◌, ◌-◌, ◌<◌, List, [], map, IsSome, inl, inr, lit<, subst, sym, ◌∙◌, arith}
use Rattle.std.proofs.lemmas.Bool.{cases_lt, false≢true}
use Rattle.std.proofs.lemmas.List.{length-map, get_or_past, nil_from_length}
use Rattle.std.specs.Prelude.{None}
use Rattle.map_defs.specs.Rows.{Rows, IsLive, made}
use Rattle.store_defs.specs.Labelings.{Labeling}
use Rattle.store_defs.specs.Groups.{rule_at}
use Rattle.valued_map.specs.Changing.{IsListPut, IsChangedIn}
use Rattle.valued_map.proofs.DimLists.{put-none, listed-more}
use Rattle.valued_map.proofs.Joining.{grafts-as, grafts-then, changed-later}
use Rattle.valued_map.proofs.changed.changed_darts.Goals as goal

pub ruled_darts-requires : goal.ruled_darts-requires
ruled_darts-requires g c =
    let grafted = c.loop-dim.invariant.0 in (
      lit< tt,
      (
        lit< tt,
        (
          c.requires.births,
          (
            omega (arith, c.loop-dim-test.true, c.dimension-dim-end.ensures.dimension),
            (
              omega (arith, c.requires.long, grafted.made),
              (
                λ some. (grafted.places c.loop-dim.dim).1 (c.requires.placed c.loop-dim.dim some),
                λ d high. elim (grafted.each c.loop-dim.dim d) [
                  | inl same ↦ same ∙ c.requires.bare c.loop-dim.dim d high
                  | inr given ↦ absurd (let low : c.loop-dim.dim < c.loop-dim.dim = given.0.0 in omega arith)
                ],
              ),
            ),
          ),
        ),
      ),
    )

pub returns-in_err-darts-clause-grafted : goal.returns-in_err-darts-clause-grafted
returns-in_err-darts-clause-grafted g c =
    let k = g.K.Kind.kind in
    let rows : Rows = c.args.links.now.rows in
    let older : ℕ = made rows - c.args.edit.now.births in
    grafts-then k rows older (λ i. IsSome (rule_at c.args.rules.now i)) c.args.labels.now c.loop-dim.labels c.ruled_darts.new.labels
    (grafts-as k rows older (λ i. (i < c.loop-dim.dim) × IsSome (rule_at c.args.rules.now i)) (λ i. IsSome (rule_at c.args.rules.now i)) c.args.labels.now c.loop-dim.labels (λ i d. d.1) c.loop-dim.invariant.0)
    (grafts-as k rows older (λ i. (i ≡ c.loop-dim.dim) × IsSome (rule_at c.args.rules.now i)) (λ i. IsSome (rule_at c.args.rules.now i)) c.loop-dim.labels c.ruled_darts.new.labels (λ i d. d.1) c.ruled_darts.ensures.grafted)

pub returns-in_err-put_list-clause-grafted : goal.returns-in_err-put_list-clause-grafted
returns-in_err-put_list-clause-grafted g c =
    let k = g.K.Kind.kind in
    let rows : Rows = c.args.links.now.rows in
    let older : ℕ = made rows - c.args.edit.now.births in
    grafts-then k rows older (λ i. IsSome (rule_at c.args.rules.now i)) c.args.labels.now c.loop-dim.labels c.ruled_darts.new.labels
    (grafts-as k rows older (λ i. (i < c.loop-dim.dim) × IsSome (rule_at c.args.rules.now i)) (λ i. IsSome (rule_at c.args.rules.now i)) c.args.labels.now c.loop-dim.labels (λ i d. d.1) c.loop-dim.invariant.0)
    (grafts-as k rows older (λ i. (i ≡ c.loop-dim.dim) × IsSome (rule_at c.args.rules.now i)) (λ i. IsSome (rule_at c.args.rules.now i)) c.loop-dim.labels c.ruled_darts.new.labels (λ i d. d.1) c.ruled_darts.ensures.grafted)

pub loop-dim-preserved-then-is_empty : goal.loop-dim-preserved-then-is_empty
loop-dim-preserved-then-is_empty g c =
    let k = g.K.Kind.kind in
    let rows : Rows = c.args.links.now.rows in
    let older : ℕ = made rows - c.args.edit.now.births in
    let dim : ℕ = c.loop-dim.dim in
    let now : Labeling = c.ruled_darts.new.labels in
    let before : List (List ℕ) = map (λ darts. darts.items) c.loop-dim.by_dim.items in
    let none : c.in_ok-darts.darts.items ≡ [] = nil_from_length c.in_ok-darts.darts.items (grind arith) in (
      grafts-then k rows older (λ i. (i < dim + 1) × IsSome (rule_at c.args.rules.now i)) c.args.labels.now c.loop-dim.labels now
          (grafts-as k rows older (λ i. (i < dim) × IsSome (rule_at c.args.rules.now i)) (λ i. (i < dim + 1) × IsSome (rule_at c.args.rules.now i)) c.args.labels.now c.loop-dim.labels
          (λ i d. (let low : i < dim = d.0 in omega arith, d.1)) c.loop-dim.invariant.0)
          (grafts-as k rows older (λ i. (i ≡ dim) × IsSome (rule_at c.args.rules.now i)) (λ i. (i < dim + 1) × IsSome (rule_at c.args.rules.now i)) c.loop-dim.labels now
          (λ i d. (let same : i ≡ dim = d.0 in omega arith, d.1)) c.ruled_darts.ensures.grafted),
      listed-more (λ i. IsLive rows) (IsChangedIn k g.row.DIM c.args.edit.now rows c.args.rules.now c.args.kept now) dim before before c.in_ok-darts.darts.items
          (changed-later k g.row.DIM c.args.edit.now rows c.args.rules.now c.args.kept older c.loop-dim.labels now dim before c.ruled_darts.ensures.grafted c.loop-dim.invariant.1)
          (subst (λ (ds : List ℕ). IsListPut dim ds before before) (sym none) (put-none dim before c.loop-dim.invariant.1.size)) c.in_ok-darts.ensures.live c.in_ok-darts.ensures.all,
    )

pub loop-dim-preserved : goal.loop-dim-preserved
loop-dim-preserved g c =
    let k = g.K.Kind.kind in
    let rows : Rows = c.args.links.now.rows in
    let older : ℕ = made rows - c.args.edit.now.births in
    let dim : ℕ = c.loop-dim.dim in
    let now : Labeling = c.ruled_darts.new.labels in
    let before : List (List ℕ) = map (λ darts. darts.items) c.loop-dim.by_dim.items in
    let after : List (List ℕ) = map (λ darts. darts.items) c.put_list.new.lists.items in (
      grafts-then k rows older (λ i. (i < dim + 1) × IsSome (rule_at c.args.rules.now i)) c.args.labels.now c.loop-dim.labels now
          (grafts-as k rows older (λ i. (i < dim) × IsSome (rule_at c.args.rules.now i)) (λ i. (i < dim + 1) × IsSome (rule_at c.args.rules.now i)) c.args.labels.now c.loop-dim.labels
          (λ i d. (let low : i < dim = d.0 in omega arith, d.1)) c.loop-dim.invariant.0)
          (grafts-as k rows older (λ i. (i ≡ dim) × IsSome (rule_at c.args.rules.now i)) (λ i. (i < dim + 1) × IsSome (rule_at c.args.rules.now i)) c.loop-dim.labels now
          (λ i d. (let same : i ≡ dim = d.0 in omega arith, d.1)) c.ruled_darts.ensures.grafted),
      listed-more (λ i. IsLive rows) (IsChangedIn k g.row.DIM c.args.edit.now rows c.args.rules.now c.args.kept now) dim before after c.in_ok-darts.darts.items
          (changed-later k g.row.DIM c.args.edit.now rows c.args.rules.now c.args.kept older c.loop-dim.labels now dim before c.ruled_darts.ensures.grafted c.loop-dim.invariant.1)
          c.in_ok-put_list.ensures c.in_ok-darts.ensures.live c.in_ok-darts.ensures.all,
    )

pub returns-clause-grafted : goal.returns-clause-grafted
returns-clause-grafted g c =
    grafts-as g.K.Kind.kind c.args.links.now.rows (made c.args.links.now.rows - c.args.edit.now.births) (λ i. (i < c.loop-dim.dim) × IsSome (rule_at c.args.rules.now i)) (λ i. IsSome (rule_at c.args.rules.now i))
    c.args.labels.now c.loop-dim.labels (λ i d. d.1) c.loop-dim.invariant.0

pub returns-clause-all : goal.returns-clause-all
returns-clause-all g c = λ i x changed.
    let below : i < c.loop-dim.dim = elim (cases_lt i c.loop-dim.dim) [
      | inl low ↦ low
      | inr high ↦ absurd (let none : rule_at c.args.rules.now i ≡ None = get_or_past c.args.rules.now i None (omega (arith, high, c.requires.rules, c.loop-dim-test.false, c.dimension-dim-end.ensures.dimension)) in false≢true (subst (λ o. IsSome o) none changed.0))
    ] in
    c.loop-dim.invariant.1.all i x below changed

pub put_list-requires : goal.put_list-requires
put_list-requires g c =
    let long = length-map c.loop-dim.by_dim.items (λ darts. darts.items) in let few = c.loop-dim.invariant.1.size in omega (arith, long, few)
