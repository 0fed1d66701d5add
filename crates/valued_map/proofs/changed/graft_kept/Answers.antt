use Rattle.std.proofs.Common.{ℕ, ◌≡◌, ◌<◌, ◌≤◌, lit<, arith}
use Rattle.map_defs.specs.Kind.{Kind}
use Rattle.map_defs.specs.Rows.{Rows}
use Rattle.store_defs.specs.Labelings.{Labeling, id_of}
use Rattle.label_laws.specs.Touching.{IsJoinedApart}
use Rattle.valued_map.specs.Changing.{IsBeside, IsJoinedFrom}
use Rattle.valued_map.proofs.Adding.{added-told, on-ok}
use Rattle.valued_map.proofs.Joining.{grafts-then, grafts-beyond, grafts-kept, beside-kept, beside-joined, aside-joined}
use Rattle.valued_map.proofs.changed.graft_kept.Goals as goal

pub graft_born-requires : goal.graft_born-requires
graft_born-requires g c =
    let grafted = c.graft_beside-beside.ensures.grafted in (
      lit< tt,
      (
        lit< tt,
        (
          c.requires.sound,
          (
            c.graft_beside-beside.ensures.to,
            (
              c.requires.last,
              (c.requires.dim, (omega (arith, c.requires.long, grafted.made), ((grafted.places c.args.dim).1 c.requires.placed, (c.graft_beside-beside.ensures.bare, c.requires.words)))),
            ),
          ),
        ),
      ),
    )

pub returns-clause-grafted : goal.returns-clause-grafted
returns-clause-grafted g c =
    grafts-then g.K.Kind.kind c.args.links.now.rows c.args.older (λ i. i ≡ c.args.dim) c.args.labels.now c.graft_beside-beside.new.labels c.graft_born.new.labels c.graft_beside-beside.ensures.grafted
    (grafts-beyond g.K.Kind.kind c.args.links.now.rows c.args.older c.graft_beside-beside.result c.graft_beside-beside.ensures.from (λ i. i ≡ c.args.dim) c.graft_beside-beside.new.labels c.graft_born.new.labels c.graft_born.ensures.grafted)

pub returns-clause-added : goal.returns-clause-added
returns-clause-added g c =
    on-ok c.graft_born.result (added-told rows (λ x. (x ≤ last) × IsJoinedApart k dim rows to now x) (IsJoinedFrom k dim rows older last now) c.args.touched.now.items c.graft_born.new.touched.items (λ x joined live. told x joined))
    c.graft_born.ensures.added
  where
    k : Kind
    k = g.K.Kind.kind

    rows : Rows
    rows = c.args.links.now.rows

    dim : ℕ
    dim = c.args.dim

    older : ℕ
    older = c.args.older

    last : ℕ
    last = c.args.last

    to : ℕ
    to = c.graft_beside-beside.result

    now : Labeling
    now = c.graft_born.new.labels

    before : Labeling
    before = c.graft_beside-beside.new.labels

    kept : (d : ℕ) → d ≤ to → id_of now dim d ≡ id_of before dim d
    kept d low = grafts-kept k rows to (λ i. i ≡ dim) before now c.graft_born.ensures.grafted dim d low

    beside : (x : ℕ) → older < x → x ≤ to → IsBeside k dim rows older now x
    beside x high low =
        beside-kept k dim rows older before now x (kept x low) (λ d under. kept d (omega (arith, under, c.graft_beside-beside.ensures.from))) (c.graft_beside-beside.ensures.beside x high low)

    told : (x : ℕ) → IsJoinedFrom k dim rows older last now x → (x ≤ last) × IsJoinedApart k dim rows to now x
    told x from = (
      aside-joined k dim rows older last c.args.labels.now now (returns-clause-grafted g c) c.requires.bare x from,
      (from.joined.0, beside-joined k g.row.DIM dim rows c.requires.sound older to now beside last x from, from.joined.2),
    )
