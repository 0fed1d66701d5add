use Rattle.std.proofs.Common.{ℕ, ◌≡◌, List, Contains, Option, Some, None, sym, subst}
use Rattle.std.specs.Prelude.{IfSome, IfNone}
use Rattle.map_defs.specs.Rows.{links_of}
use Rattle.map_defs.specs.Walks.{Walk, go, stop}
use Rattle.cell_edit.proofs.Beyond.{none-unless}
use Rattle.beta_edit.specs.Crossing.{DrawsTo, drawn_step}
use Rattle.beta_edit.proofs.crossing.walk_end_from_within.Goals as goal

-- from within, the walk goes on with its first step
goes-on : (keys : List ℕ) (st : ℕ → ℕ) (x y : ℕ) → Contains keys x → Walk (Contains keys) st x y → Walk (Contains keys) st (st x) y
goes-on keys st x _ has (stop out) = absurd (out has)
goes-on keys st x y has (go within walk) = walk

some-before : (keys : List ℕ) (st : ℕ → ℕ) (x z : ℕ) (o : Option ℕ) → Contains keys x → z ≡ st x → IfSome o (Walk (Contains keys) st z) → IfSome o (Walk (Contains keys) st x)
some-before keys st x z None has is walk = walk
some-before keys st x z (Some y) has is walk = go has (subst (λ (u : ℕ). Walk (Contains keys) st u y) is walk)

none-before : (keys : List ℕ) (st : ℕ → ℕ) (x z : ℕ) (o : Option ℕ) → Contains keys x → z ≡ st x → IfNone o ((y : ℕ) → Walk (Contains keys) st z y → ⊥) → IfNone o ((y : ℕ) → Walk (Contains keys) st x y → ⊥)
none-before keys st x z None has is endless = λ y walk. endless y (subst (λ (u : ℕ). Walk (Contains keys) st u y) (sym is) (goes-on keys st x y has walk))
none-before keys st x z (Some e) has is endless = endless

pub returns-in_default-clause-end : goal.returns-in_default-clause-end
returns-in_default-clause-end g c =
    let free : drawn_step (links_of c.args.links.now.rows) c.args.beside c.args.link c.args.from ≡ 0 = c.across.ensures.free.0 (none-unless c.across.result c.in_default.not-Some) in
    go c.requires.from
    (subst (λ (u : ℕ). DrawsTo (links_of c.args.links.now.rows) c.args.beside c.args.link c.args.cell.now u 0) (sym free) (stop c.requires.darts))

pub returns-clause-end : goal.returns-clause-end
returns-clause-end g c =
    some-before c.args.cell.now (drawn_step (links_of c.args.links.now.rows) c.args.beside c.args.link) c.args.from c.in-Some.next c.walk_end.result
    c.requires.from c.in-Some.ensures.leads c.walk_end.ensures.end

pub returns-clause-endless : goal.returns-clause-endless
returns-clause-endless g c =
    none-before c.args.cell.now (drawn_step (links_of c.args.links.now.rows) c.args.beside c.args.link) c.args.from c.in-Some.next c.walk_end.result
    c.requires.from c.in-Some.ensures.leads c.walk_end.ensures.endless
