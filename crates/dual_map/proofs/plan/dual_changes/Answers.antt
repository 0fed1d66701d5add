use Rattle.std.proofs.Common.{◌≡◌, ◌+◌, ℕ, [], Option, Some, subst}
use Rattle.std.specs.Prelude.{IfSome}
use Rattle.map_defs.specs.Rows.{links_of}
use Rattle.link_rows.specs.DualLinks.{dual_link}
use Rattle.dual_map.specs.Differences.{dart_changes}
use Rattle.dual_map.proofs.ChangeLists.{flat-grown}
use Rattle.dual_map.proofs.plan.dual_changes.Goals as goal

some-is : (o : Option ℕ) (m n : ℕ) → o ≡ Some m → IfSome o (λ dart. dart ≡ n) → m ≡ n
some-is o m n e h = subst (λ (p : Option ℕ). IfSome p (λ dart. dart ≡ n)) e h

pub loop-number-preserved : goal.loop-number-preserved
loop-number-preserved g c =
    let dart : c.unwrap.result ≡ c.loop-number.number + 1 = some-is c.new.result c.unwrap.result (c.loop-number.number + 1) c.unwrap.ensures c.new.ensures.same in
    flat-grown (λ p. dart_changes g.row.DIM (links_of c.args.links.now.rows) (dual_link g.K.Kind.kind g.row.DIM (links_of c.args.links.now.rows)) (p + 1))
    c.loop-number.number [] c.loop-number.changes.items c.push_dart.new.changes.items (rw dart at c.in_ok-push_dart.ensures) c.loop-number.invariant
