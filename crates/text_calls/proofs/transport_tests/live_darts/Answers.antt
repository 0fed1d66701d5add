use Rattle.std.proofs.Common.{◌≡◌, ◌⊎◌, ◌↔◌, inl, inr, ℕ, ◌+◌, ◌<◌, arith}
use Rattle.map_defs.specs.Rows.{IsLive}
use Rattle.dart_arena.proofs.RowLemmas.{some-within}
use Rattle.text_calls.proofs.transport_tests.live_darts.Goals as goal

-- the darts below a number, and then that number
one_more : (Has New Live : ℕ → Type 0) (n x : ℕ) → x ≡ n → ((d : ℕ) → New d ↔ (Has d ⊎ ((x ≡ d) × Live d))) → ((d : ℕ) → Has d ↔ ((d < n) × Live d)) → (d : ℕ) → New d ↔ ((d < n + 1) × Live d)
one_more Has New Live n x e grown so d = (λ h. to ((grown d).0 h), λ p. (grown d).1 (from (case d p.0) p.1))
  where
    case : (a : ℕ) → a < n + 1 → (a < n) ⊎ (a ≡ n)
    case a h = grind arith

    to : Has d ⊎ ((x ≡ d) × Live d) → (d < n + 1) × Live d
    to (inl h) = let p = (so d).0 h in let l = p.0 in (omega arith, p.1)
    to (inr p) = let f = p.0 in (omega arith, p.1)

    from : (d < n) ⊎ (d ≡ n) → Live d → Has d ⊎ ((x ≡ d) × Live d)
    from (inl h) l = inl ((so d).1 (h, l))
    from (inr f) l = inr (omega arith, l)

pub loop-number-preserved : goal.loop-number-preserved
loop-number-preserved g c =
    let same : c.unwrap.result ≡ c.loop-number.number = rw c.unwrap.ensures at c.new.ensures.same in
    one_more _ _ (IsLive c.args.links.now.rows) c.loop-number.number c.unwrap.result same c.in_ok-add_live.ensures c.loop-number.invariant

pub returns : goal.returns
returns g c = λ d. (
  λ h. ((c.loop-number.invariant d).0 h).1,
  λ l. (c.loop-number.invariant d).1 (
    let w = some-within c.args.links.now.rows d l in
        let end = c.loop-number-test.false in
        let made = c.made-number-end.ensures.made in
        omega arith,
    l,
  ),
)
