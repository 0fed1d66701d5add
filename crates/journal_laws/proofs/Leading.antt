-- A difference leads on from the first content to the next, and back.
use Rattle.std.proofs.Common.{◌≡◌, ℕ, sym, ap, ◌∙◌, arith}
use Rattle.map_defs.specs.Edits.{IsLed, before_edit}
use Rattle.machine_defs.specs.State.{Content}
use Rattle.machine_defs.specs.Difference.{Difference, IsDifference, put_forward, taken_back}
use Rattle.journal_laws.proofs.ContentFacts.{same-content}
use Rattle.journal_laws.specs.Following.{Follows}
use Rattle.journal_laws.proofs.RowsOn.{difference-fits, rows-on, rows-back}
use Rattle.journal_laws.proofs.ValuesOn.{values-on, values-back}
use Rattle.journal_laws.proofs.RulesOn.{rules-on, rules-back}

module _ (a b : Content) (s : Difference) (f : Follows a b) (is : IsDifference a b s) where
  pub leads-on : put_forward s a ≡ b
  leads-on = same-content (put_forward s a) b (sym f.kind) (sym f.dim) (rows-on a b s f is) (values-on a b s f is) (rules-on a b s f is)

  pub leads-back : taken_back s b ≡ a
  leads-back =
      same-content (taken_back s b) a f.kind f.dim (ap (λ (n : ℕ). before_edit n s.edit b.rows) f.dim ∙ rows-back a b s f is)
      (values-back a b s f is) (rules-back a b s f is)

  pub difference-led : IsLed a.kind a.dim s.edit a.rows b.rows
  difference-led = record {
    begun = f.begun;
    sound = f.sound;
    fits = difference-fits a b s f is;
    few = (let few = f.next_sound.few in let begun = f.begun in omega (arith, is.born));
    after = rows-on a b s f is;
  }
