use Rattle.std.proofs.Common.{◌≡◌, ◌∙◌, List, sym, subst}
use Rattle.std.specs.BTreeMap.{get_by_text}
use Rattle.trail_laws.specs.Trails.{Placed, IsMarkOf}
use Rattle.undo_journal.proofs.marks.Marks.number_of.Goals as goal

pub returns : goal.returns
returns c =
    let name = c.args.name.now in
    let read : c.copied.result ≡ get_by_text c.self.inside.numbers name = c.copied.ensures ∙ c.get.ensures.value in
    record {
      number = λ k. (
        λ h. subst (λ (ms : List Placed). IsMarkOf ms name k) c.self.view_is ((c.self.invariant name k).0 (sym read ∙ h)),
        λ h. read ∙ (c.self.invariant name k).1 (subst (λ (ms : List Placed). IsMarkOf ms name k) (sym c.self.view_is) h),
      );
    }
