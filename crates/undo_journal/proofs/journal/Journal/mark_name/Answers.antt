use Rattle.std.proofs.Common.{◌∙◌, slice_get, sym, ap}
use Rattle.trail_laws.specs.Trails.{Book, mark_names}
use Rattle.undo_journal.specs.Entries.{trail_of}
use Rattle.undo_journal.proofs.EntryFacts.{name_shown, read_is_named}
use Rattle.undo_journal.proofs.journal.Journal.mark_name.Goals as goal

pub returns-clause-name : goal.returns-clause-name
returns-clause-name c =
    let inside = c.self.inside in
    let shown = name_shown inside.steps.items inside.at inside.marks inside.standing inside.undone.items c.args.place c.if-place-self.false in
    c.name_of.ensures.name ∙ sym shown ∙ ap (λ (b : Book). slice_get (mark_names b.trail) c.args.place) c.self.view_is

pub returns-clause-named : goal.returns-clause-named
returns-clause-named c =
    let inside = c.self.inside in
    let shown = name_shown inside.steps.items inside.at inside.marks inside.standing inside.undone.items c.args.place c.if-place-self.false in
    read_is_named (trail_of inside.steps.items inside.at inside.marks inside.standing inside.undone.items) c.args.place c.name_of.result c.self.invariant (c.name_of.ensures.name ∙ sym shown)
