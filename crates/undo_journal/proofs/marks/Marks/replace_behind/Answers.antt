use Rattle.std.proofs.Common.{◌≡◌, ◌≤◌, ◌∙◌, ◌++◌, ◌∷◌, [], ℕ, List, Some, cond, length, take, bytes_eq, string_bytes, sym, ap, subst}
use Rattle.std.specs.BTreeMap.{get_by_text}
use Rattle.std.proofs.lemmas.Map.Text.{btree_map_updates_text}
use Rattle.trail_laws.specs.Trails.{Placed, IsMarkOf}
use Rattle.undo_journal.specs.Entries.{placed_marks, IsNumbered}
use Rattle.undo_journal.proofs.MarkFacts.{numbered-told, numbered-replaced, marks_replaced, told_number}
use Rattle.undo_journal.proofs.marks.Marks.replace_behind.Goals as goal

pub keep_first-requires : goal.keep_first-requires
keep_first-requires c =
    let es = c.self.inside.entries.items in
    let name = c.args.name.now in
    let number = get_by_text c.self.inside.numbers in
    let told : (q : List ℕ) → get_by_text c.insert.new.self q ≡ cond (bytes_eq name q) (Some c.args.kept) (number q) = λ q.
    btree_map_updates_text (string_bytes c.in_ok-key.key) c.self.inside.numbers c.insert.new.self (Some c.args.kept) c.in_ok-insert.ensures.updates q
    ∙ ap (λ n. cond (bytes_eq n q) (Some c.args.kept) (number q)) c.in_ok-key.ensures.ok in
    let all : IsNumbered number (placed_marks c.reserve.new.self.items) = subst (λ es. IsNumbered number (placed_marks es)) (sym c.in_ok-reserve.ensures.items) c.self.invariant in
    record { numbered = numbered-told c.args.name number (get_by_text c.insert.new.self) (placed_marks c.reserve.new.self.items) c.args.kept all told }

pub invariant_of-self-2 : goal.invariant_of-self-2
invariant_of-self-2 c =
    let es = c.self.inside.entries.items in
    let name = c.args.name.now in
    let number = get_by_text c.self.inside.numbers in
    let told : (q : List ℕ) → get_by_text c.insert.new.self q ≡ cond (bytes_eq name q) (Some c.args.kept) (number q) = λ q.
    btree_map_updates_text (string_bytes c.in_ok-key.key) c.self.inside.numbers c.insert.new.self (Some c.args.kept) c.in_ok-insert.ensures.updates q
    ∙ ap (λ n. cond (bytes_eq n q) (Some c.args.kept) (number q)) c.in_ok-key.ensures.ok in
    let front : c.keep_first.new.entries.items ≡ take c.args.kept es = c.keep_first.ensures.entries ∙ ap (take c.args.kept) c.in_ok-reserve.ensures.items in
    let within : c.args.kept ≤ length (placed_marks es) = subst (λ (ms : List Placed). c.args.kept ≤ length ms) (sym c.self.view_is) c.requires.within in
    let new = subst (λ (ms : List Placed). (k : ℕ) → IsMarkOf (take c.args.kept ms) name k → ⊥) (sym c.self.view_is) c.requires.new in
    numbered-replaced c.args.name es c.keep_first.new.entries.items c.push_reserved.new.self.items c.args.kept c.in_ok-kept_name.kept_name c.args.place c.in_ok-kept_name.ensures.ok front c.push_reserved.ensures.items
    (get_by_text c.keep_first.new.numbers) within new c.keep_first.ensures.numbered (c.keep_first.ensures.spared ∙ told_number name c.args.kept number (get_by_text c.insert.new.self) told)

pub returns-clause-marks : goal.returns-clause-marks
returns-clause-marks c =
    let es = c.self.inside.entries.items in
    let front : c.keep_first.new.entries.items ≡ take c.args.kept es = c.keep_first.ensures.entries ∙ ap (take c.args.kept) c.in_ok-reserve.ensures.items in
    marks_replaced c.args.name es c.keep_first.new.entries.items c.push_reserved.new.self.items c.args.kept c.in_ok-kept_name.kept_name c.args.place c.in_ok-kept_name.ensures.ok front c.push_reserved.ensures.items
    ∙ ap (λ (ms : List Placed). take c.args.kept ms ++ record { name = c.args.name.now; place = c.args.place } ∷ []) c.self.view_is
