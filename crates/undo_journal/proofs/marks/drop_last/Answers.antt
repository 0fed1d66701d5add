use Rattle.std.proofs.Common.{ℕ, ◌≡◌, ◌∙◌, true, false, List, [], ◌∷◌, ◌++◌, None, cond, bytes_eq, string_bytes, sym, ap}
use Rattle.std.specs.BTreeMap.{get_by_text}
use Rattle.std.proofs.lemmas.Map.Text.{btree_map_updates_text}
use Rattle.undo_journal.proofs.MarkFacts.{is_spared, true_not, false_not, other_stays, spared_stays, numbered-popped}
use Rattle.undo_journal.proofs.marks.drop_last.Goals as goal

pub returns-then-ne-clause-numbered : goal.returns-then-ne-clause-numbered
returns-then-ne-clause-numbered c =
    let es = c.args.entries.now.items in
    let now = c.pop.new.self.items in
    let number = get_by_text c.args.numbers.now in
    let whole : es ≡ now ++ (c.in-Some.name, c.in-Some._place) ∷ [] = c.in-Some.ensures.items in
    let gone : (q : List ℕ) → get_by_text c.remove.new.self q ≡ cond (bytes_eq (string_bytes c.in-Some.name) q) None (number q) = λ q.
    btree_map_updates_text c.as_str-then-ne.result.now c.args.numbers.now c.remove.new.self None c.remove.ensures.updates q
    ∙ ap (λ n. cond (bytes_eq n q) None (number q)) c.as_str-then-ne.ensures.value in
    numbered-popped c.args.spared number (get_by_text c.remove.new.self) es now c.in-Some.name c.in-Some._place whole c.requires.numbered (λ q other. gone q)

pub returns-then-ne-clause-spared : goal.returns-then-ne-clause-spared
returns-then-ne-clause-spared c =
    let number = get_by_text c.args.numbers.now in
    let apart : is_spared c.args.spared c.as_str.result ≡ false = true_not (is_spared c.args.spared c.as_str.result) c.if-ne.ensures in
    let gone : (q : List ℕ) → get_by_text c.remove.new.self q ≡ cond (bytes_eq c.as_str.result.now q) None (number q) = λ q.
    btree_map_updates_text c.as_str-then-ne.result.now c.args.numbers.now c.remove.new.self None c.remove.ensures.updates q
    ∙ ap (λ n. cond (bytes_eq n q) None (number q)) (c.as_str-then-ne.ensures.value ∙ sym c.as_str.ensures.value) in
    other_stays c.args.spared c.as_str.result number (get_by_text c.remove.new.self) apart gone

pub returns-clause-numbered : goal.returns-clause-numbered
returns-clause-numbered c =
    let es = c.args.entries.now.items in
    let now = c.pop.new.self.items in
    let number = get_by_text c.args.numbers.now in
    let whole : es ≡ now ++ (c.in-Some.name, c.in-Some._place) ∷ [] = c.in-Some.ensures.items in
    let alike : is_spared c.args.spared c.as_str.result ≡ true = false_not (is_spared c.args.spared c.as_str.result) c.if-ne.ensures in
    numbered-popped c.args.spared number number es now c.in-Some.name c.in-Some._place whole c.requires.numbered (λ q other.
    spared_stays c.args.spared c.as_str.result alike q other (number q) ∙ ap (λ n. cond (bytes_eq n q) None (number q)) c.as_str.ensures.value)
