use Rattle.std.proofs.Common.{ℕ, ◌≡◌, ◌≢◌, ◌+◌, ◌-◌, ◌<◌, ◌≤◌, ◌++◌, ◌∷◌, [], ◌∙◌, List, slice_index, Contains, sym, refl, subst, inl, inr, lit<, arith}
use Rattle.std.specs.Prelude.{vec_len, vec_capacity}
use Rattle.std.proofs.lemmas.List.Elements.{All-contains}
use Rattle.map_defs.specs.Kind.{IsDistant}
use Rattle.map_defs.specs.Edits.{Change}
use Rattle.map_defs.specs.Rows.{links_of, made, IsLive}
use Rattle.cell_edit.specs.Stars.{star_of}
use Rattle.cell_edit.specs.Writing.{Appends, IsCopy, IsDistantCopy}
use Rattle.cell_edit.proofs.DartEntries.{dart-pushed}
use Rattle.cell_edit.proofs.CopyEntries.{new-links}
use Rattle.cell_edit.proofs.Beyond.{live-made, unmade-free}
use Rattle.cell_edit.proofs.Premises.{live-dart}
use Rattle.cell_edit.proofs.RowSize.{row-fits}
use Rattle.cell_edit.proofs.insertion.push_dart.Goals as goal

pub live_row-row-requires : goal.live_row-row-requires
live_row-row-requires g c = (lit< tt, (row-fits g.row.DIM c.see_sound.ensures.high, All-contains (λ (d : ℕ). IsLive c.args.links.now.rows d) c.args.stars.now.keys c.args.dart c.requires.ready.live c.requires.key))

pub push_distant-requires : goal.push_distant-requires
push_distant-requires g c =
    let row : List ℕ = c.live_row-row.result.now in
    let same = c.live_row-row.ensures in
    let carried : (t : ℕ) → IsDistant g.K.Kind.kind c.args.link t → slice_index row t ≢ 0 → Contains c.args.stars.now.keys (slice_index row t) = λ t far some.
    subst (Contains c.args.stars.now.keys) (sym (same t)) (c.requires.ready.carried c.args.dart t c.requires.key (inr far) (λ none. some (same t ∙ none))) in
    let room : vec_len c.push_reserved.new.self + (c.args.link - 0) ≤ vec_capacity c.push_reserved.new.self =
    omega (arith, c.push_reserved.ensures.len, c.push_reserved.ensures.capacity, c.requires.room, c.requires.link) in
    (omega arith, (c.see_sound.ensures.low, (c.see_sound.ensures.high, (omega arith, (omega (arith, c.requires.link), (carried, (c.requires.ready.nothing, room)))))))

pub push_copy-requires : goal.push_copy-requires
push_copy-requires g c =
    let is : c.entry-old.result ≡ links_of c.args.links.now.rows c.args.link c.args.dart = c.entry-old.ensures ∙ c.live_row-row.ensures c.args.link in
    let key : c.entry-old.result ≢ 0 → Contains c.args.stars.now.keys c.entry-old.result = λ some.
    subst (Contains c.args.stars.now.keys) (sym is) (c.requires.ready.carried c.args.dart c.args.link c.requires.key (inl refl) (λ none. some (is ∙ none))) in
    let room : vec_len c.push_reserved-2.new.self < vec_capacity c.push_reserved-2.new.self =
    omega (arith, c.push_reserved.ensures.len, c.push_reserved.ensures.capacity, c.push_distant.ensures.few, c.push_distant.ensures.capacity, c.push_reserved-2.ensures.len, c.push_reserved-2.ensures.capacity, c.requires.room, c.requires.link) in
    record {
      key = key;
      nothing = c.requires.ready.nothing;
      room = room;
    }

pub push_distant-requires-2 : goal.push_distant-requires-2
push_distant-requires-2 g c =
    let row : List ℕ = c.live_row-row.result.now in
    let same = c.live_row-row.ensures in
    let carried : (t : ℕ) → IsDistant g.K.Kind.kind c.args.link t → slice_index row t ≢ 0 → Contains c.args.stars.now.keys (slice_index row t) = λ t far some.
    subst (Contains c.args.stars.now.keys) (sym (same t)) (c.requires.ready.carried c.args.dart t c.requires.key (inr far) (λ none. some (same t ∙ none))) in
    let room : vec_len c.push_copy.new.changes + (c.dimension.result + 1 - (c.args.link + 2)) ≤ vec_capacity c.push_copy.new.changes =
    omega (arith, c.push_reserved.ensures.len, c.push_reserved.ensures.capacity, c.push_distant.ensures.few, c.push_distant.ensures.capacity, c.push_reserved-2.ensures.len, c.push_reserved-2.ensures.capacity, c.push_copy.ensures.few, c.push_copy.ensures.capacity, c.dimension.ensures.dimension, c.requires.room, c.requires.link) in
    (omega arith, (c.see_sound.ensures.low, (c.see_sound.ensures.high, (omega (arith, c.requires.link, c.dimension.ensures.dimension), (omega (arith, c.dimension.ensures.dimension), (carried, (c.requires.ready.nothing, room)))))))

pub returns-clause-few : goal.returns-clause-few
returns-clause-few g c =
    omega (arith, c.push_reserved.ensures.len, c.push_distant.ensures.few, c.push_reserved-2.ensures.len, c.push_copy.ensures.few, c.push_distant-2.ensures.few, c.dimension.ensures.dimension, c.requires.link)

pub returns-clause-entries : goal.returns-clause-entries
returns-clause-entries g c =
    let rows = c.args.links.now.rows in
    let stars = c.args.stars.now in
    let row : List ℕ = c.live_row-row.result.now in
    let live : IsLive rows c.args.dart = All-contains (λ (d : ℕ). IsLive rows d) stars.keys c.args.dart c.requires.ready.live c.requires.key in
    let low : c.args.dart ≤ made rows = live-made rows c.args.dart live in
    let above : stars.made < star_of stars c.args.dart = rw c.requires.new at c.requires.above in
    let apart : c.args.dart ≢ star_of stars c.args.dart = λ e. omega (arith, c.requires.ready.made) in
    let free : (t : ℕ) → links_of rows t (star_of stars c.args.dart) ≡ 0 = λ t. unmade-free rows t (star_of stars c.args.dart) (omega (arith, c.requires.ready.made, above)) in
    let is : c.entry-old.result ≡ links_of rows c.args.link c.args.dart = c.entry-old.ensures ∙ c.live_row-row.ensures c.args.link in
    let start : List Change = c.args.changes.now.items ++ record { dart = c.args.dart; link = c.args.link; old = links_of rows c.args.link c.args.dart; new = star_of stars c.args.dart } ∷ [] in
    let begun : c.push_reserved.new.self.items ≡ start = rw (c.new.ensures, is, c.number.ensures.same, c.requires.new) at c.push_reserved.ensures.items in
    let first : Appends (links_of rows) (IsDistantCopy g.K.Kind.kind c.args.link row (star_of stars) 0 c.args.link (star_of stars c.args.dart)) start c.push_distant.new.changes.items =
    (rw (c.requires.new, begun) at c.push_distant.ensures.copies (links_of rows)) free in
    let own : c.push_reserved-2.new.self.items ≡ c.push_distant.new.changes.items ++ record { dart = star_of stars c.args.dart; link = c.args.link; old = 0; new = c.args.dart } ∷ [] =
    rw (c.joining.ensures, c.requires.new) at c.push_reserved-2.ensures.items in
    let second : Appends (links_of rows) (IsCopy (star_of stars) (star_of stars c.args.dart) (c.args.link + 1) (links_of rows c.args.link c.args.dart))
    (c.push_distant.new.changes.items ++ record { dart = star_of stars c.args.dart; link = c.args.link; old = 0; new = c.args.dart } ∷ []) c.push_copy.new.changes.items =
    (rw (c.requires.new, is, own) at c.push_copy.ensures.copy (links_of rows)) (free (c.args.link + 1)) in
    let third : Appends (links_of rows) (IsDistantCopy g.K.Kind.kind c.args.link row (star_of stars) (c.args.link + 2) (g.row.DIM + 1) (star_of stars c.args.dart)) c.push_copy.new.changes.items c.push_distant-2.new.changes.items =
    (rw (c.requires.new, c.dimension.ensures.dimension) at c.push_distant-2.ensures.copies (links_of rows)) free in
    dart-pushed g.K.Kind.kind (links_of rows) c.args.link (star_of stars) c.args.dart (g.row.DIM + 1) c.args.changes.now.items c.push_distant-2.new.changes.items apart
    (new-links g.K.Kind.kind (links_of rows) c.args.link row (star_of stars) c.args.dart (g.row.DIM + 1) c.requires.own (omega (arith, c.requires.link))
    (live-dart g.K.Kind.kind g.row.DIM rows c.see_sound.ensures.sound c.args.dart live) c.live_row-row.ensures
    start c.push_distant.new.changes.items c.push_copy.new.changes.items c.push_distant-2.new.changes.items (free c.args.link) first second third)
