-- The steps of an edit: what each leaves as it was.
use Rattle.std.proofs.Common.{◌≡◌, ◌≢◌, ℕ, zero, suc, List, [], ◌∷◌, ◌++◌, length, get_or, set, take, Some, None, is_some, refl, sym, ap, ◌∙◌, arith}
use Rattle.std.specs.Prelude.{All}
use Rattle.std.specs.List.{AllPairs}
use Rattle.std.proofs.lemmas.List.{get_or-set_other, set-set, set-get_or, length-set}
use Rattle.map_defs.specs.Rows.{Rows, row_at, links_of}
use Rattle.map_defs.specs.Edits.{Change, free_row, with_entry, linked, unlinked, buried, revived}
use Rattle.edit_laws.proofs.RowWrites.{IsWide, links-untouched, live-entry, wide-entry, nothing-entry, entry-back, none-same, none-stays, none-wide, none-links, set-take, entry-take}

-- changes
pub linked-length : (cs : List Change) (rows : Rows) → length (linked cs rows) ≡ length rows
linked-length [] rows = refl
linked-length (c ∷ cs) rows = linked-length cs (with_entry rows c.dart c.link c.new) ∙ length-set rows c.dart _

-- changes one after another
pub linked-append : (bs cs : List Change) (rows : Rows) → linked (bs ++ cs) rows ≡ linked cs (linked bs rows)
linked-append [] cs rows = refl
linked-append (b ∷ bs) cs rows = linked-append bs cs (with_entry rows b.dart b.link b.new)

pub linked-live : (cs : List Change) (rows : Rows) (e : ℕ) → is_some (row_at (linked cs rows) e) ≡ is_some (row_at rows e)
linked-live [] rows e = refl
linked-live (c ∷ cs) rows e = linked-live cs (with_entry rows c.dart c.link c.new) e ∙ live-entry rows c.dart c.link c.new e

pub linked-wide : (n : ℕ) (cs : List Change) (rows : Rows) → IsWide n rows → IsWide n (linked cs rows)
linked-wide n [] rows wide = wide
linked-wide n (c ∷ cs) rows wide = linked-wide n cs (with_entry rows c.dart c.link c.new) (wide-entry n rows c.dart c.link c.new wide)

pub linked-nothing : (cs : List Change) (rows : Rows) → row_at rows 0 ≡ None → row_at (linked cs rows) 0 ≡ None
linked-nothing [] rows none = none
linked-nothing (c ∷ cs) rows none = linked-nothing cs (with_entry rows c.dart c.link c.new) (nothing-entry rows c.dart c.link c.new none)

-- changes that name what stands, each place once, are taken back by their old entries
pub unlinked-linked : (cs : List Change) (rows : Rows) → All (λ (c : Change). links_of rows c.link c.dart ≡ c.old) cs
    → AllPairs (λ (b c : Change). b.dart ≡ c.dart → b.link ≡ c.link → ⊥) cs → unlinked cs (linked cs rows) ≡ rows
unlinked-linked [] rows stands once = refl
unlinked-linked (c ∷ cs) rows stands once =
    let next : Rows = with_entry rows c.dart c.link c.new in
    let rest : All (λ (b : Change). links_of next b.link b.dart ≡ b.old) cs = λ k z h.
    links-untouched rows c.dart c.link c.new (get_or cs k z).dart (get_or cs k z).link
    (λ same link. once 0 (suc k) z (omega arith) (omega arith) (sym same) (sym link))
    ∙ stands (suc k) z (omega arith) in
    let apart : AllPairs (λ (b d : Change). b.dart ≡ d.dart → b.link ≡ d.link → ⊥) cs = λ i j z h l. once (suc i) (suc j) z (omega arith) (omega arith) in
    ap (λ (r : Rows). with_entry r c.dart c.link c.old) (unlinked-linked cs next rest apart)
    ∙ ap (with_entry next c.dart c.link) (sym (stands 0 c (omega arith)))
    ∙ entry-back rows c.dart c.link c.new

pub unlinked-take : (cs : List Change) (m : ℕ) (rows : Rows) → unlinked cs (take m rows) ≡ take m (unlinked cs rows)
unlinked-take [] m rows = refl
unlinked-take (c ∷ cs) m rows =
    ap (λ (r : Rows). with_entry r c.dart c.link c.old) (unlinked-take cs m rows) ∙ entry-take m (unlinked cs rows) c.dart c.link c.old

-- darts that end
pub buried-length : (ds : List ℕ) (rows : Rows) → length (buried ds rows) ≡ length rows
buried-length [] rows = refl
buried-length (d ∷ ds) rows = buried-length ds (set rows d None) ∙ length-set rows d None

pub buried-none : (ds : List ℕ) (rows : Rows) (e : ℕ) → row_at rows e ≡ None → row_at (buried ds rows) e ≡ None
buried-none [] rows e none = none
buried-none (d ∷ ds) rows e none = buried-none ds (set rows d None) e (none-stays rows d e none)

pub buried-dead : (ds : List ℕ) (rows : Rows) → All (λ (d : ℕ). row_at (buried ds rows) d ≡ None) ds
buried-dead [] rows k z h = absurd (omega arith)
buried-dead (d ∷ ds) rows zero z h = buried-none ds (set rows d None) d (none-same rows d)
buried-dead (d ∷ ds) rows (suc k) z h = buried-dead ds (set rows d None) k z (omega arith)

pub buried-other : (ds : List ℕ) (rows : Rows) (e : ℕ) → All (λ (d : ℕ). e ≢ d) ds → row_at (buried ds rows) e ≡ row_at rows e
buried-other [] rows e apart = refl
buried-other (d ∷ ds) rows e apart =
    buried-other ds (set rows d None) e (λ k z h. apart (suc k) z (omega arith))
    ∙ get_or-set_other rows d e None None (apart 0 d (omega arith))

pub buried-wide : (n : ℕ) (ds : List ℕ) (rows : Rows) → IsWide n rows → IsWide n (buried ds rows)
buried-wide n [] rows wide = wide
buried-wide n (d ∷ ds) rows wide = buried-wide n ds (set rows d None) (none-wide n rows d wide)

-- darts whose links are free leave all links as they were
pub buried-links : (ds : List ℕ) (rows : Rows) → All (λ (d : ℕ). (i : ℕ) → links_of rows i d ≡ 0) ds → (i x : ℕ) → links_of (buried ds rows) i x ≡ links_of rows i x
buried-links [] rows free i x = refl
buried-links (d ∷ ds) rows free i x =
    let head : (j : ℕ) → links_of rows j d ≡ 0 = free 0 d (omega arith) in
    buried-links ds (set rows d None)
    (λ k z h j. none-links rows d head j (get_or ds k z) ∙ free (suc k) z (omega arith) j) i x
    ∙ none-links rows d head i x

-- darts that live again
pub revived-length : (n : ℕ) (ds : List ℕ) (rows : Rows) → length (revived n ds rows) ≡ length rows
revived-length n [] rows = refl
revived-length n (d ∷ ds) rows = length-set (revived n ds rows) d (Some (free_row n)) ∙ revived-length n ds rows

pub revived-take : (n : ℕ) (ds : List ℕ) (m : ℕ) (rows : Rows) → revived n ds (take m rows) ≡ take m (revived n ds rows)
revived-take n [] m rows = refl
revived-take n (d ∷ ds) m rows =
    ap (λ (r : Rows). set r d (Some (free_row n))) (revived-take n ds m rows) ∙ set-take m (revived n ds rows) d (Some (free_row n))

pub revived-buried : (n : ℕ) (ds : List ℕ) (rows : Rows) → All (λ (d : ℕ). row_at rows d ≡ Some (free_row n)) ds → AllPairs (λ (c d : ℕ). c ≢ d) ds
    → revived n ds (buried ds rows) ≡ rows
revived-buried n [] rows free once = refl
revived-buried n (d ∷ ds) rows free once =
    let next : Rows = set rows d None in
    let rest : All (λ (e : ℕ). row_at next e ≡ Some (free_row n)) ds = λ k z h.
    get_or-set_other rows d (get_or ds k z) None None (λ same. once 0 (suc k) z (omega arith) (omega arith) (sym same))
    ∙ free (suc k) z (omega arith) in
    let apart : AllPairs (λ (b c : ℕ). b ≢ c) ds = λ i j z h l. once (suc i) (suc j) z (omega arith) (omega arith) in
    ap (λ (r : Rows). set r d (Some (free_row n))) (revived-buried n ds next rest apart)
    ∙ set-set rows d None (Some (free_row n))
    ∙ ap (set rows d) (sym (free 0 d (omega arith)))
    ∙ set-get_or rows d None
