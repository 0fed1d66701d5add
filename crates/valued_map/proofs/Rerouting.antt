-- Which darts an edit touches in a dimension, by its changes.
use Rattle.std.proofs.Common.{ℕ, ◌≡◌, ◌++◌, ◌≢◌, ◌⊎◌, ◌+◌, ◌<◌, ◌≤◌, inl, inr, refl, sym, ap, subst, ◌∙◌, List, length, get_or, Option, Some, None, Contains, ⊎_elim, arith}
use Rattle.std.specs.Prelude.{IfSome, IsSome, All}
use Rattle.std.proofs.lemmas.Bool.{cases_lt}
use Rattle.std.proofs.lemmas.List.{get_or_default}
use Rattle.std.proofs.lemmas.List.Elements.{All-contains, Contains-append_cases}
use Rattle.map_defs.specs.Kind.{Kind, inverse}
use Rattle.map_defs.specs.Links.{Links, HasDimension}
use Rattle.map_defs.specs.LinkWords.{LinkWord, through, through_second, IsCellWord, IsWithin}
use Rattle.map_defs.specs.Laws.{Laws}
use Rattle.map_defs.specs.Rows.{Rows, IsLive, IsSound, links_of, made}
use Rattle.map_defs.specs.Edits.{Change, Edit, IsLed, after_edit}
use Rattle.edit_laws.proofs.RowWrites.{live-within}
use Rattle.edit_laws.proofs.EditLinks.{links-at}
use Rattle.journal_laws.proofs.EditOrder.{Names, named-or-not}
use Rattle.link_laws.proofs.RowFacts.{rows_dimension, rows_lead_to_live}
use Rattle.map_defs.specs.Values.{Rule}
use Rattle.store_defs.specs.Labelings.{Labeling}
use Rattle.label_laws.specs.Touching.{IsSettledAlong, IsUnsettled}
use Rattle.valued_map.specs.declared.kept.Kept.{Kept}
use Rattle.link_rows.specs.BornRows.{NewRows, led_back, rows_changes}
use Rattle.link_rows.proofs.BornChanges.{led-link, rows-begun}
use Rattle.valued_map.specs.Changing.{IsUnsettledOf, IsFollowed, BeginBy, LeadsBackIn, MayReroute, IsUnsettledFrom, IsChangedIn}
use Rattle.valued_map.proofs.DimLists.{AreListedBelow}
use Rattle.valued_map.proofs.LiveDarts.{zero-dead}
use Rattle.valued_map.proofs.Adding.{same-else, long}

-- what rows of new darts tell of a dart up to a number
pub told-old : (born : NewRows) (older : ℕ) (c : Change) → Contains (led_back born.back born.first born.rows ++ rows_changes born.first born.rows) c → c.dart ≤ older
    → (born.back ≡ Some c.link) ⊎ BeginBy born older
told-old born older c here low = elim (Contains-append_cases (led_back born.back born.first born.rows) (rows_changes born.first born.rows) c here) [
  | inl back ↦ inl (led-link born.back born.first born.rows c back)
  | inr row ↦ let begun = rows-begun born.first born.rows c row in inr (begun.0, omega (arith, begun.1, low))
]

-- where they may tell of none, the changes of these darts are among those that no row tells
pub older-among : (cs : List Change) (born : NewRows) (older : ℕ) → (IsSome born.back ⊎ BeginBy born older → ⊥)
    → (c : Change) → Contains (cs ++ (led_back born.back born.first born.rows ++ rows_changes born.first born.rows)) c → c.dart ≤ older → Contains cs c
older-among cs born older none c here low =
    elim (Contains-append_cases cs (led_back born.back born.first born.rows ++ rows_changes born.first born.rows) c here) [
      | inl among ↦ among
      | inr told ↦ absurd (none (⊎_elim (λ back. inl (subst IsSome (sym back) refl)) (λ begun. inr begun) (told-old born older c told low)))
    ]

-- a change that may reroute a dart is told by rows that begin by the number or lead back, or is among those that no row tells
pub rerouting-told : (k : Kind) (i : ℕ) (rows : Rows) (older : ℕ) (cs : List Change) (born : NewRows) (c : Change)
    → Contains (cs ++ (led_back born.back born.first born.rows ++ rows_changes born.first born.rows)) c → MayReroute k i rows older c
    → BeginBy born older ⊎ (LeadsBackIn k i born ⊎ ((b : Change) × Contains cs b × MayReroute k i rows older b))
rerouting-told k i rows older cs born c here may =
    elim (Contains-append_cases cs (led_back born.back born.first born.rows ++ rows_changes born.first born.rows) c here) [
      | inl among ↦ inr (inr (c, among, may))
      | inr told ↦ ⊎_elim (λ back. inr (inl (c.link, back, may.2))) (λ begun. inl begun) (told-old born older c told may.0)
    ]

-- no change is one of this link of the dart
abbrev pub IsUnchanged : List Change → ℕ → ℕ → Type 0
IsUnchanged cs d i = (c : Change) → Contains cs c → c.dart ≡ d → c.link ≡ i → ⊥

module _ (k : Kind) (n : ℕ) (e : Edit) (old new : Rows) (led : IsLed k n e old new) where
  -- the old entry of a change is the link before the edit
  pub stood : (c : Change) (d i : ℕ) → Contains e.changes c → c.dart ≡ d → c.link ≡ i → c.old ≡ links_of old i d
  stood c d i here dart link =
      let at : links_of old c.link c.dart ≡ c.old = subst (λ (b : Change). links_of old b.link b.dart ≡ b.old) here.2 (led.fits.stands here.0 c here.1) in
      sym at ∙ ap (λ (j : ℕ). links_of old j c.dart) link ∙ ap (links_of old i) dart

  -- a link that no change names is as it was
  pub unchanged : (d i : ℕ) → IsUnchanged e.changes d i → links_of new i d ≡ links_of old i d
  unchanged d i none = same-else k n e old new led i d (λ j z h dart link. none (get_or e.changes j z) (j, h, get_or_default e.changes j (get_or e.changes j z) z h) (sym dart) (sym link))

-- a link that leads to a live dart comes from the dart at its inverse link
pub comes-from : (k : Kind) (n : ℕ) (rows : Rows) → IsSound k n rows → (d link : ℕ) → IsLive rows d → (x : ℕ) → links_of rows link x ≡ d → links_of rows (inverse k link) d ≡ x
comes-from k n rows sound d link live x at =
    ap (links_of rows (inverse k link)) (sym at) ∙ sound.back link x (λ none. zero-dead k n rows d sound (sym at ∙ none) live)

-- a dart from which a link led to a live dart was made before the edit
pub came-before : (k : Kind) (n : ℕ) (e : Edit) (old new : Rows) → IsLed k n e old new → IsSound k n new → (d link : ℕ) → IsLive new d
    → (x : ℕ) → links_of new link x ≡ d → links_of old link x ≡ d → (older : ℕ) → older + e.births ≡ made new → older < x → ⊥
came-before k n e old new led sound d link live x at was older made-is above =
    let within : x < length old = live-within old x lived in
    let more : length new ≡ length old + e.births = long k n e old new led in
    let begun : 0 < length old = led.begun in
    omega (arith, more, made-is)
  where
    back : links_of old (inverse k link) d ≡ x
    back = ap (links_of old (inverse k link)) (sym was) ∙ led.sound.back link x (λ none. zero-dead k n new d sound (sym was ∙ none) live)

    lived : IsLive old x
    lived = subst (IsLive old) back (led.sound.live (inverse k link) d (λ none. let zero : x ≡ 0 = sym back ∙ none in omega (arith, zero)))

-- a word with a link above the dimension leads nowhere
pub word-within : (n : ℕ) (L N : Links) → HasDimension n L → HasDimension n N → ((t : ℕ) → L t 0 ≡ 0) → ((t : ℕ) → N t 0 ≡ 0) → (v : LinkWord) (x : ℕ)
    → (through N v x ≢ through L v x) → IsWithin n v
word-within n L N free-old free-new nil-old nil-new v x apart = (first, second v.second refl)
  where
    nowhere : (s : Option ℕ) → through_second L s 0 ≡ through_second N s 0
    nowhere None = refl
    nowhere (Some s) = nil-old s ∙ sym (nil-new s)

    first : v.first ≤ n
    first = elim (cases_lt n v.first) [
      | inl above ↦ absurd (apart (ap (through_second N v.second) (free-new v.first x above) ∙ sym (nowhere v.second) ∙ sym (ap (through_second L v.second) (free-old v.first x above))))
      | inr low ↦ omega arith
    ]

    second : (s : Option ℕ) → v.second ≡ s → IfSome s (λ t. t ≤ n)
    second None is = tt
    second (Some t) is = elim (cases_lt n t) [
      | inl above ↦ absurd (apart (ap (λ (s : Option ℕ). through_second N s (N v.first x)) is ∙ free-new t (N v.first x) above ∙ sym (free-old t (L v.first x) above) ∙ sym (ap (λ (s : Option ℕ). through_second L s (L v.first x)) is)))
      | inr low ↦ omega arith
    ]

-- The darts that are not settled are so by a change.
module _ (k : Kind) (n : ℕ) (e : Edit) (old new : Rows) (led : IsLed k n e old new) (sound : IsSound k n new) (w : Laws k (links_of old)) (wn : Laws k (links_of new)) (i : ℕ) (labels : Labeling) where
  abbrev L : Links
  L = links_of old

  abbrev N : Links
  N = links_of new

  abbrev Goal : ℕ → Type 0
  Goal x = (c : Change) × Contains e.changes c × IsUnsettledOf k n e new i labels c x

  -- a change tells the link before and after
  old-at : (c : Change) → Contains e.changes c → L c.link c.dart ≡ c.old
  old-at c held = All-contains (λ (c : Change). L c.link c.dart ≡ c.old) e.changes c led.fits.stands held

  new-at : (c : Change) → Contains e.changes c → N c.link c.dart ≡ c.new
  new-at c held =
      ap (λ (r : Rows). links_of r c.link c.dart) (sym led.after)
      ∙ All-contains (λ (c : Change). links_of (after_edit n e old) c.link c.dart ≡ c.new) e.changes c (links-at k n old e led.sound led.fits) held

  stays : (x : ℕ) → IsLive old x → x + e.births ≤ made new
  stays x live = let within : x < length old = live-within old x live in let more : length new ≡ length old + e.births = long k n e old new led in omega (arith, more)

  module _ (x : ℕ) (before : IsLive old x) (after : IsLive new x) (v : LinkWord) (cell : IsCellWord k i v) (apart : through N v x ≢ through L v x)
      (unsettled : IsSettledAlong k i old new labels v x → ⊥) where
    inside : IsWithin n v
    inside = word-within n L N (rows_dimension n old led.sound.wide) (rows_dimension n new sound.wide) w.nil wn.nil v x apart

    -- the first link of the word changed
    by-first : Names e.changes v.first x → Goal x
    by-first (c, held, dart, link) = (
      c,
      held,
      (subst (λ d. d + e.births ≤ made new) (sym dart) (stays x before), subst (IsLive new) (sym dart) after, (v, (cell, inside), inl (old, led, (sym link, sym dart, was, is, apart, unsettled)))),
    )
      where
        was : L v.first x ≡ c.old
        was = ap (L v.first) (sym dart) ∙ ap (λ t. L t c.dart) (sym link) ∙ old-at c held

        is : N v.first x ≡ c.new
        is = ap (N v.first) (sym dart) ∙ ap (λ t. N t c.dart) (sym link) ∙ new-at c held

    -- it did not, so the second did
    by-second : N v.first x ≡ L v.first x → (s : Option ℕ) → v.second ≡ s → Goal x
    by-second same None none = absurd (apart (ap (λ (t : Option ℕ). through_second N t (N v.first x)) none ∙ same ∙ sym (ap (λ (t : Option ℕ). through_second L t (L v.first x)) none)))
    by-second same (Some s) some = go (named-or-not e.changes s (N v.first x))
      where
        beyond : N s (N v.first x) ≢ L s (N v.first x)
        beyond e2 = apart (ap (λ (t : Option ℕ). through_second N t (N v.first x)) some ∙ e2 ∙ ap (L s) same ∙ sym (ap (λ (t : Option ℕ). through_second L t (L v.first x)) some))

        there : N v.first x ≢ 0
        there z = beyond (ap (N s) z ∙ wn.nil s ∙ sym (ap (L s) z ∙ w.nil s))

        live-there : IsLive new (N v.first x)
        live-there = rows_lead_to_live k new wn v.first x there

        lived-there : IsLive old (N v.first x)
        lived-there = subst (IsLive old) (sym same) (rows_lead_to_live k old w v.first x (λ z. there (same ∙ z)))

        go : Names e.changes s (N v.first x) ⊎ All (λ (c : Change). N v.first x ≡ c.dart → s ≡ c.link → ⊥) e.changes → Goal x
        go (inr none) = absurd (beyond (same-else k n e old new led s (N v.first x) none))
        go (inl (c, held, dart, link)) = (
          c,
          held,
          (
            subst (λ d. d + e.births ≤ made new) (sym dart) (stays (N v.first x) lived-there),
            subst (IsLive new) (sym dart) live-there,
            (v, (cell, inside), inr (old, led, (some ∙ ap Some (sym link), sym dart, sym same ∙ sym dart, old-at c held, new-at c held, unsettled))),
          ),
        )

    unsettled-by : Goal x
    unsettled-by = go (named-or-not e.changes v.first x)
      where
        go : Names e.changes v.first x ⊎ All (λ (c : Change). x ≡ c.dart → v.first ≡ c.link → ⊥) e.changes → Goal x
        go (inl named) = by-first named
        go (inr none) = by-second (same-else k n e old new led v.first x none) v.second refl

  pub unsettled-by-change : (x : ℕ) → IsUnsettled k i old new labels x → Goal x
  unsettled-by-change x (before, after, (v, cell, apart, unsettled)) = unsettled-by x before after v cell apart unsettled

-- each dart that is not settled is left so by one of some changes, among which are those of all darts that were made before
pub unsettled-among : (k : Kind) (n : ℕ) (e : Edit) (rows : Rows) (i : ℕ) (labels : Labeling) (older : ℕ) → older + e.births ≡ made rows → IsSound k n rows → (cs : List Change)
    → ((c : Change) → Contains e.changes c → c.dart ≤ older → Contains cs c) → (x : ℕ) → IsUnsettledFrom k n e rows i labels x
    → (c : Change) × Contains cs c × IsUnsettledOf k n e rows i labels c x
unsettled-among k n e rows i labels older made-is sound cs held x (old, led, w, wn, unsettled) = on (unsettled-by-change k n e old rows led sound w wn i labels x unsettled)
  where
    on : (c : Change) × Contains e.changes c × IsUnsettledOf k n e rows i labels c x → (c : Change) × Contains cs c × IsUnsettledOf k n e rows i labels c x
    on (c, here, at) = (c, held c here (let stays : c.dart + e.births ≤ made rows = at.0 in omega (arith, stays, made-is)), at)

-- a change that leaves a dart unsettled is of a link that a word of the cells follows
followed-at : (k : Kind) (n : ℕ) (e : Edit) (rows : Rows) (i : ℕ) (labels : Labeling) (c : Change) (x : ℕ) → IsUnsettledOf k n e rows i labels c x → IsFollowed k i c.link
followed-at k n e rows i labels c x (stays, live, (w, cell, inl (old, led, (link, dart, was, is, apart, off)))) = (w, cell.0, inl link)
followed-at k n e rows i labels c x (stays, live, (w, cell, inr (old, led, (link, now, was, stood, stands, off)))) = (w, cell.0, inr link)

-- where no change of an older dart that is live is of such a link, each dart is settled
pub none-unsettled : (k : Kind) (n : ℕ) (e : Edit) (rows : Rows) (i : ℕ) (labels : Labeling) → IsSound k n rows → (older : ℕ) → older + e.births ≡ made rows
    → ((c : Change) → Contains e.changes c → c.dart ≤ older → IsLive rows c.dart → IsFollowed k i c.link → ⊥) → (x : ℕ) → IsUnsettledFrom k n e rows i labels x → ⊥
none-unsettled k n e rows i labels sound older made-is none x (old, led, w, wn, unsettled) = on (unsettled-by-change k n e old rows led sound w wn i labels x unsettled)
  where
    on : (c : Change) × Contains e.changes c × IsUnsettledOf k n e rows i labels c x → ⊥
    on (c, held, at) = none c held (let stays : c.dart + e.births ≤ made rows = at.0 in omega (arith, stays, made-is)) at.1 (followed-at k n e rows i labels c x at)

-- the darts changed in each of the first dimensions, by the lists of these
abbrev pub AreChangedBelow : Kind → ℕ → Edit → Rows → List (Option Rule) → Kept → Labeling → ℕ → List (List ℕ) → Type 0
AreChangedBelow k n e rows rules kept labels = AreListedBelow (λ i. IsLive rows) (IsChangedIn k n e rows rules kept labels)
