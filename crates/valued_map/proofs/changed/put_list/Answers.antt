use Rattle.std.proofs.Common.{ℕ, ◌≡◌, ◌+◌, List, ◌∷◌, ◌++◌, [], map, length, length-append, refl, sym, ap, subst, ◌∙◌, arith}
use Rattle.std.proofs.lemmas.List.{map-append, length-map}
use Rattle.store_defs.specs.Groups.{darts_in}
use Rattle.valued_map.specs.Changing.{IsListPut}
use Rattle.valued_map.proofs.DimLists.{pad-more, put-last}
use Rattle.valued_map.proofs.changed.put_list.Goals as goal

pub loop-place-init : goal.loop-place-init
loop-place-init c = (omega (arith, c.len-place.ensures), omega (arith, c.len-place.ensures, c.requires), omega (arith, c.len-place.ensures), λ i. refl)

pub loop-place-preserved : goal.loop-place-preserved
loop-place-preserved c =
    let (size, low, few, same) = c.loop-place.invariant in
    let before : List (List ℕ) = map (λ ds. ds.items) c.loop-place.lists.items in
    let old : List (List ℕ) = map (λ ds. ds.items) c.args.lists.now.items in
    let pushed = ap (map (λ ds. ds.items)) c.in_ok-push.ensures.items ∙ map-append (λ ds. ds.items) c.loop-place.lists.items (c.new.result ∷ []) in
    let grown = ap length c.in_ok-push.ensures.items ∙ length-append c.loop-place.lists.items (c.new.result ∷ []) in
    let all : length before ≡ length c.loop-place.lists.items = length-map c.loop-place.lists.items (λ ds. ds.items) in
    let first : length old ≡ length c.args.lists.now.items = length-map c.args.lists.now.items (λ ds. ds.items) in (
      grown ∙ ap (λ (m : ℕ). m + 1) size,
      omega (arith, c.loop-place-test.true),
      omega arith,
      λ i. ap (λ (ls : List (List ℕ)). darts_in ls i) (pushed ∙ ap (λ (ds : List ℕ). before ++ ds ∷ []) c.new.ensures.items) ∙ pad-more old before (omega (arith, first, all, size, few)) same i,
    )

pub returns : goal.returns
returns c =
    let (size, low, few, same) = c.loop-place.invariant in
    let before : List (List ℕ) = map (λ ds. ds.items) c.loop-place.lists.items in
    let old : List (List ℕ) = map (λ ds. ds.items) c.args.lists.now.items in
    let pushed = ap (map (λ ds. ds.items)) c.in_ok-push-2.ensures.items ∙ map-append (λ ds. ds.items) c.loop-place.lists.items (c.args.darts ∷ []) in
    let all : length before ≡ length c.loop-place.lists.items = length-map c.loop-place.lists.items (λ ds. ds.items) in
    let first : length old ≡ length c.args.lists.now.items = length-map c.args.lists.now.items (λ ds. ds.items) in
    subst (IsListPut c.args.dim c.args.darts.items old) (sym pushed)
    (put-last c.args.dim c.args.darts.items old before (omega (arith, all, size, low, c.loop-place-test.false)) same (omega (arith, first, few, low)))
