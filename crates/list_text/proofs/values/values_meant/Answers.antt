use Rattle.std.proofs.Common.{◌≡◌, ◌+◌, ◌<◌, ◌++◌, [], ◌∷◌, length, get_or, sym, ap, ◌∙◌, inr, arith, take}
use Rattle.std.proofs.lemmas.List.{take_more}
use Rattle.machine_defs.specs.Listing.{ListValue}
use Rattle.machine_defs.specs.ListingFaults.{IsValueOf, listing_meant}
use Rattle.list_text.specs.Views.{told_view}
use Rattle.list_text.specs.declared.fault.ListFault.TheVariants.{Bad}
use Rattle.list_text.specs.declared.fault.ListWhat.TheVariants.{Values}
use Rattle.list_text.proofs.LawParts.{first-at, more-have}
use Rattle.list_text.proofs.values.values_meant.Goals as goal

pub returns-in-None-clause-fault : goal.returns-in-None-clause-fault
returns-in-None-clause-fault c =
    let within : c.loop-place.place < length c.args.told.now.values.items = rw c.deref-value-items.ensures.value at c.loop-place-test.true in
    let item : c.value-item.result ≡ get_or c.args.told.now.values.items c.loop-place.place c.value-item.result = rw c.deref-value-items.ensures.value at c.value-item.is in
    let first = first-at (IsValueOf (listing_meant (told_view c.args.told.now))) c.args.told.now.values.items c.loop-place.place c.value-item.result within item c.loop-place.invariant.1 c.in-None.ensures.none in
    let rows = c.len.ensures in
    let rules = c.len-in-None.ensures in
    inr (c.loop-place.place, first, c.bad.ensures ∙ ap (λ (line : _). Bad line Values) (omega (arith, rows, rules)))

pub loop-place-preserved : goal.loop-place-preserved
loop-place-preserved c =
    let within : c.loop-place.place < length c.args.told.now.values.items = rw c.deref-value-items.ensures.value at c.loop-place-test.true in
    let item : c.value-item.result ≡ get_or c.args.told.now.values.items c.loop-place.place c.value-item.result = rw c.deref-value-items.ensures.value at c.value-item.is in
    let more : take (c.loop-place.place + 1) c.args.told.now.values.items ≡ take c.loop-place.place c.args.told.now.values.items ++ c.value-item.result ∷ [] =
    take_more c.args.told.now.values.items c.loop-place.place c.value-item.result within ∙ ap (λ (v : ListValue). take c.loop-place.place c.args.told.now.values.items ++ v ∷ []) (sym item) in (
      c.in_ok-push-in-Some.ensures.items ∙ (rw (c.loop-place.invariant.0, c.in-Some.ensures.same) (sym more)),
      more-have (IsValueOf (listing_meant (told_view c.args.told.now))) c.args.told.now.values.items c.loop-place.place c.value-item.result within item c.loop-place.invariant.1 c.in-Some.ensures.some,
    )
