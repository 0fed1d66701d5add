use Rattle.std.proofs.Common.{◌≡◌, refl}
use Rattle.map_defs.specs.Kind.{alpha, beta}
use Rattle.list_text.specs.Letters.{kind_named}
use Rattle.list_text.proofs.ValuesMeant.{named-beta, lawful-of}
use Rattle.list_text.proofs.values.cells_of.Goals as goal

pub new-requires-clause-lawful : goal.new-requires-clause-lawful
new-requires-clause-lawful c =
    let named : kind_named c.args.told.now.header.letter ≡ alpha = rw c.in-true-eq2.is-0 refl in
    lawful-of (kind_named c.args.told.now.header.letter) alpha c.as_slice-rows.result.now c.args.told.now.rows.items named c.as_slice-rows.ensures.value c.requires.lawful

pub new-requires-in-true-eq3-clause-lawful : goal.new-requires-in-true-eq3-clause-lawful
new-requires-in-true-eq3-clause-lawful c =
    let named : kind_named c.args.told.now.header.letter ≡ alpha = rw c.in-true-eq3.is-0 refl in
    lawful-of (kind_named c.args.told.now.header.letter) alpha c.as_slice-rows.result.now c.args.told.now.rows.items named c.as_slice-rows.ensures.value c.requires.lawful

pub new-requires-in-true-default-clause-lawful : goal.new-requires-in-true-default-clause-lawful
new-requires-in-true-default-clause-lawful c =
    let named : kind_named c.args.told.now.header.letter ≡ alpha = rw c.in-true-default.is-0 refl in
    lawful-of (kind_named c.args.told.now.header.letter) alpha c.as_slice-rows.result.now c.args.told.now.rows.items named c.as_slice-rows.ensures.value c.requires.lawful

pub new-requires-in-false-eq2-clause-lawful : goal.new-requires-in-false-eq2-clause-lawful
new-requires-in-false-eq2-clause-lawful c =
    let named = named-beta c.args.told.now.header.letter c.in-false-eq2.is-0 in
    lawful-of (kind_named c.args.told.now.header.letter) beta c.as_slice-rows.result.now c.args.told.now.rows.items named c.as_slice-rows.ensures.value c.requires.lawful

pub new-requires-in-false-eq3-clause-lawful : goal.new-requires-in-false-eq3-clause-lawful
new-requires-in-false-eq3-clause-lawful c =
    let named = named-beta c.args.told.now.header.letter c.in-false-eq3.is-0 in
    lawful-of (kind_named c.args.told.now.header.letter) beta c.as_slice-rows.result.now c.args.told.now.rows.items named c.as_slice-rows.ensures.value c.requires.lawful

pub new-requires-in-false-default-clause-lawful : goal.new-requires-in-false-default-clause-lawful
new-requires-in-false-default-clause-lawful c =
    let named = named-beta c.args.told.now.header.letter c.in-false-default.is-0 in
    lawful-of (kind_named c.args.told.now.header.letter) beta c.as_slice-rows.result.now c.args.told.now.rows.items named c.as_slice-rows.ensures.value c.requires.lawful
