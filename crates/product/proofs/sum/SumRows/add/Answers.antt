-- A law for each way out: `filled_skip`, `filled_long`, `filled_full`, `filled_last`.
use borrow.Author.Rules.{rules}
use mathlib.Core.Path.{◌≡◌, sym, ◌∙◌}
use mathlib.Core.Bool.{true, false}
use Rattle.product.specs.Cells.{product_of, products_of}
use Rattle.product.specs.Sum.{present}
use Rattle.product.proofs.FilledRows.{filled_skip, filled_long, filled_full, filled_last, filled_view}
use Rattle.product.specs.Product.{contradictory}
use Rattle.product.proofs.sum.SumRows.add.Goals as goal

pub returns-then-is_contradictory : goal.returns-then-is_contradictory
returns-then-is_contradictory c =
    let s = c.self.inside in
    let e : contradictory c.args.product.now ≡ true = sym c.is_contradictory.ensures ∙ c.if-is_contradictory.true in
    sym c.self.view_is ∙ filled_view s.rows s.count c.args.product.now c.self.view_is (filled_skip (search rules) c.self.invariant _ (rw e))

pub returns-then-size-gt-MOST_LITERALS : goal.returns-then-size-gt-MOST_LITERALS
returns-then-size-gt-MOST_LITERALS c =
    let s = c.self.inside in
    let e : contradictory c.args.product.now ≡ false = sym c.is_contradictory.ensures ∙ c.if-is_contradictory.false in
    filled_view s.rows s.count c.args.product.now c.self.view_is (filled_long (search rules) c.self.invariant _ e (search rules))

pub returns-then-is_present : goal.returns-then-is_present
returns-then-is_present c =
    let p = c.args.product.now in
    let row = c.narrow-row in
    let s = c.self.inside in
    let e : contradictory p ≡ false = sym c.is_contradictory.ensures ∙ c.if-is_contradictory.false in
    let q : present (product_of row.result) (products_of s.count s.rows) ≡ true = sym c.is_present.ensures ∙ c.if-is_present.true in
    let d : present p (products_of s.count s.rows) ≡ true = rw row.ensures.product at q in
    sym c.self.view_is ∙ filled_view s.rows s.count c.args.product.now c.self.view_is (filled_skip (search rules) c.self.invariant p (rw (e, d)))

pub returns-then-self-eq-MOST_PRODUCTS : goal.returns-then-self-eq-MOST_PRODUCTS
returns-then-self-eq-MOST_PRODUCTS c =
    let p = c.args.product.now in
    let row = c.narrow-row in
    let s = c.self.inside in
    let e : contradictory p ≡ false = sym c.is_contradictory.ensures ∙ c.if-is_contradictory.false in
    let q : present (product_of row.result) (products_of s.count s.rows) ≡ false = sym c.is_present.ensures ∙ c.if-is_present.false in
    let d : present p (products_of s.count s.rows) ≡ false = rw row.ensures.product at q in
    filled_view s.rows s.count c.args.product.now c.self.view_is (filled_full (search rules) c.self.invariant p e d c.if-self-eq-MOST_PRODUCTS.true)

pub invariant_of-self-2 : goal.invariant_of-self-2
invariant_of-self-2 c =
    let p = c.args.product.now in
    let row = c.narrow-row in
    let s = c.self.inside in
    let e : contradictory p ≡ false = sym c.is_contradictory.ensures ∙ c.if-is_contradictory.false in
    let q : present (product_of row.result) (products_of s.count s.rows) ≡ false = sym c.is_present.ensures ∙ c.if-is_present.false in
    let d : present p (products_of s.count s.rows) ≡ false = rw row.ensures.product at q in
    (filled_last (search rules) c.self.invariant p e d (search rules) (search rules) row.ensures).clean

pub returns : goal.returns
returns c =
    let p = c.args.product.now in
    let row = c.narrow-row in
    let s = c.self.inside in
    let e : contradictory p ≡ false = sym c.is_contradictory.ensures ∙ c.if-is_contradictory.false in
    let q : present (product_of row.result) (products_of s.count s.rows) ≡ false = sym c.is_present.ensures ∙ c.if-is_present.false in
    let d : present p (products_of s.count s.rows) ≡ false = rw row.ensures.product at q in
    filled_view s.rows s.count c.args.product.now c.self.view_is (filled_last (search rules) c.self.invariant p e d (search rules) (search rules) row.ensures)
