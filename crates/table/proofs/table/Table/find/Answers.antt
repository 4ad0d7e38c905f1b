-- `table::Table::find` meets its contract: 50 and 51, and a position of a block.
use Rattle.std.proofs.Common.{ℕ, zero, suc, ◌≡◌, ◌∙◌, ◌<◌, ◌≤◌, List, Result, Ok, Err, IfOk, Option, true, sym, refl, length}
use Rattle.std.specs.Option.{ok_or}
use Rattle.refusal.specs.declared.Refusal.{Refusal}
use Rattle.refusal.specs.declared.Place.TheVariants.{Header}
use Rattle.refusal.specs.declared.Check.TheVariants.{UnknownTag}
use Rattle.table.specs.Blocks.{blocks_of}
use Rattle.table.specs.Chain.{chain_of}
use Rattle.table.specs.Tag.{tag_form}
use Rattle.table.specs.Lookup.{tag_position, some_position, found_at, tag_checks}
use Rattle.table.proofs.TagLaws.{form_eight}
use Rattle.table.proofs.SearchLaws.{found_within}
use Rattle.table.proofs.table.Table.find.Goals as goal

found_or : (p : ℕ) → ok_or (some_position p) (record { check = UnknownTag; place = Header }) ≡ found_at p
found_or zero = refl
found_or (suc p) = refl

within : (image tag : List ℕ) (r : Result ℕ Refusal) → r ≡ tag_checks image tag → IfOk r (λ p. (0 < p) × (p ≤ length (blocks_of image)))
within image tag (Ok p) e = found_within image tag p (sym e)
within image tag (Err r) e = tt

pub position-requires : goal.position-requires
position-requires c = form_eight c.args.tag.now (sym c.tag_form.ensures ∙ c.if-not-tag_form.false)

answers : (image tag : List ℕ) (r : Result ℕ Refusal) (o : Option ℕ) (refusal : Refusal) → tag_form tag ≡ true → r ≡ ok_or o refusal
    → o ≡ some_position (tag_position image tag 1 (chain_of image)) → refusal ≡ record { check = UnknownTag; place = Header } → r ≡ tag_checks image tag
answers image tag r o refusal f e g h = simp (f, e, g, h, found_or)

pub returns-clause-within : goal.returns-clause-within
returns-clause-within c =
    within c.args.self.now c.args.tag.now _
    (answers c.args.self.now c.args.tag.now _ _ _ (sym c.tag_form.ensures ∙ c.if-not-tag_form.false) c.ok_or.ensures.value c.position.ensures c.header-2.ensures)
