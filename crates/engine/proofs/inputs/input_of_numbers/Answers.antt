-- `inputs::input_of_numbers` meets its contract: position 0 is no wire, and any other a wire with the flag of that number.
use Rattle.std.proofs.Common.{◌≡◌, ℕ, ◌*◌, ◌≤◌, ◌<◌, ◌∙◌, ap, refl, arith, eqb, cond, Bool, true, false, List, Option, None, Some, length}
use borrow.Author.Tests.{eqb-false}
use Rattle.membership.proofs.Logic.{by_test}
use Rattle.block.specs.declared.record.Flags.{Flags}
use Rattle.table.specs.declared.blocks.Wire.{Wire}
use Rattle.table.specs.Blocks.{flag_of_number, wire_of_numbers}
use Rattle.layout.specs.Buffer.{record_length}
use Rattle.engine.specs.Callable.{Reaches}
use Rattle.engine.specs.Inputs.{flags_in, input_of, input_of_numbers}
use Rattle.engine.proofs.inputs.input_of_numbers.Goals as goal

-- where there is a wire, it reaches into the state
reaches : (position flag : ℕ) (inverted : Bool) (state : List ℕ) → record_length * position ≤ length state → Reaches (wire_of_numbers position flag inverted) state
reaches position flag inverted state h =
    by_test (eqb position 0) (λ t. rw t tt) (λ t. let positive : 0 < position = omega (arith, eqb-false position 0 t) in rw t (positive, h))

-- the input of a wire or of none
by_wire : (none : Bool) (w : Wire) (flags : ℕ → Flags) (bit : Bool)
    → input_of (cond none None (Some w)) flags bit ≡ cond none bit (input_of (Some w) flags bit)
by_wire true w flags bit = refl
by_wire false w flags bit = refl

same_input : (position flag : ℕ) (inverted : Bool) (flags : ℕ → Flags) (bit : Bool)
    → input_of (wire_of_numbers position flag inverted) flags bit ≡ input_of_numbers position flag inverted flags bit
same_input position flag inverted flags bit =
    by_wire (eqb position 0) (record { position = position; flag = flag_of_number flag; inverted = inverted }) flags bit

pub returns : goal.returns
returns c =
    let a = c.args in
    c.input_of.ensures
    ∙ ap (λ (wire : Option Wire). input_of wire (flags_in a.state.now) a.bit) c.of_numbers-wire.ensures
    ∙ same_input a.position a.flag a.inverted (flags_in a.state.now) a.bit

pub input_of-requires : goal.input_of-requires
input_of-requires c =
    let a = c.args in
    rw c.of_numbers-wire.ensures (reaches a.position a.flag a.inverted a.state.now c.requires)
