-- `serve::inputs_at` meets its contract: the bits are the entry's byte of inputs, and each wire there is overrules its bit.
use mathlib.Core.Path.{◌∙◌, sym}
use Rattle.table.specs.Blocks.{blocks_of, block_at}
use Rattle.engine.specs.Inputs.{flags_in, input_of, inputs_of}
use Rattle.engine.proofs.ServeLaws.{bits_at, unwired}
use Rattle.engine.proofs.serve.inputs_at.Goals as goal

pub returns-then-is_unwired : goal.returns-then-is_unwired
returns-then-is_unwired c =
    let a = c.args in
    c.decode_inputs-bits.ensures ∙ bits_at a.frame.now a.i ∙ sym (unwired (block_at (blocks_of a.table.now) a.i) _ _ (sym c.is_unwired.ensures ∙ c.if-is_unwired.true))

pub returns : goal.returns
unfolding inputs_of
returns c =
    let a = c.args in
    let bits = c.decode_inputs-bits.ensures ∙ bits_at a.frame.now a.i in
    λ j. record {
      start = (c.input_of.ensures ∙ (λ k. input_of (c.start_wire.ensures k) (flags_in a.state.now) (bits k).start)) j;
      abort = (c.input_of-2.ensures ∙ (λ k. input_of (c.abort_wire.ensures k) (flags_in a.state.now) (bits k).abort)) j;
    }
