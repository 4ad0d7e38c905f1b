-- `idle::idle_at` meets its contract: start by the wire and the entry's byte of inputs, the step by its byte of the record.
use mathlib.Core.Path.{◌∙◌}
use Rattle.block.specs.Idle.{idle}
use Rattle.engine.specs.Inputs.{flags_in, input_of, inputs_of}
use Rattle.engine.proofs.ServeLaws.{step_at, bits_at}
use Rattle.engine.proofs.idle.idle_at.Goals as goal

pub returns : goal.returns
unfolding inputs_of
returns c =
    let a = c.args in
    let bits = c.decode_inputs-bits.ensures ∙ bits_at a.frame.now a.i in
    let start = c.input_of-start.ensures ∙ (λ j. input_of (c.start_wire-wire.ensures j) (flags_in a.state.now) (bits j).start) in
    c.is_idle.ensures ∙ (λ j. idle (start j) (step_at a.state.now a.i j))
