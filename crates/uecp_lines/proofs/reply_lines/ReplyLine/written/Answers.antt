use Rattle.std.proofs.Common.{rules, ℕ, List, slice_index, ap, arith, ◌∙◌}
use Rattle.hex.specs.Hex.{upper_digits}
use Rattle.uecp_encoder.specs.Answering.{reply_of}
use Rattle.uecp_lines.proofs.ReplyDigits.{one_byte_more, all_written, row_of_spelling}
use Rattle.uecp_lines.proofs.reply_lines.ReplyLine.written.Goals as goal

pub bytes-preserved : goal.bytes-preserved
bytes-preserved c =
    let first : List ℕ → ℕ = λ digits. slice_index digits 0 in
    let second : List ℕ → ℕ = λ digits. slice_index digits 1 in
    record {
      words = one_byte_more upper_digits c.bytes.text.items c.push.new.self.items c.push-in-bytes.new.self.items
          c.as_slice-bytes.result.now _ c.bytes.i _ _ (omega arith)
          (ap first c.digits_of_byte.ensures) (ap second c.digits_of_byte.ensures)
          c.push.ensures.items c.push-in-bytes.ensures.items c.bytes.invariant.words;
      many = search (rules, arith);
    }

pub returns-clause-text : goal.returns-clause-text
returns-clause-text c =
    let bytes = c.as_slice-bytes.result.now in
    all_written upper_digits c.bytes.text.items bytes _ c.bytes.i c.bytes-test.false c.bytes.invariant.words
    ∙ row_of_spelling bytes (reply_of c.args.address c.args.counter c.args.code)
    (c.as_slice-bytes.ensures.value ∙ c.spell_reply.ensures)
