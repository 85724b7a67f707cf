use Rattle.std.proofs.Common.{◌++◌, codes, flat_map}
use Rattle.uecp_frame.specs.Findings.{found}
use Rattle.uecp_text.specs.Digits.{row_word}
use Rattle.uecp_text.proofs.Public.{adds_then}
use Rattle.conformance_command.specs.Telling.{found_note, bytes_note}
use Rattle.conformance_command.proofs.notes.put_bytes.Goals as goal

pub returns : goal.returns
unfolding bytes_note
returns c =
    let end = c.put_all_found.new.output in
    let word = c.args.word.now in
    let row = row_word c.args.bytes.now in
    let words = flat_map found_note (found c.args.bytes.now) in
    adds_then c.args.output.now c.text.new.self end (codes "# ") (word ++ (row ++ (codes "\n" ++ words)))
    c.text.ensures.added
    (adds_then c.text.new.self c.text-2.new.self end word (row ++ (codes "\n" ++ words)) c.text-2.ensures.added
    (adds_then c.text-2.new.self c.row.new.self end row (codes "\n" ++ words) c.row.ensures.added
    (adds_then c.row.new.self c.end.new.self end (codes "\n") words c.end.ensures.added c.put_all_found.ensures)))
