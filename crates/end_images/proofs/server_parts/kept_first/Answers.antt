use Rattle.std.proofs.Common.{◌≡◌, ◌-◌, ◌≤◌, Some, ap, sym, ◌∙◌, get_or, take, drop, length, arith}
use Rattle.std.specs.Option.{option_map}
use Rattle.std.proofs.lemmas.Bool.{false≢true}
use Rattle.end_images.specs.Parsing.{split_off, halves_of}
use Rattle.end_images.proofs.Apart.{split_length}
use Rattle.end_images.proofs.server_parts.kept_first.Goals as goal

pub unreachable-requires : goal.unreachable-requires
unreachable-requires c =
    let bytes = c.args.bytes.now in
    let message = c.in_ok-bytes.bytes.now in
    let split : split_off c.from.result (take (length bytes - 2) (drop 2 bytes))
    ≡ Some (message, c.in_ok-bytes.rest.now) =
    sym c.split_off.ensures ∙ ap (option_map halves_of) c.in_ok-bytes.was in
    let long : length message ≡ get_or bytes 1 0 =
    split_length c.from.result (take (length bytes - 2) (drop 2 bytes)) message c.in_ok-bytes.rest.now split
    ∙ c.from.ensures in
    let short : length message ≤ 255 = omega (arith, long, c.type_inv.bytes 1) in
    absurd (false≢true (c.in_default-from_bytes.ensures.range.1 short))
