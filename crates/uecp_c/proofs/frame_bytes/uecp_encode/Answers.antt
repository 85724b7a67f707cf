use Rattle.std.proofs.Common.{rules, arith}
use Rattle.uecp_frame.specs.declared.frame.Frame.{Frame}
use Rattle.uecp_frame.proofs.Public.{length-spelling-le}
use Rattle.uecp_c.proofs.frame_bytes.uecp_encode.Goals as goal

-- the longest frame has room
pub encode_ref-requires : goal.encode_ref-requires
encode_ref-requires c =
    let f : Frame = record {
      address = c.in-Some.address;
      counter = c.args.counter;
      message = c.args.message.now;
    } in
    let few = c.if-message-gt-MESSAGE_MAX.false in (search rules, (omega arith, length-spelling-le f (omega arith)))
