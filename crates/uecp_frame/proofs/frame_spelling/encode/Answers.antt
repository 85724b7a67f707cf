use Rattle.std.proofs.Common.{ap, rules, length, arith}
use Rattle.uecp_frame.specs.declared.frame.Frame.{Frame}
use Rattle.uecp_frame.proofs.Sending.{length-spelling-le}
use Rattle.uecp_frame.proofs.frame_spelling.encode.Goals as goal

pub encode_ref-requires : goal.encode_ref-requires
encode_ref-requires c =
    let f : Frame = record {
      address = c.args.frame.now.address;
      counter = c.args.frame.now.counter;
      message = c.bytes.result.now;
    } in
    let fits = ap length c.bytes.ensures.value in (
      search rules,
      (
        omega (arith, fits, c.bytes.ensures.fits),
        length-spelling-le f (omega (arith, fits, c.bytes.ensures.fits)),
      ),
    )
