use Rattle.std.proofs.Common.{◌≤◌, ℕ, [], ◌∷◌, length, sym, subst, lit<, lit≤}
use Rattle.uecp_frame.specs.declared.frame.Frame.{Frame}
use Rattle.uecp_frame.specs.Frame.{spelling}
use Rattle.uecp_encoder.proofs.Replies.{reply_is_short}
use Rattle.uecp_encoder.proofs.reply_frame.spell_reply.Goals as goal

pub encode_ref-requires : goal.encode_ref-requires
encode_ref-requires c =
    let short = subst (λ (b : ℕ). let f : Frame = record {
      address = c.args.address;
      counter = 0;
      message = 24 ∷ b ∷ c.args.counter ∷ [];
    } in length (spelling f) ≤ 16)
    (sym c.byte.ensures.value) (reply_is_short c.args.address c.args.counter c.args.code) in (lit< tt, (lit≤ tt, short))
