-- The lemmas that proofs of other crates cite; they cite no other file of this folder.
pub use Rattle.uecp_frame.proofs.Codes.{code-plain, length-code-le, stuffed-cons, stuffed-nil, stuffed_more}
pub use Rattle.uecp_frame.proofs.Resumed.{length-stuffed-le}
pub use Rattle.uecp_frame.proofs.Delimiters.{HasNone, open_bytes-append_none, open_bytes-append_one, open_bytes-here}
pub use Rattle.uecp_frame.proofs.Delimiters.{open_bytes-later, open_bytes-nil, open_bytes-other, segment_found-none}
pub use Rattle.uecp_frame.proofs.Future.{found-nil, found-none, found-start}
pub use Rattle.uecp_frame.proofs.Pieces.{comes_after_lem, in_pieces_lem, new_start_lem}
pub use Rattle.uecp_frame.proofs.HeardLemmas.{always_heard_lem}
pub use Rattle.uecp_frame.proofs.PassedOver.{passed_over_lem}
pub use Rattle.uecp_frame.proofs.Sending.{length-spelling-le}
