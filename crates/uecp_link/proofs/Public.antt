-- The lemmas that proofs of other crates cite; they cite no other file of this folder.
pub use Rattle.uecp_link.proofs.Wire.{whole}
pub use Rattle.uecp_link.proofs.Hearing.{acknowledges_reply, heard_faults, quiet_rest}
pub use Rattle.uecp_link.proofs.Waiting.{freed_waits}
pub use Rattle.uecp_link.proofs.Numbering.{is_none-of, last_counter-at, last_counter-next, with_code-other}
pub use Rattle.uecp_link.proofs.Numbering.{with_member-same, with_member-true}
pub use Rattle.uecp_link.proofs.HeldNumbers.{waits_not, waits_so}
pub use Rattle.uecp_link.proofs.Steps.{acknowledged_are, least_acknowledged, let_go_is, recent_le, reply_fits, sent_le}
pub use Rattle.uecp_link.proofs.Steps.{test_of}
pub use Rattle.uecp_link.proofs.Lawful.{Lawful, law_from, lawful_from, lawful_run, ready_at_first, waiting_is}
pub use Rattle.uecp_link.proofs.Using.{acknowledged_where_nothing_is_lost}
pub use Rattle.uecp_link.proofs.FeedingLemmas.{empty_is, heard_none, heard_open}
pub use Rattle.uecp_link.proofs.Played.{headline, headline_from, same_bound}
pub use Rattle.uecp_link.proofs.Opening.{holds_from, new_holds}
pub use Rattle.uecp_link.proofs.Reading.{failed_read, last_read, one_read, reads_on}
pub use Rattle.uecp_link.proofs.Marks.{code_under-append, heard_keeps, marks_complete, marks_counted, raised_by-add}
pub use Rattle.uecp_link.proofs.SeenReplies.{counters-append, counters_none}
pub use Rattle.uecp_link.proofs.Passing.{still_new}
pub use Rattle.uecp_link.proofs.JoinedOver.{joins_over_a_line_lem}
