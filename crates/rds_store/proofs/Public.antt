-- The lemmas that proofs of other crates cite; they cite no other file of this folder.
pub use Rattle.rds_store.proofs.Places.{get-all_places, get-change_where, same_places, some_at}
pub use Rattle.rds_store.proofs.Addressed.{put-changed}
pub use Rattle.rds_store.proofs.Openings.{all_places-opening, kept_opening, keys-opening, lengths-opening}
pub use Rattle.rds_store.proofs.LawProofs.{changes_named_places_alone, keeps_sets_and_services}
pub use Rattle.rds_store.proofs.MessageLaws.{empty_message_changes_nothing, one_element, whole_message_is_applied}
