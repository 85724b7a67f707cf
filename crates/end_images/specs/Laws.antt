-- The laws of images: an image says which end it is of, and each encoder is one that is read. Source: profile.
use Rattle.std.specs.Prelude.{◌≡◌, ℕ, ◌≤◌, List, ◌++◌, length, true, None}
use Rattle.uecp_elements.specs.Grammar.{AreBytes}
use Rattle.uecp_frame.specs.Address.{is_exact}
use Rattle.uecp_frame.specs.Check.{check}
use Rattle.uecp_frame.specs.Findings.{Closed}
use Rattle.rds_store.specs.Value.{Store}
use Rattle.rds_store.specs.Step.{step, group_taken}
use Rattle.rds_store.specs.Opening.{opening as opening_store, fault_of}
use Rattle.uecp_encoder.specs.State.{EncoderState, opening, fed, restarted}
use Rattle.end_images.specs.declared.server_parts.KeptServer.{KeptServer}
use Rattle.end_images.specs.Images.{encoder_image, server_image}
use Rattle.end_images.specs.Reading.{IsEncoder, IsKeptServer, restarted_kept}

-- Law: encoders with one image are the same, but for what a start forgets; so what is read after one was written is
-- that one. (profile)
abbrev pub SaysEncoder : Type 0
SaysEncoder =
    (d e : EncoderState Store) → IsEncoder d → IsEncoder e → encoder_image d ≡ encoder_image e
    → restarted d ≡ restarted e

-- Law: so are servers, with what is kept beside them. (profile)
abbrev pub SaysServer : Type 0
SaysServer =
    (j k : KeptServer) → IsKeptServer j → IsKeptServer k
    → server_image j.joined j.taken j.server ≡ server_image k.joined k.taken k.server
    → restarted_kept j ≡ restarted_kept k

-- Law: the check notices a change of one byte, and of two that are neighbours: other bytes in their place have another
-- check. (SPB 490, check)
abbrev pub NoticesAChange : Type 0
NoticesAChange =
    (front m n back : List ℕ) → length m ≡ length n → length m ≤ 2 → AreBytes m → AreBytes n
    → check (front ++ (m ++ back)) ≡ check (front ++ (n ++ back)) → m ≡ n

-- Law: a new encoder is one whose image is read, and bytes that come, takes of a group, a line that is lost and a start
-- leave one: so is each encoder of a store that a program has. (profile)
pub record AreEncoders : Type 0 where
  pub opened : (address sets : ℕ) (services : List ℕ) → is_exact address ≡ true → AreBytes services
      → fault_of sets services ≡ None → IsEncoder (opening address (opening_store sets services))
  pub after_bytes : (e : EncoderState Store) (bytes : List ℕ) → IsEncoder e → AreBytes bytes
      → IsEncoder (fed step e bytes)
  pub after_a_take : (e : EncoderState Store) → IsEncoder e
      → IsEncoder (record e { value = (group_taken e.value).0 })
  pub after_a_loss : (e : EncoderState Store) → IsEncoder e → IsEncoder (record e { part = Closed })
  pub after_a_start : (e : EncoderState Store) → IsEncoder e → IsEncoder (restarted e)
