-- Why no end is read of bytes with their check.
use Rattle.std.proofs.Common.{◌≡◌, ℕ, ◌==◌, false, true, List, ◌∷◌, Result, Ok, Err, None, IfOk, IfErr, refl, ap, sym}
use Rattle.std.proofs.Common.{subst, ◌∙◌}
use Rattle.std.proofs.lemmas.Bool.{false≢true}
use Rattle.rds_store.specs.Value.{Store}
use Rattle.uecp_encoder.specs.State.{EncoderState}
use Rattle.end_images.specs.declared.fault.ImageFault.{ImageFault}
use Rattle.end_images.specs.declared.fault.ImageFault.TheVariants.{Newer, OtherEnd, Damaged, OutOfMemory}
use Rattle.end_images.specs.declared.server_parts.KeptServer.{KeptServer}
use Rattle.end_images.specs.Images.{version, encoder_kind, server_kind, sealed, encoder_image, server_image}
use Rattle.end_images.specs.Reading.{newer_of, is_headed, IsWhole, IsFaultOf, EncoderRead, ServerRead}
use Rattle.end_images.specs.Parsing.{IsUnread, IsAsStarted, IsServerAsStarted}
use Rattle.end_images.proofs.Sealed.{sealed_same}

none_newer : (kind : ℕ) (content : List ℕ) → newer_of (sealed (version ∷ kind ∷ content)) ≡ None
unfolding sealed
none_newer kind content = refl

pub unread : (kind other : ℕ) (bytes content : List ℕ) (fault : ImageFault) → (kind == kind) ≡ true
    → (kind == other) ≡ false → bytes ≡ sealed (version ∷ kind ∷ content) → IsUnread fault
    → IsFaultOf kind other bytes fault
unread kind other bytes content (Newer v) itself differ is why = absurd why
unread kind other bytes content OtherEnd itself differ is why = absurd why
unread kind other bytes content Damaged itself differ is why = (
  ap newer_of is ∙ none_newer kind content,
  λ (w : IsWhole other bytes). false≢true
      (sym differ ∙ ap (is_headed other) (sealed_same (version ∷ kind ∷ content) w.body (sym is ∙ w.is_sealed))
      ∙ w.headed),
)
unread kind other bytes content OutOfMemory itself differ is why = record {
  body = version ∷ kind ∷ content;
  is_sealed = is;
  headed = itself;
}

-- What the comparison with the image answers.
pub server_told : (result : Result KeptServer ImageFault) (kept : KeptServer) (bytes content : List ℕ)
    → bytes ≡ sealed (version ∷ server_kind ∷ content) → IfOk result (λ k. k ≡ kept)
    → IfOk result (λ k. bytes ≡ server_image kept.joined kept.taken kept.server) → IfErr result IsUnread
    → IsServerAsStarted kept → ServerRead bytes result
server_told (Ok k) kept bytes content is same image why started =
    subst (λ x. ServerRead bytes (Ok x)) (sym same) (image, started.started, started.server)
server_told (Err fault) kept bytes content is same image why started =
    unread server_kind encoder_kind bytes content fault refl refl is why

-- The same of an encoder.
pub encoder_told : (result : Result (EncoderState Store) ImageFault) (encoder : EncoderState Store)
    (bytes content : List ℕ) → bytes ≡ sealed (version ∷ encoder_kind ∷ content) → IfOk result (λ e. e ≡ encoder)
    → IfOk result (λ e. bytes ≡ encoder_image encoder) → IfErr result IsUnread → IsAsStarted encoder
    → EncoderRead bytes result
encoder_told (Ok e) encoder bytes content is same image why started =
    subst (λ x. EncoderRead bytes (Ok x)) (sym same) (image, started.started, started.encoder)
encoder_told (Err fault) encoder bytes content is same image why started =
    unread encoder_kind server_kind bytes content fault refl refl is why
